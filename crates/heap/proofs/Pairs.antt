-- What the table's writes leave of its pairing.
use Rattle.std.proofs.Common.{◌≡◌, ℕ, zero, suc, ◌+◌, ◌<◌, ◌≤◌, true, false, cond, eqb, ◌⊎◌, List, length, get_or, set, replicate, sym, ap, ◌∙◌, subst, inl, inr, ⊎_elim, suc-le-suc, zero-le, arith, length-set}
use Rattle.std.proofs.lemmas.List.Edits.{Swapped}
use Rattle.std.proofs.lemmas.List.{get_or-set_same, get_or-set_other, get_or-replicate, get_or_past, length-replicate}
use Rattle.std.proofs.lemmas.Bool.{cases_eq, cases_lt, eqb-true, not-false}
use Rattle.std.proofs.lemmas.Bool.Decides.{eqb_tells}
use Rattle.heap.specs.declared.table.Table.{Table}
use Rattle.heap.specs.Heaped.{key_in}
use Rattle.measure.specs.Orders.{TotalOrder}
use Rattle.heap.specs.Pairing.{mark, waits, Filled, Placed, exchange}

-- an element after a write
pub at_set : {A : Type 0} (xs : List A) (i : ℕ) (v : A) (k : ℕ) (d : A) → i < length xs
    → ((k ≡ i) × (get_or (set xs i v) k d ≡ v)) ⊎ ((k ≡ i → ⊥) × (get_or (set xs i v) k d ≡ get_or xs k d))
at_set xs i v k d l =
    ⊎_elim
    (λ e. inl (e, ap (λ x. get_or (set xs i v) x d) e ∙ get_or-set_same xs i v d l))
    (λ ne. inr (ne, get_or-set_other xs i k v d ne))
    (cases_eq k i)

-- numbers below n that a function tells apart, all below m, are no more than m
pigeon : (m n : ℕ) (f : ℕ → ℕ) → ((i : ℕ) → i < n → f i < m) → ((i j : ℕ) → i < n → j < n → f i ≡ f j → i ≡ j)
    → n ≤ m
pigeon zero n f below apart = ⊎_elim (λ h. let k = below 0 h in omega arith) (λ h. h) (cases_lt 0 n)
pigeon (suc m) zero f below apart = zero-le
pigeon (suc m) (suc n) f below apart =
    suc-le-suc
    (pigeon m n (λ i. cond (eqb (f i) m) (f n) (f i))
    (λ i h.
    let b = below i (omega arith) in
    let c = below n (omega arith) in
    let d = apart i n (omega arith) (omega arith) in
    let t = eqb_tells (f i) m in
    grind arith)
    (λ i j h k e.
    let x = apart i j (omega arith) (omega arith) in
    let y = apart i n (omega arith) (omega arith) in
    let z = apart j n (omega arith) (omega arith) in
    let t = eqb_tells (f i) m in
    let u = eqb_tells (f j) m in
    grind arith))

-- the positions of a table with no place in it
pub none_wait : (p : ℕ) → mark (replicate 4096 4096) p ≡ 4096
none_wait p =
    ⊎_elim
    (λ h. get_or-replicate 4096 p 4096 4096 h)
    (λ h. get_or_past (replicate 4096 4096) p 4096 (let n = length-replicate {A = ℕ} 4096 4096 in omega arith))
    (cases_lt p 4096)

module _ (t : Table) where
  -- a place that waits stands in the slot that is its mark
  pub waits_placed : (p : ℕ) → waits t.positions p ≡ true
      → (mark t.positions p < t.len) × (get_or t.slots (mark t.positions p) 0 ≡ p) × (p < 4096)
  waits_placed p w =
      let e = eqb_tells (mark t.positions p) 4096 in
      let f = t.placed p (λ x. let z : true ≡ false = grind arith in grind arith) in
      let g = t.filled (mark t.positions p) f.0 in
      (f.0, f.1, omega arith)

  -- the place in a slot waits
  pub filled_waits : (i : ℕ) → i < t.len → waits t.positions (get_or t.slots i 0) ≡ true
  filled_waits i l =
      let f = t.filled i l in
      let r = t.room in
      let e = eqb_tells (mark t.positions (get_or t.slots i 0)) 4096 in
      grind arith

-- the mark of a place that stands in no slot
mark_absent : (positions : List ℕ) (p : ℕ) → waits positions p ≡ false → mark positions p ≡ 4096
mark_absent positions p w = eqb-true _ _ (not-false _ w)

module _ (t : Table) (place : ℕ) (lp : place < 4096) (absent : waits t.positions place ≡ false) where
  -- there is a slot left for an absent place
  pub slot_left : t.len < 4096
  slot_left =
      let a = mark_absent t.positions place absent in
      pigeon 4096 (suc t.len) (λ i. cond (eqb i t.len) place (get_or t.slots i 0))
      (λ i h. let f = t.filled i in let e = eqb_tells i t.len in grind arith)
      (λ i j h k e.
      let r = t.room in
      let f = t.filled i in
      let g = t.filled j in
      let d = eqb_tells i t.len in
      let u = eqb_tells j t.len in
      grind arith)

  pub append_filled : Filled (set t.slots t.len place) (set t.positions place t.len) (t.len + 1)
  append_filled k lk =
      let a = mark_absent t.positions place absent in
      let n = slot_left in
      let f = t.filled k in
      let s = at_set t.slots t.len place k 0 (omega arith) in
      let p = at_set t.positions place t.len (get_or (set t.slots t.len place) k 0) 4096 (omega arith) in
      (grind arith, grind arith)

  pub append_placed : Placed (set t.slots t.len place) (set t.positions place t.len) (t.len + 1)
  append_placed p h =
      let a = mark_absent t.positions place absent in
      let n = slot_left in
      let f = t.placed p in
      let q = at_set t.positions place t.len p 4096 (omega arith) in
      let s = at_set t.slots t.len place (mark (set t.positions place t.len) p) 0 (omega arith) in
      (grind arith, grind arith)

-- the positions after a swap of two slots
abbrev moved : Table → ℕ → ℕ → List ℕ
moved t i j = set (set t.positions (get_or t.slots i 0) j) (get_or t.slots j 0) i

module _ (t : Table) (i j : ℕ) (li : i < t.len) (lj : j < t.len) where
  exchange_filled : Filled (exchange t.slots i j) (moved t i j) t.len
  exchange_filled k lk =
      let a = get_or t.slots i 0 in
      let b = get_or t.slots j 0 in
      let at = get_or (exchange t.slots i j) k 0 in
      let r = t.room in
      let fi = t.filled i li in
      let fj = t.filled j lj in
      let fk = t.filled k lk in
      let l1 = length-set t.slots i b in
      let l2 = length-set t.positions a j in
      let s1 = at_set t.slots i b k 0 (omega arith) in
      let s2 = at_set (set t.slots i b) j a k 0 (omega arith) in
      let p1 = at_set t.positions a j at 4096 (omega arith) in
      let p2 = at_set (set t.positions a j) b i at 4096 (omega arith) in
      (grind arith, grind arith)

  exchange_placed : Placed (exchange t.slots i j) (moved t i j) t.len
  exchange_placed p h =
      let a = get_or t.slots i 0 in
      let b = get_or t.slots j 0 in
      let at = mark (moved t i j) p in
      let r = t.room in
      let fi = t.filled i li in
      let fj = t.filled j lj in
      let fp = t.placed p in
      let l1 = length-set t.slots i b in
      let l2 = length-set t.positions a j in
      let p1 = at_set t.positions a j p 4096 (omega arith) in
      let p2 = at_set (set t.positions a j) b i p 4096 (omega arith) in
      let s1 = at_set t.slots i b at 0 (omega arith) in
      let s2 = at_set (set t.slots i b) j a at 0 (omega arith) in
      (grind arith, grind arith)

  -- the table is paired again once the places of two slots are exchanged, and their positions with them
  pub swap_filled : (slots : List ℕ) → slots ≡ exchange t.slots i j → Filled slots (moved t i j) t.len
  swap_filled slots e = subst (λ s. Filled s (moved t i j) t.len) (sym e) exchange_filled

  pub swap_placed : (slots : List ℕ) → slots ≡ exchange t.slots i j → Placed slots (moved t i j) t.len
  swap_placed slots e = subst (λ s. Placed s (moved t i j) t.len) (sym e) exchange_placed

  -- the place that was in the one slot is in the other
  pub place_swapped : (slots : List ℕ) → slots ≡ exchange t.slots i j → get_or slots j 0 ≡ get_or t.slots i 0
  place_swapped slots e =
      let n = t.sized.0 in
      let r = t.room in
      let l = length-set t.slots i (get_or t.slots j 0) in
      ap (λ xs. get_or xs j 0) e
      ∙ get_or-set_same (set t.slots i (get_or t.slots j 0)) j (get_or t.slots i 0) 0 (omega arith)

  -- the keys of the two slots are exchanged with their places
  pub keys_swapped : {K : Type 0} (o : TotalOrder K) (keys : List K) (slots : List ℕ) → slots ≡ exchange t.slots i j
      → Swapped (key_in o keys t.slots) (key_in o keys slots) i j
  keys_swapped {K} o keys slots e =
      let b = get_or t.slots j 0 in
      let n = t.sized.0 in
      let r = t.room in
      let l = length-set t.slots i b in
      let at : (k : ℕ) → get_or slots k 0 ≡ get_or (exchange t.slots i j) k 0 = λ k. ap (λ xs. get_or xs k 0) e in
      let key : ℕ → K = λ p. get_or keys p o.least in (
        ap key
            (let x = at i in
            let y = at_set t.slots i b i 0 (omega arith) in
            let z = at_set (set t.slots i b) j (get_or t.slots i 0) i 0 (omega arith) in
            grind arith),
        ap key (place_swapped slots e),
        λ m p q. ap key
            (let x = at m in
            let y = at_set t.slots i b m 0 (omega arith) in
            let z = at_set (set t.slots i b) j (get_or t.slots i 0) m 0 (omega arith) in
            grind arith),
      )
