-- What the heap's writes leave of its content, its size and its order.
use Rattle.std.proofs.Common.{◌≡◌, ℕ, zero, suc, ◌+◌, ◌<◌, Bool, true, false, cond, T, eqb, List, [], ◌∷◌, length, get_or, set, is_some, IsSomeAnd, Some, None, Option, sym, refl, ap, ap₂, ◌∙◌, ⊎_elim, arith, length-set}
use Rattle.std.specs.List.{slice_get}
use Rattle.std.proofs.lemmas.List.Edits.{Swapped}
use Rattle.std.proofs.lemmas.List.{get_or-set_same, get_or-set_other, get_or_default}
use Rattle.std.proofs.lemmas.Option.{slice_get-get_or, slice_get_past}
use Rattle.std.proofs.lemmas.Bool.{cases_Bool, cases_lt, cond-false, cond-true}
use Rattle.std.proofs.lemmas.Bool.Decides.{eqb_tells}
use Rattle.measure.specs.Orders.{TotalOrder}
use Rattle.heap.specs.declared.indexed_heap.IndexedHeap.{IndexedHeap}
use Rattle.heap.specs.Changes.{Least, With}
use Rattle.heap.specs.Content.{Ordered, content, size}
use Rattle.heap.specs.Heaped.{HeapedButAbove, HeapedButBelow, above, key_in}
use Rattle.heap.specs.Pairing.{mark, waits}
use Rattle.heap.proofs.Counts.{how_many_none, how_many_same, how_many_listed}
use Rattle.heap.proofs.Pairs.{at_set, filled_waits, waits_placed}
use Rattle.heap.proofs.Steps.{first_least, up_from_lower}

some_from_by : {K : Type 0} (x : Option K) (P : K → Type 0) → IsSomeAnd x P → (k : K) × ((x ≡ Some k) × P k)
some_from_by None P h = absurd h
some_from_by (Some k) P h = (k, (refl, h))

nth_within : {K : Type 0} (keys : List K) (p : ℕ) → p < length keys → is_some (slice_get keys p) ≡ true
nth_within [] p l = absurd (let k = l in omega arith)
nth_within (k ∷ keys) zero l = refl
nth_within (k ∷ keys) (suc p) l = nth_within keys p (omega arith)

nth_set : {K : Type 0} (keys : List K) (place : ℕ) (key : K) (p : ℕ) → place < length keys
    → slice_get (set keys place key) p ≡ cond (eqb p place) (Some key) (slice_get keys p)
nth_set keys place key p l =
    let n = length-set keys place key in
    let e = eqb_tells p place in
    ⊎_elim
    (λ h.
    let a = slice_get-get_or (set keys place key) p key (omega arith) in
    let b = slice_get-get_or keys p key h in
    let s = at_set keys place key p key l in
    grind arith)
    (λ h. let a = slice_get_past (set keys place key) p (omega arith) in let b = slice_get_past keys p h in grind arith)
    (cases_lt p (length keys))

eqb_turned : (a b : ℕ) → eqb a b ≡ eqb b a
eqb_turned a b = let s = eqb_tells a b in let t = eqb_tells b a in grind arith

-- what is held at one place, where the place is that of a write, or of a removal, or another
entry_written : {K : Type 0} (here w : Bool) (new old : Option K)
    → cond (cond here true w) (cond here new old) None ≡ cond here new (cond w old None)
entry_written true w new old = refl
entry_written false w new old = refl

entry_removed : {K : Type 0} (here w : Bool) (old : Option K) → cond (cond here false w) old None ≡ cond here None (cond w old None)
entry_removed true w old = refl
entry_removed false w old = refl

module _ {K : Type 0} (h : IndexedHeap K) where
  pub content_none : (p : ℕ) → waits h.table.positions p ≡ false → content h p ≡ None
  unfolding content
  content_none p e = cond-false (waits h.table.positions p) (slice_get h.keys p) None e

  content_nth : (p : ℕ) → waits h.table.positions p ≡ true → content h p ≡ slice_get h.keys p
  unfolding content
  content_nth p e = cond-true (waits h.table.positions p) (slice_get h.keys p) None e

  pub content_some : (p : ℕ) (d : K) → waits h.table.positions p ≡ true → content h p ≡ Some (get_or h.keys p d)
  content_some p d e =
      let s = waits_placed h.table p e in content_nth p e ∙ slice_get-get_or h.keys p d (omega arith)

  -- a place has a key exactly if it waits
  pub some_waits : (p : ℕ) → is_some (content h p) ≡ waits h.table.positions p
  some_waits p =
      ⊎_elim
      (λ e.
      let s = waits_placed h.table p e in
      ap is_some (content_nth p e) ∙ nth_within h.keys p (omega arith) ∙ sym e)
      (λ e. ap is_some (content_none p e) ∙ sym e)
      (cases_Bool (waits h.table.positions p))

  pub waits_from_some : (p : ℕ) (k : K) → content h p ≡ Some k → waits h.table.positions p ≡ true
  waits_from_some p k e = sym (some_waits p) ∙ ap is_some e

  pub waits_from_by : (p : ℕ) (P : K → Type 0) → IsSomeAnd (content h p) P → waits h.table.positions p ≡ true
  waits_from_by p P b = let s = some_from_by (content h p) P b in waits_from_some p s.0 s.1.0

  pub absent_from_not : (p : ℕ) → is_some (content h p) ≡ false → waits h.table.positions p ≡ false
  absent_from_not p e = sym (some_waits p) ∙ e

  -- as many places wait as slots are filled
  pub size_is_len : size h ≡ h.table.len
  unfolding size
  size_is_len =
      how_many_same 4096 (λ p. is_some (content h p)) (λ p. waits h.table.positions p) (λ p l. some_waits p)
      ∙ how_many_listed 4096 h.table.len (λ p. waits h.table.positions p) (λ i. get_or h.table.slots i 0)
      (λ i l. ((h.table.filled i l).0, filled_waits h.table i l))
      (λ i j l m e. let f = (h.table.filled i l).1 in let g = (h.table.filled j m).1 in cc)
      (λ p t. let s = waits_placed h.table p t in (mark h.table.positions p, (s.0, s.1)))

  -- where no slot is filled, no place is held
  pub none_held : h.table.len ≡ 0 → (p : ℕ) → content h p ≡ None
  none_held e p =
      ⊎_elim
      (λ t. absurd (let s = waits_placed h.table p t in omega arith))
      (content_none p)
      (cases_Bool (waits h.table.positions p))

  -- the first slot's place is held
  pub first_held : (place : ℕ) (d : K) → place ≡ get_or h.table.slots 0 0 → 0 < h.table.len
      → content h place ≡ Some (get_or h.keys place d)
  first_held place d first some = content_some place d (ap (waits h.table.positions) first ∙ filled_waits h.table 0 some)

module _ {K : Type 0} (o : TotalOrder K) (h : IndexedHeap K) where
  -- a new last slot, with a place that was absent
  pub append_above : (place : ℕ) (key : K) (slots : List ℕ) (len at : ℕ) → waits h.table.positions place ≡ false
      → slots ≡ set h.table.slots h.table.len place → len ≡ h.table.len + 1 → at ≡ h.table.len → Ordered o h
      → HeapedButAbove o (key_in o (set h.keys place key) slots) len at
  unfolding Ordered
  append_above place key slots len at absent e l a ordered =
      let same : (i : ℕ) → i < h.table.len → key_in o (set h.keys place key) slots i ≡ key_in o h.keys h.table.slots i =
      λ i b.
      let p = get_or h.table.slots i 0 in
      let w = filled_waits h.table i b in
      ap (λ s. get_or (set h.keys place key) (get_or s i 0) o.least) e
      ∙ ap (λ q. get_or (set h.keys place key) q o.least) (get_or-set_other h.table.slots h.table.len i place 0 (λ q. omega arith))
      ∙ get_or-set_other h.keys place p key o.least (λ q. let z : true ≡ false = cc in grind arith) in (
        (λ i b k ne. let x = same i (omega arith) in let y = same (above i) (omega arith) in let z = ordered i b (omega arith) in grind arith),
        (λ i b k q p. absurd (omega arith)),
      )

  -- a smaller key for a place that waits
  pub lower_above : (place at : ℕ) (key : K) → IsSomeAnd (content h place) (λ old. T (o.at_most key old))
      → at ≡ mark h.table.positions place → Ordered o h
      → HeapedButAbove o (key_in o (set h.keys place key) h.table.slots) h.table.len at
  unfolding Ordered
  lower_above place at key lower e ordered =
      let by = some_from_by (content h place) (λ old. T (o.at_most key old)) lower in
      let old = by.0 in
      let held = by.1.0 in
      let less = by.1.1 in
      let f = key_in o h.keys h.table.slots in
      let g = key_in o (set h.keys place key) h.table.slots in
      let w = waits_from_some h place old held in
      let s = waits_placed h.table place w in
      let n = content_some h place o.least w in
      let stands : get_or h.table.slots at 0 ≡ place = ap (λ i. get_or h.table.slots i 0) e ∙ s.1 in
      let now : g at ≡ key =
      ap (λ p. get_or (set h.keys place key) p o.least) stands ∙ get_or-set_same h.keys place key o.least (omega arith) in
      let q = ap (λ p. get_or h.keys p o.least) stands in
      let was : f at ≡ old = cc in
      let other : (i : ℕ) → i < h.table.len → (i ≡ at → ⊥) → g i ≡ f i =
      λ i b ne.
      get_or-set_other h.keys place (get_or h.table.slots i 0) key o.least
      (λ q. ne (let x = (h.table.filled i b).1 in cc)) in
      up_from_lower o f g h.table.len at ordered (omega arith) other (grind arith)

  -- the last slot's place in the first slot
  pub take_below : (slots : List ℕ) (last len : ℕ) → h.table.len ≡ last + 1 → len ≡ last
      → Swapped (key_in o h.keys h.table.slots) (key_in o h.keys slots) 0 last → Ordered o h
      → HeapedButBelow o (key_in o h.keys slots) len 0
  unfolding Ordered
  take_below slots last len e l s ordered = (
    (λ i b k ne.
        let z = ordered i b (omega arith) in
        let x = s.2 i (λ q. omega arith) (λ q. omega arith) in
        let y = s.2 (above i) ne (λ q. omega arith) in
        grind arith),
    (λ i b k q p. absurd (omega arith)),
  )

  -- the key of the first slot's place is at most every key held
  pub first_key_least : (place : ℕ) (d : K) → place ≡ get_or h.table.slots 0 0 → 0 < h.table.len → Ordered o h
      → Least o (content h) (get_or h.keys place d)
  unfolding Ordered
  first_key_least place d first some ordered p k c =
      let f = h.table.filled 0 some in
      let x = ap (λ q. get_or h.keys q o.least) first in
      let e = get_or_default h.keys place d o.least (omega arith) in
      let t = waits_from_some h p k c in
      let w = waits_placed h.table p t in
      let q = ap (λ x. get_or h.keys x o.least) w.1 in
      let n = content_some h p o.least t in
      let v : get_or h.keys p o.least ≡ k = cc in
      let z = first_least o (key_in o h.keys h.table.slots) h.table.len ordered (mark h.table.positions p) w.0 in
      grind arith

-- nothing is held exactly if the size is 0
module _ {K : Type 0} (h : IndexedHeap K) where
  pub none_from_size : size h ≡ 0 → (p : ℕ) → content h p ≡ None
  none_from_size e = none_held h (let n = size_is_len h in omega arith)

  pub size_from_none : ((p : ℕ) → content h p ≡ None) → size h ≡ 0
  unfolding size
  size_from_none none = how_many_none 4096 (λ p. is_some (content h p)) (λ p. ap is_some (none p))

-- what a call leaves of the content and the size, from what it leaves of the table and the keys
module _ {K : Type 0} (before after : IndexedHeap K) where
  pub with_written : (place : ℕ) (key : K) → place < 4096 → after.keys ≡ set before.keys place key
      → ((p : ℕ) → waits after.table.positions p ≡ cond (eqb p place) true (waits before.table.positions p))
      → With (content before) place (Some key) (content after)
  unfolding content
  with_written place key l e w p =
      ap₂ (λ v x. cond v x None) (w p) (ap (λ keys. slice_get keys p) e ∙ nth_set before.keys place key p (omega arith))
      ∙ entry_written (eqb p place) (waits before.table.positions p) (Some key) (slice_get before.keys p)
      ∙ ap (λ here. cond here (Some key) (content before p)) (eqb_turned p place)

  pub with_removed : (place : ℕ) → after.keys ≡ before.keys
      → ((p : ℕ) → waits after.table.positions p ≡ cond (eqb p place) false (waits before.table.positions p))
      → With (content before) place None (content after)
  unfolding content
  with_removed place e w p =
      ap₂ (λ v x. cond v x None) (w p) (ap (λ keys. slice_get keys p) e)
      ∙ entry_removed (eqb p place) (waits before.table.positions p) (slice_get before.keys p)
      ∙ ap (λ here. cond here None (content before p)) (eqb_turned p place)

  pub one_more : after.table.len ≡ before.table.len + 1 → size after ≡ size before + 1
  one_more e = let a = size_is_len before in let b = size_is_len after in omega arith
