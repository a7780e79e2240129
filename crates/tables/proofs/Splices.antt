-- Chains taken apart and put together at their end, and kept where other cells are written.
use Rattle.std.proofs.Common.{◌≡◌, ℕ, zero, suc, ◌+◌, ◌<◌, cond, ltb, ◌≢◌, List, [], ◌∷◌, ◌++◌, length, get_or, set, Some, None, Option, sym, refl, ap, ◌∙◌, subst, ⊎_elim, arith, MatchOption}
use Rattle.std.specs.List.{slice_get}
use Rattle.std.proofs.lemmas.Option.{slice_get_past, slice_get-get_or}
use Rattle.std.proofs.lemmas.Bool.{lt-ltb, le-ltb, cases_lt}
use Rattle.tables.specs.declared.rows.Cell.{Cell}
use Rattle.tables.specs.declared.rows.Entry.{Entry}
use Rattle.tables.specs.Rows.{missing, cell_at}
use Rattle.tables.specs.Walks.{noted, forward, Chain}
use Rattle.tables.specs.Changes.{with_after}
use Rattle.tables.proofs.Chains.{forward_some, chain_some}
use Rattle.tables.proofs.Rises.{Rises, rises_pop}

some_case : {A : Type 0} (o : Option A) (P : A → Type 0) → MatchOption o ⊥ P → (x : A) × (o ≡ Some x) × P x
some_case None P p = absurd p
some_case (Some x) P p = (x, refl, p)

pub nth_set_same : {A : Type 0} (xs : List A) (i : ℕ) (x : A) → i < length xs → slice_get (set xs i x) i ≡ Some x
nth_set_same [] i x h = absurd (omega arith)
nth_set_same (y ∷ ys) zero x h = refl
nth_set_same (y ∷ ys) (suc i) x h = nth_set_same ys i x (omega arith)

pub nth_set_other : {A : Type 0} (xs : List A) (i j : ℕ) (x : A) → j ≢ i → slice_get (set xs i x) j ≡ slice_get xs j
nth_set_other [] i j x ne = refl
nth_set_other (y ∷ ys) zero zero x ne = absurd (ne refl)
nth_set_other (y ∷ ys) zero (suc j) x ne = refl
nth_set_other (y ∷ ys) (suc i) zero x ne = refl
nth_set_other (y ∷ ys) (suc i) (suc j) x ne = nth_set_other ys i j x (λ e. ne (ap suc e))

module _ {R : Type 0} (cells : List (Cell R)) where
  -- where a cell is found, the table reaches
  pub cell_far : (j : ℕ) (c : Cell R) → cell_at cells j ≡ Some c → j < missing
  cell_far j c e = ⊎_elim (λ h. h) (λ h. let n : cell_at cells j ≡ None = rw (le-ltb j missing h) in let z : ◌≡◌ {A = ℕ} 0 1 = cc in omega arith) (cases_lt j missing)

  pub cell_in : (j : ℕ) (c : Cell R) → cell_at cells j ≡ Some c → j < length cells
  cell_in j c e =
      ⊎_elim (λ h. h)
      (λ h. let n : cell_at cells j ≡ None = rw (lt-ltb j missing (cell_far j c e)) (slice_get_past cells j h) in let z : ◌≡◌ {A = ℕ} 0 1 = cc in omega arith)
      (cases_lt j (length cells))

  -- the cell that is found is the one that is read
  pub cell_is : (j : ℕ) (c : Cell R) → cell_at cells j ≡ Some c → (d : Cell R) → get_or cells j d ≡ c
  cell_is j c e d =
      let f : cell_at cells j ≡ Some (get_or cells j d) = rw (lt-ltb j missing (cell_far j c e)) (slice_get-get_or cells j d (cell_in j c e)) in
      cc

  pub cell_found : (j : ℕ) (c : Cell R) → cell_at cells j ≡ Some c → (d : Cell R) → d ≡ get_or cells j d → cell_at cells j ≡ Some d
  cell_found j c e d f = let s = cell_is j c e d in cc

  -- a write changes the cell where it is made, and no other
  pub cell_set_same : (j : ℕ) (c : Cell R) → j < missing → j < length cells → cell_at (set cells j c) j ≡ Some c
  cell_set_same j c far in' = rw (lt-ltb j missing far) (nth_set_same cells j c in')

  pub cell_set_other : (i j : ℕ) (c : Cell R) → j ≢ i → cell_at (set cells i c) j ≡ cell_at cells j
  cell_set_other i j c ne = ap (λ (o : Option (Cell R)). cond (ltb j missing) o None) (nth_set_other cells i j c ne)

  -- the first cell of a chain, and the chain after it
  pub chain_cell : (v last end prev at k : ℕ) → Chain cells v last end prev at (suc k)
      → (c : Cell R) × (cell_at cells at ≡ Some c) × ((c.owner ≡ v) × (c.before ≡ prev) × Chain cells v last end at c.after k)
  chain_cell v last end prev at k h = some_case (cell_at cells at) (λ c. (c.owner ≡ v) × (c.before ≡ prev) × Chain cells v last end at c.after k) h

  -- one more cell at the end
  pub chain_push : (v last next : ℕ) (c : Cell R) → cell_at cells next ≡ Some c → c.owner ≡ v → c.before ≡ last
      → (k prev at : ℕ) → Chain cells v last next prev at k → Chain cells v next c.after prev at (suc k)
  chain_push v last next c e o b zero prev at (a, l) =
      (chain_some cells v next c.after prev at 0 c (ap (cell_at cells) a ∙ e)).1 (o, b ∙ l, (refl, sym a))
  chain_push v last next c e o b (suc k) prev at h =
      let (d, f, (p, q, r)) = chain_cell v last next prev at k h in
      (chain_some cells v next c.after prev at (suc k) d f).1 (p, q, chain_push v last next c e o b k at d.after r)

  pub forward_push : (v last next : ℕ) (c : Cell R) → cell_at cells next ≡ Some c
      → (k prev at : ℕ) → Chain cells v last next prev at k → forward cells at (suc k) ≡ forward cells at k ++ (noted c ∷ [])
  forward_push v last next c e zero prev at (a, l) = forward_some cells at 0 c (ap (cell_at cells) a ∙ e)
  forward_push v last next c e (suc k) prev at h =
      let (d, f, (p, q, r)) = chain_cell v last next prev at k h in
      forward_some cells at (suc k) d f ∙ ap (λ (es : List (Entry R)). noted d ∷ es) (forward_push v last next c e k at d.after r)
      ∙ ap (λ (es : List (Entry R)). es ++ (noted c ∷ [])) (sym (forward_some cells at k d f))

  -- the last cell of a chain, and the chain before it
  pub chain_pop : (v last end k prev at : ℕ) → Chain cells v last end prev at (suc k)
      → (c : Cell R) × (cell_at cells last ≡ Some c) × ((c.owner ≡ v) × (c.after ≡ end) × Chain cells v c.before last prev at k)
  chain_pop v last end zero prev at h =
      let (c, e, (o, b, (a, l))) = chain_cell v last end prev at 0 h in
      (c, ap (cell_at cells) l ∙ e, (o, a, (sym l, b)))
  chain_pop v last end (suc k) prev at h =
      let (d, f, (p, q, r)) = chain_cell v last end prev at (suc k) h in
      let (c, e, (o, a, s)) = chain_pop v last end k at d.after r in
      (c, e, (o, a, (chain_some cells v c.before last prev at k d f).1 (p, q, s)))

-- a chain of v whose positions are below `top` stays, where the cells of v with such positions stay
module _ {R : Type 0} (cells cells' : List (Cell R)) (v top : ℕ)
    (stays : (j : ℕ) (c : Cell R) → cell_at cells j ≡ Some c → c.owner ≡ v → c.position < top → cell_at cells' j ≡ Some c) where
  pub chain_stays : (last end k low prev at : ℕ) → Chain cells v last end prev at k → Rises top low (forward cells at k)
      → Chain cells' v last end prev at k × (forward cells' at k ≡ forward cells at k)
  chain_stays last end zero low prev at h r = (h, refl)
  chain_stays last end (suc k) low prev at h r =
      let (c, e, (o, b, t)) = chain_cell cells v last end prev at k h in
      let q = rw (forward_some cells at k c e) at r in
      let f = stays at c e o q.1 in
      let (s, w) = chain_stays last end k (c.position + 1) at c.after t q.2 in (
        (chain_some cells' v last end prev at k c f).1 (o, b, s),
        forward_some cells' at k c f ∙ ap (λ (es : List (Entry R)). noted c ∷ es) w ∙ sym (forward_some cells at k c e),
      )

-- cells with different owners, or different positions, stand at different places
module _ {R : Type 0} (cells : List (Cell R)) (i j : ℕ) (a b : Cell R) (p : cell_at cells i ≡ Some a) (q : cell_at cells j ≡ Some b) where
  pub apart : (a.owner ≡ b.owner → ⊥) → i ≢ j
  apart ne h = let s : Some a ≡ Some b = sym p ∙ ap (cell_at cells) h ∙ q in let o : a.owner ≡ b.owner = cc in ne o

  pub lower : a.position < b.position → i ≢ j
  lower lt h = let s : Some a ≡ Some b = sym p ∙ ap (cell_at cells) h ∙ q in let o : a.position ≡ b.position = cc in omega arith

-- the last cell of a chain is made to name x as the one after it
module _ {R : Type 0} (cells : List (Cell R)) (v swept last end prev at k x : ℕ) (chain : Chain cells v last end prev at (suc k))
    (rises : Rises swept 0 (forward cells at (suc k))) (d : Cell R) (e : cell_at cells last ≡ Some d) where
  -- what comes before the last cell
  pub before_last : (d.owner ≡ v) × (d.after ≡ end) × (Chain cells v d.before last prev at k
      × (forward cells at (suc k) ≡ forward cells at k ++ (noted d ∷ [])) × (Rises d.position 0 (forward cells at k) × (d.position < swept)))
  before_last =
      let (c, f, (o, a, pre)) = chain_pop cells v last end k prev at chain in
      let s : c ≡ d = cc in
      let pre' : Chain cells v d.before last prev at k = subst (λ (y : Cell R). Chain cells v y.before last prev at k) s pre in
      let g = forward_push cells v d.before last d e k prev at pre' in
      let r = rises_pop swept 0 (forward cells at k) (noted d) (subst (Rises swept 0) g rises) in
      (subst (λ (y : Cell R). y.owner ≡ v) s o, subst (λ (y : Cell R). y.after ≡ end) s a, (pre', g, (r.2, r.0)))

  pub relinked : Chain (set cells last (with_after d x)) v last x prev at (suc k) × (forward (set cells last (with_after d x)) at (suc k) ≡ forward cells at (suc k))
  relinked =
      let (o, a, (pre, g, (r, s))) = before_last in
      let new = with_after d x in
      let here = cell_set_same cells last new (cell_far cells last d e) (cell_in cells last d e) in
      let (chain', same) = chain_stays cells (set cells last new) v d.position
      (λ j c f _ h. cell_set_other cells last j new (lower cells j last c d f e h) ∙ f) d.before last k 0 prev at pre r in (
        chain_push (set cells last new) v d.before last new here o refl k prev at chain',
        forward_push (set cells last new) v d.before last new here k prev at chain'
            ∙ ap (λ (es : List (Entry R)). es ++ (noted d ∷ [])) same ∙ sym g,
      )

-- a chain that is not empty has a last cell
pub last_cell : {R : Type 0} (cells : List (Cell R)) (v last end prev at k : ℕ) → Chain cells v last end prev at k → 0 < k → (d : Cell R) × (cell_at cells last ≡ Some d)
last_cell cells v last end prev at zero h some = absurd (omega arith)
last_cell cells v last end prev at (suc k) h some = let p = chain_pop cells v last end k prev at h in (p.0, p.1)
