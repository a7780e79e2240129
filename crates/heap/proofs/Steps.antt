-- What a step of a sift leaves of a heap's order.
use Rattle.std.proofs.Common.{◌≡◌, ℕ, zero, suc, ◌<◌, ◌≤◌, false, T, ⊎_elim, arith}
use Rattle.std.proofs.lemmas.List.Edits.{Swapped}
use Rattle.std.proofs.lemmas.Bool.{cases_eq, cases_lt}
use Rattle.heap.specs.Heaped.{above, Heaped, HeapedButAbove, HeapedButBelow}
use Rattle.measure.specs.Orders.{TotalOrder}

module _ {K : Type 0} (o : TotalOrder K) where
  pub turned : (a b : K) → o.at_most a b ≡ false → T (o.at_most b a)
  turned a b h = let t = o.total a b in grind arith

  pub reflexive : (a : K) → T (o.at_most a a)
  reflexive a = ⊎_elim (λ e. e) (λ e. e) (o.total a a)

  -- the first slot has the least key; `most` bounds the slot
  first_below : (f : ℕ → K) (len : ℕ) → Heaped o f len → (most i : ℕ) → i ≤ most → i < len → T (o.at_most (f 0) (f i))
  first_below f len h zero i m l = let z : i ≡ 0 = omega arith in let r = reflexive (f 0) in grind arith
  first_below f len h (suc most) i m l =
      ⊎_elim
      (λ pos. o.trans (f 0) (f (above i)) (f i) (first_below f len h most (above i) (omega arith) (omega arith)) (h i pos l))
      (λ le. let z : i ≡ 0 = omega arith in let r = reflexive (f 0) in grind arith)
      (cases_lt 0 i)

  pub first_least : (f : ℕ → K) (len : ℕ) → Heaped o f len → (i : ℕ) → i < len → T (o.at_most (f 0) (f i))
  first_least f len h i l = first_below f len h i i (omega arith) l

module _ {K : Type 0} (o : TotalOrder K) (f g : ℕ → K) (len at : ℕ) where
  -- a key that is at most the one above it is exchanged with that
  pub up_step : 0 < at → at < len → HeapedButAbove o f len at → T (o.at_most (f at) (f (above at))) → Swapped f g (above at) at
      → HeapedButAbove o g len (above at)
  up_step pos lt u le s = (
    (λ i h k ne.
        let a : above i < i = omega arith in
        let x = cases_eq i at in
        let y = cases_eq (above i) at in
        let z = cases_eq (above i) (above at) in
        let u0 = u.0 i h k in
        let u1 = u.1 i h k in
        let s0 = s.0 in
        let s1 = s.1 in
        let s2 = s.2 i in
        let s3 = s.2 (above i) in
        let t = o.trans (f at) (f (above at)) (f i) in
        grind arith),
    (λ i h k e p.
        let a : above i < i = omega arith in
        let b : above (above at) < above at = omega arith in
        let d : above at < at = omega arith in
        let x = cases_eq i at in
        let u0 = u.0 i h k in
        let u1 = u.0 (above at) p (omega arith) in
        let s1 = s.1 in
        let s2 = s.2 i in
        let s3 = s.2 (above (above at)) in
        let t = o.trans (f (above (above at))) (f (above at)) (f i) in
        grind arith),
  )

  -- one slot's key is made smaller
  pub up_from_lower : Heaped o f len → at < len → ((i : ℕ) → i < len → (i ≡ at → ⊥) → g i ≡ f i) → T (o.at_most (g at) (f at))
      → HeapedButAbove o g len at
  up_from_lower h lt other le = (
    (λ i l k ne.
        let x = other i k ne in
        let y = other (above i) (omega arith) in
        let z = cases_eq (above i) at in
        let u = h i l k in
        let v = o.trans (g at) (f at) (f i) le in
        grind arith),
    (λ i l k e p.
        let x = other i k (λ q. omega arith) in
        let y = other (above at) (omega arith) (λ q. omega arith) in
        let u = h i l k in
        let v = h at p lt in
        let z = o.trans (f (above at)) (f at) (f i) in
        grind arith),
  )

  -- a key that is at least the least one below it is exchanged with that
  pub down_step : (child : ℕ) → 0 < child → child < len → above child ≡ at → HeapedButBelow o f len at
      → ((i : ℕ) → 0 < i → i < len → above i ≡ at → T (o.at_most (f child) (f i)))
      → T (o.at_most (f child) (f at)) → Swapped f g at child → HeapedButBelow o g len child
  down_step child pos lt e d least le s = (
    (λ i h k ne.
        let a : above i < i = omega arith in
        let b : at < child = omega arith in
        let x = cases_eq i at in
        let y = cases_eq i child in
        let z = cases_eq (above i) at in
        let u0 = d.0 i h k in
        let u1 = d.1 child pos lt e in
        let l = least i h k in
        let s0 = s.0 in
        let s1 = s.1 in
        let s2 = s.2 i in
        let s3 = s.2 (above i) in
        grind arith),
    (λ i h k c p.
        let a : above i < i = omega arith in
        let b : at < child = omega arith in
        let u0 = d.0 i h k in
        let s0 = s.0 in
        let s2 = s.2 i in
        grind arith),
  )

  -- a key that is at most the least one below it is in its slot
  pub down_done : (child : ℕ) → HeapedButBelow o f len at
      → ((i : ℕ) → 0 < i → i < len → above i ≡ at → T (o.at_most (f child) (f i))) → T (o.at_most (f at) (f child))
      → Heaped o f len
  down_done child d least le i h k =
      let x = cases_eq (above i) at in
      let u = d.0 i h k in
      let l = least i h k in
      let t = o.trans (f at) (f child) (f i) in
      grind arith
