-- How many numbers pass a test, where they are listed once each.
use Rattle.std.proofs.Common.{◌≡◌, ℕ, zero, suc, ◌+◌, ◌<◌, Bool, true, false, cond, eqb, refl, ap, ◌∙◌, ap₂, ⊎_elim, arith}
use Rattle.std.proofs.lemmas.Bool.{cases_eq, cases_Bool}
use Rattle.std.proofs.lemmas.Bool.Decides.{eqb_tells}
use Rattle.heap.specs.Content.{how_many}

pub how_many_same : (n : ℕ) (f g : ℕ → Bool) → ((p : ℕ) → p < n → f p ≡ g p) → how_many n f ≡ how_many n g
unfolding how_many
how_many_same zero f g same = refl
how_many_same (suc n) f g same =
    ap₂ (λ a b. a + cond b 1 0) (how_many_same n f g (λ p h. same p (omega arith))) (same n (omega arith))

pub how_many_none : (n : ℕ) (f : ℕ → Bool) → ((p : ℕ) → f p ≡ false) → how_many n f ≡ 0
unfolding how_many
how_many_none zero f none = refl
how_many_none (suc n) f none = let a = how_many_none n f none in let b = none n in grind arith

-- one fewer passes a test that refuses one number more
how_many_less : (n : ℕ) (f g : ℕ → Bool) (x : ℕ) → x < n → f x ≡ true → g x ≡ false
    → ((p : ℕ) → (p ≡ x → ⊥) → f p ≡ g p) → how_many n f ≡ how_many n g + 1
unfolding how_many
how_many_less zero f g x h t e same = absurd (let k = h in omega arith)
how_many_less (suc n) f g x h t e same =
    ⊎_elim
    (λ q.
    let a = how_many_same n f g (λ p l. same p (λ r. omega arith)) in
    let u : f n ≡ true = ap f q ∙ t in
    let v : g n ≡ false = ap g q ∙ e in
    grind arith)
    (λ q.
    let a = how_many_less n f g x (omega arith) t e same in
    let u : f n ≡ g n = same n q in
    let c = cases_Bool (g n) in
    grind arith)
    (cases_eq n x)

-- a list without repeats, of all the numbers that pass, is as long as they are many
pub how_many_listed : (n len : ℕ) (f : ℕ → Bool) (at : ℕ → ℕ)
    → ((i : ℕ) → i < len → (at i < n) × (f (at i) ≡ true))
    → ((i j : ℕ) → i < len → j < len → at i ≡ at j → i ≡ j)
    → ((p : ℕ) → f p ≡ true → (i : ℕ) × ((i < len) × (at i ≡ p))) → how_many n f ≡ len
how_many_listed n zero f at passes apart listed =
    how_many_none n f (λ p. ⊎_elim (λ t. absurd (let l = listed p t in omega arith)) (λ t. t) (cases_Bool (f p)))
how_many_listed n (suc len) f at passes apart listed =
    let x = at len in
    let g : ℕ → Bool = λ p. cond (eqb p x) false (f p) in
    let here = passes len (omega arith) in
    let a =
    how_many_less n f g x here.0 here.1 (let t = eqb_tells x x in grind arith)
    (λ p ne. let t = eqb_tells p x in grind arith) in
    let b =
    how_many_listed n len g at
    (λ i h.
    let y = passes i (omega arith) in
    let d = apart i len (omega arith) (omega arith) in
    let t = eqb_tells (at i) x in
    (y.0, grind arith))
    (λ i j h k. apart i j (omega arith) (omega arith))
    (λ p t.
    let u = eqb_tells p x in
    let v : f p ≡ true = grind arith in
    let l = listed p v in
    let ne : l.0 ≡ len → ⊥ = λ e. let w : p ≡ x = cc in grind arith in
    (l.0, (omega arith, l.1.1))) in
    omega arith
