-- How a loop that goes from cell to cell steps along a walk.
use Rattle.std.proofs.Common.{◌≡◌, ℕ, zero, suc, ◌+◌, ◌-◌, ◌<◌, ◌≤◌, false, List, [], ◌∷◌, length, Some, None, Decides, Option, refl, ap, ◌∙◌, not-suc-le-zero, arith}
use Rattle.std.proofs.lemmas.Bool.{false≢true}
use Rattle.tables.specs.declared.rows.Cell.{Cell}
use Rattle.tables.specs.declared.rows.Entry.{Entry}
use Rattle.tables.specs.Rows.{cell_at}
use Rattle.tables.specs.Walks.{noted, forward, Chain}

-- each follows from the other
abbrev pub Same : Type 0 → Type 0 → Type 0
Same P Q = (P → Q) × (Q → P)

pub same_trans : {P Q R : Type 0} → Same P Q → Same Q R → Same P R
same_trans a b = (λ p. b.0 (a.0 p), λ r. a.1 (b.1 r))

-- a fact that is ruled out is decided
pub refuted : {P : Type 0} → (P → ⊥) → Decides false P
refuted h = (λ e. absurd (false≢true e), λ p. absurd (h p))

-- one turn less is left
pub left_more : (n i : ℕ) → i < n → n - i ≡ suc (n - (i + 1))
left_more n i h = omega arith

few_after : {R : Type 0} (next : Cell R → List (Entry R)) (o : Option (Cell R)) (k : ℕ) → ((c : Cell R) → length (next c) ≤ k)
    → length {A = Entry R} (elim o [ None ↦ [] | Some c ↦ noted c ∷ next c ]) ≤ suc k
few_after next None k h = omega arith
few_after next (Some c) k h = omega (arith, h c)

module _ {R : Type 0} (cells : List (Cell R)) where
  -- a walk ends where there is no cell, and goes on after the cell that is there
  pub forward_none : (at k : ℕ) → cell_at cells at ≡ None → forward cells at k ≡ []
  forward_none at zero e = refl
  forward_none at (suc k) e = rw (e, forward)

  pub forward_few : (at k : ℕ) → length (forward cells at k) ≤ k
  forward_few at zero = omega arith
  forward_few at (suc k) = few_after (λ c. forward cells c.after k) (cell_at cells at) k (λ c. forward_few c.after k)

  pub forward_some : (at k : ℕ) (c : Cell R) → cell_at cells at ≡ Some c → forward cells at (suc k) ≡ noted c ∷ forward cells c.after k
  forward_some at k c e = rw (e, forward)

  pub forward_next : (at k : ℕ) (c : Cell R) → 0 < k → cell_at cells at ≡ Some c → forward cells at k ≡ noted c ∷ forward cells c.after (k - 1)
  forward_next at zero c h e = absurd (not-suc-le-zero h)
  forward_next at (suc k) c h e = forward_some at k c e ∙ ap (λ m. noted c ∷ forward cells c.after m) (omega arith)

  pub chain_none : (v last end prev at k : ℕ) → cell_at cells at ≡ None → Chain cells v last end prev at (suc k) → ⊥
  chain_none v last end prev at k e h = rw e at h

  pub chain_some : (v last end prev at k : ℕ) (c : Cell R) → cell_at cells at ≡ Some c
      → Same (Chain cells v last end prev at (suc k)) ((c.owner ≡ v) × (c.before ≡ prev) × Chain cells v last end at c.after k)
  chain_some v last end prev at k c e = rw e (λ x. x, λ x. x)

  pub chain_more : (v last end prev at k : ℕ) (c : Cell R) → cell_at cells at ≡ Some c → c.owner ≡ v → c.before ≡ prev
      → Same (Chain cells v last end prev at (suc k)) (Chain cells v last end at c.after k)
  chain_more v last end prev at k c e o b = (λ h. ((chain_some v last end prev at k c e).0 h).2, λ h. (chain_some v last end prev at k c e).1 (o, b, h))

  -- a loop with n turns, of which i are done, keeps that P stands exactly if the rest of the chain does
  module _ {P : Type 0} (v last end prev at n i : ℕ) (turn : i < n) (rest : Same P (Chain cells v last end prev at (n - i))) where
    chain_left : P → Chain cells v last end prev at (suc (n - (i + 1)))
    chain_left p = rw (left_more n i turn) at (rest.0 p)

    pub chain_turn : (c : Cell R) → cell_at cells at ≡ Some c → c.owner ≡ v → c.before ≡ prev → Same P (Chain cells v last end at c.after (n - (i + 1)))
    chain_turn c e o b = same_trans (rw (left_more n i turn) at rest) (chain_more v last end prev at (n - (i + 1)) c e o b)

    pub chain_ends : cell_at cells at ≡ None → P → ⊥
    chain_ends e p = chain_none v last end prev at (n - (i + 1)) e (chain_left p)

    pub chain_breaks : (c : Cell R) → cell_at cells at ≡ Some c → (c.owner ≡ v → c.before ≡ prev → ⊥) → P → ⊥
    chain_breaks c e h p = let q = (chain_some v last end prev at (n - (i + 1)) c e).0 (chain_left p) in h q.0 q.1
