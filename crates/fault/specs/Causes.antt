-- Why a call refuses: a list of causes, of which the first that applies is told.
use Rattle.std.specs.Prelude.{◌≡◌, ℕ, ◌⊎◌, List, [], ◌∷◌}
use Rattle.fault.specs.declared.refusal.Layer.{Layer}
use Rattle.fault.specs.declared.refusal.Refusal.{Refusal}

-- a cause: the number and the layer of its refusal, and what holds of where that points if the cause applies
pub record Cause : Type 1 where
  pub number : ℕ
  pub layer : Layer
  pub applies : ℕ → Type 0

abbrev pub cause : ℕ → Layer → (ℕ → Type 0) → Cause
cause n l P = record { number = n; layer = l; applies = P }

-- the refusal tells the first cause that applies
abbrev pub Refused : List Cause → Refusal → Type 0
Refused [] r = ⊥
Refused (c ∷ cs) r =
    ((r.number ≡ c.number) × (r.layer ≡ c.layer) × c.applies r.at) ⊎ (((w : ℕ) → c.applies w → ⊥) × Refused cs r)

-- no cause applies
abbrev pub Clear : List Cause → Type 0
Clear [] = Unit {0}
Clear (c ∷ cs) = ((w : ℕ) → c.applies w → ⊥) × Clear cs
