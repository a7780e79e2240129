-- Writing a file: when it is refused, and how far it has come.
use Rattle.std.specs.Prelude.{◌≡◌, ℕ, ◌*◌, ◌<◌, List, [], ◌∷◌, take, drop}
use Rattle.std.specs.List.{concat}
use Rattle.fault.specs.Causes.{Cause, cause}
use Rattle.fault.specs.declared.refusal.Layer.TheVariants.{Atlas}

-- a buffer shorter than the file: refused with the length needed
abbrev pub write_causes : (needed room : ℕ) → List Cause
write_causes needed room = cause 7 Atlas (λ w. (room < needed) × (w ≡ needed)) ∷ []

-- the first i records stand in the buffer, and behind them it is as it was
pub record Wrote (rs : List (List ℕ)) (i : ℕ) (was now : List ℕ) : Type 0 where
  pub front : take (16 * i) now ≡ concat (take i rs)
  pub back : drop (16 * i) now ≡ drop (16 * i) was
