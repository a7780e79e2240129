-- The faults that end the reading of words.
use Rattle.std.specs.Prelude.{◌≡◌, ℕ, ◌<◌, List, length}
use Rattle.fault.specs.declared.line.LineFault.{LineFault}
use Rattle.fault.specs.declared.line.LineFault.TheVariants.{NoForm, Atlas}
use Rattle.question_lines.specs.Words.{NoWord}

-- the fault of a place at which no word stands
abbrev pub NoWordAt : List ℕ → ℕ → LineFault → Type 0
NoWordAt line at (NoForm e) = NoWord line at e
NoWordAt line at (Atlas fault) = ⊥

-- the fault of a line that goes on after its last word
abbrev pub PastEnd : List ℕ → ℕ → LineFault → Type 0
PastEnd line at (NoForm e) = (e ≡ at) × (at < length line)
PastEnd line at (Atlas fault) = ⊥
