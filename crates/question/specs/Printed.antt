-- How refusals are printed in answer to a line.
use Rattle.std.specs.Prelude.{ℕ, List, ◌++◌, codes, decimal}
use Rattle.fault.specs.Refusals.{refusal_text}
use Rattle.question.specs.declared.told.ToldRefusal.{ToldRefusal}

-- an exclamation mark, the refusal, and its line
abbrev pub told_text : ToldRefusal → List ℕ
told_text t = codes "! " ++ (refusal_text t.refusal ++ (codes " at line " ++ decimal t.line))
