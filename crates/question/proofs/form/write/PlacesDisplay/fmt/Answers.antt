-- Each turn writes a space and a place.
use Rattle.std.proofs.Common.{ℕ, ◌+◌, ◌<◌, ◌≡◌, ◌++◌, ◌∷◌, [], List, length, get_or, take, decimal, ap, ◌∙◌, sym, rules, arith}
use Rattle.std.proofs.Output.{has_written_append, has_written_of_eq}
use Rattle.std.proofs.lemmas.List.{append-nil, take_more}
use Rattle.question_lines.proofs.SoFar.{spaced_append}
use Rattle.question_lines.specs.Lines.{spaced}
use Rattle.question.proofs.form.write.PlacesDisplay.fmt.Goals as goal

one_more : (places : List ℕ) (i : ℕ) → i < length places → spaced (take i places) ++ (32 ∷ decimal (get_or places i 0)) ≡ spaced (take (i + 1) places)
one_more places i h =
    ap (λ (l : List ℕ). spaced (take i places) ++ (32 ∷ l)) (sym (append-nil (decimal (get_or places i 0))))
    ∙ (sym (spaced_append (take i places) (get_or places i 0 ∷ [])) ∙ ap spaced (sym (take_more places i 0 h)))

pub loop-place-preserved : goal.loop-place-preserved
loop-place-preserved g c = λ plain.
    has_written_of_eq _ _ _ _ _ (one_more _ _ (omega arith)) (has_written_append _ _ _ _ _ _ (c.loop-place.invariant plain) (search rules))
