-- The arc of a small town that is found at a number.
use Rattle.std.proofs.Common.{◌≡◌, ℕ, ◌%◌, eqb, List, Option, filter, sym, ap, ◌∙◌}
use Rattle.std.specs.List.{slice_get}
use Rattle.std.specs.Option.{option_map}
use Rattle.std.proofs.lemmas.Option.{slice_get-map}
use Rattle.graph.specs.declared.arc.Arc.{Arc}
use Rattle.graph_tests.specs.Towns.{from_inside, arcs_to}

pub arc_found : {L : Type 0} (places : ℕ) (arcs : List (ℕ × Arc L)) (w i : ℕ) (found : Option (ℕ × Arc L)) → found ≡ slice_get (filter (λ a. eqb (a.0 % places) w) arcs) i →
    option_map (λ a. from_inside places a.1) found ≡ slice_get (arcs_to places arcs w) i
arc_found places arcs w i found is = ap (option_map (λ a. from_inside places a.1)) is ∙ sym (slice_get-map (λ a. from_inside places a.1) (filter (λ a. eqb (a.0 % places) w) arcs) i)
