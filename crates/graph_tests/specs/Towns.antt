-- A small map from a list of arcs with their to-places; both ends of an arc are taken modulo the number of places.
use Rattle.std.proofs.Common.{ap, ◌∙◌, arith}
use Rattle.std.specs.Prelude.{◌≡◌, ℕ, ◌%◌, ◌<◌, ◌≤◌, ◌==◌, cond, List, [], ◌∷◌, map, length, filter}
use Rattle.std.specs.List.{AllByRecursion}
use Rattle.std.proofs.lemmas.Nat.{mod_below}
use Rattle.std.proofs.lemmas.Bool.{ne_eqb}
use Rattle.graph.specs.Graphs.{Graph}
use Rattle.graph.specs.declared.arc.Arc.{Arc}

-- an arc from a place of the map
abbrev pub from_inside : {L : Type 0} → ℕ → Arc L → Arc L
from_inside places a = record { from = a.from % places; length = a.length }

module _ {L : Type 0} (places : ℕ) (arcs : List (ℕ × Arc L)) where
  -- the arcs that arrive at w, in the order of the list
  abbrev pub arcs_to : ℕ → List (Arc L)
  arcs_to w = map (λ a. from_inside places a.1) (filter (λ a. (a.0 % places) == w) arcs)

  pub all_inside : 1 ≤ places → (those : List (ℕ × Arc L)) → AllByRecursion (λ a. a.from < places) (map (λ a. from_inside places a.1) those)
  all_inside some [] = tt
  all_inside some (a ∷ those) = (mod_below a.1.from places some, all_inside some those)

  -- each comes from a place of the map
  pub arcs_to_inside : 1 ≤ places → (w : ℕ) → AllByRecursion (λ a. a.from < places) (arcs_to w)
  arcs_to_inside some w = all_inside some (filter (λ a. (a.0 % places) == w) arcs)

  -- none arrives at a number that is no place
  pub none_beyond : 1 ≤ places → (w : ℕ) → places ≤ w → (those : List (ℕ × Arc L)) → filter (λ a. (a.0 % places) == w) those ≡ []
  none_beyond some w h [] = cc
  none_beyond some w h (a ∷ those) =
      let below = mod_below a.0 places some in
      ap (λ t. cond t (a ∷ filter (λ b. (b.0 % places) == w) those) (filter (λ b. (b.0 % places) == w) those)) (ne_eqb (a.0 % places) w (λ e. omega arith))
      ∙ none_beyond some w h those

  abbrev pub small_graph : 1 ≤ places → places ≤ 4096 → Graph L
  small_graph some few = record {
    places = places;
    arriving = arcs_to;
    some = some;
    few = few;
    inside = arcs_to_inside some;
    beyond = λ w h. ap (λ those. length (map (λ a. from_inside places a.1) those)) (none_beyond some w h arcs);
  }
