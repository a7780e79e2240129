-- The town of five: worked cases over the definitions that compute, with k = 2.
use Rattle.std.specs.Prelude.{◌≡◌, ℕ, zero, suc, ◌<◌, ◌≤◌, List, [], ◌∷◌, map, length, Some, None, Option, slice_index_or}
use Rattle.std.proofs.Common.{arith}
use Rattle.std.specs.List.{AllByRecursion}
use Rattle.measure.specs.SecondsLaws.{seconds, seconds_laws}
use Rattle.measure.specs.FaresLaws.{fares, fares_join}
use Rattle.measure.specs.declared.seconds.Seconds.{Seconds}
use Rattle.graph.specs.Graphs.{Graph}
use Rattle.graph.specs.LeastLengths.{least_length}
use Rattle.graph.specs.declared.arc.Arc.{Arc}
use Rattle.bottom_k.specs.Ranking.{Ranks, rank_of, ranking}
use Rattle.bottom_k.specs.Sketches.{Setting, place_at, entries_before}
use Rattle.bottom_k.specs.Founding.{setting_of}
use Rattle.bottom_k.specs.Cells.{entries_of}
use Rattle.bottom_k.specs.Figures.{figure_of_ranks}
use Rattle.bottom_k.specs.declared.figure.Figure.{Figure}
use Rattle.bottom_k.specs.declared.figure.Figure.TheVariants.{Exact, Estimated}
use Rattle.bottom_k.specs.Computed.{due_list, entries_due, cells_run_out, sample_list, turned_back}

-- the places by number
abbrev pub mill : ℕ
mill = 0

abbrev pub quay : ℕ
quay = 1

abbrev pub park : ℕ
park = 2

abbrev pub ford : ℕ
ford = 3

abbrev pub farm : ℕ
farm = 4

-- their ranks
abbrev pub town_ranks : List ℕ
town_ranks = 3000000000 ∷ 1000000000 ∷ 2147483648 ∷ 1000000000 ∷ 4000000000 ∷ []

-- an arc from a place, so many seconds long
abbrev pub arc_from : ℕ → ℕ → Arc Seconds
arc_from v n = record { from = v; length = seconds n }

-- the arcs that arrive at each place
abbrev pub town_arcs : List (List (Arc Seconds))
town_arcs =
    (arc_from quay 100 ∷ arc_from farm 10 ∷ [])
    ∷ (arc_from mill 100 ∷ [])
    ∷ (arc_from ford 50 ∷ arc_from mill 350 ∷ [])
    ∷ (arc_from quay 200 ∷ arc_from park 50 ∷ [])
    ∷ []
    ∷ []

-- what holds of every arc of the rows holds of those of any one
pub all_of_rows : {X : Type 0} (P : X → Type 0) (rows : List (List X)) → AllByRecursion (λ row. AllByRecursion P row) rows → (w : ℕ) → AllByRecursion P (slice_index_or rows w [])
all_of_rows P [] h w = tt
all_of_rows P (row ∷ rows) h zero = h.0
all_of_rows P (row ∷ rows) h (suc w) = all_of_rows P rows h.1 w

pub none_past_rows : {X : Type 0} (rows : List (List X)) (w : ℕ) → length rows ≤ w → length (slice_index_or rows w []) ≡ 0
none_past_rows [] w h = omega arith
none_past_rows (row ∷ rows) zero h = absurd (omega arith)
none_past_rows (row ∷ rows) (suc w) h = none_past_rows rows w (omega arith)

abbrev pub town : Graph Seconds
town = record {
  places = 5;
  arriving = λ w. slice_index_or town_arcs w [];
  some = omega arith;
  few = omega arith;
  inside = all_of_rows (λ a. a.from < 5) town_arcs (omega arith);
  beyond = none_past_rows town_arcs;
}

-- k is 2
abbrev pub town_setting : Setting Seconds
town_setting = setting_of (record { measure = seconds_laws; map = town; ranks = town_ranks; k = 2 })

-- least lengths between its places
abbrev pub town_least : ℕ → ℕ → Option Seconds
town_least = least_length seconds_laws town

-- what v notes: places with seconds
abbrev pub notes_of : ℕ → ℕ → List (ℕ × ℕ)
notes_of swept v = map (λ e. (place_at town_setting e.position, e.length.count)) (due_list town_setting town_least swept v)

-- the places sampled from v within so many seconds, after five sweeps
abbrev pub sampled : ℕ → ℕ → List ℕ
sampled v limit = map (place_at town_setting) (sample_list town_setting town_least 5 (v ∷ []) (seconds limit))

-- and the figure
abbrev pub figure_from : ℕ → ℕ → Figure
figure_from v limit = figure_of_ranks 2 (map (rank_of town_ranks) (sampled v limit))

-- the table
pub record TownOfFive : Type 0 where
  -- a rank for each place; first-ranked first
  pub ranks : Ranks 5 town_ranks
  pub order : ranking town_ranks 5 ≡ quay ∷ ford ∷ park ∷ mill ∷ farm ∷ []
  -- after five sweeps
  pub mill_notes : notes_of 5 mill ≡ (quay, 100) ∷ (ford, 300) ∷ (mill, 0) ∷ []
  -- the third sweep, of PARK, turns back at MILL and QUAY and raises the entries from 8 to 10
  pub third_turns_back : turned_back town_setting town_least 2 ≡ mill ∷ quay ∷ []
  pub before_third : entries_due town_setting town_least 2 ≡ 8
  pub after_third : entries_due town_setting town_least 3 ≡ 10
  -- with nine cells it does not fit, with ten it does
  pub nine_cells : cells_run_out town_setting town_least 9 2 ≡ Some park
  pub ten_cells : cells_run_out town_setting town_least 10 2 ≡ None
  -- samples from MILL
  pub within_299 : sampled mill 299 ≡ quay ∷ mill ∷ []
  pub figure_299 : figure_from mill 299 ≡ Estimated 1
  pub within_300 : sampled mill 300 ≡ quay ∷ ford ∷ []
  pub figure_300 : figure_from mill 300 ≡ Estimated 4
  pub within_99 : sampled mill 99 ≡ mill ∷ []
  pub figure_99 : figure_from mill 99 ≡ Exact 1
  -- taking back after five sweeps leaves 13 of 14 entries
  pub after_fifth : entries_due town_setting town_least 5 ≡ 14
  pub taken_back : entries_of 5 (λ v. entries_before 4 (due_list town_setting town_least 5 v)) ≡ 13
  -- fares: zones over their limit make the join the largest
  pub fares_over : fares_join (fares 65535 (seconds 5)) (fares 1 (seconds 0)) ≡ fares 65535 (seconds 4294967295)
