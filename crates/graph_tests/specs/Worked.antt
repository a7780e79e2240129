-- Least lengths worked out by hand: the town of five in seconds, and two towns of three in rise and in fares.
use Rattle.std.specs.Prelude.{◌≡◌, ℕ, List, [], ◌∷◌, map, Some, None, Option}
use Rattle.std.proofs.Common.{lit≤}
use Rattle.std.specs.Option.{option_map}
use Rattle.measure.specs.Laws.{OrderedMonoid}
use Rattle.measure.specs.SecondsLaws.{seconds, seconds_laws}
use Rattle.measure.specs.RiseLaws.{rise, rise_laws}
use Rattle.measure.specs.FaresLaws.{fares, fares_laws}
use Rattle.measure.specs.declared.seconds.Seconds.{Seconds}
use Rattle.measure.specs.declared.rise.Rise.{Rise}
use Rattle.measure.specs.declared.fares.Fares.{Fares}
use Rattle.graph.specs.Graphs.{Graph}
use Rattle.graph.specs.LeastLengths.{least_table}
use Rattle.graph.specs.declared.arc.Arc.{Arc}
use Rattle.graph_tests.specs.Towns.{small_graph}

abbrev arc : {L : Type 0} → ℕ → L → Arc L
arc from l = record { from = from; length = l }

-- the table, with the lengths as plain numbers
abbrev shown : {L X : Type 0} → OrderedMonoid L → Graph L → (L → X) → List (List (Option X))
shown m g show = map (map (option_map show)) (least_table m g)

-- 1 to 0, 100; 4 to 0, 10; 0 to 1, 100; 3 to 2, 50; 0 to 2, 350; 1 to 3, 200; 2 to 3, 50
abbrev pub five : Graph Seconds
five = small_graph 5
    ((0, arc 1 (seconds 100)) ∷ (0, arc 4 (seconds 10)) ∷ (1, arc 0 (seconds 100)) ∷ (2, arc 3 (seconds 50)) ∷ (2, arc 0 (seconds 350)) ∷ (3, arc 1 (seconds 200)) ∷ (3, arc 2 (seconds 50)) ∷ [])
    (lit≤ tt) (lit≤ tt)

abbrev pub FiveInSeconds : Type 0
FiveInSeconds = shown seconds_laws five (λ l. l.count) ≡
    (Some 0 ∷ Some 100 ∷ Some 350 ∷ Some 300 ∷ None ∷ [])
    ∷ (Some 100 ∷ Some 0 ∷ Some 250 ∷ Some 200 ∷ None ∷ [])
    ∷ (None ∷ None ∷ Some 0 ∷ Some 50 ∷ None ∷ [])
    ∷ (None ∷ None ∷ Some 50 ∷ Some 0 ∷ None ∷ [])
    ∷ (Some 10 ∷ Some 110 ∷ Some 360 ∷ Some 310 ∷ Some 0 ∷ [])
    ∷ []

-- 2 to 0, 10; 0 to 1, 30; 1 to 2, 20; 0 to 2, 40
abbrev pub three_rise : Graph Rise
three_rise = small_graph 3 ((0, arc 2 (rise 10)) ∷ (1, arc 0 (rise 30)) ∷ (2, arc 1 (rise 20)) ∷ (2, arc 0 (rise 40)) ∷ []) (lit≤ tt) (lit≤ tt)

abbrev pub ThreeInRise : Type 0
ThreeInRise = shown rise_laws three_rise (λ l. l.millimetres) ≡
    (Some 0 ∷ Some 30 ∷ Some 30 ∷ [])
    ∷ (Some 20 ∷ Some 0 ∷ Some 20 ∷ [])
    ∷ (Some 10 ∷ Some 30 ∷ Some 0 ∷ [])
    ∷ []

-- 1 to 0, (65,535; 5); 0 to 1, (1; 100); 2 to 1, (1; 7); 1 to 2, (1; 50); 0 to 2, (3; 10)
abbrev pub three_fares : Graph Fares
three_fares = small_graph 3
    ((0, arc 1 (fares 65535 (seconds 5))) ∷ (1, arc 0 (fares 1 (seconds 100))) ∷ (1, arc 2 (fares 1 (seconds 7))) ∷ (2, arc 1 (fares 1 (seconds 50))) ∷ (2, arc 0 (fares 3 (seconds 10))) ∷ [])
    (lit≤ tt) (lit≤ tt)

abbrev pub ThreeInFares : Type 0
ThreeInFares = shown {X = ℕ × ℕ} fares_laws three_fares (λ l. (l.zones, l.seconds.count)) ≡
    (Some (0, 0) ∷ Some (1, 100) ∷ Some (2, 150) ∷ [])
    ∷ (Some (65535, 5) ∷ Some (0, 0) ∷ Some (1, 50) ∷ [])
    ∷ (Some (65535, 4294967295) ∷ Some (1, 7) ∷ Some (0, 0) ∷ [])
    ∷ []
