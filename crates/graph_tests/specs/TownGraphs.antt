-- What a small town means.
use Rattle.std.specs.Prelude.{◌≤◌}
use Rattle.graph.specs.Graphs.{Graph}
use Rattle.graph_tests.specs.Towns.{small_graph}
use Rattle.graph_tests.specs.declared.small_town.SmallTown.{SmallTown}

pub few_enough : {L : Type 0} (t : SmallTown L) → t.places ≤ 4096
few_enough t = t.few

abbrev pub town_graph : {L : Type 0} → SmallTown L → Graph L
town_graph t = small_graph t.places t.arcs.now t.some (few_enough t)
