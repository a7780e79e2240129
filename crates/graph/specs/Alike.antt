-- Maps that answer alike.
use Rattle.std.specs.Prelude.{◌≡◌, ℕ}
use Rattle.std.specs.List.{slice_get}
use Rattle.graph.specs.Graphs.{Graph}

-- as many places, and the same arcs in the same order arrive at each
pub record SameArcs {L : Type 0} (g h : Graph L) : Type 0 where
  pub as_many : g.places ≡ h.places
  pub arcs : (w : ℕ) → g.arriving w ≡ h.arriving w

-- as many places, and the same answer for every place and number of an arc
pub record SameAnswers {L : Type 0} (g h : Graph L) : Type 0 where
  pub as_many : g.places ≡ h.places
  pub arcs : (w i : ℕ) → slice_get (g.arriving w) i ≡ slice_get (h.arriving w) i
