-- What a map means: how many places it has, and which arcs arrive at each.
use Rattle.std.specs.Prelude.{◌≡◌, ℕ, ◌<◌, ◌≤◌, List, length}
use Rattle.std.specs.List.{AllByRecursion}
use Rattle.graph.specs.declared.arc.Arc.{Arc}

-- 1 to 4,096 places, numbered from 0; for each the list of arriving arcs, every one from a place of the map;
-- no arc arrives at a number that is no place
pub record Graph (L : Type 0) : Type 0 where
  pub places : ℕ
  pub arriving : ℕ → List (Arc L)
  pub some : 1 ≤ places
  pub few : places ≤ 4096
  pub inside : (w : ℕ) → AllByRecursion (λ a. a.from < places) (arriving w)
  pub beyond : (w : ℕ) → places ≤ w → length (arriving w) ≡ 0
