-- The graph of a grid.
use Rattle.std.proofs.Common.{ap, arith, ltb→lt}
use Rattle.std.specs.Prelude.{ℕ, ◌+◌, ◌-◌, ◌*◌, ◌/◌, ◌%◌, ◌<◌, Bool, true, false, cond, ◌&&◌, T, List, [], ◌∷◌, ◌++◌, map, length, nat_lt}
use Rattle.std.specs.List.{AllByRecursion}
use Rattle.std.proofs.lemmas.Nat.{mul-le, mul-add-lt, div_below, mod_below}
use Rattle.std.proofs.ByRecursion.{All-append, All-map}
use Rattle.std.proofs.lemmas.Bool.{le-ltb}
use Rattle.measure.specs.declared.seconds.Seconds.{Seconds}
use Rattle.graph.specs.Graphs.{Graph}
use Rattle.graph.specs.Grids.{cell, is_open, source, sources, entering}
use Rattle.graph.specs.declared.arc.Arc.{Arc}
use Rattle.graph.specs.declared.grid.Grid.{Grid}

-- a cell's place is below the number of cells
pub cell_inside : (rows columns row column : ℕ) → row < rows → column < columns → cell columns row column < rows * columns
cell_inside rows columns row column h k = omega (arith, mul-add-lt row columns column rows h k)

module _ (rows columns : ℕ) (bytes : List ℕ) where
  -- a source that exists lies inside
  source_inside : (n place : ℕ) (exists : Bool) → (T exists → place < n) → AllByRecursion (λ p. p < n) (source bytes exists place)
  source_inside n place true h = go (is_open bytes place)
    where
      go : (t : Bool) → AllByRecursion (λ p. p < n) (cond (true && t) (place ∷ []) [])
      go true = (h tt, tt)
      go false = tt
  source_inside n place false h = tt

  pub sources_inside : (row column : ℕ) → row < rows → column < columns → AllByRecursion (λ p. p < rows * columns) (sources rows columns bytes row column)
  sources_inside row column h k = go (is_open bytes (cell columns row column))
    where
      n : ℕ
      n = rows * columns

      beside : List ℕ
      beside = source bytes (nat_lt 0 row) (cell columns (row - 1) column)
          ++ (source bytes (nat_lt 0 column) (cell columns row (column - 1))
          ++ (source bytes (nat_lt (column + 1) columns) (cell columns row (column + 1))
          ++ source bytes (nat_lt (row + 1) rows) (cell columns (row + 1) column)))

      inside : AllByRecursion (λ p. p < n) beside
      inside =
          All-append (λ p. p < n) _ _ (source_inside n _ (nat_lt 0 row) (λ t. cell_inside rows columns (row - 1) column (omega arith) k))
          (All-append (λ p. p < n) _ _ (source_inside n _ (nat_lt 0 column) (λ t. cell_inside rows columns row (column - 1) h (omega arith)))
          (All-append (λ p. p < n) _ _ (source_inside n _ (nat_lt (column + 1) columns) (λ t. cell_inside rows columns row (column + 1) h (ltb→lt _ _ t)))
          (source_inside n _ (nat_lt (row + 1) rows) (λ t. cell_inside rows columns (row + 1) column (ltb→lt _ _ t) k))))

      go : (t : Bool) → AllByRecursion (λ p. p < n) (cond t beside [])
      go true = inside
      go false = tt

  -- the places from which arcs arrive at a place: none at a number that is no place
  abbrev pub sources_of : ℕ → List ℕ
  sources_of place = cond (nat_lt place (rows * columns)) (sources rows columns bytes (place / columns) (place % columns)) []

  pub sources_of_inside : 0 < columns → (place : ℕ) → AllByRecursion (λ p. p < rows * columns) (sources_of place)
  sources_of_inside some place = go (nat_lt place (rows * columns)) (ltb→lt place (rows * columns))
    where
      go : (t : Bool) → (T t → place < rows * columns) → AllByRecursion (λ p. p < rows * columns) (cond t (sources rows columns bytes (place / columns) (place % columns)) [])
      go true h = sources_inside (place / columns) (place % columns) (div_below place columns rows some (h tt)) (mod_below place columns some)
      go false h = tt

  -- the arcs that arrive at a place
  abbrev pub arcs_to : ℕ → List (Arc Seconds)
  arcs_to place = map (entering bytes place) (sources_of place)

-- what a grid means
abbrev pub grid_graph : Grid → Graph Seconds
grid_graph g = record {
  places = g.rows * g.columns;
  arriving = arcs_to g.rows g.columns g.bytes;
  some = mul-le 1 1 g.rows g.columns g.some_rows g.some_columns;
  few = mul-le g.rows g.columns 64 64 g.few_rows g.few_columns;
  inside = λ w. All-map (λ a. a.from < g.rows * g.columns) (entering g.bytes w) (sources_of g.rows g.columns g.bytes w) (sources_of_inside g.rows g.columns g.bytes g.some_columns w);
  beyond = λ w h. ap (λ t. length (map (entering g.bytes w) (cond t (sources g.rows g.columns g.bytes (w / g.columns) (w % g.columns)) []))) (le-ltb w (g.rows * g.columns) h);
}
