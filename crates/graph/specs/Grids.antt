-- What a grid means, said of the rows, columns and bytes that it is made from.
use Rattle.std.specs.Prelude.{◌≡◌, ℕ, ◌+◌, ◌-◌, ◌*◌, ◌<◌, ◌≤◌, Bool, cond, ◌&&◌, List, [], ◌∷◌, ◌++◌, map, nat_lt, slice_index}
use Rattle.fault.specs.Causes.{Cause, cause}
use Rattle.fault.specs.declared.refusal.Layer.TheVariants.{Atlas}
use Rattle.measure.specs.SecondsLaws.{seconds}
use Rattle.measure.specs.declared.seconds.Seconds.{Seconds}
use Rattle.graph.specs.Graphs.{Graph}
use Rattle.graph.specs.declared.arc.Arc.{Arc}

-- cell (row, column) is place row × columns + column
abbrev pub cell : (columns row column : ℕ) → ℕ
cell columns row column = row * columns + column

-- byte 0 bars a cell
abbrev pub is_open : List ℕ → ℕ → Bool
is_open bytes place = nat_lt 0 (slice_index bytes place)

-- a place beside a cell, if it exists and is not barred
abbrev pub source : List ℕ → Bool → ℕ → List ℕ
source bytes exists place = cond (exists && is_open bytes place) (place ∷ []) []

-- where the arcs to a cell come from: the cell above, then left, right and below, as far as those exist and neither end is barred
abbrev pub sources : (rows columns : ℕ) → List ℕ → (row column : ℕ) → List ℕ
sources rows columns bytes row column =
    cond (is_open bytes (cell columns row column))
    (source bytes (nat_lt 0 row) (cell columns (row - 1) column)
    ++ (source bytes (nat_lt 0 column) (cell columns row (column - 1))
    ++ (source bytes (nat_lt (column + 1) columns) (cell columns row (column + 1))
    ++ source bytes (nat_lt (row + 1) rows) (cell columns (row + 1) column))))
    []

-- an arc that enters a cell is as long as the byte of that cell
abbrev pub entering : List ℕ → ℕ → ℕ → Arc Seconds
entering bytes place from = record { from = from; length = seconds (slice_index bytes place) }

-- the meaning: as many places as cells, and the arcs that arrive at each cell
pub record GridMeaning (rows columns : ℕ) (bytes : List ℕ) (g : Graph Seconds) : Type 0 where
  pub as_many : g.places ≡ rows * columns
  pub arcs : (row column : ℕ) → row < rows → column < columns →
      g.arriving (cell columns row column) ≡ map (entering bytes (cell columns row column)) (sources rows columns bytes row column)

-- a side is 1 to 64
abbrev pub Side : ℕ → Type 0
Side side = (1 ≤ side) × (side ≤ 64)

-- why a grid is refused, in this order: rows out of bounds, columns out of bounds, too few bytes
abbrev pub grid_causes : (rows columns given : ℕ) → List Cause
grid_causes rows columns given =
    cause 6 Atlas (λ at. (at ≡ rows) × (Side rows → ⊥))
    ∷ cause 6 Atlas (λ at. (at ≡ columns) × (Side columns → ⊥))
    ∷ cause 7 Atlas (λ at. (at ≡ rows * columns) × (given < rows * columns))
    ∷ []
