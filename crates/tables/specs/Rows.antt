-- Reading the three tables: what stands at a position, at a place, and in a cell.
use Rattle.std.specs.Prelude.{ℕ, min, cond, List, length, None, Option, nat_lt, slice_index_or}
use Rattle.std.specs.List.{slice_get}
use Rattle.tables.specs.declared.rows.OrderRow.{OrderRow}
use Rattle.tables.specs.declared.rows.HomeRow.{HomeRow}
use Rattle.tables.specs.declared.rows.Cell.{Cell}

-- how a missing cell is written; no cell from there on exists for any call
abbrev pub missing : ℕ
missing = 65536

-- the row at a position; past the table's end rank 0, which no position has
abbrev pub order_at : List OrderRow → ℕ → OrderRow
order_at order p = slice_index_or order p (record { rank = 0; place = 0 })

-- the row of a place with an empty sketch
abbrev pub empty_row : ℕ → HomeRow
empty_row p = record { position = p; first = missing; last = missing; entries = 0 }

-- the row of a place; past the table's end one with an empty sketch
abbrev pub home_at : List HomeRow → ℕ → HomeRow
home_at home v = slice_index_or home v (empty_row 0)

-- the cell of number j: none past the table's end, and none from 65,536 on
abbrev pub cell_at : {R : Type 0} → List (Cell R) → ℕ → Option (Cell R)
cell_at cells j = cond (nat_lt j missing) (slice_get cells j) None

-- how many cells there are
abbrev pub cells_there : {R : Type 0} → List (Cell R) → ℕ
cells_there cells = min (length cells) missing
