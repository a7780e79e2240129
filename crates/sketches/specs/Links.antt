-- What linking a cell in writes.
use Rattle.std.specs.Prelude.{ℕ}
use Rattle.tables.specs.declared.rows.Cell.{Cell}
use Rattle.tables.specs.declared.rows.Entry.{Entry}
use Rattle.tables.specs.Rows.{missing}

-- the cell of an entry of v that comes last, after the cell `before`
abbrev pub new_cell : {R : Type 0} → ℕ → ℕ → Entry R → Cell R
new_cell v before e = record { owner = v; position = e.position; length = e.length; before = before; after = missing }
