-- The test of the order, row by row.
use Rattle.std.specs.Prelude.{ℕ, List}
use Rattle.tables.specs.declared.rows.OrderRow.{OrderRow}
use Rattle.tables.specs.declared.rows.HomeRow.{HomeRow}
use Rattle.tables.specs.Tests.{PointsBack, PointedTo, RanksRise}

-- what the test asks of the number i, read as a position and as a place
pub record RowInOrder (n : ℕ) (order : List OrderRow) (home : List HomeRow) (i : ℕ) : Type 0 where
  pub to_place : PointsBack n order home i
  pub to_position : PointedTo n order home i
  pub rank_rises : RanksRise n order i
