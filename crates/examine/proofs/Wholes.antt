-- From the test of each row or sketch to the test of all.
use Rattle.std.proofs.Common.{ℕ, ◌<◌, ◌≤◌, List, length, Bool}
use Rattle.std.specs.Prelude.{IsTrue, ◌↔◌}
use Rattle.tables.specs.declared.rows.OrderRow.{OrderRow}
use Rattle.tables.specs.declared.rows.HomeRow.{HomeRow}
use Rattle.tables.specs.declared.rows.Cell.{Cell}
use Rattle.tables.specs.Rows.{cells_there}
use Rattle.tables.specs.Tests.{OrderTest, LinksTest}
use Rattle.tables.specs.Walks.{Linked}
use Rattle.examine.specs.RowsInOrder.{RowInOrder}

pub order_by_rows : (n : ℕ) (order : List OrderRow) (home : List HomeRow) (r : Bool) → (n ≤ length order) × (n ≤ length home)
    → IsTrue r ↔ ((i : ℕ) → i < n → RowInOrder n order home i) → IsTrue r ↔ OrderTest n order home
order_by_rows n order home r long each = (
  λ e. record {
    order_long = long.0;
    home_long = long.1;
    to_places = λ p h. (each.0 e p h).to_place;
    to_positions = λ v h. (each.0 e v h).to_position;
    ranks_rise = λ p h. (each.0 e p h).rank_rises;
  },
  λ t. each.1 (λ i h. record { to_place = t.to_places i h; to_position = t.to_positions i h; rank_rises = t.ranks_rise i h }),
)

pub links_by_sketches : {R : Type 0} (n used : ℕ) (home : List HomeRow) (cells : List (Cell R)) (r : Bool) → used ≤ cells_there cells
    → IsTrue r ↔ ((v : ℕ) → v < n → Linked home cells v) → IsTrue r ↔ LinksTest n used home cells
links_by_sketches n used home cells r enough each = (λ e. record { enough = enough; linked = each.0 e }, λ t. each.1 t.linked)
