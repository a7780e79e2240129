-- Where a loop along a sketch begins: with the row that it read, and no turn done.
use Rattle.std.proofs.Common.{◌≡◌, ℕ, ◌-◌, List, sym, subst, subst₂, arith}
use Rattle.tables.specs.declared.rows.HomeRow.{HomeRow}
use Rattle.tables.specs.declared.rows.Cell.{Cell}
use Rattle.tables.specs.Rows.{missing, home_at}
use Rattle.tables.specs.Walks.{Chain, Linked}
use Rattle.tables.proofs.Chains.{Same}

module _ {R : Type 0} (home : List HomeRow) (cells : List (Cell R)) (v : ℕ) (row : HomeRow) (is : row ≡ home_at home v) where
  none_done : (k : ℕ) → k ≡ k - 0
  none_done k = omega arith

  pub linked_start : Same (Linked home cells v) (Chain cells v row.last missing missing row.first (row.entries - 0))
  linked_start =
      subst₂ (λ (r : HomeRow) (k : ℕ). Same (Linked home cells v) (Chain cells v r.last missing missing r.first k)) (sym is)
      (subst (λ (r : HomeRow). (home_at home v).entries ≡ r.entries - 0) (sym is) (none_done (home_at home v).entries)) (λ h. h, λ h. h)
