-- The last entry of a sketch stands in its last cell.
use Rattle.std.proofs.Common.{◌≡◌, ℕ, suc, ◌-◌, ◌<◌, List, [], ◌∷◌, ◌++◌, Some, None, ap, ◌∙◌, subst, arith}
use Rattle.tables.specs.declared.rows.HomeRow.{HomeRow}
use Rattle.tables.specs.declared.rows.Cell.{Cell}
use Rattle.tables.specs.Rows.{missing, home_at, cell_at}
use Rattle.tables.specs.Walks.{noted, forward, plain_sketch, Chain, Linked}
use Rattle.tables.proofs.Splices.{chain_pop, forward_push, last_cell}

module _ {R : Type 0} (home : List HomeRow) (cells : List (Cell R)) (v : ℕ) where
  pub none_noted : (home_at home v).entries ≡ 0 → plain_sketch home cells v ≡ []
  none_noted none = ap (forward cells (home_at home v).first) none

  pub last_noted : (d : Cell R) → Linked home cells v → 0 < (home_at home v).entries → cell_at cells (home_at home v).last ≡ Some d
      → plain_sketch home cells v ≡ forward cells (home_at home v).first ((home_at home v).entries - 1) ++ (noted d ∷ [])
  last_noted d linked some e =
      let row = home_at home v in
      let k = row.entries - 1 in
      let one : row.entries ≡ suc k = omega arith in
      let chain = subst (λ m. Chain cells v row.last missing missing row.first m) one linked in
      let p = chain_pop cells v row.last missing k missing row.first chain in
      ap (forward cells row.first) one ∙ forward_push cells v p.0.before row.last d e k missing row.first p.2.2

  pub last_found : Linked home cells v → 0 < (home_at home v).entries → cell_at cells (home_at home v).last ≡ None → ⊥
  last_found linked some none =
      let row = home_at home v in
      let p = last_cell cells v row.last missing missing row.first row.entries linked some in
      let q = p.1 in
      let z : ◌≡◌ {A = ℕ} 0 1 = cc in
      omega arith
