use Rattle.std.proofs.Common.{◌≡◌, Some, sym, ap, ◌∙◌}
use Rattle.tables.specs.declared.rows.HomeRow.{HomeRow}
use Rattle.tables.specs.Rows.{cell_at}
use Rattle.tables.proofs.Splices.{cell_far}
use Rattle.tables.proofs.Removals.{removed_by, removed_some}
use Rattle.tables.proofs.Rewrites.{only_sketch}
use Rattle.sketches.proofs.removing.remove_last.Goals as goal

pub returns-in_default-clause-removed : goal.returns-in_default-clause-removed
returns-in_default-clause-removed g c swept used can =
    absurd (removed_some c.args.n swept used c.args.home.now c.args.cells.now c.args.v can c.row_of-row.result c.row_of-row.ensures (sym c.in_default.ensures))

pub returns-in-Some-clause-removed : goal.returns-in-Some-clause-removed
returns-in-Some-clause-removed g c swept used can =
    let cells = c.args.cells.now in
    let row = c.row_of-row.result in
    let found : cell_at cells row.last ≡ Some c.in-Some.cell = sym c.in-Some.ensures in
    let far = cell_far cells row.last c.in-Some.cell found in
    let left = c.shorter-left.ensures in
    let freed = c.unlink_cell.ensures in
    removed_by c.args.n swept used c.args.home.now cells c.args.v can row c.shorter-left.result c.in-Some.cell c.put_row.new.home c.unlink_cell.new.cells c.row_of-row.ensures found
    c.put_row.ensures left.position left.first left.last left.entries (λ none. freed.only none far) (λ b some at. freed.more b some far at)

pub returns-in-Some-clause-only : goal.returns-in-Some-clause-only
returns-in-Some-clause-only g c =
    only_sketch c.args.v c.args.home.now c.shorter-left.result (c.shorter-left.ensures.position ∙ ap (λ (r : HomeRow). r.position) c.row_of-row.ensures) c.args.cells.now
    c.unlink_cell.new.cells c.put_row.new.home c.put_row.ensures c.unlink_cell.ensures.surplus
