use Rattle.std.proofs.Common.{ap, ◌∙◌}
use Rattle.tables.specs.declared.rows.HomeRow.{HomeRow}
use Rattle.tables.proofs.Splices.{cell_far}
use Rattle.tables.proofs.Appends.{appended_by}
use Rattle.tables.proofs.Rewrites.{only_sketch}
use Rattle.sketches.proofs.appending.append.Goals as goal

pub returns-clause-appended : goal.returns-clause-appended
returns-clause-appended g c n swept used can =
    let far = cell_far c.args.cells.now c.args.free can.room.0 can.room.1 in
    let longer = c.longer.ensures in
    let linked = c.link_cell.ensures in
    appended_by n swept used c.args.home.now c.args.cells.now c.args.v c.args.free c.args.entry can c.row_of-row.result c.longer.result c.put_row.new.home c.link_cell.new.cells
    c.row_of-row.ensures c.put_row.ensures longer.position longer.first longer.last longer.entries (λ none. linked.first none far) (λ d some at. linked.more d some far at)

pub returns-clause-only : goal.returns-clause-only
returns-clause-only g c =
    only_sketch c.args.v c.args.home.now c.longer.result (c.longer.ensures.position ∙ ap (λ (r : HomeRow). r.position) c.row_of-row.ensures) c.args.cells.now c.link_cell.new.cells
    c.put_row.new.home c.put_row.ensures c.link_cell.ensures.surplus
