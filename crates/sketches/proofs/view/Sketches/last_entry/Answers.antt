use Rattle.std.proofs.Common.{rules, tests}
use Rattle.sketches.proofs.Last.{ends_with}
use Rattle.sketches.proofs.view.Sketches.last_entry.Goals as goal

pub returns : goal.returns
returns g c =
    ends_with c.args.self.now.home.now c.args.self.now.cells.now c.args.v c.last_cell.result c.map.result (search (rules, tests)) c.last_cell.ensures.none c.last_cell.ensures.some
