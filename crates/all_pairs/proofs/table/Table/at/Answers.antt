use Rattle.std.proofs.Common.{length, rules}
use Rattle.all_pairs.proofs.Steps.{inside_table}
use Rattle.all_pairs.proofs.table.Table.at.Goals as goal

pub offset_bounds-self-v : goal.offset_bounds-self-v
offset_bounds-self-v g c =
    let t = c.args.self.now in
    let h = inside_table t.places c.args.v c.args.w (length t.rows.now) c.requires.v_inside c.requires.w_inside t.whole in
    search rules
