use Rattle.std.proofs.Common.{◌+◌, arith, rules}
use Rattle.town.proofs.Filing.{arc_written}
use Rattle.town.proofs.rows.Rows.write_arcs.Goals as goal

pub loop-j-preserved : goal.loop-j-preserved
loop-j-preserved g c was begun =
    let places = c.len-places.result in
    let j = c.loop-j.j in
    arc_written g.M.FileMeasure.form c.args.self.now was c.loop-j.out c.put_record.new.out c.arc_record.result (places + j) (places + (j + 1)) (omega arith) (omega arith) (c.loop-j.invariant was begun)
    c.put_record.ensures j c.arc-item.result (omega arith) (omega arith) (search rules) c.arc_record.ensures
