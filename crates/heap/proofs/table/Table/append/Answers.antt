use Rattle.std.proofs.Common.{arith, length-set}
use Rattle.heap.proofs.Pairs.{slot_left, append_filled, append_placed}
use Rattle.heap.proofs.table.Table.append.Goals as goal

pub invariant_of-self : goal.invariant_of-self
invariant_of-self c =
    let t = c.args.self.now in
    let place = c.args.place in
    let left = slot_left t place.number place.known c.requires in record {
      sized = (simp length-set t.sized.0, simp length-set t.sized.1);
      room = omega arith;
      filled = append_filled t place.number place.known c.requires;
      placed = append_placed t place.number place.known c.requires;
    }
