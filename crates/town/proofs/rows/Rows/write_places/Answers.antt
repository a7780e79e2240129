use Rattle.std.proofs.Common.{vec_items, sym, ◌∙◌, arith, rules}
use Rattle.std.specs.Iterator.Adapters.{enumerate_source, enumerate_count, zip_first, zip_second}
use Rattle.std.specs.Slice.Iter.{iter_rest}
use Rattle.town.proofs.Filing.{place_written, left_more}
use Rattle.town.proofs.rows.Rows.write_places.Goals as goal

pub loop-i-preserved : goal.loop-i-preserved
loop-i-preserved g c =
    let t = c.args.self.now.tables in
    let i = enumerate_count c.loop-i.i-iterator in
    let pairs = enumerate_source c.next.new.self in
    let inv = c.loop-i.invariant in
    let steps = c.in-Some.ensures.steps in
    let o = t.ranks.ok.0 in
    let rank = left_more (vec_items t.ranks) i c.in-Some.rank.now (iter_rest (zip_first pairs)) (sym inv.ranks ∙ steps.0.0) in
    let name = left_more (vec_items t.names) i c.in-Some.name.now (iter_rest (zip_second pairs)) (sym inv.names ∙ steps.0.1) in
    record {
      wrote = place_written g.M.FileMeasure.form c.args.self.now c.args.out.now c.loop-i.out c.put_record.new.out c.place_record.result i (enumerate_count c.next.new.self) (sym steps.2) (omega arith) inv.wrote
          (search rules) c.in-Some.rank.now c.in-Some.name.now (omega arith) (rank.1 0) (name.1 c.in-Some.name.now) c.place_record.ensures;
      few = omega arith;
      ranks = search (rules, rank.2);
      names = search (rules, name.2);
    }
