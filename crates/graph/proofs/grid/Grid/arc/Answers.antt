use Rattle.std.proofs.Common.{get_or, arith}
use Rattle.measure.specs.SecondsLaws.{seconds, same_seconds}
use Rattle.graph.proofs.grid.Grid.arc.Goals as goal

pub returns : goal.returns
returns c = λ i. record {
  from = c.args.source;
  length = same_seconds c.new.result (seconds (get_or c.args.self.now.bytes c.args.place 0)) (omega arith) i;
}
