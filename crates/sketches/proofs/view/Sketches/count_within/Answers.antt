use Rattle.std.proofs.Common.{◌≡◌, length, filter, sym, ◌∙◌, rules, tests}
use Rattle.std.proofs.lemmas.Iterator.Consumers.{YieldsList-from_first, YieldsList-from_filter, YieldsList-at, count_from_yields_List}
use Rattle.tables.specs.Walks.{plain_sketch}
use Rattle.sketches.specs.Reader.{entries_left}
use Rattle.sketches.proofs.Counted.{counted}
use Rattle.sketches.proofs.view.Sketches.count_within.Goals as goal

pub returns : goal.returns
returns g c =
    let m = g.M.Measure.laws in
    let rows = g.M.Measure.encoding in
    let es = plain_sketch c.args.self.now.home.now c.args.self.now.cells.now c.args.v in
    let passed : c.count.result ≡ length (filter (λ e. m.at_most (rows.reads e.length) c.args.limit) es) =
    count_from_yields_List c.filter.result _ c.count.ensures.ran
    (YieldsList-from_filter _ _ (YieldsList-at c.filter.ensures.source (YieldsList-from_first (λ e. e) entries_left es c.entries.ensures.whole)) c.filter.ensures.closure (λ x r q k. search (rules, tests))) in
    passed ∙ sym (counted m rows c.args.limit es)
