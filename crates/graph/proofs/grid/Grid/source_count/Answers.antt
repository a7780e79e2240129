use Rattle.std.proofs.Common.{rules, length, ap, ◌∙◌}
use Rattle.std.specs.Slice.Iter.{iter_rest}
use Rattle.std.proofs.lemmas.Iterator.{YieldsList-from_slice}
use Rattle.std.proofs.lemmas.Iterator.Consumers.{YieldsList-from_filter_map, count_from_yields_List}
use Rattle.graph.proofs.Sources.{held}
use Rattle.graph.proofs.grid.Grid.source_count.Goals as goal

pub returns : goal.returns
returns c =
    count_from_yields_List _ _ c.count.ensures.ran
    (YieldsList-from_filter_map _ (λ o. o) (YieldsList-from_slice c.sources-sources.result (ap iter_rest c.filter_map.ensures.source ∙ c.iter.ensures.rest)) c.filter_map.ensures.closure (λ x r q k. search rules))
    ∙ ap length (held c.sources-sources.result ∙ c.sources-sources.ensures)
