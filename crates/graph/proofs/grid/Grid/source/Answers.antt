use Rattle.std.proofs.Common.{rules, sym, ap, ◌∙◌}
use Rattle.std.specs.List.{slice_get}
use Rattle.std.specs.Slice.Iter.{iter_rest}
use Rattle.std.proofs.lemmas.Iterator.{YieldsList-from_slice}
use Rattle.std.proofs.lemmas.Iterator.Adapters.{option_map_id}
use Rattle.std.proofs.lemmas.Iterator.Consumers.{YieldsList-from_filter_map, nth_from_yields_List}
use Rattle.graph.proofs.Sources.{held}
use Rattle.graph.proofs.grid.Grid.source.Goals as goal

pub returns : goal.returns
returns c =
    sym (option_map_id c.nth.result)
    ∙ nth_from_yields_List _ _ _ c.nth.ensures.ran
    (YieldsList-from_filter_map _ (λ o. o) (YieldsList-from_slice c.sources-sources.result (ap iter_rest c.filter_map.ensures.source ∙ c.iter.ensures.rest)) c.filter_map.ensures.closure (λ x r q k. search rules))
    ∙ ap (λ froms. slice_get froms c.args.i) (held c.sources-sources.result ∙ c.sources-sources.ensures)
