use Rattle.std.proofs.Common.{rules, ◌≡◌, ◌%◌, eqb, length, sym, ◌∙◌, filter}
use borrow.Author.Tests.{tests}
use Rattle.std.proofs.lemmas.Iterator.{YieldsList-from_slice}
use Rattle.std.proofs.lemmas.Iterator.Consumers.{YieldsList-from_filter, count_from_yields_List}
use Rattle.std.proofs.lemmas.List.{length-map}
use Rattle.graph_tests.specs.Towns.{from_inside}
use Rattle.graph_tests.proofs.small_town.answer.SmallTownMap.arrivals.Goals as goal

pub returns : goal.returns
returns g c =
    let t = c.args.self.now in
    let counted : c.count.result ≡ length (filter (λ a. eqb (a.0 % t.places) c.args.place) t.arcs.now) =
    count_from_yields_List _ c.count.result c.count.ensures.ran
    (YieldsList-from_filter _ (λ a. eqb (a.0 % t.places) c.args.place) (YieldsList-from_slice t.arcs.now cc) c.filter.ensures.closure (λ x b q k. search (rules, tests))) in
    counted ∙ sym (length-map (filter (λ a. eqb (a.0 % t.places) c.args.place) t.arcs.now) (λ a. from_inside t.places a.1))
