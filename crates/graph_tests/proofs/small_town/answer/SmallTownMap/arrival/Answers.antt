use Rattle.std.proofs.Common.{rules, ◌≡◌, ◌%◌, eqb, Some, None, sym, ap, ◌∙◌, filter}
use borrow.Author.Tests.{tests}
use Rattle.std.specs.List.{slice_get}
use Rattle.std.specs.Option.{option_map}
use Rattle.std.proofs.lemmas.Iterator.{YieldsList-from_slice}
use Rattle.std.proofs.lemmas.Iterator.Consumers.{YieldsList-from_filter, nth_from_yields_List}
use Rattle.graph_tests.proofs.Small.{arc_found}
use Rattle.graph_tests.proofs.small_town.answer.SmallTownMap.arrival.Goals as goal

pub returns-in_err-arc : goal.returns-in_err-arc
returns-in_err-arc g c =
    let t = c.args.self.now in
    let found : option_map (λ a. a.now) c.nth.result ≡ slice_get (filter (λ a. eqb (a.0 % t.places) c.args.place) t.arcs.now) c.args.i =
    nth_from_yields_List c.nth.result _ c.args.i c.nth.ensures.ran
    (YieldsList-from_filter _ (λ a. eqb (a.0 % t.places) c.args.place) (YieldsList-from_slice t.arcs.now cc) c.filter-arriving.ensures.closure (λ x b q k. search (rules, tests))) in
    c.from_residual.ensures ∙ arc_found t.places t.arcs.now c.args.place c.args.i None (ap (option_map (λ a. a.now)) (sym c.in_err-arc.was) ∙ found)

pub returns : goal.returns
returns g c =
    let t = c.args.self.now in
    let found : option_map (λ a. a.now) c.nth.result ≡ slice_get (filter (λ a. eqb (a.0 % t.places) c.args.place) t.arcs.now) c.args.i =
    nth_from_yields_List c.nth.result _ c.args.i c.nth.ensures.ran
    (YieldsList-from_filter _ (λ a. eqb (a.0 % t.places) c.args.place) (YieldsList-from_slice t.arcs.now cc) c.filter-arriving.ensures.closure (λ x b q k. search (rules, tests))) in
    arc_found t.places t.arcs.now c.args.place c.args.i (Some c.in_ok-arc.field-0.now) (ap (option_map (λ a. a.now)) (sym c.in_ok-arc.was) ∙ found)
