use Rattle.std.proofs.Common.{rules, ◌≡◌, cond, eqb, [], Some, None, sym, refl, subst, arith}
use Rattle.std.specs.List.{fold, range_with_len, slice_get}
use borrow.Author.Tests.{tests}
use Rattle.graph.specs.Kinds.{Direct, Right}
use Rattle.std.proofs.lemmas.Iterator.{YieldsList-from_range}
use Rattle.std.proofs.lemmas.Iterator.Consumers.{fold_from_yields_List}
use Rattle.graph.proofs.Shortest.{right_no_arc}
use Rattle.all_pairs.proofs.Steps.{counted, all_counted}
use Rattle.all_pairs.proofs.direct.shortest.Goals as goal

pub returns : goal.returns
returns g c inside =
    let m = g.M.Length.Measure.laws in
    let map = g.M.Map.graph c.args.map.now in
    let v = c.args.v in
    let to = c.args.w in
    let n = c.arrivals.result in
    let start = c.then_some-empty_way.result in
    let empty_is : cond (eqb v to) (Some m.zero) None ≡ start = search (rules, tests) in
    let empty : Right m map (Direct []) v to start = subst (Right m map (Direct []) v to) empty_is (right_no_arc m map v to inside) in
    let folded : c.fold.result ≡ fold (λ o i. counted m v o (slice_get (map.arriving to) i)) start (range_with_len 0 n) =
    fold_from_yields_List _ (λ o i. counted m v o (slice_get (map.arriving to) i)) start c.fold.result c.fold.ensures.ran (YieldsList-from_range 0 n n refl (omega arith)) (λ o i r q k. search (rules, tests)) in
    subst (Right m map (Direct (map.arriving to)) v to) (sym folded) (all_counted m map v to n 0 start (omega arith) empty)
