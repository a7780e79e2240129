use Rattle.std.proofs.Common.{◌≡◌, ℕ, ◌*◌, ◌≤◌, length, sym, refl, ◌∙◌, subst, ⊎_elim, arith, rules}
use Rattle.std.proofs.lemmas.Bool.{cases_lt}
use Rattle.fault.specs.Causes.{Clear}
use Rattle.graph.proofs.Lists.{below}
use Rattle.all_pairs.specs.Tables.{Accepted, table_causes}
use Rattle.all_pairs.proofs.Steps.{filled, shorten_more}
use Rattle.all_pairs.proofs.least_lengths.Goals as goal

-- no cause to refuse: there is room
enough : (p given : ℕ) → Clear (table_causes p given) → p * p ≤ given
enough p given clear = ⊎_elim (λ h. absurd (clear.0 (p * p) (refl, h))) (λ h. h) (cases_lt given (p * p))

pub invariant_of-table : goal.invariant_of-table
invariant_of-table g c =
    let room = enough (g.M.Map.graph c.args.map.now).places (length c.args.table.now) c.in_ok-places.ensures.1 in
    record { whole = subst (λ n. n * n ≤ length c.args.table.now) (sym c.in_ok-places.ensures.0) room }

pub loop-x-init : goal.loop-x-init
loop-x-init g c = record {
  same_reference = refl;
  same_places = refl;
  right = λ k h. c.fill.ensures.right k (rw c.fill.ensures.same_places at h);
  rest = λ k h. refl;
}

pub loop-x-preserved : goal.loop-x-preserved
loop-x-preserved g c =
    let map = g.M.Map.graph c.args.map.now in
    let n = c.fill.new.table.places in
    let x = c.loop-x.x in
    let so_far = c.loop-x.invariant in
    let same : c.loop-x.table.places ≡ n = so_far.same_places in
    let more = rw same at c.shorten.ensures.right in
    let rest = rw same at c.shorten.ensures.rest in
    let places : map.places ≡ n = sym (c.fill.ensures.same_places ∙ c.in_ok-places.ensures.0) in
    record {
      same_reference = c.shorten.ensures.same_reference ∙ so_far.same_reference;
      same_places = c.shorten.ensures.same_places ∙ same;
      right = shorten_more g.M.Length.Measure.laws g.M.Length.Measure.encoding map (n * n) x c.shorten.new.self.rows.now (more map (below x) places so_far.right);
      rest = λ k h. rest k h ∙ so_far.rest k h;
    }

pub returns-clause-answers : goal.returns-clause-answers
returns-clause-answers g c =
    let m = g.M.Length.Measure.laws in
    let e = g.M.Length.Measure.encoding in
    let map = g.M.Map.graph c.args.map.now in
    let table = c.loop-x.table.rows.now in
    let known = c.in_ok-places.ensures in
    let so_far = c.loop-x.invariant in
    let places : c.fill.new.table.places ≡ map.places = c.fill.ensures.same_places ∙ known.0 in
    let same_reference = so_far.same_reference ∙ c.fill.ensures.same_reference in
    let right = filled m e map c.fill.new.table.places c.loop-x.x table places (omega arith) (omega arith) so_far.right in
    let rest = rw places at so_far.rest in
    let start = rw known.0 at c.fill.ensures.rest in
    let accepted : Accepted m e map c.args.table.now table = (known.1, right, λ k h. rest k h ∙ start k h) in
    subst (λ t. Accepted m e map c.args.table.now t) (search rules) accepted
