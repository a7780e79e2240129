use Rattle.std.proofs.Common.{◌≡◌, ◌*◌, ap, ◌∙◌, add-mul, one-mul, arith}
use Rattle.all_pairs.proofs.table.Table.shorten.Goals as goal

pub loop-v-preserved : goal.loop-v-preserved
loop-v-preserved g c =
    let n = c.args.self.now.places in
    let so_far = c.loop-v.invariant in
    let same : c.loop-v.self.places ≡ n = so_far.same_places in
    let more = rw same at c.shorten_from.ensures.right in
    let rest = rw same at c.shorten_from.ensures.rest in
    record {
      same_reference = c.shorten_from.ensures.same_reference ∙ so_far.same_reference;
      same_places = c.shorten_from.ensures.same_places ∙ same;
      right = λ map xs places all.
          let r = so_far.right map xs places all in
          let s = more map xs places r.0 r.1 in
          (s.0, λ k h. s.1 k (omega (arith, add-mul c.loop-v.v 1 n, one-mul n)));
      rest = λ k h. rest k h ∙ so_far.rest k h;
    }

pub returns-clause-right : goal.returns-clause-right
returns-clause-right g c =
    let v = c.loop-v.v in
    let n = c.args.self.now.places in
    let last : v ≡ n = omega (arith, c.loop-v.auto.v-end, c.loop-v-test.false) in
    λ map xs places all. let r = c.loop-v.invariant.right map xs places all in λ k h. r.1 k (omega (arith, ap (λ i. i * n) last))
