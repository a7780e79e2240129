use Rattle.std.proofs.Common.{◌≡◌, ◌+◌, ◌*◌, ◌≤◌, length, Some, refl, ap, ◌∙◌, arith}
use Rattle.all_pairs.proofs.Steps.{inside, put_step, pass_step, same_set, same_pass}
use Rattle.all_pairs.proofs.table.Table.shorten_from.Goals as goal
use Rattle.all_pairs.proofs.table.Table.shorten_from.Goals.{in-Some, in_default}

pub loop-w-init : goal.loop-w-init
loop-w-init g c = record {
  same_reference = refl;
  same_places = refl;
  right = λ map xs places all rows. (all, λ k h. rows k (omega arith));
  rest = λ k h. refl;
}

pub loop-w-preserved : goal.loop-w-preserved
loop-w-preserved g c =
    let m = g.L.Measure.laws in
    let e = g.L.Measure.encoding in
    let n = c.args.self.now.places in
    let x = c.args.x in
    let v = c.args.v in
    let to = c.loop-w.w in
    let start = c.args.self.now.rows.now in
    let table = c.loop-w.self.rows.now in
    let after = c.match-joined.self.rows.now in
    let so_far = c.loop-w.invariant in
    let same : c.loop-w.self.places ≡ n = so_far.same_places in
    let whole : n * n ≤ length table = rw same at c.loop-w.self.whole in
    let first = rw same at c.at.ensures in
    let second = rw same at c.at-in-loop-w.ensures in
    elim c.match-joined.branch [
      | in-Some w ↦
          let old = rw same at w.at-in-Some.ensures in
          let written = rw same at w.put.ensures.written in
          let after_is : after ≡ w.put.new.self.rows.now = ap (λ t. t.rows.now) w.self-is in
          record {
            same_reference = ap (λ t. t.rows.ghost_name) w.self-is ∙ w.put.ensures.same_reference ∙ so_far.same_reference;
            same_places = ap (λ t. t.places) w.self-is ∙ w.put.ensures.same_places ∙ same;
            right = λ map xs places all rows.
                put_step m e map n places xs x v to table w.put.new.self.rows.now after c.at.result c.at-in-loop-w.result c.joined.result w.at-in-Some.result w.shorter-least.result w.in-Some.by
                c.requires.x_inside c.requires.v_inside (omega arith) whole
                first second c.joined.ensures w.in-Some.is old w.shorter-least.ensures written after_is
                (so_far.right map xs places all rows);
            rest = same_set (n * n) (n * n) (v * n + to) start table w.put.new.self.rows.now after (Some (e.writes w.shorter-least.result))
                written after_is (omega arith) (inside n v to c.requires.v_inside (omega arith)) so_far.rest;
          }
      | in_default w ↦
          let after_is : after ≡ table = ap (λ t. t.rows.now) w.self-is in
          record {
            same_reference = ap (λ t. t.rows.ghost_name) w.self-is ∙ so_far.same_reference;
            same_places = ap (λ t. t.places) w.self-is ∙ same;
            right = λ map xs places all rows.
                pass_step m e map n places xs x v to table after c.at.result c.at-in-loop-w.result c.joined.result
                c.requires.x_inside c.requires.v_inside (omega arith)
                first second c.joined.ensures w.in_default.is after_is
                (so_far.right map xs places all rows);
            rest = same_pass (n * n) start table after after_is so_far.rest;
          }
    ]

pub returns-clause-right : goal.returns-clause-right
returns-clause-right g c = λ map xs places all rows. let r = c.loop-w.invariant.right map xs places all rows in (r.0, λ k h. r.1 k (omega arith))
