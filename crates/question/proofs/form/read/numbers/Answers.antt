-- Each turn takes a word more, and the last leaves nothing.
use Rattle.std.proofs.Common.{rules, arith}
use Rattle.std.proofs.lemmas.List.{length-take-le}
use Rattle.std.proofs.lemmas.Result.{err_from_is_err_and}
use Rattle.question.proofs.Faults.{none_left, one_put, some_left}
use Rattle.question.proofs.form.read.numbers.Goals as goal

pub returns-in_err-number-clause-read : goal.returns-in_err-number-clause-read
returns-in_err-number-clause-read g c =
    let p = err_from_is_err_and c.from_residual.result c.from_residual.ensures.1 in
    let many = length-take-le c.loop-number.number-index c.loop-number.number-items (omega arith) in
    rw (p.1, p.2) (none_left c.loop-number.invariant.taken g.row.N g.row.N _ c.in_err-number.ensures.read (omega arith) c.requires.few (omega arith) (omega arith))

pub loop-number-preserved : goal.loop-number-preserved
loop-number-preserved g c =
    record {
      taken = one_put c.loop-number.number-items c.loop-number.number-index c.in_ok-number.field-0 (omega arith) c.loop-number.invariant.taken c.next_number.ensures.line c.in_ok-number.ensures.read;
      many = search rules;
    }

pub returns-in_err-end-clause-read : goal.returns-in_err-end-clause-read
returns-in_err-end-clause-read g c =
    let p = err_from_is_err_and c.from_residual-in_err-end.result c.from_residual-in_err-end.ensures.1 in
    let many = length-take-le c.loop-number.number-index c.loop-number.number-items (omega arith) in
    rw (p.1, p.2) (some_left c.loop-number.invariant.taken g.row.N _ c.in_err-end.ensures (omega arith))
