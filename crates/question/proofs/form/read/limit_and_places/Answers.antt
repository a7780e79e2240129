-- A limit, then places.
use Rattle.std.proofs.Common.{arith}
use Rattle.std.proofs.lemmas.Result.{err_from_is_err_and}
use Rattle.question.proofs.Faults.{first_taken, none_left, none_taken, place_missing, places_taken}
use Rattle.question.proofs.form.read.limit_and_places.Goals as goal
use Rattle.question.specs.Questions.{places_of}

pub returns-in_err-limit : goal.returns-in_err-limit
returns-in_err-limit c =
    let p = err_from_is_err_and c.from_residual.result c.from_residual.ensures.1 in
    rw (p.1, p.2) (none_left (none_taken c.args.words c.requires) 2 80 _ c.in_err-limit.ensures.read (omega arith) (omega arith) (omega arith) (omega arith))

pub returns-in_err-places : goal.returns-in_err-places
returns-in_err-places c =
    let p = err_from_is_err_and c.from_residual-in_err-places.result c.from_residual-in_err-places.ensures.1 in
    rw (p.1, p.2) (place_missing c.in_ok-limit.limit (first_taken c.args.words c.next_number.new.self c.in_ok-limit.limit c.requires c.next_number.ensures.line c.in_ok-limit.ensures.read) _ c.in_err-places.ensures)

pub returns : goal.returns
returns c =
    places_taken c.in_ok-limit.limit (places_of c.in_ok-places.places) (first_taken c.args.words c.next_number.new.self c.in_ok-limit.limit c.requires c.next_number.ensures.line c.in_ok-limit.ensures.read) c.in_ok-places.ensures
