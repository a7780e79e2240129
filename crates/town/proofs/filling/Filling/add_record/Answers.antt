use Rattle.std.proofs.lemmas.Result.{err_from_is_err_and}
use Rattle.town_record.specs.Rules.{Lowest}
use Rattle.town.proofs.Adding.{so_by_records, place_fits, place_added, arc_fits, arc_added}
use Rattle.town.proofs.filling.Filling.add_record.Goals as goal

pub add_place-requires : goal.add_place-requires
add_place-requires g c =
    let entry = c.in_ok-rank.field-0 in
    place_fits g.M.FileMeasure.form c.args.self.now c.args.record.now c.so_far.result c.so_far.ensures entry c.in_ok-rank.ensures c.in-Place.rank c.in-Place.name c.in-Place.is

pub add_arc-requires : goal.add_arc-requires
add_arc-requires g c =
    let entry = c.in_ok-rank.field-0 in
    let fits = arc_fits g.M.FileMeasure.form c.args.self.now c.args.record.now c.so_far.result c.so_far.ensures entry c.in_ok-rank.ensures c.in-Arc.arc c.in-Arc.is in
    record { from = fits.0; to = fits.1; order = fits.2; room = fits.3 }

pub returns-in-Place-clause-holds : goal.returns-in-Place-clause-holds
returns-in-Place-clause-holds g c =
    let entry = c.in_ok-rank.field-0 in
    let added = c.add_place.ensures in
    place_added g.M.FileMeasure.form c.args.self.now c.args.record.now c.so_far.result c.so_far.ensures entry c.in_ok-rank.ensures c.in-Place.rank c.in-Place.name c.in-Place.is
    c.add_place.new.self.tables added.ranks added.names added.arcs

pub returns-in-Arc-clause-holds : goal.returns-in-Arc-clause-holds
returns-in-Arc-clause-holds g c =
    let entry = c.in_ok-rank.field-0 in
    let added = c.add_arc.ensures in
    arc_added g.M.FileMeasure.form c.args.self.now c.args.record.now c.so_far.result c.so_far.ensures entry c.in_ok-rank.ensures c.in-Arc.arc c.in-Arc.is
    c.add_arc.new.self.tables added.arcs added.ranks added.names

pub returns-in_err-rank-clause-holds : goal.returns-in_err-rank-clause-holds
returns-in_err-rank-clause-holds g c =
    let f = g.M.FileMeasure.form in
    let filling = c.args.self.now in
    let p = err_from_is_err_and c.from_residual.result c.from_residual.ensures.1 in
    λ rs h. rw (p.1, p.2) (so_by_records f filling.tables c.so_far.result (λ z. Lowest f filling.limits z c.args.record.now c.in_err-rank.field-0.0) c.so_far.ensures c.in_err-rank.ensures rs h)
