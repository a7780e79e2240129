use Rattle.std.proofs.Common.{◌≡◌, ◌/◌, ◌++◌, ◌∷◌, ◌<◌, [], Ok, length, sym, ◌∙◌, subst, arith, rules}
use Rattle.std.specs.Result.{IsErrAnd}
use Rattle.std.proofs.lemmas.Result.{err_from_is_err_and, MatchResult-weaker}
use Rattle.std.proofs.lemmas.Bool.{eqb-false}
use Rattle.town_record.specs.Rules.{Faultless, Lowest, fault}
use Rattle.town.specs.Files.{seen, records, record_at}
use Rattle.town.specs.Holds.{Holds}
use Rattle.town.proofs.Meaning.{has_place}
use Rattle.town.proofs.Passing.{whole_record, passed, told, found, short_rest, clean_more, accepted, holds_more}
use Rattle.town.proofs.filling.Filling.add_file.Goals as goal

pub returns-in_err-map_err-clause-cases : goal.returns-in_err-map_err-clause-cases
returns-in_err-map_err-clause-cases g c =
    let f = g.M.FileMeasure.form in
    let file = c.args.file.now in
    let i = c.loop-i.i-counter in
    let inv = c.loop-i.invariant in
    let inside : i < length file / 16 = let n = c.as_chunks.ensures.front_len in omega arith in
    let p = err_from_is_err_and c.from_residual.result c.from_residual.ensures.1 in
    let mapped = MatchResult-weaker c.add_record.result {P' = λ x. c.map_err.result ≡ Ok x} {Q' = λ rule. IsErrAnd c.map_err.result (λ e. e ≡ fault rule i)} c.map_err.ensures.cases (λ x e. e) (λ rule e. search rules) in
    let told = told c.add_record.result c.map_err.result _ _ i c.in_err-map_err.field-0.0 c.in_err-map_err.was (c.add_record.ensures.holds (records file i) inv.holds) mapped in
    let is = whole_record c.as_chunks.result.0.now (length file / 16) file i c.as_chunks.ensures.front inside in
    rw (p.1, p.2) (found f c.args.self.now.limits file i inv.clean told.0 inside
    (subst (λ l. Lowest f l (seen (records file i)) (record_at file i) told.0) inv.limits (subst (λ r. Lowest f c.loop-i.self.limits (seen (records file i)) r told.0) is told.1)) _ told.2)

pub loop-i-preserved : goal.loop-i-preserved
loop-i-preserved g c =
    let f = g.M.FileMeasure.form in
    let file = c.args.file.now in
    let i = c.loop-i.i-counter in
    let inv = c.loop-i.invariant in
    let inside : i < length file / 16 = let n = c.as_chunks.ensures.front_len in omega arith in
    let is = whole_record c.as_chunks.result.0.now (length file / 16) file i c.as_chunks.ensures.front inside in
    let both = passed c.add_record.result c.map_err.result _ _ c.in_ok-map_err.field-0 c.in_ok-map_err.was c.map_err.ensures.variant (c.add_record.ensures.holds (records file i) inv.holds) in
    record {
      holds = holds_more f file i c.add_record.new.self.tables (subst (λ r. Holds f (records file i ++ r ∷ []) c.add_record.new.self.tables) is both.1);
      clean = clean_more f c.args.self.now.limits file i inv.clean
          (subst (λ l. Faultless f l (seen (records file i)) (record_at file i)) inv.limits (subst (λ r. Faultless f c.loop-i.self.limits (seen (records file i)) r) is both.0));
      limits = c.add_record.ensures.limits ∙ inv.limits;
      same_room = search rules;
    }

pub returns-then-not-is_empty-clause-cases : goal.returns-then-not-is_empty-clause-cases
returns-then-not-is_empty-clause-cases g c =
    let n = c.as_chunks.ensures.front_len in
    let m = c.as_chunks.ensures.back_len in
    let e = eqb-false (length c.as_chunks.result.1.now) 0 (sym c.if-not-is_empty.ensures) in
    short_rest g.M.FileMeasure.form c.args.self.now.limits c.args.file.now c.loop-i.i-counter c.loop-i.invariant.clean (omega arith) (λ h. e (omega arith)) c.at.result (search rules)

pub returns : goal.returns
returns g c =
    let f = g.M.FileMeasure.form in
    let file = c.args.file.now in
    let inv = c.loop-i.invariant in
    let n = c.as_chunks.ensures.front_len in
    let m = c.as_chunks.ensures.back_len in
    let some : 0 < length file = omega (arith, eqb-false (length file) 0 (sym c.if-is_empty.ensures)) in
    let all = accepted f c.args.self.now.limits file c.loop-i.i-counter inv.clean some (omega arith) (search rules) c.loop-i.self.tables inv.holds in
    record { cases = all.0; holds = all.1; some = has_place f c.args.self.now.limits file c.loop-i.self.tables all.0 all.1; limits = inv.limits; same_room = inv.same_room }
