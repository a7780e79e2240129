-- The forms of the three measures in a file: seconds use 4 bytes, rise 2, fares 8.
use Rattle.std.specs.Prelude.{◌≡◌, ℕ, ◌<◌, cond, List, ◌++◌, length, Some, None, Option, nat_le, refl}
use Rattle.std.proofs.Common.{sym, ap, ◌∙◌, ⊎_elim, arith}
use Rattle.std.specs.List.{AllByRecursion}
use Rattle.std.proofs.lemmas.Bool.{cases_lt, cond-true, cond-false, le-leb, lt-leb}
use Rattle.measure.specs.SecondsLaws.{seconds, same_seconds}
use Rattle.measure.specs.RiseLaws.{rise, same_rise}
use Rattle.measure.specs.FaresLaws.{fares, same_fares}
use Rattle.measure.specs.declared.seconds.Seconds.{Seconds}
use Rattle.measure.specs.declared.rise.Rise.{Rise}
use Rattle.measure.specs.declared.fares.Fares.{Fares}
use Rattle.town_record.specs.Bytes.{two, four, two_bytes, four_bytes}
use Rattle.town_record.specs.ByteLaws.{two_of_bytes, four_of_bytes, two_bytes_back, four_bytes_back, eight_bytes_back, two_below, four_below}
use Rattle.town_record.specs.FileForms.{FileForm}

pub same_some : {X : Type 0} (x y : X) → Some x ≡ Some y → x ≡ y
same_some x y e = cc

-- the number of seconds, in four bytes
abbrev pub seconds_form : FileForm Seconds
seconds_form = record {
  used = 4;
  bytes_of = λ l. four_bytes l.count;
  length_of = λ bs. Some (seconds (four bs 0));
  few = omega arith;
  sized = λ l. refl;
  reads_back = λ l. ap Some (same_seconds _ l (omega (arith, four_of_bytes l.count l.fits)));
  writes_back = λ bs l h b e.
      let n = four_below bs 0 b in
      let c : l.count ≡ four bs 0 = sym (ap (λ x. x.count) (same_some _ _ e)) ∙ omega arith in
      ap four_bytes c ∙ four_bytes_back bs h b;
}

-- the millimetres, in two bytes
abbrev pub rise_form : FileForm Rise
rise_form = record {
  used = 2;
  bytes_of = λ l. two_bytes l.millimetres;
  length_of = λ bs. Some (rise (two bs 0));
  few = omega arith;
  sized = λ l. refl;
  reads_back = λ l. ap Some (same_rise _ l (omega (arith, two_of_bytes l.millimetres l.fits)));
  writes_back = λ bs l h b e.
      let n = two_below bs 0 b in
      let c : l.millimetres ≡ two bs 0 = sym (ap (λ x. x.millimetres) (same_some _ _ e)) ∙ omega arith in
      ap two_bytes c ∙ two_bytes_back bs h b;
}

-- the zones, at most 65,535, in four bytes, and the number of seconds in four
abbrev pub fares_of : List ℕ → Option Fares
fares_of bs = cond (nat_le (four bs 0) 65535) (Some (fares (four bs 0) (seconds (four bs 4)))) None

pub fares_back : (l : Fares) → fares_of (four_bytes l.zones ++ four_bytes l.seconds.count) ≡ Some l
fares_back l =
    let z = four_of_bytes l.zones (omega (arith, l.fits)) in
    let s = four_of_bytes l.seconds.count l.seconds.fits in
    cond-true _ _ _ (le-leb (four (four_bytes l.zones) 0) 65535 (omega (arith, l.fits)))
    ∙ ap Some (same_fares _ l (omega arith) (same_seconds _ _ (omega arith)))

pub fares_forth : (bs : List ℕ) (l : Fares) → length bs ≡ 8 → AllByRecursion (λ b. b < 256) bs → fares_of bs ≡ Some l → four_bytes l.zones ++ four_bytes l.seconds.count ≡ bs
fares_forth bs l h b e = ⊎_elim
    (λ over. let never : ◌≡◌ {A = ℕ} 0 1 = cc (e, cond-false _ _ _ (lt-leb _ _ over)) in absurd (omega arith))
    (λ few.
    let is = same_some _ _ (sym (cond-true _ _ _ (le-leb _ _ few)) ∙ e) in
    let z : l.zones ≡ four bs 0 = sym (ap (λ x. x.zones) is) ∙ omega arith in
    let s : l.seconds.count ≡ four bs 4 = sym (ap (λ x. x.seconds.count) is) ∙ omega (arith, four_below bs 4 b) in
    (λ i. four_bytes (z i) ++ four_bytes (s i)) ∙ eight_bytes_back bs h b)
    (cases_lt 65535 (four bs 0))

abbrev pub fares_form : FileForm Fares
fares_form = record {
  used = 8;
  bytes_of = λ l. four_bytes l.zones ++ four_bytes l.seconds.count;
  length_of = fares_of;
  few = omega arith;
  sized = λ l. refl;
  reads_back = fares_back;
  writes_back = fares_forth;
}
