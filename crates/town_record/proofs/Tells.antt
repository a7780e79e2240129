-- What a record without fault shows of its bytes and values.
use Rattle.std.proofs.Common.{◌≡◌, ℕ, ◌-◌, Bool, true, false, not, ◌&&◌, ◌||◌, ◌==◌, nat_le, List, is_some, ap, sym, ◌∙◌, arith}
use Rattle.std.specs.List.{between}
use Rattle.std.proofs.lemmas.Bool.{not-false, eqb-true, and_parts, or_parts}
use Rattle.town_record.specs.Bytes.{byte, all_zero}
use Rattle.town_record.specs.FileForms.{FileForm}
use Rattle.town_record.specs.Parts.{is_place, is_arc, name_of, from_of, to_of, length_bytes}
use Rattle.town_record.specs.Rules.{good_name, bad_byte, bad_value}
use Rattle.town_record.specs.declared.before.Before.{Before}

-- an arc's letter is not a place's
pub not_place : (r : List ℕ) → is_arc r ≡ true → is_place r ≡ false
not_place r e = ap (λ b. b == 80) (eqb-true (byte r 0) 65 e)

pub not_arc : (r : List ℕ) → is_place r ≡ true → is_arc r ≡ false
not_arc r e = ap (λ b. b == 65) (eqb-true (byte r 0) 80 e)

-- of what is asked of a place and of an arc, only the one counts
module _ (p a x y : Bool) where
  place_counts : p ≡ true → a ≡ false → (not (p || a) || (p && x) || (a && y)) ≡ x
  place_counts e d = grind arith

  arc_counts : p ≡ false → a ≡ true → (not (p || a) || (p && x) || (a && y)) ≡ y
  arc_counts e d = grind arith

  arc_value_counts : p ≡ false → a ≡ true → ((p && x) || (a && y)) ≡ y
  arc_value_counts e d = grind arith

  some_letter : p ≡ false → (not (p || a) || (p && x) || (a && y)) ≡ false → a ≡ true
  some_letter e d = grind arith

-- without bad bytes: zeros where nothing stands, a good name, and a letter of one kind
module _ (used : ℕ) (r : List ℕ) (good : bad_byte used r ≡ false) where
  pub place_bytes : is_place r ≡ true → (all_zero (between 1 4 r) ≡ true) × (good_name (name_of r) ≡ true)
  place_bytes e = and_parts _ _ (not-false _ (sym (place_counts (is_place r) (is_arc r) _ _ e (not_arc r e)) ∙ good))

  pub arc_bytes : is_arc r ≡ true → (all_zero (between 1 2 r) ≡ true) × (all_zero (between 6 8 r) ≡ true) × (all_zero (between 8 (16 - used) r) ≡ true)
  arc_bytes e =
      let parts = and_parts _ _ (not-false _ (sym (arc_counts (is_place r) (is_arc r) _ _ (not_place r e) e) ∙ good)) in
      let last = and_parts _ _ parts.1 in
      (parts.0, last.0, last.1)

  pub either_letter : is_place r ≡ false → is_arc r ≡ true
  either_letter e = some_letter (is_place r) (is_arc r) _ _ e good

-- the values of an arc: places listed before it, and a length
pub arc_values : {L : Type 0} (f : FileForm L) (before : Before) (r : List ℕ) → bad_value f before r ≡ false → is_arc r ≡ true →
    (nat_le before.places (from_of r) ≡ false) × (nat_le before.places (to_of r) ≡ false) × (is_some (f.length_of (length_bytes f.used r)) ≡ true)
arc_values f before r good e =
    let parts = or_parts _ _ (sym (arc_value_counts (is_place r) (is_arc r) _ _ (not_place r e) e) ∙ good) in
    let last = or_parts _ _ parts.1 in
    (parts.0, last.0, not-false _ last.1)
