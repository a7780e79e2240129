-- What a record without fault shows beside what stands before it.
use Rattle.std.proofs.Common.{◌≡◌, ℕ, ◌<◌, ◌≤◌, Bool, true, false, ◌&&◌, ◌||◌, ltb, leb, List, Some, None, Option, ap, arith}
use Rattle.std.specs.Option.{option_map}
use Rattle.std.proofs.lemmas.Bool.{leb-false, ltb-false}
use Rattle.town_record.specs.FileForms.{FileForm}
use Rattle.town_record.specs.Parts.{is_place, is_arc, from_of, to_of, length_bytes, arc_of}
use Rattle.town_record.specs.Rules.{Faultless}
use Rattle.town_record.specs.declared.arc_row.ArcRow.{ArcRow}
use Rattle.town_record.specs.declared.before.Before.{Before}
use Rattle.town_record.specs.declared.before.Limits.{Limits}
use Rattle.town_record.specs.declared.rule.Rule.TheVariants.{BadValue, OutOfOrder, OutOfRoom}
use Rattle.town_record.proofs.Tells.{not_place, arc_values}

-- an arc that a record lists has its from-place and to-place
pub listed_ends : {L : Type 0} (f : FileForm L) (r : List ℕ) (a : ArcRow L) → Some a ≡ arc_of f r → (a.from ≡ from_of r) × (a.to ≡ to_of r)
listed_ends {L} f r a h = one (f.length_of (length_bytes f.used r)) h
  where
    one : (o : Option L) → ◌≡◌ {A = Option (ArcRow L)} (Some a) (option_map (λ l. record { from = from_of r; to = to_of r; length = l }) o) → (a.from ≡ from_of r) × (a.to ≡ to_of r)
    one None e = absurd cc
    one (Some l) e = let is : a ≡ record { from = from_of r; to = to_of r; length = l } = cc in (ap (λ x. x.from) is, ap (λ x. x.to) is)

first_part : (p a x y : Bool) → p ≡ true → ((p && x) || (a && y)) ≡ false → x ≡ false
first_part p a x y e h = grind arith

second_part : (p a x y : Bool) → p ≡ false → a ≡ true → ((p && x) || (a && y)) ≡ false → y ≡ false
second_part p a x y d e h = grind arith

module _ {L : Type 0} (f : FileForm L) (limits : Limits) (b : Before) (r : List ℕ) (good : Faultless f limits b r) where
  pub place_judged : is_place r ≡ true → (b.arcs ≡ 0) × (b.places < limits.places)
  place_judged e =
      let order = ltb-false 0 b.arcs (first_part (is_place r) (is_arc r) (ltb 0 b.arcs) (ltb (to_of r) b.last_to) e (good OutOfOrder)) in
      let room = leb-false limits.places b.places (first_part (is_place r) (is_arc r) (leb limits.places b.places) (leb limits.arcs b.arcs) e (good OutOfRoom)) in
      (omega arith, room)

  pub arc_judged : (a : ArcRow L) → is_arc r ≡ true → Some a ≡ arc_of f r → (a.from < b.places) × (a.to < b.places) × (b.last_to ≤ a.to) × (b.arcs < limits.arcs)
  arc_judged a e is =
      let ends = listed_ends f r a is in
      let from = ends.0 in
      let to = ends.1 in
      let values = arc_values f b r (good BadValue) e in
      let low = leb-false b.places (from_of r) values.0 in
      let high = leb-false b.places (to_of r) values.1 in
      let order = ltb-false (to_of r) b.last_to (second_part (is_place r) (is_arc r) (ltb 0 b.arcs) (ltb (to_of r) b.last_to) (not_place r e) e (good OutOfOrder)) in
      let room = leb-false limits.arcs b.arcs (second_part (is_place r) (is_arc r) (leb limits.places b.places) (leb limits.arcs b.arcs) (not_place r e) e (good OutOfRoom)) in
      (omega arith, omega arith, omega arith, room)
