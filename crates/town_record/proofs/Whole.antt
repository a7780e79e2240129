-- A record that keeps the rules of bytes is the one written for what it says.
use Rattle.std.proofs.Common.{◌≡◌, ℕ, ◌+◌, ◌-◌, ◌<◌, ◌≤◌, true, false, Some, eqb, List, [], ◌∷◌, ◌++◌, length, get_or, take, drop, replicate, sym, refl, ap, ◌∙◌, arith, length-drop, length-take}
use Rattle.std.specs.List.{between}
use Rattle.std.specs.Option.{option_map}
use Rattle.std.proofs.lemmas.List.{take-append-drop}
use Rattle.std.proofs.lemmas.Slice.{between_to_end}
use Rattle.std.proofs.lemmas.Bool.{and_parts, eqb-true}
use Rattle.town_record.specs.Bytes.{all_zero, two_bytes, four_bytes}
use Rattle.town_record.specs.Entries.{SaysPlace, SaysArc}
use Rattle.town_record.specs.FileForms.{FileForm}
use Rattle.town_record.specs.Parts.{is_place, is_arc, rank_of, name_of, from_of, to_of, length_bytes, place_record, arc_record}
use Rattle.town_record.specs.Rules.{bad_byte}
use Rattle.town_record.specs.declared.arc_row.ArcRow.{ArcRow}
use Rattle.town_record.specs.declared.name.Name.{Name}
use Rattle.town_record.proofs.Spelled.{elements, take_drop_elements, drop_elements, used_bytes, rank_bytes, from_bytes, to_bytes, length_exact}
use Rattle.town_record.proofs.Tells.{place_bytes, arc_bytes}

zeros : (xs : List ℕ) → all_zero xs ≡ true → xs ≡ replicate (length xs) 0
zeros [] e = refl
zeros (x ∷ xs) e =
    let both = and_parts (eqb x 0) (all_zero xs) e in
    let head = eqb-true x 0 both.0 in
    let tail = zeros xs both.1 in
    λ i. head i ∷ tail i

module _ (r : List ℕ) (whole : length r ≡ 16) where
  -- from place to place, the bytes in between
  part_elements : (i n : ℕ) → i + n ≤ 16 → take n (drop i r) ≡ elements r i n
  part_elements i n h = take_drop_elements n i r (omega arith)

  zero_elements : (i n : ℕ) → i + n ≤ 16 → all_zero (take n (drop i r)) ≡ true → elements r i n ≡ replicate n 0
  zero_elements i n h e =
      let long : length (take n (drop i r)) ≡ n = simp (length-take, length-drop) (omega arith) in
      sym (part_elements i n h) ∙ zeros (take n (drop i r)) e ∙ ap (λ k. replicate k 0) long

  whole_place : (rank : ℕ) (name : List ℕ) → get_or r 0 0 ≡ 80 → all_zero (between 1 4 r) ≡ true → four_bytes rank ≡ between 4 8 r → name ≡ between 8 16 r → place_record rank name ≡ r
  whole_place rank name letter unused ranked named =
      let first = zero_elements 1 3 (omega arith) unused in
      let middle = sym (part_elements 4 4 (omega arith)) ∙ sym ranked in
      let last = sym (part_elements 8 8 (omega arith)) ∙ sym named in
      sym (drop_elements 16 0 r whole ∙ (λ i. letter i ∷ (first i ++ (middle i ++ last i))))

  whole_arc : {L : Type 0} (f : FileForm L) (a : ArcRow L) → get_or r 0 0 ≡ 65 → all_zero (between 1 2 r) ≡ true → all_zero (between 6 8 r) ≡ true →
      all_zero (between 8 (16 - f.used) r) ≡ true → two_bytes a.from ≡ between 2 4 r → two_bytes a.to ≡ between 4 6 r →
      f.bytes_of a.length ≡ between (16 - f.used) 16 r → arc_record f a ≡ r
  whole_arc f a letter one two unused from to long =
      let e1 = zero_elements 1 1 (omega arith) one in
      let e2 = sym (part_elements 2 2 (omega arith)) ∙ sym from in
      let e4 = sym (part_elements 4 2 (omega arith)) ∙ sym to in
      let e6 = zero_elements 6 2 (omega arith) two in
      let few = f.few in
      let n : 16 - f.used - 8 ≡ 8 - f.used = omega arith in
      let size : length (take (8 - f.used) (drop 8 r)) ≡ 8 - f.used = simp (length-take, length-drop) (omega arith) in
      let e8 : take (8 - f.used) (drop 8 r) ≡ replicate (8 - f.used) 0 =
      zeros (take (8 - f.used) (drop 8 r)) (ap (λ k. all_zero (take k (drop 8 r))) (sym n) ∙ unused) ∙ ap (λ k. replicate k 0) size in
      let eL : drop (8 - f.used) (drop 8 r) ≡ f.bytes_of a.length =
      ap (drop (8 - f.used)) (sym (between_to_end r 8 16 (omega arith))) ∙ used_bytes r f.used whole f.few ∙ sym long in
      let tail : elements r 8 8 ≡ replicate (8 - f.used) 0 ++ f.bytes_of a.length =
      sym (drop_elements 8 8 r whole) ∙ sym (take-append-drop (8 - f.used) (drop 8 r)) ∙ (λ i. e8 i ++ eL i) in
      sym (drop_elements 16 0 r whole ∙ (λ i. letter i ∷ (e1 i ++ (e2 i ++ (e4 i ++ (e6 i ++ tail i))))))

  module _ (fits : (i : ℕ) → get_or r i 0 < 256) where
    -- what a place's record without bad bytes says
    pub says_place : (used : ℕ) → is_place r ≡ true → bad_byte used r ≡ false → (rank : ℕ) (name : Name) → rank ≡ rank_of r → name.bytes ≡ name_of r → SaysPlace r rank name
    says_place used place good rank name ranked named = record {
      letter = place;
      ranked = ranked;
      named = named;
      written = whole_place rank name.bytes (eqb-true _ _ place) (place_bytes used r good place).0 (ap four_bytes ranked ∙ rank_bytes r whole fits) named;
    }

    -- and an arc's, with a length
    pub says_arc : {L : Type 0} (f : FileForm L) → is_arc r ≡ true → bad_byte f.used r ≡ false → (a : ArcRow L) → a.from ≡ from_of r → a.to ≡ to_of r →
        f.length_of (length_bytes f.used r) ≡ Some a.length → SaysArc f r a
    says_arc {L} f arc good a from to long =
        let bytes = arc_bytes f.used r good arc in
        record {
          letter = arc;
          listed = (λ i. Some (record { from = from i; to = to i; length = a.length })) ∙ ap (option_map (λ (x : L). record { from = from_of r; to = to_of r; length = x })) (sym long);
          written = whole_arc f a (eqb-true _ _ arc) bytes.0 bytes.1 bytes.2 (ap two_bytes from ∙ from_bytes r whole fits) (ap two_bytes to ∙ to_bytes r whole fits) (length_exact r whole fits f a.length long);
        }
