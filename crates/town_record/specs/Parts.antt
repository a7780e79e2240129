-- The parts of a record, 16 bytes of a town file.
use Rattle.std.specs.Prelude.{ℕ, ◌-◌, Bool, List, ◌∷◌, ◌++◌, replicate, Option, ◌==◌}
use Rattle.std.specs.Option.{option_map}
use Rattle.std.specs.List.{between}
use Rattle.town_record.specs.Bytes.{byte, two, four, two_bytes, four_bytes}
use Rattle.town_record.specs.FileForms.{FileForm}
use Rattle.town_record.specs.declared.arc_row.ArcRow.{ArcRow}

-- byte 0 is "P" for a place and "A" for an arc
abbrev pub is_place : List ℕ → Bool
is_place r = byte r 0 == 80

abbrev pub is_arc : List ℕ → Bool
is_arc r = byte r 0 == 65

-- of a place: bytes 4 to 7 are the rank, 8 to 15 the name
abbrev pub rank_of : List ℕ → ℕ
rank_of r = four r 4

abbrev pub name_of : List ℕ → List ℕ
name_of r = between 8 16 r

-- of an arc: bytes 2 to 3 are the from-place, 4 to 5 the to-place, 8 to 15 the length, of which the measure uses the rightmost
abbrev pub from_of : List ℕ → ℕ
from_of r = two r 2

abbrev pub to_of : List ℕ → ℕ
to_of r = two r 4

abbrev pub length_bytes : ℕ → List ℕ → List ℕ
length_bytes used r = between (16 - used) 16 r

-- the arc that a record lists, if its length is one
abbrev pub arc_of : {L : Type 0} → FileForm L → List ℕ → Option (ArcRow L)
arc_of f r = option_map (λ l. record { from = from_of r; to = to_of r; length = l }) (f.length_of (length_bytes f.used r))

-- the record of a place, and of an arc; what is unused is zero
abbrev pub place_record : ℕ → List ℕ → List ℕ
place_record rank name = 80 ∷ 0 ∷ 0 ∷ 0 ∷ (four_bytes rank ++ name)

abbrev pub arc_record : {L : Type 0} → FileForm L → ArcRow L → List ℕ
arc_record f a =
    65 ∷ 0 ∷ (two_bytes a.from ++ (two_bytes a.to ++ (0 ∷ 0 ∷ (replicate (8 - f.used) 0 ++ f.bytes_of a.length))))
