-- The rules of a town file, record by record. A rule is broken or not by a record and by what stands before it.
use Rattle.std.specs.Prelude.{◌≡◌, ℕ, ◌-◌, ◌<◌, Bool, true, false, not, ◌&&◌, ◌||◌, List, length, is_some, ◌==◌, nat_le, nat_lt}
use Rattle.fault.specs.Refusals.{file_refusal}
use Rattle.fault.specs.declared.file.FileFault.{FileFault}
use Rattle.fault.specs.declared.file.FileFault.TheVariants as faults
use Rattle.std.specs.List.{between, list_all}
use Rattle.town_record.specs.Bytes.{byte, all_zero}
use Rattle.town_record.specs.FileForms.{FileForm}
use Rattle.town_record.specs.Parts.{is_place, is_arc, rank_of, name_of, from_of, to_of, length_bytes}
use Rattle.town_record.specs.declared.before.Before.{Before}
use Rattle.town_record.specs.declared.before.Limits.{Limits}
use Rattle.town_record.specs.declared.rule.Rule.{Rule}
use Rattle.town_record.specs.declared.rule.Rule.TheVariants.{PartialRecord, BadByte, BadValue, OutOfOrder, OutOfRoom}

-- name bytes are 20 to 7E hexadecimal, the first never a space
abbrev pub printable : ℕ → Bool
printable b = nat_le 32 b && nat_le b 126

abbrev pub all_printable : List ℕ → Bool
all_printable bs = list_all printable bs

abbrev pub good_name : List ℕ → Bool
good_name bs = not (byte bs 0 == 32) && all_printable bs

-- a bad letter, a bad name byte, or an unused byte that is not zero
abbrev pub bad_byte : ℕ → List ℕ → Bool
bad_byte used r =
    not (is_place r || is_arc r)
    || (is_place r && not (all_zero (between 1 4 r) && good_name (name_of r)))
    || (is_arc r && not (all_zero (between 1 2 r) && (all_zero (between 6 8 r) && all_zero (between 8 (16 - used) r))))

-- a rank 0, a place not yet listed, or a length that is none of the measure
abbrev pub bad_value : {L : Type 0} → FileForm L → Before → List ℕ → Bool
bad_value f before r =
    (is_place r && rank_of r == 0)
    || (is_arc r && (nat_le before.places (from_of r) || (nat_le before.places (to_of r) || not (is_some (f.length_of (length_bytes f.used r))))))

-- a place after an arc, or a to-place below that of the arc before
abbrev pub out_of_order : Before → List ℕ → Bool
out_of_order before r = (is_place r && nat_lt 0 before.arcs) || (is_arc r && nat_lt (to_of r) before.last_to)

-- more places or arcs than the limits allow
abbrev pub out_of_room : Limits → Before → List ℕ → Bool
out_of_room limits before r =
    (is_place r && nat_le limits.places before.places) || (is_arc r && nat_le limits.arcs before.arcs)

-- whether a record breaks a rule; one that is not whole, 16 bytes, is a short rest
abbrev pub breaks : {L : Type 0} → FileForm L → Limits → Before → List ℕ → Rule → Bool
breaks f limits before r PartialRecord = not (length r == 16)
breaks f limits before r BadByte = bad_byte f.used r
breaks f limits before r BadValue = bad_value f before r
breaks f limits before r OutOfOrder = out_of_order before r
breaks f limits before r OutOfRoom = out_of_room limits before r

-- the fault that tells a rule broken at record i
abbrev pub fault : Rule → ℕ → FileFault
fault PartialRecord i = faults.PartialRecord i
fault BadByte i = faults.BadByte i
fault BadValue i = faults.BadValue i
fault OutOfOrder i = faults.OutOfOrder i
fault OutOfRoom i = faults.OutOfRoom i

-- the number of a rule is that of its refusal
abbrev pub rule_number : Rule → ℕ
rule_number rule = (file_refusal (fault rule 0)).number

-- a record without fault breaks no rule
abbrev pub Faultless : {L : Type 0} → FileForm L → Limits → Before → List ℕ → Type 0
Faultless f limits before r = (rule : Rule) → breaks f limits before r rule ≡ false

-- the lowest rule that a record breaks
pub record Lowest {L : Type 0} (f : FileForm L) (limits : Limits) (before : Before) (r : List ℕ) (rule : Rule) : Type 0 where
  pub broken : breaks f limits before r rule ≡ true
  pub lower : (other : Rule) → rule_number other < rule_number rule → breaks f limits before r other ≡ false
