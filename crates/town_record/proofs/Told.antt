-- What no rule is told of, and what a letter of no kind breaks.
use Rattle.std.proofs.Common.{◌≡◌, ◌≢◌, ℕ, true, false, not, List, length, slice_index, sym, ap, arith}
use Rattle.std.proofs.lemmas.Bool.{eq-eqb, ne_eqb}
use Rattle.town_record.specs.FileForms.{FileForm}
use Rattle.town_record.specs.Kinds.{letter_of}
use Rattle.town_record.specs.Parts.{is_place, is_arc}
use Rattle.town_record.specs.Rules.{bad_byte, bad_value, out_of_order, out_of_room, Faultless}
use Rattle.town_record.specs.declared.before.Before.{Before}
use Rattle.town_record.specs.declared.before.Limits.{Limits}
use Rattle.town_record.specs.declared.kind.Kind.{Kind}
use Rattle.town_record.specs.declared.kind.Kind.TheVariants.{Place, Arc}
use Rattle.town_record.specs.declared.rule.Rule.TheVariants.{PartialRecord, BadByte, BadValue, OutOfOrder, OutOfRoom}

-- a letter of no kind is a bad byte
pub no_letter : (used : ℕ) (r : List ℕ) → ((kind : Kind) → letter_of kind ≢ slice_index r 0) → bad_byte used r ≡ true
no_letter used r none =
    let place : is_place r ≡ false = ne_eqb _ _ (λ e. none Place (sym e)) in
    let arc : is_arc r ≡ false = ne_eqb _ _ (λ e. none Arc (sym e)) in
    grind arith

-- a whole record that keeps each rule is without fault
pub faultless : {L : Type 0} (f : FileForm L) (limits : Limits) (before : Before) (r : List ℕ) → length r ≡ 16 → bad_byte f.used r ≡ false → bad_value f before r ≡ false →
    out_of_order before r ≡ false → out_of_room limits before r ≡ false → Faultless f limits before r
faultless f limits before r whole bytes values order room PartialRecord = ap not (eq-eqb _ _ whole)
faultless f limits before r whole bytes values order room BadByte = bytes
faultless f limits before r whole bytes values order room BadValue = values
faultless f limits before r whole bytes values order room OutOfOrder = order
faultless f limits before r whole bytes values order room OutOfRoom = room
