-- What a record says.
use Rattle.std.specs.Prelude.{◌≡◌, ℕ, true, List, Some, Result, MatchResult}
use Rattle.town_record.specs.FileForms.{FileForm}
use Rattle.town_record.specs.Parts.{is_place, is_arc, rank_of, name_of, arc_of, place_record, arc_record}
use Rattle.town_record.specs.Rules.{Faultless, Lowest}
use Rattle.town_record.specs.declared.arc_row.ArcRow.{ArcRow}
use Rattle.town_record.specs.declared.before.Before.{Before}
use Rattle.town_record.specs.declared.before.Limits.{Limits}
use Rattle.town_record.specs.declared.entry.Entry.{Entry}
use Rattle.town_record.specs.declared.entry.Entry.TheVariants.{Place, Arc}
use Rattle.town_record.specs.declared.name.Name.{Name}
use Rattle.town_record.specs.declared.rule.Rule.{Rule}

-- the record is a place's, with this rank and name, and is the one written for them
pub record SaysPlace (r : List ℕ) (rank : ℕ) (name : Name) : Type 0 where
  pub letter : is_place r ≡ true
  pub ranked : rank ≡ rank_of r
  pub named : name.bytes ≡ name_of r
  pub written : place_record rank name.bytes ≡ r

-- the record is this arc's, and is the one written for it
pub record SaysArc {L : Type 0} (f : FileForm L) (r : List ℕ) (a : ArcRow L) : Type 0 where
  pub letter : is_arc r ≡ true
  pub listed : Some a ≡ arc_of f r
  pub written : arc_record f a ≡ r

abbrev pub Says : {L : Type 0} → FileForm L → List ℕ → Entry L → Type 0
Says f r (Place rank name) = SaysPlace r rank name
Says f r (Arc a) = SaysArc f r a

-- the result is what a record without fault says, or the lowest rule that the record breaks: what reading a record of either kind comes to
abbrev pub Judged : {L : Type 0} → FileForm L → Limits → Before → List ℕ → Result (Entry L) Rule → Type 0
Judged f limits before r result = MatchResult result (λ e. Faultless f limits before r × Says f r e) (Lowest f limits before r)
