-- The letters that tell what a record is of.
use Rattle.std.specs.Prelude.{◌≡◌, ◌≢◌, ℕ, Result, MatchResult}
use Rattle.town_record.specs.declared.kind.Kind.{Kind}
use Rattle.town_record.specs.declared.kind.Kind.TheVariants.{Place, Arc}
use Rattle.town_record.specs.declared.rule.Rule.{Rule}
use Rattle.town_record.specs.declared.rule.Rule.TheVariants.{BadByte}

-- "P" for a place and "A" for an arc
abbrev pub letter_of : Kind → ℕ
letter_of Place = 80
letter_of Arc = 65

-- the result is the kind with this letter; a letter that no kind has breaks the rule of bytes
abbrev pub Decodes : ℕ → Result Kind Rule → Type 0
Decodes letter r = MatchResult r (λ kind. letter_of kind ≡ letter) (λ rule. (rule ≡ BadByte) × ((kind : Kind) → letter_of kind ≢ letter))
