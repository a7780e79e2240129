-- A town file: which files are accepted, and how the others are refused.
use Rattle.std.specs.Prelude.{◌≡◌, ℕ, zero, suc, ◌+◌, ◌-◌, ◌*◌, ◌/◌, ◌<◌, ◌⊎◌, List, [], ◌∷◌, ◌++◌, map, length, take, drop, filter, slice_index}
use Rattle.fault.specs.declared.file.FileFault.{FileFault}
use Rattle.fault.specs.declared.file.FileFault.TheVariants.{OutOfRoom}
use Rattle.town_record.specs.FileForms.{FileForm}
use Rattle.town_record.specs.Parts.{is_place, is_arc, to_of}
use Rattle.town_record.specs.Rules.{Faultless, Lowest, fault}
use Rattle.town_record.specs.declared.before.Before.{Before}
use Rattle.town_record.specs.declared.before.Limits.{Limits}
use Rattle.town_record.specs.declared.rule.Rule.{Rule}

-- record i of a file: its 16 bytes from byte 16 i on, or a short rest
abbrev pub record_at : List ℕ → ℕ → List ℕ
record_at file i = take 16 (drop (16 * i) file)

-- how many records a file has, a short rest counted as one
abbrev pub record_count : List ℕ → ℕ
record_count file = (length file + 15) / 16

-- the first n records
abbrev pub records : List ℕ → ℕ → List (List ℕ)
records file zero = []
records file (suc n) = records file n ++ record_at file n ∷ []

-- what stands before a record: how many places and arcs, and the to-place of the last arc, 0 if there is none
abbrev pub seen : List (List ℕ) → Before
seen rs = record {
  places = length (filter is_place rs);
  arcs = length (filter is_arc rs);
  last_to = slice_index (map to_of (filter is_arc rs)) (length (filter is_arc rs) - 1);
}

module _ {L : Type 0} (f : FileForm L) (limits : Limits) (file : List ℕ) where
  -- the first n records are without fault
  abbrev pub CleanTo : ℕ → Type 0
  CleanTo n = (i : ℕ) → i < n → Faultless f limits (seen (records file i)) (record_at file i)

  -- the first faulty record is record i, and the lowest rule that it breaks is this one
  pub record FirstFault (i : ℕ) (rule : Rule) : Type 0 where
    pub inside : i < record_count file
    pub clean : CleanTo i
    pub lowest : Lowest f limits (seen (records file i)) (record_at file i) rule

  -- a file is accepted if it has a record and every record is without fault
  pub record Accepted : Type 0 where
    pub some : 0 < length file
    pub clean : CleanTo (record_count file)

  -- otherwise it is refused: for its first faulty record, or, if it is empty, for want of a place
  abbrev pub Rejected : FileFault → Type 0
  Rejected e = ((length file ≡ 0) × (e ≡ OutOfRoom 0)) ⊎ ((i : ℕ) × (rule : Rule) × FirstFault i rule × (e ≡ fault rule i))
