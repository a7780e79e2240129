-- Going through the records of a file.
use Rattle.std.proofs.Common.{◌≡◌, ℕ, zero, suc, ◌+◌, ◌-◌, ◌*◌, ◌/◌, ◌%◌, ◌<◌, eqb, List, [], ◌∷◌, ◌++◌, length, get_or, take, drop, Ok, Err, Result, is_ok, refl, sym, ap, ◌∙◌, subst, inr, ⊎_elim, add-one, arith, length-drop, length-take}
use Rattle.std.proofs.lemmas.Bool.{true≢false, cases_lt, ne_eqb, not_from_false}
use Rattle.std.proofs.lemmas.List.{drop-drop}
use Rattle.std.specs.Result.{MatchResult, IsErrAnd}
use Rattle.std.specs.Simd.{first_chunks}
use Rattle.fault.specs.declared.file.FileFault.{FileFault}
use Rattle.town_record.specs.FileForms.{FileForm}
use Rattle.town_record.specs.Rules.{Faultless, Lowest, fault, rule_number}
use Rattle.town_record.specs.declared.before.Limits.{Limits}
use Rattle.town_record.specs.declared.rule.Rule.{Rule}
use Rattle.town_record.specs.declared.rule.Rule.TheVariants.{PartialRecord, BadByte, BadValue, OutOfOrder, OutOfRoom}
use Rattle.town.specs.declared.tables.Tables.{Tables}
use Rattle.town.specs.Files.{record_at, record_count, records, seen, CleanTo, Accepted, Rejected}
use Rattle.town.specs.Holds.{Holds}

-- the chunks of a file are its whole records
chunk_at : (k : ℕ) (file : List ℕ) (i : ℕ) → i < k → get_or (first_chunks 16 k file) i [] ≡ record_at file i
chunk_at zero file i h = absurd (omega arith)
chunk_at (suc k) file zero h = refl
chunk_at (suc k) file (suc i) h =
    let m : 16 + 16 * i ≡ 16 * suc i = omega arith in
    chunk_at k (drop 16 file) i (omega arith) ∙ ap (take 16) (drop-drop (16 * i) 16 file) ∙ ap (λ j. take 16 (drop j file)) m

pub whole_record : (chunks : List (List ℕ)) (k : ℕ) (file : List ℕ) (i : ℕ) → chunks ≡ first_chunks 16 k file → i < k → get_or chunks i [] ≡ record_at file i
whole_record chunks k file i e h = ap (λ cs. get_or cs i []) e ∙ chunk_at k file i h

-- a function that turns its callee's error into a fault has passed where the callee has
pub passed : {X : Type 0} (r : Result X Rule) (s : Result X FileFault) (P : Type 0) (Q : Rule → Type 0) (x : X) → s ≡ Ok x → is_ok s ≡ is_ok r → MatchResult r (λ _. P) Q → P
passed (Ok x) s P Q y is same h = h
passed (Err rule) s P Q y is same h = absurd (true≢false (sym (ap is_ok is) ∙ same))

-- and otherwise tells the callee's error as that fault
pub told : {X : Type 0} (r : Result X Rule) (s : Result X FileFault) (P : X → Type 0) (Q : Rule → Type 0) (i : ℕ) (e : FileFault) → s ≡ Err e → MatchResult r P Q →
    MatchResult r (λ x. s ≡ Ok x) (λ rule. IsErrAnd s (λ y. y ≡ fault rule i)) → (rule : Rule) × Q rule × (e ≡ fault rule i)
told (Ok x) s P Q i e is h m = absurd cc
told (Err rule) (Ok x) P Q i e is h m = absurd cc
told (Err rule) (Err y) P Q i e is h m = (rule, h, let same : e ≡ y = cc in same ∙ m)

-- no rule is lower than that of whole records
none_lower : {P : Type 0} (other : Rule) → rule_number other < 1 → P
none_lower PartialRecord h = absurd (omega arith)
none_lower BadByte h = absurd (omega arith)
none_lower BadValue h = absurd (omega arith)
none_lower OutOfOrder h = absurd (omega arith)
none_lower OutOfRoom h = absurd (omega arith)

module _ {L : Type 0} (f : FileForm L) (limits : Limits) (file : List ℕ) (i : ℕ) (clean : CleanTo f limits file i) where
  pub found : (rule : Rule) → i < length file / 16 → Lowest f limits (seen (records file i)) (record_at file i) rule → (e : FileFault) → e ≡ fault rule i → Rejected f limits file e
  found rule h low e is = inr (i, rule, record { inside = omega arith; clean = clean; lowest = low }, is)

  pub short_rest : i ≡ length file / 16 → (length file % 16 ≡ 0 → ⊥) → (e : FileFault) → e ≡ fault PartialRecord i → Rejected f limits file e
  short_rest all rest e is =
      let long : length (record_at file i) ≡ length file - 16 * i = simp (length-take, length-drop) (omega arith) in
      let other : length (record_at file i) ≡ 16 → ⊥ = λ h. rest (omega arith) in
      inr (
        i,
        PartialRecord,
        record {
          inside = omega arith;
          clean = clean;
          lowest = record {
            broken = not_from_false (eqb (length (record_at file i)) 16) (ne_eqb (length (record_at file i)) 16 other);
            lower = λ o h. none_lower o h;
          };
        },
        is,
      )

  pub clean_more : Faultless f limits (seen (records file i)) (record_at file i) → CleanTo f limits file (i + 1)
  clean_more good j h = ⊎_elim (clean j) (λ high. let e : i ≡ j = omega arith in subst (λ k. Faultless f limits (seen (records file k)) (record_at file k)) e good) (cases_lt j i)

  pub accepted : 0 < length file → i ≡ length file / 16 → length file % 16 ≡ 0 → (t : Tables L) → Holds f (records file i) t → Accepted f limits file × Holds f (records file (record_count file)) t
  accepted some all even t h =
      let e : i ≡ record_count file = omega arith in
      (record { some = some; clean = subst (λ n. CleanTo f limits file n) e clean }, subst (λ n. Holds f (records file n) t) e h)

pub holds_more : {L : Type 0} (f : FileForm L) (file : List ℕ) (i : ℕ) (t : Tables L) → Holds f (records file i ++ record_at file i ∷ []) t → Holds f (records file (i + 1)) t
holds_more f file i t h = subst (λ n. Holds f (records file n) t) (sym (add-one i)) h
