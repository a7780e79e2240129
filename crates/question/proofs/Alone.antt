-- A question is told by its letter and its numbers.
use Rattle.std.proofs.Common.{◌≡◌, ℕ, ◌+◌, ◌-◌, ◌<◌, ◌≤◌, List, ◌++◌, length, drop, set, replicate, sym, ap, ◌∙◌, arith}
use mathlib.Core.HLevel.{is_prop→PathP}
use mathlib.Core.List.{is_set}
use native.Mathlib.Bridge.{le_prop}
use native.Mathlib.Nat.{ℕ_set}
use Rattle.std.proofs.lemmas.List.{length-take-le, take-append-drop, drop-drop, drop-replicate, drop-set-lt}
use Rattle.question.specs.Questions.{places_of, letter_of, numbers_of}
use Rattle.question.specs.declared.form.Question.{Question}
use Rattle.question.specs.declared.form.Question.TheVariants.{Found, Sweep, TakeBack, Sample, JointSample}
use Rattle.question.specs.declared.places.Places.{Places}

-- a place more leaves zeros after it
pub blank_put : (items : List ℕ) (count place : ℕ) → drop count items ≡ replicate (38 - count) 0 → drop (count + 1) (set items count place) ≡ replicate (38 - (count + 1)) 0
blank_put items count place blank =
    drop-set-lt (count + 1) items count place (omega arith)
    ∙ (sym (drop-drop 1 count items)
    ∙ (ap (drop 1) blank ∙ (drop-replicate 1 (38 - count) 0 ∙ ap (λ (k : ℕ). replicate k 0) {x = 38 - count - 1} {y = 38 - (count + 1)} (omega arith))))

module _ (p r : Places) (same : places_of p ≡ places_of r) where
  long : (q : Places) → length (places_of q) ≡ q.count
  long q = length-take-le q.count q.items (omega (arith, q.sized, q.bounded))

  counts : p.count ≡ r.count
  counts = sym (long p) ∙ (ap length same ∙ long r)

  tables : p.items ≡ r.items
  tables =
      sym (take-append-drop p.count p.items)
      ∙ ((λ i. same i ++ (p.blank ∙ (ap (λ (k : ℕ). replicate (38 - k) 0) counts ∙ sym r.blank)) i)
      ∙ take-append-drop r.count r.items)

  same_places : p ≡ r
  same_places = λ i. record {
    items = tables i;
    count = counts i;
    sized = is_prop→PathP (λ j. length (tables j) ≡ 38) (λ j. ℕ_set (length (tables j)) 38) p.sized r.sized i;
    some = is_prop→PathP (λ j. 0 < counts j) (λ j. le_prop) p.some r.some i;
    bounded = is_prop→PathP (λ j. counts j ≤ 38) (λ j. le_prop) p.bounded r.bounded i;
    blank = is_prop→PathP (λ j. drop (counts j) (tables j) ≡ replicate (38 - counts j) 0) (λ j. is_set ℕ_set (drop (counts j) (tables j)) (replicate (38 - counts j) 0)) p.blank r.blank i;
  }

pub same_question : (q r : Question) → letter_of q ≡ letter_of r → numbers_of q ≡ numbers_of r → q ≡ r
same_question (Found k) r l e = grind arith
same_question (Sweep m) r l e = grind arith
same_question (TakeBack m) r l e = grind arith
same_question (Sample place limit) r l e = grind arith
same_question (JointSample limit places) (Found k) l e = grind arith
same_question (JointSample limit places) (Sweep m) l e = grind arith
same_question (JointSample limit places) (TakeBack m) l e = grind arith
same_question (JointSample limit places) (Sample place other) l e = grind arith
same_question (JointSample limit places) (JointSample other others) l e =
    let same : places ≡ others = same_places places others (cc) in
    cc
