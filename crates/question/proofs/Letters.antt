-- From the lines of one letter to all allowed lines.
use Rattle.std.proofs.Common.{◌≡◌, ℕ, ◌<◌, ◌≤◌, false, ltb, List, [], ◌∷◌, length, get_or, decimal, MatchBool, sym, refl, ap, ◌∙◌, subst, inl, inr, ◌⊎◌, arith, length-append}
use Rattle.std.proofs.lemmas.Bool.Decides.{nat_tests}
use Rattle.fault.specs.declared.line.LineFault.{LineFault}
use Rattle.fault.specs.declared.line.LineFault.TheVariants.{NoForm, Atlas}
use Rattle.question_lines.specs.Lines.{spaced, Form, Allowed, Share, MostShared}
use Rattle.question.specs.Refused.{Refused, NotLettered}
use Rattle.question.specs.Questions.{letter_of, numbers_of, Reads}
use Rattle.question_lines.specs.Words.{Lettered, Lettering}
use Rattle.question.specs.declared.form.Question.{Question}
use Rattle.question.specs.declared.form.Question.TheVariants.{Found, Sweep, TakeBack, Sample, JointSample}
use Rattle.std.proofs.lemmas.List.{length-take-le}
use Rattle.question.proofs.Alone.{same_question}
use Rattle.question_lines.proofs.Numbers.{few_digits}
use Rattle.question_lines.proofs.SoFar.{shared_byte}
use Rattle.question_lines.proofs.Nearest.{spaced_many}

form_letter : (c : ℕ) (ns : List ℕ) → Form c ns → (c ≡ 75 → ⊥) → (c ≡ 78 → ⊥) → (c ≡ 66 → ⊥) → (c ≡ 83 → ⊥) → (c ≡ 85 → ⊥) → ⊥
form_letter c ns f k n b s u = grind arith

-- a line of at most 80 bytes is not too long
not_long : (n : ℕ) (P Q : Type 0) → n ≤ 80 → Q → MatchBool (ltb 80 n) P Q
not_long n P Q h q = let f : ltb 80 n ≡ false = grind (arith, nat_tests) in rw f q

first_byte : (other : List ℕ) (a : Allowed other) → get_or other 0 0 ≡ a.letter
first_byte other a = ap (λ (l : List ℕ). get_or l 0 0) a.writes

itself : (line : List ℕ) → Share (length line) line line
itself line = record { within_a = omega arith; within_b = omega arith; same = refl }

module _ (line : List ℕ) (short : length line ≤ 80) where
  -- no allowed line begins as the line does
  none_shared : ((other : List ℕ) (n : ℕ) → Allowed other → Share n line other → 0 < n → ⊥) → Refused line (NoForm 0)
  none_shared none =
      let k-0 : Allowed (75 ∷ spaced (0 ∷ [])) =
      record { letter = 75; numbers = 0 ∷ []; form = inl (refl, refl); fit = (omega arith, tt); writes = refl; short = omega (arith, few_digits 0 (omega arith), length-append (decimal 0) []) } in (
        (λ a. none line (length line) a (itself line) (omega (arith, ap length a.writes))),
        not_long (length line) (◌≡◌ {A = ℕ} 0 80) (MostShared Allowed line 0) short
            (record {
              nearest = 75 ∷ spaced (0 ∷ []);
              has = k-0;
              shares = record { within_a = omega arith; within_b = omega arith; same = refl };
              no_more = λ other n a sh. let no : 0 < n → ⊥ = none other n a sh in omega arith;
            }),
      )

  pub empty_refused : length line ≡ 0 → Refused line (NoForm 0)
  empty_refused e = none_shared (λ other n a sh some. omega (arith, sh.within_a))

  pub letter_refused : (get_or line 0 0 ≡ 75 → ⊥) → (get_or line 0 0 ≡ 78 → ⊥) → (get_or line 0 0 ≡ 66 → ⊥) → (get_or line 0 0 ≡ 83 → ⊥) → (get_or line 0 0 ≡ 85 → ⊥) → Refused line (NoForm 0)
  letter_refused k n b s u =
      none_shared
      (λ other i a sh some.
      let is : a.letter ≡ get_or line 0 0 = sym (shared_byte i line other 0 sh some ∙ first_byte other a) in
      form_letter (get_or line 0 0) a.numbers (subst (λ (c : ℕ). Form c a.numbers) is a.form) k n b s u)

  module _ (fewest most : ℕ) (from : (ns : List ℕ) → fewest ≤ length ns → length ns ≤ most → Form (get_or line 0 0) ns) (to : (ns : List ℕ) → Form (get_or line 0 0) ns → length ns ≤ 80 → (fewest ≤ length ns) × (length ns ≤ most)) where
    lettered : (other : List ℕ) (a : Allowed other) → a.letter ≡ get_or line 0 0 → Lettered (get_or line 0 0) fewest most other
    lettered other a is =
        let few : length a.numbers ≤ 80 = omega (arith, spaced_many a.numbers a.fit, a.short, ap length a.writes) in
        let counts = to a.numbers (subst (λ (c : ℕ). Form c a.numbers) is a.form) few in
        record { numbers = a.numbers; many = counts.0; few = counts.1; fit = a.fit; writes = a.writes ∙ ap (λ (c : ℕ). c ∷ spaced a.numbers) is; short = a.short }

    allowed : (other : List ℕ) → Lettered (get_or line 0 0) fewest most other → Allowed other
    allowed other w = record { letter = get_or line 0 0; numbers = w.numbers; form = from w.numbers w.many w.few; fit = w.fit; writes = w.writes; short = w.short }

    pub lettered_refused : (fault : LineFault) → NotLettered fewest most line fault → Refused line fault
    lettered_refused (NoForm e) (none, some, best) = (
      (λ a. none (lettered line a (sym (first_byte line a)))),
      not_long (length line) (e ≡ 80) (MostShared Allowed line e) short
          (record {
            nearest = best.nearest;
            has = allowed best.nearest best.has;
            shares = best.shares;
            no_more = λ other n a sh.
                let no : e < n → ⊥ = λ l.
                omega (arith, best.no_more other n (lettered other a (sym (shared_byte n line other 0 sh (omega arith) ∙ first_byte other a))) sh) in
                omega arith;
          }),
    )
    lettered_refused (Atlas fault) never = never

-- by what a letter takes
pub refused_one : (line : List ℕ) (fault : LineFault) → length line ≤ 80 → (get_or line 0 0 ≡ 75) ⊎ ((get_or line 0 0 ≡ 78) ⊎ (get_or line 0 0 ≡ 66)) → NotLettered 1 1 line fault → Refused line fault
refused_one line fault short letter refused =
    lettered_refused line short 1 1 (λ ns many few. from ns (omega arith)) (λ ns form few. let one = to ns form in (omega arith, omega arith)) fault refused
  where
    from : (ns : List ℕ) → length ns ≡ 1 → Form (get_or line 0 0) ns
    from ns one = grind arith

    to : (ns : List ℕ) → Form (get_or line 0 0) ns → length ns ≡ 1
    to ns form = grind arith

pub refused_two : (line : List ℕ) (fault : LineFault) → length line ≤ 80 → get_or line 0 0 ≡ 83 → NotLettered 2 2 line fault → Refused line fault
refused_two line fault short letter refused =
    lettered_refused line short 2 2 (λ ns many few. from ns (omega arith)) (λ ns form few. let two = to ns form in (omega arith, omega arith)) fault refused
  where
    from : (ns : List ℕ) → length ns ≡ 2 → Form (get_or line 0 0) ns
    from ns two = grind arith

    to : (ns : List ℕ) → Form (get_or line 0 0) ns → length ns ≡ 2
    to ns form = grind arith

pub refused_more : (line : List ℕ) (fault : LineFault) → length line ≤ 80 → get_or line 0 0 ≡ 85 → NotLettered 2 80 line fault → Refused line fault
refused_more line fault short letter refused =
    lettered_refused line short 2 80 (λ ns many few. from ns many) (λ ns form few. (to ns form, few)) fault refused
  where
    from : (ns : List ℕ) → 2 ≤ length ns → Form (get_or line 0 0) ns
    from ns many = grind arith

    to : (ns : List ℕ) → Form (get_or line 0 0) ns → 2 ≤ length ns
    to ns form = grind arith

-- the form of a question
form_of : (q : Question) → Form (letter_of q) (numbers_of q)
form_of (Found k) = inl (refl, refl)
form_of (Sweep m) = inr (inl (refl, refl))
form_of (TakeBack m) = inr (inr (inl (refl, refl)))
form_of (Sample place limit) = inr (inr (inr (inl (refl, refl))))
form_of (JointSample limit places) =
    inr (inr (inr (inr (refl, omega (arith, length-take-le places.count places.items (omega (arith, places.sized, places.bounded)), places.some)))))

-- a line of its letter and these numbers is the question's
pub asks : (line : List ℕ) (q : Question) → length line ≤ 80 → get_or line 0 0 ≡ letter_of q → Lettering line (numbers_of q) → Reads line q
asks line q short is w =
    let text : line ≡ letter_of q ∷ spaced (numbers_of q) = w.writes ∙ ap (λ (c : ℕ). c ∷ spaced (numbers_of q)) is in
    record {
      allowed = record { letter = letter_of q; numbers = numbers_of q; form = form_of q; fit = w.fit; writes = text; short = short };
      writes = text;
      fit = w.fit;
      alone = λ other f e.
          let first : get_or line 0 0 ≡ letter_of other = ap (λ (l : List ℕ). get_or l 0 0) e in
          same_question other q (sym first ∙ is) (w.alone (numbers_of other) f (e ∙ ap (λ (c : ℕ). c ∷ spaced (numbers_of other)) (sym first)));
    }
