-- Where reading stops, no line of the same letter agrees further, and some line agrees so far.
use Rattle.std.proofs.Common.{◌≡◌, ℕ, zero, suc, ◌+◌, ◌-◌, ◌*◌, ◌^◌, ◌<◌, ◌≤◌, true, false, leb, List, [], ◌∷◌, ◌++◌, length, get_or, take, drop, replicate, decimal, sym, refl, ap, ◌∙◌, subst, ⊎_elim, append_assoc, arith, length-append}
use Rattle.std.proofs.lemmas.Bool.Decides.{leb_tells}
use Rattle.std.proofs.lemmas.Fmt.{decimal_digit}
use Rattle.std.proofs.lemmas.List.{append-nil, take_at, get_or_at, drop_more, drop_all, length-replicate, get_or-append-add, get_or_append_left}
use Rattle.question_lines.specs.Lines.{spaced, Fit, Share, MostShared}
use Rattle.question_lines.specs.Words.{NoWord, Lettered, Lettering}
use Rattle.question_lines.proofs.Numbers.{some_digits, few_digits, byte_of_decimal}
use Rattle.question_lines.proofs.SoFar.{SoFar, goes_on, spaced_append, fit_append, fit_after, shared_byte, same_spaced}

-- a line that was read to its end
pub read_whole : (letter : ℕ) (line ns : List ℕ) (at : ℕ) → SoFar letter line ns at → at ≡ length line → line ≡ letter ∷ spaced ns
read_whole letter line ns at s e =
    s.front ∙ (ap (λ (l : List ℕ). (letter ∷ spaced ns) ++ l) (drop_all at line (omega arith)) ∙ append-nil (letter ∷ spaced ns))

pub lettering : (line ns : List ℕ) (at : ℕ) → SoFar (get_or line 0 0) line ns at → at ≡ length line → Lettering line ns
lettering line ns at s e =
    let text = read_whole (get_or line 0 0) line ns at s e in
    record { writes = text; fit = s.fit; alone = λ ms f w. same_spaced ms ns f s.fit (let h : get_or line 0 0 ∷ spaced ms ≡ get_or line 0 0 ∷ spaced ns = sym w ∙ text in cc) }

-- a number takes two bytes at least and eleven at most
pub spaced_many : (ns : List ℕ) → Fit ns → 2 * length ns ≤ length (spaced ns)
spaced_many [] f = omega arith
spaced_many (n ∷ ns) f = omega (arith, some_digits n f.0, spaced_many ns f.1, length-append (decimal n) (spaced ns))

spaced_few : (ns : List ℕ) → Fit ns → length (spaced ns) ≤ 11 * length ns
spaced_few [] f = omega arith
spaced_few (n ∷ ns) f = omega (arith, few_digits n f.0, spaced_few ns f.1, length-append (decimal n) (spaced ns))

fit_zeros : (k : ℕ) → Fit (replicate k 0)
fit_zeros zero = tt
fit_zeros (suc k) = (omega arith, fit_zeros k)

spaced_zeros : (k : ℕ) → length (spaced (replicate k 0)) ≡ 2 * k
spaced_zeros zero = refl
spaced_zeros (suc k) =
    let one : length (decimal 0) ≡ 1 = ap length (decimal_digit 0 (omega arith)) in
    omega (arith, spaced_zeros k, length-append (decimal 0) (spaced (replicate k 0)))

-- two lists with a front in common share its bytes
common : (front xs ys a b : List ℕ) (n : ℕ) → a ≡ front ++ xs → b ≡ front ++ ys → n ≡ length front → Share n a b
common front xs ys a b n is-a is_b e =
    record {
      within_a = omega (arith, ap length is-a, length-append front xs);
      within_b = omega (arith, ap length is_b, length-append front ys);
      same = ap (take n) is-a ∙ (take_at front xs n (sym e) ∙ (sym (take_at front ys n (sym e)) ∙ ap (take n) (sym is_b)));
    }

module _ (letter fewest most : ℕ) (line ns : List ℕ) (at : ℕ) (s : SoFar letter line ns at) (short : length line ≤ 80) where
  -- what follows the numbers read in a line that goes on
  pub record Goes_on (ms : List ℕ) (n : ℕ) : Type 0 where
    pub longer : length ns < length ms
    pub space : get_or line at 0 ≡ 32
    pub room : at + 2 ≤ length (letter ∷ spaced ms)
    pub digit : at + 1 < n → (48 ≤ get_or line (at + 1) 0) × (get_or line (at + 1) 0 ≤ 57)

  -- any line of this letter that agrees further goes on with a space and a digit
  after : (ms : List ℕ) (n : ℕ) → Fit ms → at < n → Share n line (letter ∷ spaced ms) → Goes_on ms n
  after ms n f l sh =
      record {
        longer = omega (arith, ap length on.2, length-append ns (on.0 ∷ on.1));
        space = shared_byte n line (letter ∷ spaced ms) at sh l ∙ (ap (λ (t : List ℕ). get_or t at 0) other ∙ get_or_at (letter ∷ spaced ns) 32 (decimal on.0 ++ spaced on.1) 0 at (sym s.long));
        room = omega (arith, s.long, ap length other, length-append (letter ∷ spaced ns) (32 ∷ (decimal on.0 ++ spaced on.1)), length-append (decimal on.0) (spaced on.1), some_digits on.0 fits);
        digit = λ h. subst (λ (b : ℕ). (48 ≤ b) × (b ≤ 57)) (sym (byte h)) (byte_of_decimal on.0 0 fits (some_digits on.0 fits));
      }
    where
      on : (m : ℕ) × (rest : List ℕ) × (ms ≡ ns ++ (m ∷ rest))
      on = goes_on letter line ns ms at n s f l sh

      fits : on.0 < 2 ^ 32
      fits = (fit_after ns (on.0 ∷ on.1) (subst Fit on.2 f)).0

      other : letter ∷ spaced ms ≡ (letter ∷ spaced ns) ++ (32 ∷ (decimal on.0 ++ spaced on.1))
      other = ap (λ (t : List ℕ). letter ∷ spaced t) on.2 ∙ ap (λ (t : List ℕ). letter ∷ t) (spaced_append ns (on.0 ∷ on.1))

      byte : at + 1 < n → get_or line (at + 1) 0 ≡ get_or (decimal on.0) 0 0
      byte h =
          shared_byte n line (letter ∷ spaced ms) (at + 1) sh h
          ∙ (ap (λ (t : List ℕ). get_or t (at + 1) 0) other
          ∙ (ap (λ (i : ℕ). get_or ((letter ∷ spaced ns) ++ (32 ∷ (decimal on.0 ++ spaced on.1))) (i + 1) 0) s.long
          ∙ (get_or-append-add (letter ∷ spaced ns) (32 ∷ (decimal on.0 ++ spaced on.1)) 1 0
          ∙ get_or_append_left (decimal on.0) (spaced on.1) 0 0 (some_digits on.0 fits))))

  -- the line of the numbers read and some zeros
  zeros_write : (k : ℕ) → letter ∷ spaced (ns ++ replicate k 0) ≡ (letter ∷ spaced ns) ++ spaced (replicate k 0)
  zeros_write k = ap (λ (t : List ℕ). letter ∷ t) (spaced_append ns (replicate k 0))

  with_zeros : (k : ℕ) → fewest ≤ length ns + k → length ns + k ≤ most → at + 2 * k ≤ 80 → Lettered letter fewest most (letter ∷ spaced (ns ++ replicate k 0))
  with_zeros k many few room =
      let long : length (ns ++ replicate k 0) ≡ length ns + k = length-append ns (replicate k 0) ∙ ap (λ (i : ℕ). length ns + i) (length-replicate k 0) in
      let bytes : length (letter ∷ spaced (ns ++ replicate k 0)) ≡ at + 2 * k =
      ap length (zeros_write k) ∙ (length-append (letter ∷ spaced ns) (spaced (replicate k 0)) ∙ omega (arith, spaced_zeros k, s.long)) in
      record {
        numbers = ns ++ replicate k 0;
        many = omega arith;
        few = omega arith;
        fit = fit_append ns (replicate k 0) s.fit (fit_zeros k);
        writes = refl;
        short = omega arith;
      }

  -- it agrees as far as the numbers go
  agrees : (k : ℕ) → Share at line (letter ∷ spaced (ns ++ replicate k 0))
  agrees k = common (letter ∷ spaced ns) (drop at line) (spaced (replicate k 0)) line (letter ∷ spaced (ns ++ replicate k 0)) at s.front (zeros_write k) s.long

  -- and by a space more, if there is a zero
  agrees_more : (k : ℕ) → at < length line → get_or line at 0 ≡ 32 → Share (at + 1) line (letter ∷ spaced (ns ++ replicate (suc k) 0))
  agrees_more k near space =
      let here : drop at line ≡ 32 ∷ drop (at + 1) line = drop_more line at 0 near ∙ ap (λ (b : ℕ). b ∷ drop (at + 1) line) space in
      let text : line ≡ ((letter ∷ spaced ns) ++ (32 ∷ [])) ++ drop (at + 1) line =
      s.front ∙ (ap (λ (t : List ℕ). (letter ∷ spaced ns) ++ t) here ∙ sym (append_assoc (letter ∷ spaced ns) (32 ∷ []) (drop (at + 1) line))) in
      let other : letter ∷ spaced (ns ++ replicate (suc k) 0) ≡ ((letter ∷ spaced ns) ++ (32 ∷ [])) ++ (decimal 0 ++ spaced (replicate k 0)) =
      zeros_write (suc k) ∙ sym (append_assoc (letter ∷ spaced ns) (32 ∷ []) (decimal 0 ++ spaced (replicate k 0))) in
      common ((letter ∷ spaced ns) ++ (32 ∷ [])) (drop (at + 1) line) (decimal 0 ++ spaced (replicate k 0)) line (letter ∷ spaced (ns ++ replicate (suc k) 0)) (at + 1) text other
      (omega (arith, s.long, length-append (letter ∷ spaced ns) (32 ∷ [])))

  -- the line goes on past the last number that the letter takes
  pub past_end : at < length line → fewest ≤ length ns → length ns ≡ most → MostShared (Lettered letter fewest most) line at
  past_end near many full =
      record { nearest = letter ∷ spaced (ns ++ replicate 0 0); has = with_zeros 0 (omega arith) (omega arith) (omega arith); shares = agrees 0; no_more = none }
    where
      none : (other : List ℕ) (n : ℕ) → Lettered letter fewest most other → Share n line other → n ≤ at
      none other n w sh =
          let no : at < n → ⊥ = λ l. omega (arith, w.few, (after w.numbers n w.fit l (subst (Share n line) w.writes sh)).longer) in
          omega arith

  module _ (e : ℕ) (stop : NoWord line at e) (few : length ns < most) (two : fewest ≤ 2) (proper : fewest ≤ most) where
    few_bytes : at ≤ 1 + 11 * length ns
    few_bytes = omega (arith, s.long, spaced_few ns s.fit)

    no_further : (other : List ℕ) (n : ℕ) → Lettered letter fewest most other → Share n line other → n ≤ e
    no_further other n w sh = ⊎_elim by_space at_once (leb_tells (at + 1) e)
      where
        on : at < n → Goes_on w.numbers n
        on l = after w.numbers n w.fit l (subst (Share n line) w.writes sh)

        room : at < n → at + 2 ≤ 80
        room l = omega (arith, (on l).room, w.short, ap length w.writes)

        by_space : (leb (at + 1) e ≡ true) × (at + 1 ≤ e) → n ≤ e
        by_space (t, h) =
            let is : e ≡ at + 1 = omega (arith, stop.upto) in
            let no : e < n → ⊥ = λ l.
            let d : (48 ≤ get_or line e 0) × (get_or line e 0 ≤ 57) = subst (λ (i : ℕ). (48 ≤ get_or line i 0) × (get_or line i 0 ≤ 57)) (sym is) ((on (omega arith)).digit (omega arith)) in
            stop.no_digit (omega arith) (omega (arith, sh.within_a)) d.0 d.1 in
            omega arith

        at_once : (leb (at + 1) e ≡ false) × (e < at + 1) → n ≤ e
        at_once (t, h) =
            let is : e ≡ at = omega (arith, stop.from) in
            let no : e < n → ⊥ = λ l. omega (arith, room (omega arith), stop.no_space is (omega (arith, sh.within_a)) (on (omega arith)).space) in
            omega arith

    -- no word stands where the letter takes another
    pub no_word : MostShared (Lettered letter fewest most) line e
    no_word = ⊎_elim by_space at_once (leb_tells (at + 1) e)
      where
        by_space : (leb (at + 1) e ≡ true) × (at + 1 ≤ e) → MostShared (Lettered letter fewest most) line e
        by_space (t, h) =
            let is : at + 1 ≡ e = omega (arith, stop.upto) in
            let space = stop.space (omega arith) in
            record {
              nearest = letter ∷ spaced (ns ++ replicate (suc (fewest - (length ns + 1))) 0);
              has = with_zeros (suc (fewest - (length ns + 1))) (omega arith) (omega arith) (omega (arith, space.1, few_bytes));
              shares = subst (λ (i : ℕ). Share i line (letter ∷ spaced (ns ++ replicate (suc (fewest - (length ns + 1))) 0))) is (agrees_more (fewest - (length ns + 1)) (omega (arith, stop.within s.within)) space.0);
              no_more = no_further;
            }

        at_once : (leb (at + 1) e ≡ false) × (e < at + 1) → MostShared (Lettered letter fewest most) line e
        at_once (t, h) =
            let is : at ≡ e = omega (arith, stop.from) in
            record {
              nearest = letter ∷ spaced (ns ++ replicate (fewest - length ns) 0);
              has = with_zeros (fewest - length ns) (omega arith) (omega arith) (omega (arith, few_bytes, s.within));
              shares = subst (λ (i : ℕ). Share i line (letter ∷ spaced (ns ++ replicate (fewest - length ns) 0))) is (agrees (fewest - length ns));
              no_more = no_further;
            }

    -- and the line itself is none of the letter's
    pub no_word_none : (at ≡ length line → length ns < fewest) → Lettered letter fewest most line → ⊥
    no_word_none early w = ⊎_elim goes ends (leb_tells (at + 1) (length line))
      where
        itself : Share (length line) line line
        itself = record { within_a = omega arith; within_b = omega arith; same = refl }

        ends : (leb (at + 1) (length line) ≡ false) × (length line < at + 1) → ⊥
        ends (t, h) =
            let is : at ≡ length line = omega (arith, s.within) in
            let same : letter ∷ spaced w.numbers ≡ letter ∷ spaced ns = sym w.writes ∙ read_whole letter line ns at s is in
            let equal : w.numbers ≡ ns = same_spaced w.numbers ns w.fit s.fit (cc) in
            omega (arith, early is, w.many, ap length equal)

        goes : (leb (at + 1) (length line) ≡ true) × (at + 1 ≤ length line) → ⊥
        goes (t, h) =
            let room = (after w.numbers (length line) w.fit (omega arith) (subst (Share (length line) line) w.writes itself)).room in
            omega (arith, no_further line (length line) w itself, stop.upto, room, ap length w.writes)
