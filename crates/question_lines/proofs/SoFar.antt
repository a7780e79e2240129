-- Reading a line from its letter on, word by word: what is known of all lines that agree with it further than it was read.
use Rattle.std.proofs.Common.{◌≡◌, ℕ, ◌+◌, ◌-◌, ◌<◌, ◌≤◌, List, [], ◌∷◌, ◌++◌, length, get_or, drop, decimal, sym, refl, ap, ◌∙◌, subst, append_assoc, arith, length-append}
use Rattle.std.proofs.lemmas.List.{append-nil, append_cancel_left, get_or_append_left, drop_more, length-drop, get_or-take, get_or-drop}
use Rattle.std.proofs.lemmas.List.Prefix.{front_from_reads}
use Rattle.question_lines.specs.Lines.{spaced, Fit, Share}
use Rattle.question_lines.specs.Words.{Extends, Word, Words}
use Rattle.question_lines.proofs.Numbers.{Closed, same_number}

pub shared_byte : (n : ℕ) (a b : List ℕ) (i : ℕ) → Share n a b → i < n → get_or a i 0 ≡ get_or b i 0
shared_byte n a b i s h = sym (get_or-take n a i 0 h) ∙ (ap (λ (l : List ℕ). get_or l i 0) s.same ∙ get_or-take n b i 0 h)

pub share_back : (n : ℕ) (a b : List ℕ) → Share n a b → Share n b a
share_back n a b s = record { within_a = s.within_b; within_b = s.within_a; same = sym s.same }

-- a list is a front of which it shares every byte, and the rest
pub shared_front : (n : ℕ) (line front rest : List ℕ) → Share n line (front ++ rest) → length front ≤ n → line ≡ front ++ drop (length front) line
shared_front n line front rest s h =
    front_from_reads 0 line front (omega (arith, s.within_a))
    (λ i l. let near : i < n = omega arith in shared_byte n line (front ++ rest) i s near ∙ get_or_append_left front rest 0 i l)

pub spaced_append : (ns ms : List ℕ) → spaced (ns ++ ms) ≡ spaced ns ++ spaced ms
spaced_append [] ms = refl
spaced_append (n ∷ ns) ms =
    ap (λ (l : List ℕ). 32 ∷ l) (ap (λ (l : List ℕ). decimal n ++ l) (spaced_append ns ms) ∙ sym (append_assoc (decimal n) (spaced ns) (spaced ms)))

pub fit_append : (ns ms : List ℕ) → Fit ns → Fit ms → Fit (ns ++ ms)
fit_append [] ms f g = g
fit_append (n ∷ ns) ms f g = (f.0, fit_append ns ms f.1 g)

pub fit_after : (ns ms : List ℕ) → Fit (ns ++ ms) → Fit ms
fit_after [] ms f = f
fit_after (n ∷ ns) ms f = fit_after ns ms f.1

-- after a number comes a space or nothing, and neither extends it
pub closed_spaced : (n : ℕ) (ms : List ℕ) → Closed n (spaced ms)
closed_spaced n [] some e = omega arith
closed_spaced n (m ∷ ms) some e = omega arith

-- numbers are told by what they write
pub same_spaced : (ms ns : List ℕ) → Fit ms → Fit ns → spaced ms ≡ spaced ns → ms ≡ ns
same_spaced [] [] f g e = refl
same_spaced [] (n ∷ ns) f g e = absurd (omega (arith, ap length e))
same_spaced (m ∷ ms) [] f g e = absurd (omega (arith, ap length e))
same_spaced (m ∷ ms) (n ∷ ns) f g e =
    let tail : decimal m ++ spaced ms ≡ decimal n ++ spaced ns = cc in
    let head : m ≡ n = same_number m n (spaced ms) (spaced ns) f.0 g.0 (closed_spaced m ms) (closed_spaced n ns) tail in
    let tail-n : decimal n ++ spaced ms ≡ decimal n ++ spaced ns = ap (λ (k : ℕ). decimal k ++ spaced ms) (sym head) ∙ tail in
    let rest : ms ≡ ns = same_spaced ms ns f.1 g.1 (append_cancel_left (decimal n) (spaced ms) (spaced ns) tail-n) in
    cc

-- a line read as far as a place: its letter and numbers, which every line that agrees with it further begins with too
pub record SoFar (letter : ℕ) (line ns : List ℕ) (at : ℕ) : Type 0 where
  pub front : line ≡ (letter ∷ spaced ns) ++ drop at line
  pub long : at ≡ length (letter ∷ spaced ns)
  pub within : at ≤ length line
  pub fit : Fit ns
  pub only : (ms : List ℕ) (n : ℕ) → Fit ms → at < n → Share n line (letter ∷ spaced ms) → (rest : List ℕ) × (ms ≡ ns ++ rest)

pub start : (line : List ℕ) → 1 ≤ length line → SoFar (get_or line 0 0) line [] 1
start [] h = absurd (omega arith)
start (c ∷ line) h = record { front = refl; long = refl; within = h; fit = tt; only = λ ms n f l s. (ms, refl) }

-- what another line has after the numbers read, if it goes on
pub goes_on : (letter : ℕ) (line ns ms : List ℕ) (at n : ℕ) → SoFar letter line ns at → Fit ms → at < n → Share n line (letter ∷ spaced ms) → (m : ℕ) × (rest : List ℕ) × (ms ≡ ns ++ (m ∷ rest))
goes_on letter line ns ms at n s f l sh = after (s.only ms n f l sh).0 (s.only ms n f l sh).1
  where
    after : (rest : List ℕ) → ms ≡ ns ++ rest → (m : ℕ) × (more : List ℕ) × (ms ≡ ns ++ (m ∷ more))
    after [] e =
        let same : length (spaced ms) ≡ length (spaced ns) = ap (λ (l : List ℕ). length (spaced l)) (e ∙ append-nil ns) in
        absurd (omega (arith, s.long, sh.within_b))
    after (m ∷ more) e = (m, more, e)

pub more : (letter : ℕ) (line ns : List ℕ) (at n next : ℕ) → SoFar letter line ns at → Word line at n next → SoFar letter line (ns ++ (n ∷ [])) next
more letter line ns at n next s w =
    record { front = whole; long = ends; within = w.digits.within; fit = fit_append ns (n ∷ []) s.fit (w.digits.fits, tt); only = only_these }
  where
    near : at < length line
    near = omega (arith, w.digits.some, w.digits.within)

    here : drop at line ≡ 32 ∷ (decimal n ++ drop next line)
    here = drop_more line at 0 near ∙ (ap (λ (b : ℕ). b ∷ drop (at + 1) line) w.space ∙ ap (λ (l : List ℕ). 32 ∷ l) w.digits.text)

    text : line ≡ ((letter ∷ spaced ns) ++ (32 ∷ decimal n)) ++ drop next line
    text = s.front ∙ (ap (λ (l : List ℕ). (letter ∷ spaced ns) ++ l) here ∙ sym (append_assoc (letter ∷ spaced ns) (32 ∷ decimal n) (drop next line)))

    written : spaced (ns ++ (n ∷ [])) ≡ spaced ns ++ (32 ∷ decimal n)
    written = spaced_append ns (n ∷ []) ∙ ap (λ (l : List ℕ). spaced ns ++ (32 ∷ l)) (append-nil (decimal n))

    whole : line ≡ (letter ∷ spaced (ns ++ (n ∷ []))) ++ drop next line
    whole = text ∙ ap (λ (l : List ℕ). (letter ∷ l) ++ drop next line) (sym written)

    lengths : length line ≡ length (letter ∷ spaced (ns ++ (n ∷ []))) + (length line - next)
    lengths = ap length whole ∙ (length-append (letter ∷ spaced (ns ++ (n ∷ []))) (drop next line) ∙ ap (λ (k : ℕ). length (letter ∷ spaced (ns ++ (n ∷ []))) + k) (length-drop next line))

    ends : next ≡ length (letter ∷ spaced (ns ++ (n ∷ [])))
    ends = omega (arith, lengths, w.digits.within)

    only_these : (ms : List ℕ) (k : ℕ) → Fit ms → next < k → Share k line (letter ∷ spaced ms) → (rest : List ℕ) × (ms ≡ (ns ++ (n ∷ [])) ++ rest)
    only_these ms k f l sh =
        let m = on.0 in
        let rest = on.1 in
        let other : letter ∷ spaced ms ≡ (letter ∷ spaced ns) ++ (32 ∷ (decimal m ++ spaced rest)) =
        ap (λ (l : List ℕ). letter ∷ spaced l) on.2 ∙ ap (λ (l : List ℕ). letter ∷ l) (spaced_append ns (m ∷ rest)) in
        let begins : letter ∷ spaced ms ≡ ((letter ∷ spaced ns) ++ (32 ∷ decimal n)) ++ drop (length ((letter ∷ spaced ns) ++ (32 ∷ decimal n))) (letter ∷ spaced ms) =
        shared_front k (letter ∷ spaced ms) ((letter ∷ spaced ns) ++ (32 ∷ decimal n)) (drop next line) (subst (Share k (letter ∷ spaced ms)) text (share_back k line (letter ∷ spaced ms) sh)) (omega (arith, read_long)) in
        let split : letter ∷ spaced ms ≡ (letter ∷ spaced ns) ++ (32 ∷ (decimal n ++ drop next (letter ∷ spaced ms))) =
        begins ∙ (ap (λ (i : ℕ). ((letter ∷ spaced ns) ++ (32 ∷ decimal n)) ++ drop i (letter ∷ spaced ms)) (sym read_long) ∙ append_assoc (letter ∷ spaced ns) (32 ∷ decimal n) (drop next (letter ∷ spaced ms))) in
        let tails : 32 ∷ (decimal m ++ spaced rest) ≡ 32 ∷ (decimal n ++ drop next (letter ∷ spaced ms)) =
        append_cancel_left (letter ∷ spaced ns) (32 ∷ (decimal m ++ spaced rest)) (32 ∷ (decimal n ++ drop next (letter ∷ spaced ms))) (sym other ∙ split) in
        let digits : decimal m ++ spaced rest ≡ decimal n ++ drop next (letter ∷ spaced ms) = cc in
        let next-byte : get_or (drop next (letter ∷ spaced ms)) 0 0 ≡ get_or line next 0 =
        get_or-drop next (letter ∷ spaced ms) 0 0 ∙ (ap (λ (i : ℕ). get_or (letter ∷ spaced ms) i 0) {x = next + 0} {y = next} (omega arith) ∙ sym (shared_byte k line (letter ∷ spaced ms) next sh l)) in
        let closed : Closed n (drop next (letter ∷ spaced ms)) =
        λ some x. w.digits.whole (omega (arith, sh.within_a)) (subst (Extends n) next-byte x) in
        let same : m ≡ n =
        same_number m n (spaced rest) (drop next (letter ∷ spaced ms)) (fit_after ns (m ∷ rest) (subst Fit on.2 f)).0 w.digits.fits (closed_spaced m rest) closed digits in
        (rest, on.2 ∙ (ap (λ (i : ℕ). ns ++ (i ∷ rest)) same ∙ sym (append_assoc ns (n ∷ []) rest)))
      where
        on : (m : ℕ) × (rest : List ℕ) × (ms ≡ ns ++ (m ∷ rest))
        on = goes_on letter line ns ms at k s f (omega (arith, w.digits.some)) sh

        read_long : next ≡ length ((letter ∷ spaced ns) ++ (32 ∷ decimal n))
        read_long = ends ∙ ap (λ (l : List ℕ). length (letter ∷ l)) written

-- several words more
pub more_words : (letter : ℕ) (line ns ms : List ℕ) (at next : ℕ) → SoFar letter line ns at → Words line at ms next → SoFar letter line (ns ++ ms) next
more_words letter line ns [] at next s w =
    subst (λ (l : List ℕ). SoFar letter line l next) (sym (append-nil ns)) (subst (SoFar letter line ns) w s)
more_words letter line ns (m ∷ ms) at next s w =
    subst (λ (l : List ℕ). SoFar letter line l next) (append_assoc ns (m ∷ []) ms)
    (more_words letter line (ns ++ (m ∷ [])) ms w.0 next (more letter line ns at m w.0 s w.1) w.2)
