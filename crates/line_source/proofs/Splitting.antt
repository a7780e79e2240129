-- Splitting an input at newlines part by part, with the first bytes of a line kept.
use Rattle.std.proofs.Common.{◌≡◌, ℕ, zero, suc, ◌+◌, ◌<◌, ◌≤◌, ◌==◌, Bool, true, false, cond, not, List, [], ◌∷◌, ◌++◌, map, length, get_or, take, drop, min, sym, refl, ap, ◌∙◌, append_assoc, arith}
use Rattle.std.proofs.Math.Nat.{min_comm}
use Rattle.std.proofs.Math.Seq.{take-append-add}
use Rattle.std.proofs.lemmas.Bool.Decides.{nat_tests}
use Rattle.std.proofs.lemmas.List.{append-nil, get_or-take, length-take-le, take_all, take_min, take-take}
use Rattle.std.proofs.lemmas.List.Sums.{split_at_first, fails_before_first, passes_at_first}
use Rattle.std.specs.List.{position_or_len}
use Rattle.line_source.specs.Sources.{lines_after, kept_lines}

-- what is kept of a line that goes on
take_append : (n : ℕ) (b c x : List ℕ) → take n b ≡ take n c → take n (b ++ x) ≡ take n (c ++ x)
take_append zero b c x e = refl
take_append (suc n) [] [] x e = refl
take_append (suc n) [] (y ∷ c) x e = absurd (omega (arith, ap length e))
take_append (suc n) (z ∷ b) [] x e = absurd (omega (arith, ap length e))
take_append (suc n) (z ∷ b) (y ∷ c) x e =
    let head : z ≡ y = cc in
    let tail : take n b ≡ take n c = cc in
    let more : take n (b ++ x) ≡ take n (c ++ x) = take_append n b c x tail in
    cc

-- lines that begin with the same kept bytes are kept the same
same_kept : (n : ℕ) (b c rest : List ℕ) → take (suc n) b ≡ take (suc n) c → map (take (suc n)) (lines_after b rest) ≡ map (take (suc n)) (lines_after c rest)
same_kept n [] [] [] e = refl
same_kept n [] (y ∷ c) [] e = absurd (omega (arith, ap length e))
same_kept n (x ∷ b) [] [] e = absurd (omega (arith, ap length e))
same_kept n (x ∷ b) (y ∷ c) [] e = ap (λ (l : List ℕ). l ∷ []) e
same_kept n b c (byte ∷ rest) e =
    by (byte == 10) (same_kept n (b ++ (byte ∷ [])) (c ++ (byte ∷ [])) rest (take_append (suc n) b c (byte ∷ []) e))
  where
    by : (t : Bool) → map (take (suc n)) (lines_after (b ++ (byte ∷ [])) rest) ≡ map (take (suc n)) (lines_after (c ++ (byte ∷ [])) rest) → map (take (suc n)) (cond t (b ∷ lines_after [] rest) (lines_after (b ++ (byte ∷ [])) rest)) ≡ map (take (suc n)) (cond t (c ∷ lines_after [] rest) (lines_after (c ++ (byte ∷ [])) rest))
    by true more = ap (λ (l : List ℕ). l ∷ map (take (suc n)) (lines_after [] rest)) e
    by false more = more

-- as many bytes more as there is room for
pub keep_more : (kept bytes : List ℕ) (room : ℕ) → room + length kept ≡ 81 → kept ++ take (min (length bytes) room) bytes ≡ take 81 (kept ++ bytes)
keep_more kept bytes room whole =
    ap (λ (n : ℕ). kept ++ take n bytes) (min_comm (length bytes) room)
    ∙ (ap (λ (l : List ℕ). kept ++ l) (take_min room bytes)
    ∙ (sym (take-append-add kept bytes room) ∙ ap (λ (n : ℕ). take n (kept ++ bytes)) {x = length kept + room} {y = 81} (omega arith)))

abbrev is_newline : ℕ → Bool
is_newline byte = byte == 10

abbrev newline_at : List ℕ → ℕ
newline_at part = position_or_len is_newline part

-- bytes before a newline go on with the line
goes_on : (begun bytes rest : List ℕ) → ((k : ℕ) → k < length bytes → is_newline (get_or bytes k 0) ≡ false) → lines_after begun (bytes ++ rest) ≡ lines_after (begun ++ bytes) rest
goes_on begun [] rest none = ap (λ (l : List ℕ). lines_after l rest) (sym (append-nil begun))
goes_on begun (byte ∷ bytes) rest none =
    let here : is_newline byte ≡ false = none 0 (omega arith) in
    let more = goes_on (begun ++ (byte ∷ [])) bytes rest (λ k h. none (suc k) (omega arith)) in
    rw here (more ∙ ap (λ (l : List ℕ). lines_after l rest) (append_assoc begun (byte ∷ []) bytes))

-- a part without a newline
pub fed_on : (begun part rest : List ℕ) → length part ≤ newline_at part → kept_lines begun (part ++ rest) ≡ kept_lines (take 81 (begun ++ part)) rest
fed_on begun part rest far =
    ap (map (take 81)) (goes_on begun part rest (λ k h. fails_before_first is_newline part k 0 (omega arith)))
    ∙ same_kept 80 (begun ++ part) (take 81 (begun ++ part)) rest (sym (take-take 81 81 (begun ++ part) (omega arith)))

-- a part with one
pub fed_end : (begun part rest : List ℕ) → newline_at part < length part → kept_lines begun (part ++ rest) ≡ take 81 (begun ++ take (newline_at part) part) ∷ kept_lines [] (drop (newline_at part + 1) part ++ rest)
fed_end begun part rest near =
    let before = take (newline_at part) part in
    let newline = get_or part (newline_at part) 0 in
    let left = drop (newline_at part + 1) part ++ rest in
    let none : (k : ℕ) → k < length before → is_newline (get_or before k 0) ≡ false = λ k h.
    let sooner : k < newline_at part = omega (arith, length-take-le (newline_at part) part) in
    ap is_newline (get_or-take (newline_at part) part k 0 sooner) ∙ fails_before_first is_newline part k 0 sooner in
    let split : part ++ rest ≡ before ++ (newline ∷ left) =
    ap (λ (l : List ℕ). l ++ rest) (split_at_first is_newline part 0 near) ∙ append_assoc before (newline ∷ drop (newline_at part + 1) part) rest in
    let ended : lines_after (begun ++ before) (newline ∷ left) ≡ (begun ++ before) ∷ lines_after [] left = rw (passes_at_first is_newline part 0 near) refl in
    ap (kept_lines begun) split ∙ ap (map (take 81)) (goes_on begun before (newline ∷ left) none ∙ ended)

-- at the end of the input
pub last_kept : (begun : List ℕ) → length begun ≤ 81 → kept_lines begun [] ≡ cond (not (length begun == 0)) (begun ∷ []) []
last_kept [] few = refl
last_kept (byte ∷ bytes) few =
    let some : (suc (length bytes) == 0) ≡ false = grind (arith, nat_tests) in
    rw some (ap (λ (l : List ℕ). l ∷ []) (take_all 81 (byte ∷ bytes) (omega arith)))
