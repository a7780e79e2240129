-- Numbers in decimal digits: one more digit, and where a number ends in a text.
use Rattle.std.proofs.Common.{◌≡◌, ℕ, zero, suc, ◌+◌, ◌-◌, ◌*◌, ◌/◌, ◌%◌, ◌^◌, ◌<◌, ◌≤◌, List, [], ◌∷◌, ◌++◌, length, get_or, take, drop, decimal, sym, refl, ap, ◌∙◌, subst, append_assoc, add-one, arith, length-append}
use Rattle.std.specs.Int.{IsInRange}
use Rattle.std.proofs.lemmas.Str.Parse.{IsNumeralModel, numerals_by_fold, tells_by_index}
use Rattle.std.proofs.lemmas.Fmt.{decimal_digit, decimal_step, decimal_nonempty, digits_decimal, digits_value-decimal, first_decimal, length-decimal-le, decimal_injective}
use Rattle.std.proofs.lemmas.List.{take_at, take_all, get_or_at, get_or-drop, drop_more, drop-drop, length-drop}
use Rattle.question_lines.specs.Words.{Extends, Digits, Word}

-- the number that digits write after a number
abbrev read_on : ℕ → List ℕ → ℕ
read_on n [] = n
read_on n (c ∷ cs) = read_on (n * 10 + (c - 48)) cs

abbrev EachDigit : List ℕ → Type 0
EachDigit ds = (i : ℕ) → i < length ds → IsInRange 48 57 (get_or ds i 0)

own : IsNumeralModel EachDigit (read_on 0)
own = numerals_by_fold EachDigit tells_by_index read_on (record { empty = λ n. refl; more = λ n c cs h. refl })

grows : (n : ℕ) (ds : List ℕ) → n ≤ read_on n ds
grows n [] = omega arith
grows n (d ∷ ds) = omega (arith, grows (n * 10 + (d - 48)) ds)

read_on_append : (n : ℕ) (xs ys : List ℕ) → read_on n (xs ++ ys) ≡ read_on (read_on n xs) ys
read_on_append n [] ys = refl
read_on_append n (x ∷ xs) ys = read_on_append (n * 10 + (x - 48)) xs ys

pub byte_of_decimal : (n i : ℕ) → n < 2 ^ 32 → i < length (decimal n) → IsInRange 48 57 (get_or (decimal n) i 0)
byte_of_decimal n i h l = digits_decimal own n (omega arith) i l

pub some_digits : (n : ℕ) → n < 2 ^ 32 → 0 < length (decimal n)
some_digits n h = decimal_nonempty n (omega arith)

pub few_digits : (n : ℕ) → n < 2 ^ 32 → length (decimal n) ≤ 10
few_digits n h = length-decimal-le 10 n (omega arith) (omega arith) (omega arith)

pub decimal_first : (b : ℕ) → 48 ≤ b → b ≤ 57 → decimal (b - 48) ≡ b ∷ []
decimal_first b low high = decimal_digit (b - 48) (omega arith) ∙ ap (λ (x : ℕ). x ∷ []) {x = 48 + (b - 48)} {y = b} (omega arith)

pub decimal_extended : (n b : ℕ) → Extends n b → decimal (n * 10 + (b - 48)) ≡ decimal n ++ (b ∷ [])
decimal_extended n b e =
    let front : (n * 10 + (b - 48)) / 10 ≡ n = omega arith in
    let last : 48 + (n * 10 + (b - 48)) % 10 ≡ b = omega arith in
    let step = decimal_step (n * 10 + (b - 48)) (omega arith) (omega arith) in
    step ∙ (ap (λ (m : ℕ). decimal m ++ ((48 + (n * 10 + (b - 48)) % 10) ∷ [])) front ∙ ap (λ (c : ℕ). decimal n ++ (c ∷ [])) last)

-- a text does not go on with a digit that makes another number
abbrev pub Closed : ℕ → List ℕ → Type 0
Closed n rest = 0 < length rest → Extends n (get_or rest 0 0) → ⊥

-- where one of two fronts of a list is the shorter, the other goes on after it
front_goes_on : (p q xs ys : List ℕ) → p ++ xs ≡ q ++ ys → length p < length q → (b : ℕ) × (u : List ℕ) × (q ≡ p ++ (b ∷ u)) × (xs ≡ b ∷ (u ++ ys))
front_goes_on [] [] xs ys e h = absurd (omega arith)
front_goes_on [] (y ∷ q) xs ys e h = (y, q, refl, e)
front_goes_on (x ∷ p) [] xs ys e h = absurd (omega arith)
front_goes_on (x ∷ p) (y ∷ q) xs ys e h =
    let head : x ≡ y = cc in
    let tail : p ++ xs ≡ q ++ ys = cc in
    let more = front_goes_on p q xs ys tail (omega arith) in
    let whole : (y ∷ q) ≡ (x ∷ p) ++ (more.0 ∷ more.1) = cc more.2 in
    (more.0, more.1, whole, more.3)

-- no digit follows a 0
after_zero : (m n b : ℕ) (u : List ℕ) → n < 2 ^ 32 → decimal n ≡ decimal m ++ (b ∷ u) → 0 < m
after_zero zero n b u fits e =
    let text : decimal n ≡ 48 ∷ (b ∷ u) = e ∙ ap (λ (l : List ℕ). l ++ (b ∷ u)) (decimal_digit 0 (omega arith)) in
    let first : get_or (decimal n) 0 0 ≡ 48 = ap (λ (l : List ℕ). get_or l 0 0) text in
    let long : length (decimal n) ≡ 2 + length u = ap length text ∙ omega arith in
    absurd (two_ways n fits first (omega arith))
  where
    two_ways : (k : ℕ) → k < 2 ^ 32 → get_or (decimal k) 0 0 ≡ 48 → 2 ≤ length (decimal k) → ⊥
    two_ways zero small at_first two = omega (arith, ap length (decimal_digit 0 (omega arith)))
    two_ways (suc k) small at_first two = omega (arith, first_decimal (suc k) (omega arith) (omega arith))
after_zero (suc m) n b u fits e = omega arith

digit_extends : (m n b : ℕ) (u : List ℕ) → m < 2 ^ 32 → n < 2 ^ 32 → decimal n ≡ decimal m ++ (b ∷ u) → Extends m b
digit_extends m n b u fits-m fits-n e =
    let long : length (decimal n) ≡ length (decimal m) + (1 + length u) = ap length e ∙ (length-append (decimal m) (b ∷ u) ∙ omega arith) in
    let at_b : get_or (decimal n) (length (decimal m)) 0 ≡ b = ap (λ (l : List ℕ). get_or l (length (decimal m)) 0) e ∙ get_or_at (decimal m) b u 0 (length (decimal m)) refl in
    let digit = byte_of_decimal n (length (decimal m)) fits-n (omega arith) in
    let value-m : read_on 0 (decimal m) ≡ m = digits_value-decimal own m (omega arith) in
    let value-n : read_on 0 (decimal n) ≡ n = digits_value-decimal own n (omega arith) in
    let value-long : read_on 0 (decimal n) ≡ read_on (read_on 0 (decimal m)) (b ∷ u) = ap (read_on 0) e ∙ read_on_append 0 (decimal m) (b ∷ u) in
    let value_on : read_on (read_on 0 (decimal m)) (b ∷ u) ≡ read_on (m * 10 + (b - 48)) u = ap (λ (k : ℕ). read_on k (b ∷ u)) value-m in
    (omega arith, omega arith, after_zero m n b u fits-n e, omega (arith, grows (m * 10 + (b - 48)) u))

not_longer : (m n : ℕ) (xs ys : List ℕ) → m < 2 ^ 32 → n < 2 ^ 32 → Closed m xs → decimal m ++ xs ≡ decimal n ++ ys → length (decimal m) < length (decimal n) → ⊥
not_longer m n xs ys fits-m fits-n closed e longer =
    let on = front_goes_on (decimal m) (decimal n) xs ys e longer in
    let head : get_or xs 0 0 ≡ on.0 = ap (λ (l : List ℕ). get_or l 0 0) on.3 in
    let some : 0 < length xs = omega (arith, ap length on.3) in
    closed some (subst (Extends m) (sym head) (digit_extends m n on.0 on.1 fits-m fits-n on.2))

-- a number that ends where its text goes on with no digit for it is the only one there
pub same_number : (m n : ℕ) (xs ys : List ℕ) → m < 2 ^ 32 → n < 2 ^ 32 → Closed m xs → Closed n ys → decimal m ++ xs ≡ decimal n ++ ys → m ≡ n
same_number m n xs ys fits-m fits-n closed-m closed-n e =
    let not-below : length (decimal m) < length (decimal n) → ⊥ = not_longer m n xs ys fits-m fits-n closed-m e in
    let not-above : length (decimal n) < length (decimal m) → ⊥ = not_longer n m ys xs fits-n fits-m closed-n (sym e) in
    let long : length (decimal m) ≡ length (decimal n) = omega arith in
    let front : decimal m ≡ decimal n =
    sym (take_at (decimal m) xs (length (decimal m)) refl)
    ∙ (ap (take (length (decimal m))) e ∙ take_at (decimal n) ys (length (decimal m)) (sym long)) in
    decimal_injective m n (omega arith) (omega arith) front

-- a digit is a number
pub first_digit : (digit : ℕ) (rest : List ℕ) → 48 ≤ digit → digit ≤ 57 → digit ∷ rest ≡ decimal (digit - 48) ++ rest
first_digit digit rest low high = ap (λ (l : List ℕ). l ++ rest) (sym (decimal_first digit low high))

-- one digit more
pub next_digit : (rest : List ℕ) (taken n : ℕ) → taken < length rest → Extends n (get_or rest taken 0) → decimal n ++ drop taken rest ≡ decimal (n * 10 + (get_or rest taken 0 - 48)) ++ drop (taken + 1) rest
next_digit rest taken n h x =
    let b = get_or rest taken 0 in
    let left = drop (taken + 1) rest in
    ap (λ (l : List ℕ). decimal n ++ l) (drop_more rest taken 0 h)
    ∙ (sym (append_assoc (decimal n) (b ∷ []) left) ∙ ap (λ (l : List ℕ). l ++ left) (sym (decimal_extended n b x)))

-- a digit and some bytes after it are a number's digits
pub digits_read : (digit : ℕ) (rest : List ℕ) (n taken : ℕ) → digit ∷ rest ≡ decimal n ++ drop taken rest → n < 2 ^ 32 → taken ≤ length rest → (taken < length rest → Extends n (get_or rest taken 0) → ⊥) → Digits (digit ∷ rest) 0 n (taken + 1)
digits_read digit rest n taken text fits within whole =
    rw add-one (record { text = text; fits = fits; some = omega arith; within = omega arith; whole = λ h. whole (omega arith) })

-- after a space they are a word of the line: what is left of it begins with the space, the digit and the rest
pub word_read : (line : List ℕ) (at : ℕ) (left : List ℕ) (n taken : ℕ) → left ≡ drop at line → 2 ≤ length left → get_or left 0 0 ≡ 32 → Digits (get_or left 1 0 ∷ take (length left - 2) (drop 2 left)) 0 n (taken + 1) → Word line at n (at + 2 + taken)
word_read line at left n taken is room space d =
    record { space = begins; digits = record { text = text; fits = d.fits; some = omega arith; within = within; whole = whole } }
  where
    long : at + length left ≡ length line
    long = omega (arith, ap length is, length-drop at line, room)

    begins : get_or line at 0 ≡ 32
    begins = grind (arith, get_or-drop {A = ℕ} at line)

    from_digit : get_or left 1 0 ∷ take (length left - 2) (drop 2 left) ≡ drop (at + 1) line
    from_digit =
        ap (λ (l : List ℕ). get_or left 1 0 ∷ l) (take_all (length left - 2) (drop 2 left) (omega (arith, length-drop 2 left)))
        ∙ (sym (drop_more left 1 0 (omega arith)) ∙ (ap (drop 1) is ∙ drop-drop 1 at line))

    sizes : length (take (length left - 2) (drop 2 left)) + 1 ≡ length line - (at + 1)
    sizes = omega (arith, ap length from_digit, length-drop (at + 1) line)

    text : drop (at + 1) line ≡ decimal n ++ drop (at + 2 + taken) line
    text =
        sym from_digit
        ∙ (d.text
        ∙ ap (λ (l : List ℕ). decimal n ++ l)
        (ap (drop (taken + 1)) from_digit ∙ (drop-drop (taken + 1) (at + 1) line ∙ ap (λ (i : ℕ). drop i line) {x = at + 1 + (taken + 1)} {y = at + 2 + taken} (omega arith))))

    within : at + 2 + taken ≤ length line
    within = omega (arith, d.within, sizes, long)

    same_byte : get_or line (at + 2 + taken) 0 ≡ get_or (get_or left 1 0 ∷ take (length left - 2) (drop 2 left)) (taken + 1) 0
    same_byte =
        ap (λ (i : ℕ). get_or line i 0) {x = at + 2 + taken} {y = at + 1 + (taken + 1)} (omega arith)
        ∙ (sym (get_or-drop (at + 1) line (taken + 1) 0) ∙ ap (λ (l : List ℕ). get_or l (taken + 1) 0) (sym from_digit))

    whole : at + 2 + taken < length line → Extends n (get_or line (at + 2 + taken) 0) → ⊥
    whole h x = d.whole (omega (arith, sizes)) (subst (Extends n) same_byte x)
