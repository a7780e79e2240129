-- Numbers and their bytes are told from one another.
use Rattle.std.specs.Prelude.{◌≡◌, ℕ, zero, suc, ◌+◌, ◌*◌, ◌/◌, ◌%◌, ◌<◌, List, [], ◌∷◌, ◌++◌, length}
use Rattle.std.proofs.Common.{sym, ap, ◌∙◌, arith}
use Rattle.std.proofs.Math.Nat.{div-div-eq-div-mul}
use Rattle.std.specs.List.{AllByRecursion}
use Rattle.town_record.specs.Bytes.{byte, two, four, two_bytes, four_bytes}

-- the bytes of a number give the number
pub two_of_bytes : (n : ℕ) → n < 65536 → two (two_bytes n) 0 ≡ n
two_of_bytes n h = omega arith

digits : (n a b c w x y : ℕ) → n ≡ a * 256 + w → a ≡ b * 256 + x → b ≡ c * 256 + y → c * 16777216 + y * 65536 + x * 256 + w ≡ n
digits n a b c w x y p q r = omega arith

pub four_of_bytes : (n : ℕ) → n < 4294967296 → four (four_bytes n) 0 ≡ n
four_of_bytes n h =
    let b : n / 65536 ≡ n / 256 / 256 = sym (div-div-eq-div-mul n 256 256) in
    let c : n / 16777216 ≡ n / 65536 / 256 = sym (div-div-eq-div-mul n 65536 256) in
    let top : n / 16777216 % 256 ≡ n / 16777216 = omega arith in
    ap (λ t. t * 16777216 + n / 65536 % 256 * 65536 + n / 256 % 256 * 256 + n % 256) top
    ∙ digits n (n / 256) (n / 65536) (n / 16777216) (n % 256) (n / 256 % 256) (n / 65536 % 256) (omega arith) (omega arith) (omega arith)

-- the number in some bytes gives the bytes
module _ (a b : ℕ) (ha : a < 256) (hb : b < 256) where
  pub bytes_of_two : two_bytes (a * 256 + b) ≡ a ∷ b ∷ []
  bytes_of_two =
      let p : (a * 256 + b) / 256 % 256 ≡ a = omega arith in
      let q : (a * 256 + b) % 256 ≡ b = omega arith in
      λ i. p i ∷ q i ∷ []

module _ (a b c d : ℕ) (ha : a < 256) (hb : b < 256) (hc : c < 256) (hd : d < 256) where
  pub bytes_of_four : four_bytes (a * 16777216 + b * 65536 + c * 256 + d) ≡ a ∷ b ∷ c ∷ d ∷ []
  bytes_of_four =
      let n = a * 16777216 + b * 65536 + c * 256 + d in
      let p : n / 16777216 % 256 ≡ a = omega arith in
      let q : n / 65536 % 256 ≡ b = omega arith in
      let r : n / 256 % 256 ≡ c = omega arith in
      let s : n % 256 ≡ d = omega arith in
      λ i. p i ∷ q i ∷ r i ∷ s i ∷ []

pub two_bytes_back : (bs : List ℕ) → length bs ≡ 2 → AllByRecursion (λ b. b < 256) bs → two_bytes (two bs 0) ≡ bs
two_bytes_back [] h all = absurd (omega arith)
two_bytes_back (a ∷ []) h all = absurd (omega arith)
two_bytes_back (a ∷ b ∷ []) h all = bytes_of_two a b all.0 all.1.0
two_bytes_back (a ∷ b ∷ c ∷ bs) h all = absurd (omega arith)

pub four_bytes_back : (bs : List ℕ) → length bs ≡ 4 → AllByRecursion (λ b. b < 256) bs → four_bytes (four bs 0) ≡ bs
four_bytes_back [] h all = absurd (omega arith)
four_bytes_back (a ∷ []) h all = absurd (omega arith)
four_bytes_back (a ∷ b ∷ []) h all = absurd (omega arith)
four_bytes_back (a ∷ b ∷ c ∷ []) h all = absurd (omega arith)
four_bytes_back (a ∷ b ∷ c ∷ d ∷ []) h all = bytes_of_four a b c d all.0 all.1.0 all.1.1.0 all.1.1.1.0
four_bytes_back (a ∷ b ∷ c ∷ d ∷ e ∷ bs) h all = absurd (omega arith)

-- the same of two numbers of four bytes, one after the other
pub eight_bytes_back : (bs : List ℕ) → length bs ≡ 8 → AllByRecursion (λ b. b < 256) bs → four_bytes (four bs 0) ++ four_bytes (four bs 4) ≡ bs
eight_bytes_back [] h all = absurd (omega arith)
eight_bytes_back (a ∷ []) h all = absurd (omega arith)
eight_bytes_back (a ∷ b ∷ []) h all = absurd (omega arith)
eight_bytes_back (a ∷ b ∷ c ∷ []) h all = absurd (omega arith)
eight_bytes_back (a ∷ b ∷ c ∷ d ∷ bs) h all =
    let first = bytes_of_four a b c d all.0 all.1.0 all.1.1.0 all.1.1.1.0 in
    let last = four_bytes_back bs (omega arith) all.1.1.1.1 in
    λ i. first i ++ last i

-- bytes below 256 give numbers of their width
byte_below : (bs : List ℕ) (i : ℕ) → AllByRecursion (λ b. b < 256) bs → byte bs i < 256
byte_below [] i all = omega arith
byte_below (b ∷ bs) zero all = all.0
byte_below (b ∷ bs) (suc i) all = byte_below bs i all.1

pub two_below : (bs : List ℕ) (i : ℕ) → AllByRecursion (λ b. b < 256) bs → two bs i < 65536
two_below bs i all = omega (arith, byte_below bs i all, byte_below bs (i + 1) all)

pub four_below : (bs : List ℕ) (i : ℕ) → AllByRecursion (λ b. b < 256) bs → four bs i < 4294967296
four_below bs i all =
    omega (arith, byte_below bs i all, byte_below bs (i + 1) all, byte_below bs (i + 2) all, byte_below bs (i + 3) all)
