-- Question lines: what the five forms write, and how far a line agrees with one that is allowed. A line is a list of bytes.
use Rattle.std.specs.Prelude.{◌≡◌, ℕ, ◌^◌, ◌<◌, ◌≤◌, ◌⊎◌, List, [], ◌∷◌, ◌++◌, length, take, decimal}

-- numbers, each in decimal digits after a space
abbrev pub spaced : List ℕ → List ℕ
spaced [] = []
spaced (n ∷ ns) = 32 ∷ (decimal n ++ spaced ns)

-- each number is at most 4,294,967,295
abbrev pub Fit : List ℕ → Type 0
Fit [] = Unit {0}
Fit (n ∷ ns) = (n < 2 ^ 32) × Fit ns

-- a letter and the numbers after it are one of the five forms: K k; N m; B m; S place limit; U limit and one or more places
abbrev pub Form : ℕ → List ℕ → Type 0
Form letter ns =
    ((letter ≡ 75) × (length ns ≡ 1))
    ⊎ (((letter ≡ 78) × (length ns ≡ 1))
    ⊎ (((letter ≡ 66) × (length ns ≡ 1)) ⊎ (((letter ≡ 83) × (length ns ≡ 2)) ⊎ ((letter ≡ 85) × (2 ≤ length ns)))))

-- a line is allowed if a form writes it in at most 80 bytes
pub record Allowed (line : List ℕ) : Type 0 where
  pub letter : ℕ
  pub numbers : List ℕ
  pub form : Form letter numbers
  pub fit : Fit numbers
  pub writes : line ≡ letter ∷ spaced numbers
  pub short : length line ≤ 80

-- two lines share n leading bytes
pub record Share (n : ℕ) (a b : List ℕ) : Type 0 where
  pub within_a : n ≤ length a
  pub within_b : n ≤ length b
  pub same : take n a ≡ take n b

-- of the lines with the property P, some shares so many leading bytes with a line, and none shares more
pub record MostShared (P : List ℕ → Type 0) (line : List ℕ) (most : ℕ) : Type 0 where
  pub nearest : List ℕ
  pub has : P nearest
  pub shares : Share most line nearest
  pub no_more : (other : List ℕ) (n : ℕ) → P other → Share n line other → n ≤ most
