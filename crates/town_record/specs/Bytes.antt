-- Bytes, and the numbers that stand in them big-endian: the most significant byte first.
use Rattle.std.specs.List.{list_all}
use Rattle.std.specs.Prelude.{ℕ, ◌+◌, ◌*◌, ◌/◌, ◌%◌, Bool, List, [], ◌∷◌, ◌==◌, slice_index}

-- the byte of a number, counted from 0
abbrev pub byte : List ℕ → ℕ → ℕ
byte bs i = slice_index bs i

-- the number in the two, or four, bytes from byte i on
abbrev pub two : List ℕ → ℕ → ℕ
two bs i = byte bs i * 256 + byte bs (i + 1)

abbrev pub four : List ℕ → ℕ → ℕ
four bs i = byte bs i * 16777216 + byte bs (i + 1) * 65536 + byte bs (i + 2) * 256 + byte bs (i + 3)

-- the two, or four, bytes of a number
abbrev pub two_bytes : ℕ → List ℕ
two_bytes n = (n / 256 % 256) ∷ (n % 256) ∷ []

abbrev pub four_bytes : ℕ → List ℕ
four_bytes n = (n / 16777216 % 256) ∷ (n / 65536 % 256) ∷ (n / 256 % 256) ∷ (n % 256) ∷ []

-- all bytes are zero
abbrev pub all_zero : List ℕ → Bool
all_zero bs = list_all (λ b. b == 0) bs
