-- The lines of an input: bytes, split at newlines.
use Rattle.std.specs.Prelude.{◌≡◌, ℕ, ◌+◌, ◌^◌, ◌≤◌, cond, List, [], ◌∷◌, ◌++◌, map, length, take, drop, Some, None, Option, Ok, Err, Result, ◌==◌}
use Rattle.line_source.specs.declared.LineSource.{LineSource}

-- at the end of the input the bytes after the last newline are a line, if there are any
abbrev pub last_line : List ℕ → List (List ℕ)
last_line [] = []
last_line (byte ∷ bytes) = (byte ∷ bytes) ∷ []

-- the lines of an input after the bytes of a line begun before it
abbrev pub lines_after : List ℕ → List ℕ → List (List ℕ)
lines_after begun [] = last_line begun
lines_after begun (byte ∷ bytes) = cond (byte == 10) (begun ∷ lines_after [] bytes) (lines_after (begun ++ (byte ∷ [])) bytes)

-- at most 81 bytes of each are kept: so many tell that a line has more than 80
abbrev pub kept_lines : List ℕ → List ℕ → List (List ℕ)
kept_lines begun input = map (take 81) (lines_after begun input)

abbrev pub kept : LineSource → List ℕ
kept s = s.bytes.items

-- a part of an input is fed to a line begun: it may end the line after some bytes of the part, or it may not, and the lines of the input stay, whatever follows the part
abbrev pub Fed : LineSource → List ℕ → Option ℕ → LineSource → Type 0
Fed before part None after = (rest : List ℕ) → kept_lines (kept before) (part ++ rest) ≡ kept_lines (kept after) rest
Fed before part (Some used) after =
    (used ≤ length part) × ((rest : List ℕ) → kept_lines (kept before) (part ++ rest) ≡ kept after ∷ kept_lines [] (drop used part ++ rest))

-- the next line begins with nothing kept, and is counted, as far as numbers of 64 bits count
abbrev pub Begun : {A E : Type 0} → LineSource → Result A E → LineSource → Type 0
Begun before (Ok done) after = (kept after ≡ []) × (after.number ≡ before.number + 1)
Begun before (Err fault) after = (after ≡ before) × (2 ^ 64 ≤ before.number + 1)
