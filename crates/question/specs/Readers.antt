-- What a reader of words shows of itself.
use Rattle.std.specs.Prelude.{ℕ, List}
use Rattle.question.specs.declared.reader.WordReader.{WordReader}

-- the line that is read
abbrev pub line_of : WordReader → List ℕ
line_of reader = reader.line.now

-- the place in it that the next word is read from
abbrev pub place_of : WordReader → ℕ
place_of reader = reader.at
