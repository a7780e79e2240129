-- Sketches as linked cells: walking forward, and when the links of a sketch hold together.
use Rattle.std.specs.Prelude.{◌≡◌, ℕ, zero, suc, List, [], ◌∷◌, map, Some, None, MatchOption}
use Rattle.measure.specs.Laws.{RowEncoding}
use Rattle.bottom_k.specs.Sketches.{Entry as SketchEntry}
use Rattle.tables.specs.declared.rows.HomeRow.{HomeRow}
use Rattle.tables.specs.declared.rows.Cell.{Cell}
use Rattle.tables.specs.declared.rows.Entry.{Entry}
use Rattle.tables.specs.Rows.{missing, home_at, cell_at}

-- what a cell notes
abbrev pub noted : {R : Type 0} → Cell R → Entry R
noted c = record { position = c.position; length = c.length }

-- the entries met by going from the cell `at` to the cell after it and so on, k at most
abbrev pub forward : {R : Type 0} → List (Cell R) → ℕ → ℕ → List (Entry R)
forward cells at zero = []
forward cells at (suc k) = elim (cell_at cells at) [ None ↦ [] | Some c ↦ noted c ∷ forward cells c.after k ]

-- the sketch of v as it stands in the tables: walked forward from its first cell, as many entries as its row says
abbrev pub plain_sketch : {R : Type 0} → List HomeRow → List (Cell R) → ℕ → List (Entry R)
plain_sketch home cells v = forward cells (home_at home v).first (home_at home v).entries

-- an entry with its length in place of the row
abbrev pub read_entry : {L R : Type 0} → RowEncoding L R → Entry R → SketchEntry L
read_entry rows e = record { position = e.position; length = rows.reads e.length }

-- the sketch of v
abbrev pub sketch : {L R : Type 0} → RowEncoding L R → List HomeRow → List (Cell R) → ℕ → List (SketchEntry L)
sketch rows home cells v = map (read_entry rows) (plain_sketch home cells v)

-- the positions along a sketch
abbrev pub positions : {R : Type 0} → List (Entry R) → List ℕ
positions es = map (λ e. e.position) es

-- k cells of v follow one another from the cell `at` on, each naming the one before it: `prev` stands before the first of them,
-- `last` is the last of them, or `prev` if there is none, and `end` comes after it
abbrev pub Chain : {R : Type 0} → List (Cell R) → (v last end prev at k : ℕ) → Type 0
Chain cells v last end prev at zero = (at ≡ end) × (last ≡ prev)
Chain cells v last end prev at (suc k) =
    MatchOption (cell_at cells at) ⊥ (λ c. (c.owner ≡ v) × (c.before ≡ prev) × Chain cells v last end at c.after k)

-- the sketch of v, walked forward, matches its walk back, its ends, its owner and its number of entries;
-- an empty one has both ends missing
abbrev pub Linked : {R : Type 0} → List HomeRow → List (Cell R) → ℕ → Type 0
Linked home cells v = Chain cells v (home_at home v).last missing missing (home_at home v).first (home_at home v).entries
