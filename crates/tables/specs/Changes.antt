-- What linking an entry at the end of a sketch takes and does, and unlinking the last one.
use Rattle.std.specs.Prelude.{◌≡◌, ℕ, ◌+◌, ◌<◌, ◌≤◌, List, [], ◌∷◌, ◌++◌, length, drop, Some, ◌≢◌}
use Rattle.std.specs.List.{AllByRecursion, slice_get}
use Rattle.tables.specs.declared.rows.HomeRow.{HomeRow}
use Rattle.tables.specs.declared.rows.Cell.{Cell}
use Rattle.tables.specs.declared.rows.Entry.{Entry}
use Rattle.tables.specs.Rows.{missing, home_at, cell_at}
use Rattle.tables.specs.Walks.{plain_sketch, positions}
use Rattle.tables.specs.Tests.{SketchesSound}

-- the cell j is there, and names no place below n
abbrev pub Free : {R : Type 0} → ℕ → List (Cell R) → ℕ → Type 0
Free {R} n cells j = (c : Cell R) × (cell_at cells j ≡ Some c) × (n ≤ c.owner)

-- the cell j is there, and names this place
abbrev pub OwnedBy : {R : Type 0} → ℕ → List (Cell R) → ℕ → Type 0
OwnedBy {R} v cells j = (c : Cell R) × (cell_at cells j ≡ Some c) × (c.owner ≡ v)

-- the same cell, but for the one after it
abbrev pub with_after : {R : Type 0} → Cell R → ℕ → Cell R
with_after c j = record { owner = c.owner; position = c.position; length = c.length; before = c.before; after = j }

-- the same cell, but for its owner
abbrev pub with_owner : {R : Type 0} → Cell R → ℕ → Cell R
with_owner c n = record { owner = n; position = c.position; length = c.length; before = c.before; after = c.after }

-- nothing but the row of v, and there the position is as it was; no cell from 65,536 on
pub record OnlySketch {R : Type 0} (v : ℕ) (home : List HomeRow) (cells : List (Cell R)) (home' : List HomeRow) (cells' : List (Cell R)) : Type 0 where
  pub other_rows : (w : ℕ) → (w ≢ v) → slice_get home' w ≡ slice_get home w
  pub positions : (w : ℕ) → (home_at home' w).position ≡ (home_at home w).position
  pub surplus : drop missing cells' ≡ drop missing cells

-- the entry comes after those of v, at a position that is swept, and there is a free cell for it
pub record CanAppend {R : Type 0} (n swept used : ℕ) (home : List HomeRow) (cells : List (Cell R)) (v free : ℕ) (e : Entry R) : Type 0 where
  pub place : v < n
  pub home_long : n ≤ length home
  pub sound : SketchesSound n swept used home cells
  pub above : AllByRecursion (λ p. p < e.position) (positions (plain_sketch home cells v))
  pub below : e.position < swept
  pub room : Free n cells free

-- v has one entry more, its last, in the cell that was free; no other sketch is changed, and no other cell is taken or freed
pub record Appended {R : Type 0} (n swept used : ℕ) (home : List HomeRow) (cells : List (Cell R)) (v free : ℕ) (e : Entry R)
    (home' : List HomeRow) (cells' : List (Cell R)) : Type 0 where
  pub here : plain_sketch home' cells' v ≡ plain_sketch home cells v ++ (e ∷ [])
  pub others : (w : ℕ) → w < n → (w ≢ v) → plain_sketch home' cells' w ≡ plain_sketch home cells w
  pub sound : SketchesSound n swept (used + 1) home' cells'
  pub owned : OwnedBy v cells' free
  pub still_free : (j : ℕ) → (j ≢ free) → Free n cells j → Free n cells' j
  pub none_freed : (j : ℕ) → Free n cells' j → Free n cells j

-- v has an entry
pub record CanRemove {R : Type 0} (n swept used : ℕ) (home : List HomeRow) (cells : List (Cell R)) (v : ℕ) : Type 0 where
  pub place : v < n
  pub home_long : n ≤ length home
  pub sound : SketchesSound n swept (used + 1) home cells
  pub some : 0 < (home_at home v).entries

-- v has one entry less, and that was its last; its cell names n; no other sketch is changed, and no free cell is taken
pub record Removed {R : Type 0} (n swept used : ℕ) (home : List HomeRow) (cells : List (Cell R)) (v : ℕ)
    (home' : List HomeRow) (cells' : List (Cell R)) : Type 0 where
  pub here : (e : Entry R) × (plain_sketch home cells v ≡ plain_sketch home' cells' v ++ (e ∷ []))
  pub others : (w : ℕ) → w < n → (w ≢ v) → plain_sketch home' cells' w ≡ plain_sketch home cells w
  pub sound : SketchesSound n swept used home' cells'
  pub freed : OwnedBy n cells' (home_at home v).last
  pub still_free : (j : ℕ) → Free n cells j → Free n cells' j
