-- What linked means, said by the two walks of a sketch: forward from its first cell, and back from its last.
use Rattle.std.specs.Prelude.{◌≡◌, ℕ, ◌↔◌, List, [], ◌∷◌, reverse, length, Some}
use Rattle.std.specs.List.{AllByRecursion}
use Rattle.tables.specs.declared.rows.HomeRow.{HomeRow}
use Rattle.tables.specs.declared.rows.Cell.{Cell}
use Rattle.tables.specs.Rows.{missing, home_at, cell_at}
use Rattle.tables.specs.Walks.{Linked}
use Rattle.tables.specs.Changes.{OwnedBy}

-- a walk that starts at the number `at`, and goes from each cell to the one that it names next, meets just these cells in turn and comes to `end`
abbrev pub Walk : {R : Type 0} → (Cell R → ℕ) → List (Cell R) → ℕ → List ℕ → ℕ → Type 0
Walk next cells at [] end = at ≡ end
Walk {R} next cells at (j ∷ js) end = (at ≡ j) × ((c : Cell R) × (cell_at cells j ≡ Some c) × Walk next cells (next c) js end)

-- the walk forward and the walk back meet the same cells, as many as the row of v says, all of them its own, and both come to an end
pub record WalksMatch {R : Type 0} (home : List HomeRow) (cells : List (Cell R)) (v : ℕ) : Type 0 where
  pub met : List ℕ
  pub walked_forward : Walk (λ c. c.after) cells (home_at home v).first met missing
  pub walked_back : Walk (λ c. c.before) cells (home_at home v).last (reverse met) missing
  pub owned : AllByRecursion (OwnedBy v cells) met
  pub as_many : length met ≡ (home_at home v).entries

-- a sketch is linked exactly if its walks match
abbrev pub LinkedAreMatching : Type 0 → Type 0
LinkedAreMatching R = (home : List HomeRow) (cells : List (Cell R)) (v : ℕ) → Linked home cells v ↔ WalksMatch home cells v
