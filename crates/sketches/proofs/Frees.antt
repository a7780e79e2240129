-- What a test of one cell says of free cells, and what the first that passes is.
use Rattle.std.proofs.Common.{◌≡◌, ℕ, ◌≤◌, ◌<◌, Some, None, Option, refl, List, Bool, true, false, leb, MatchOption, ap, sym, arith}
use Rattle.std.proofs.lemmas.Bool.{false≢true}
use Rattle.std.proofs.lemmas.Bool.Decides.{nat_tests}
use Rattle.tables.specs.declared.rows.Cell.{Cell}
use Rattle.tables.specs.Rows.{cell_at, cells_there}
use Rattle.tables.specs.Changes.{Free}
use Rattle.tables.proofs.Splices.{cell_far, cell_in}

module _ {R : Type 0} (n : ℕ) (cells : List (Cell R)) where
  -- the test of the cell j answers t
  abbrev pub Tells : ℕ → Bool → Type 0
  Tells j t = MatchOption (cell_at cells j) (t ≡ false) (λ c. t ≡ leb n c.owner)

  free_by_cell : (o : Option (Cell R)) → MatchOption o (true ≡ false) (λ c. true ≡ leb n c.owner) → (c : Cell R) × (o ≡ Some c) × (n ≤ c.owner)
  free_by_cell None h = absurd (false≢true (sym h))
  free_by_cell (Some c) h = (c, refl, grind (arith, nat_tests))

  pub free_here : (j : ℕ) → Tells j true → Free n cells j
  free_here j h = free_by_cell (cell_at cells j) h

  taken_by_cell : (o : Option (Cell R)) → MatchOption o (false ≡ false) (λ c. false ≡ leb n c.owner) → (c : Cell R) → o ≡ Some c → n ≤ c.owner → ⊥
  taken_by_cell None h c f lt = cc
  taken_by_cell (Some d) h c f lt = let s : d ≡ c = cc in let o : d.owner ≡ c.owner = ap (λ (x : Cell R). x.owner) s in grind (arith, nat_tests)

  pub not_free : (j : ℕ) → Tells j false → Free n cells j → ⊥
  not_free j h f = taken_by_cell (cell_at cells j) h f.0 f.1 f.2

  -- the first that is free among all cells, where no number past the last is a cell's
  pub first_free : (from end : ℕ) (r : Option ℕ) → end ≡ cells_there cells
      → MatchOption r ((j : ℕ) → from ≤ j → j < end → Free n cells j → ⊥) (λ j. (from ≤ j) × (j < end) × Free n cells j × ((i : ℕ) → from ≤ i → i < j → Free n cells i → ⊥))
      → MatchOption r ((j : ℕ) → from ≤ j → Free n cells j → ⊥) (λ j. Free n cells j × (from ≤ j) × ((i : ℕ) → from ≤ i → i < j → Free n cells i → ⊥))
  first_free from end None e h = λ j low f. h j low (let far = cell_far cells j f.0 f.1 in let in' = cell_in cells j f.0 f.1 in omega arith) f
  first_free from end (Some j) e (low, under, free, first) = (free, low, first)
