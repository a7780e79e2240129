-- How many cells are taken where all are, and where none is; what empty tables pass.
use Rattle.std.proofs.Common.{◌≡◌, ℕ, zero, suc, ◌+◌, ◌<◌, ◌≤◌, min, cond, ltb, List, [], ◌∷◌, length, take, Some, sum_by, count_by, sym, refl, ap, ◌∙◌, subst, ⊎_elim, arith}
use Rattle.std.specs.List.{range_with_len, slice_get}
use Rattle.std.proofs.lemmas.List.Sums.{sum_by-cons}
use Rattle.std.proofs.lemmas.List.{length-map}
use Rattle.std.proofs.lemmas.Bool.{lt-ltb, le-ltb, cases_lt}
use Rattle.measure.specs.Laws.{RowEncoding}
use Rattle.bottom_k.specs.Cells.{entries_of}
use Rattle.tables.specs.declared.rows.HomeRow.{HomeRow}
use Rattle.tables.specs.declared.rows.Cell.{Cell}
use Rattle.tables.specs.Rows.{missing, home_at, cell_at, cells_there}
use Rattle.tables.specs.Walks.{forward, plain_sketch, read_entry, sketch, positions, Chain}
use Rattle.tables.specs.Tests.{LinksTest, SketchesSound, RisingBelow, entries_total, cells_taken}
use Rattle.tables.specs.Changes.{Free}
use Rattle.tables.proofs.Chains.{forward_some}
use Rattle.tables.proofs.Splices.{chain_cell}

module _ {R : Type 0} (n : ℕ) where
  all_count : (m : ℕ) (xs : List (Cell R)) → ((j : ℕ) (c : Cell R) → j < m → slice_get xs j ≡ Some c → c.owner < n)
      → count_by (λ c. ltb c.owner n) (take m xs) ≡ min (length xs) m
  all_count zero xs h = omega arith
  all_count (suc m) [] h = omega arith
  all_count (suc m) (x ∷ xs) h =
      let one = ap (λ b. cond {A = ℕ} b 1 0) (lt-ltb x.owner n (h 0 x (omega arith) refl)) in
      let rest = all_count m xs (λ j c lt e. h (suc j) c (omega arith) e) in
      omega (arith, sum_by-cons (λ c. cond (ltb c.owner n) 1 0) x (take m xs), one, rest)

  none_count : (m : ℕ) (xs : List (Cell R)) → ((j : ℕ) (c : Cell R) → j < m → slice_get xs j ≡ Some c → n ≤ c.owner)
      → count_by (λ c. ltb c.owner n) (take m xs) ≡ 0
  none_count zero xs h = refl
  none_count (suc m) [] h = refl
  none_count (suc m) (x ∷ xs) h =
      let none = ap (λ b. cond {A = ℕ} b 1 0) (le-ltb x.owner n (h 0 x (omega arith) refl)) in
      let rest = none_count m xs (λ j c lt e. h (suc j) c (omega arith) e) in
      omega (arith, sum_by-cons (λ c. cond (ltb c.owner n) 1 0) x (take m xs), none, rest)

  found : (cells : List (Cell R)) (j : ℕ) (c : Cell R) → j < missing → slice_get cells j ≡ Some c → cell_at cells j ≡ Some c
  found cells j c far e = rw (lt-ltb j missing far) e

  -- where no cell is free, every cell is taken
  pub all_taken : (cells : List (Cell R)) → ((j : ℕ) → Free n cells j → ⊥) → cells_taken n cells ≡ cells_there cells
  all_taken cells none =
      all_count missing cells (λ j c far e. ⊎_elim (λ h. h) (λ h. absurd (none j (c, found cells j c far e, h))) (cases_lt c.owner n))

  -- where every cell is free, none is taken
  pub none_taken : (cells : List (Cell R)) → ((j : ℕ) (c : Cell R) → cell_at cells j ≡ Some c → n ≤ c.owner) → cells_taken n cells ≡ 0
  none_taken cells free = none_count missing cells (λ j c far e. free j c (found cells j c far e))

-- the entries that the rows of the first places say, as numbers of the places
rows_counted : (a n : ℕ) (home : List HomeRow) (f : ℕ → ℕ) → n ≤ length home → ((v : ℕ) → v < n → (home_at home v).entries ≡ f (a + v))
    → sum_by (λ h. h.entries) (take n home) ≡ sum_by f (range_with_len a n)
rows_counted a zero home f long same = refl
rows_counted a (suc n) [] f long same = absurd (omega arith)
rows_counted a (suc n) (h ∷ hs) f long same =
    let here : h.entries ≡ f a = same 0 (omega arith) ∙ ap f (omega arith) in
    let rest = rows_counted (a + 1) n hs f (omega arith) (λ v lt. same (suc v) (omega arith) ∙ ap f (omega arith)) in
    omega (arith, sum_by-cons (λ r. r.entries) h (take n hs), sum_by-cons f a (range_with_len (a + 1) n), here, rest)

-- a chain of k cells is walked along in k entries
pub chain_length : {R : Type 0} (cells : List (Cell R)) (v last end prev at k : ℕ) → Chain cells v last end prev at k → length (forward cells at k) ≡ k
chain_length cells v last end prev at zero h = refl
chain_length cells v last end prev at (suc k) h =
    let (c, e, (o, b, t)) = chain_cell cells v last end prev at k h in
    ap length (forward_some cells at k c e) ∙ ap suc (chain_length cells v last end at c.after k t)

-- the rows say as many entries as the sketches have
pub entries_counted : {L R : Type 0} (rows : RowEncoding L R) (n used : ℕ) (home : List HomeRow) (cells : List (Cell R)) → n ≤ length home → LinksTest n used home cells
    → entries_total n home ≡ entries_of n (sketch rows home cells)
entries_counted rows n used home cells long links =
    rows_counted 0 n home (λ v. length (sketch rows home cells v)) long (λ v lt.
    let row = home_at home v in
    sym (ap (λ w. length (sketch rows home cells w)) (omega arith) ∙ length-map (plain_sketch home cells v) (read_entry rows)
    ∙ chain_length cells v row.last missing missing row.first row.entries (links.linked v lt)))

-- tables with empty sketches and free cells pass the tests of sketches, with nothing swept and no cell used
pub empty_sound : {R : Type 0} (n : ℕ) (home : List HomeRow) (cells : List (Cell R)) → n ≤ length home
    → ((v : ℕ) → v < n → ((home_at home v).first ≡ missing) × ((home_at home v).last ≡ missing) × ((home_at home v).entries ≡ 0))
    → ((j : ℕ) (c : Cell R) → cell_at cells j ≡ Some c → n ≤ c.owner)
    → SketchesSound n 0 0 home cells
empty_sound n home cells long empty free = record {
  links = record {
    enough = omega arith;
    linked = λ v h. let (f, l, k) = empty v h in subst (λ m. Chain cells v (home_at home v).last missing missing (home_at home v).first m) (sym k) (f, l);
  };
  rising = λ v h. subst (λ k. RisingBelow 0 (positions (forward cells (home_at home v).first k))) (sym (empty v h).2) (tt, tt);
  counts = record {
    total = rows_counted 0 n home (λ v. 0) long (λ v h. (empty v h).2) ∙ zeros 0 n;
    taken = none_taken n cells free;
  };
}
  where
    zeros : (a k : ℕ) → sum_by (λ v. 0) (range_with_len a k) ≡ 0
    zeros a zero = refl
    zeros a (suc k) = omega (arith, sum_by-cons (λ v. 0) a (range_with_len (a + 1) k), zeros (a + 1) k)
