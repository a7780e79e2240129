-- How writes change the counts of test 4.
use Rattle.std.proofs.Common.{◌≡◌, ℕ, ◌+◌, ◌<◌, ◌≤◌, cond, ltb, List, length, get_or, take, set, Some, sum_by, sym, ap, ◌∙◌, arith, length-take, length-take-le, get_or-take}
use lib.Seq.{take-set-lt}
use Rattle.std.proofs.lemmas.List.Sums.{sum_by-set, get_or-le-sum_by, count_by-le-length}
use Rattle.std.proofs.lemmas.Bool.{lt-ltb, le-ltb}
use Rattle.tables.specs.declared.rows.HomeRow.{HomeRow}
use Rattle.tables.specs.declared.rows.Cell.{Cell}
use Rattle.tables.specs.Rows.{missing, empty_row, home_at, cell_at, cells_there}
use Rattle.tables.specs.Tests.{entries_total, cells_taken, CountsTest}
use Rattle.tables.proofs.Splices.{cell_far, cell_in, cell_is}

pub entries_set : (n v : ℕ) (home : List HomeRow) (row : HomeRow) → v < n → n ≤ length home
    → entries_total n (set home v row) + (home_at home v).entries ≡ entries_total n home + row.entries
entries_set n v home row h r =
    let l : v < length (take n home) = omega (arith, length-take-le n home r) in
    let s = sum_by-set (λ x. x.entries) (take n home) v row (empty_row 0) l in
    rw (take-set-lt n home v row h, ← get_or-take n home v (empty_row 0) h) s

-- a place has no more entries than there are cells
pub entries_few : {R : Type 0} (n v used : ℕ) (home : List HomeRow) (cells : List (Cell R)) → v < n → n ≤ length home → CountsTest n used home cells
    → (home_at home v).entries ≤ missing
entries_few n v used home cells h r t =
    let l : v < length (take n home) = omega (arith, length-take-le n home r) in
    let one = rw (get_or-take n home v (empty_row 0) h) at (get_or-le-sum_by (λ x. x.entries) (take n home) v (empty_row 0) l) in
    let all = count_by-le-length (λ c. ltb c.owner n) (take missing cells) in
    omega (arith, length-take missing cells, t.total, t.taken)

-- where a place has entries, cells are used
pub entries_some : (n v : ℕ) (home : List HomeRow) → v < n → n ≤ length home → (home_at home v).entries ≤ entries_total n home
entries_some n v home h r =
    let l : v < length (take n home) = omega (arith, length-take-le n home r) in
    rw (get_or-take n home v (empty_row 0) h) at (get_or-le-sum_by (λ x. x.entries) (take n home) v (empty_row 0) l)

-- a count among the first m elements, after a write
sum_by_take_set : {A : Type 0} (f : A → ℕ) (m j : ℕ) (xs : List A) (old new : A) → j < m → j < length xs → get_or xs j old ≡ old
    → sum_by f (take m (set xs j new)) + f old ≡ sum_by f (take m xs) + f new
sum_by_take_set f m j xs old new far in' is =
    let l : j < length (take m xs) = omega (arith, length-take m xs) in
    let s = sum_by-set f (take m xs) j new old l in
    ap (λ ys. sum_by f ys + f old) (take-set-lt m xs j new far) ∙ ap (λ y. sum_by f (set (take m xs) j new) + f y) (sym (get_or-take m xs j old far ∙ is)) ∙ s

module _ {R : Type 0} (n j : ℕ) (cells : List (Cell R)) (c x : Cell R) (e : cell_at cells j ≡ Some c) where
  taken_set : cells_taken n (set cells j x) + cond (ltb c.owner n) 1 0 ≡ cells_taken n cells + cond (ltb x.owner n) 1 0
  taken_set = sum_by_take_set (λ y. cond (ltb y.owner n) 1 0) missing j cells c x (cell_far cells j c e) (cell_in cells j c e) (cell_is cells j c e c)

  -- a cell that keeps its owner, one that gets an owner, one that is set free
  pub taken_same : x.owner ≡ c.owner → cells_taken n (set cells j x) ≡ cells_taken n cells
  taken_same o = omega (arith, taken_set, ap (λ k. cond {A = ℕ} (ltb k n) 1 0) o)

  pub taken_more : n ≤ c.owner → x.owner < n → cells_taken n (set cells j x) ≡ cells_taken n cells + 1
  taken_more a b = let p = ap (λ b. cond {A = ℕ} b 1 0) (le-ltb c.owner n a) in let q = ap (λ b. cond {A = ℕ} b 1 0) (lt-ltb x.owner n b) in omega (arith, taken_set)

  pub taken_less : c.owner < n → n ≤ x.owner → cells_taken n (set cells j x) + 1 ≡ cells_taken n cells
  taken_less a b = let p = ap (λ b. cond {A = ℕ} b 1 0) (lt-ltb c.owner n a) in let q = ap (λ b. cond {A = ℕ} b 1 0) (le-ltb x.owner n b) in omega (arith, taken_set)

-- as many cells are taken as there are at most
pub taken_few : {R : Type 0} (n : ℕ) (cells : List (Cell R)) → cells_taken n cells ≤ cells_there cells
taken_few n cells = omega (arith, count_by-le-length (λ c. ltb c.owner n) (take missing cells), length-take missing cells)
