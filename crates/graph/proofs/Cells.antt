-- Cells of a grid: the place of a cell taken apart again, the places beside it, and what they are sources of.
use Rattle.std.proofs.Common.{◌≡◌, ℕ, ◌+◌, ◌-◌, ◌*◌, ◌/◌, ◌%◌, ◌<◌, Bool, true, false, cond, ◌&&◌, T, ltb, List, [], ◌∷◌, ◌++◌, map, get_or, take, Some, Option, option_to_list, sym, refl, ap, ◌∙◌, subst₂, add-mul, one-mul, arith, ltb→lt}
use Rattle.std.specs.List.{slice_get, flat_map}
use Rattle.std.proofs.lemmas.Nat.{div-add-mod', div_below, mod_below, div-mul-add, mod-mul-add}
use Rattle.std.proofs.lemmas.List.{append-nil, get_or-take}
use Rattle.std.proofs.lemmas.Bool.{cond-true, lt-ltb}
use Rattle.measure.specs.SecondsLaws.{seconds}
use Rattle.graph.specs.Grids.{cell, is_open, source, sources, entering, GridMeaning}
use Rattle.graph.specs.GridGraphs.{cell_inside, sources_of, sources_of_inside, arcs_to, grid_graph}
use Rattle.graph.specs.declared.grid.Grid.{Grid}
use Rattle.graph.proofs.Lists.{all_in, nth_in}

-- a source matters only where it exists
source_same : (bytes : List ℕ) (exists : Bool) (p q : ℕ) → (T exists → p ≡ q) → source bytes exists p ≡ source bytes exists q
source_same bytes true p q h = ap (source bytes true) (h tt)
source_same bytes false p q h = refl

pred_row : (row columns : ℕ) → 0 < row → (row - 1) * columns + columns ≡ row * columns
pred_row row columns h =
    let e : (row - 1) + 1 ≡ row = omega arith in
    ap (λ c. (row - 1) * columns + c) (sym (one-mul columns)) ∙ sym (add-mul (row - 1) 1 columns) ∙ ap (λ r. r * columns) e

module _ (rows columns place : ℕ) (some : 0 < columns) (inside : place < rows * columns) where
  pub here_is : cell columns (place / columns) (place % columns) ≡ place
  here_is = div-add-mod' place columns

  row_inside : place / columns < rows
  row_inside = div_below place columns rows some inside

  column_inside : place % columns < columns
  column_inside = mod_below place columns some

  above_is : 0 < place / columns → place - columns ≡ cell columns (place / columns - 1) (place % columns)
  above_is h = omega (arith, here_is, pred_row (place / columns) columns h)

  left_is : 0 < place % columns → place - 1 ≡ cell columns (place / columns) (place % columns - 1)
  left_is h = omega (arith, here_is)

  right_is : place + 1 ≡ cell columns (place / columns) (place % columns + 1)
  right_is = omega (arith, here_is)

  below_is : place + columns ≡ cell columns (place / columns + 1) (place % columns)
  below_is = omega (arith, here_is, add-mul (place / columns) 1 columns, one-mul columns)

  -- the places beside it that are not barred are its sources
  pub all_sources : (bytes : List ℕ) (above left right below : Option ℕ) → is_open bytes place ≡ true →
      option_to_list above ≡ source bytes (ltb 0 (place / columns)) (place - columns) →
      option_to_list left ≡ source bytes (ltb 0 (place % columns)) (place - 1) →
      option_to_list right ≡ source bytes (ltb (place % columns + 1) columns) (place + 1) →
      option_to_list below ≡ source bytes (ltb (place / columns + 1) rows) (place + columns) →
      flat_map option_to_list (above ∷ left ∷ right ∷ below ∷ []) ≡ sources_of rows columns bytes place
  all_sources bytes above left right below free up back on down =
      (λ i. a1 i ++ (a2 i ++ (a3 i ++ a4 i)))
      ∙ sym (cond-true (ltb place (rows * columns)) _ [] (lt-ltb _ _ inside) ∙ cond-true (is_open bytes (cell columns (place / columns) (place % columns))) _ [] not_barred)
    where
      not_barred : is_open bytes (cell columns (place / columns) (place % columns)) ≡ true
      not_barred = ap (is_open bytes) here_is ∙ free

      a1 : option_to_list above ≡ source bytes (ltb 0 (place / columns)) (cell columns (place / columns - 1) (place % columns))
      a1 = up ∙ source_same bytes (ltb 0 (place / columns)) _ _ (λ t. above_is (ltb→lt 0 (place / columns) t))

      a2 : option_to_list left ≡ source bytes (ltb 0 (place % columns)) (cell columns (place / columns) (place % columns - 1))
      a2 = back ∙ source_same bytes (ltb 0 (place % columns)) _ _ (λ t. left_is (ltb→lt 0 (place % columns) t))

      a3 : option_to_list right ≡ source bytes (ltb (place % columns + 1) columns) (cell columns (place / columns) (place % columns + 1))
      a3 = on ∙ ap (source bytes (ltb (place % columns + 1) columns)) right_is

      a4 : option_to_list below ++ [] ≡ source bytes (ltb (place / columns + 1) rows) (cell columns (place / columns + 1) (place % columns))
      a4 = append-nil _ ∙ down ∙ ap (source bytes (ltb (place / columns + 1) rows)) below_is

-- a source is a place
pub source_inside : (g : Grid) (place i from : ℕ) → slice_get (sources_of g.rows g.columns g.bytes place) i ≡ Some from → from < g.rows * g.columns
source_inside g place i from e =
    all_in (λ p. p < g.rows * g.columns) (sources_of g.rows g.columns g.bytes place) (sources_of_inside g.rows g.columns g.bytes g.some_columns place) from
    (nth_in (sources_of g.rows g.columns g.bytes place) i from e)

-- what has a source is a place
pub has_source : (rows columns : ℕ) (bytes : List ℕ) (place i from : ℕ) → slice_get (sources_of rows columns bytes place) i ≡ Some from → place < rows * columns
has_source rows columns bytes place i from = go (ltb place (rows * columns)) (ltb→lt place (rows * columns))
  where
    go : (t : Bool) → (T t → place < rows * columns) → slice_get (cond t (sources rows columns bytes (place / columns) (place % columns)) []) i ≡ Some from → place < rows * columns
    go true h e = h tt
    go false h e = absurd (let z : ◌≡◌ {A = ℕ} 0 1 = cc in omega arith)

-- grids of the same bytes, as far as the cells go, mean the same
module _ (rows columns : ℕ) (kept bytes : List ℕ) (same : (k : ℕ) → k < rows * columns → get_or kept k 0 ≡ get_or bytes k 0) where
  source_kept : (exists : Bool) (place : ℕ) → (T exists → place < rows * columns) → source kept exists place ≡ source bytes exists place
  source_kept true place h = ap (λ b. cond (true && ltb 0 b) (place ∷ []) []) (same place (h tt))
  source_kept false place h = refl

  sources_kept : (row column : ℕ) → row < rows → column < columns → sources rows columns kept row column ≡ sources rows columns bytes row column
  sources_kept row column h k = λ i. cond (ltb 0 (same (cell columns row column) (cell_inside rows columns row column h k) i)) (e1 i ++ (e2 i ++ (e3 i ++ e4 i))) []
    where
      e1 : source kept (ltb 0 row) (cell columns (row - 1) column) ≡ source bytes (ltb 0 row) (cell columns (row - 1) column)
      e1 = source_kept (ltb 0 row) _ (λ t. cell_inside rows columns (row - 1) column (omega arith) k)

      e2 : source kept (ltb 0 column) (cell columns row (column - 1)) ≡ source bytes (ltb 0 column) (cell columns row (column - 1))
      e2 = source_kept (ltb 0 column) _ (λ t. cell_inside rows columns row (column - 1) h (omega arith))

      e3 : source kept (ltb (column + 1) columns) (cell columns row (column + 1)) ≡ source bytes (ltb (column + 1) columns) (cell columns row (column + 1))
      e3 = source_kept (ltb (column + 1) columns) _ (λ t. cell_inside rows columns row (column + 1) h (ltb→lt _ _ t))

      e4 : source kept (ltb (row + 1) rows) (cell columns (row + 1) column) ≡ source bytes (ltb (row + 1) rows) (cell columns (row + 1) column)
      e4 = source_kept (ltb (row + 1) rows) _ (λ t. cell_inside rows columns (row + 1) column (ltb→lt _ _ t) k)

  arcs_kept : (row column : ℕ) → row < rows → column < columns →
      arcs_to rows columns kept (cell columns row column) ≡ map (entering bytes (cell columns row column)) (sources rows columns bytes row column)
  arcs_kept row column h k =
      let p = cell columns row column in
      let i = cell_inside rows columns row column h k in
      ap (map (entering kept p))
      (cond-true (ltb p (rows * columns)) _ [] (lt-ltb _ _ i)
      ∙ (λ j. sources rows columns kept (div-mul-add row columns column k j) (mod-mul-add row columns column k j))
      ∙ sources_kept row column h k)
      ∙ ap (λ b. map (λ from. record { from = from; length = seconds b }) (sources rows columns bytes row column)) (same p i)

-- what a grid means that keeps the first bytes given
pub grid_means : (g : Grid) (rows columns : ℕ) (bytes : List ℕ) → g.rows ≡ rows → g.columns ≡ columns → take (rows * columns) g.bytes ≡ take (rows * columns) bytes →
    GridMeaning rows columns bytes (grid_graph g)
grid_means g rows columns bytes r c same =
    subst₂ (λ m n. GridMeaning m n bytes (grid_graph g)) r c
    (record { as_many = refl; arcs = arcs_kept g.rows g.columns g.bytes bytes cells })
  where
    cells : (k : ℕ) → k < g.rows * g.columns → get_or g.bytes k 0 ≡ get_or bytes k 0
    cells k h =
        let n : ℕ = rows * columns in
        let e : g.rows * g.columns ≡ rows * columns = λ i. r i * c i in
        sym (get_or-take n g.bytes k 0 (omega arith)) ∙ ap (λ l. get_or l k 0) same ∙ get_or-take n bytes k 0 (omega arith)
