-- One row of the home table is written, with cells of that place or of none: the other sketches stay.
use Rattle.std.proofs.Common.{◌≡◌, ℕ, ◌<◌, ◌≤◌, List, length, drop, set, Some, sym, ap, ◌∙◌, subst, ⊎_elim, arith, get_or-set_other, get_or-set_same}
use Rattle.std.proofs.lemmas.Bool.{cases_eq, cases_lt}
use Rattle.std.proofs.lemmas.List.{set_past}
use Rattle.tables.specs.declared.rows.HomeRow.{HomeRow}
use Rattle.tables.specs.declared.rows.Cell.{Cell}
use Rattle.tables.specs.Rows.{missing, empty_row, home_at, cell_at}
use Rattle.tables.specs.Walks.{forward, plain_sketch, positions, Chain, Linked}
use Rattle.tables.specs.Tests.{PositionsTest, RisingBelow, SketchesSound}
use Rattle.tables.specs.Changes.{OnlySketch}
use Rattle.tables.proofs.Rises.{rises_all}
use Rattle.tables.proofs.Splices.{chain_stays, nth_set_other}

-- a row is what its fields are
pub row_made : (row : HomeRow) (p f l k : ℕ) → row.position ≡ p → row.first ≡ f → row.last ≡ l → row.entries ≡ k
    → row ≡ record { position = p; first = f; last = l; entries = k }
row_made row p f l k a b c d = rw (← a, ← b, ← c, ← d)

-- a row and cells written for v leave all else alone
module _ (v : ℕ) (home : List HomeRow) (row : HomeRow) (position : row.position ≡ (home_at home v).position) where
  same_positions : (w : ℕ) → (home_at (set home v row) w).position ≡ (home_at home w).position
  same_positions w =
      ⊎_elim
      (λ q.
      subst (λ (u : ℕ). (home_at (set home v row) u).position ≡ (home_at home u).position) (sym q)
      (⊎_elim (λ h. ap (λ (r : HomeRow). r.position) (get_or-set_same home v row (empty_row 0) h) ∙ position)
      (λ h. ap (λ (rows : List HomeRow). (home_at rows v).position) (set_past home v row h)) (cases_lt v (length home))))
      (λ ne. ap (λ (r : HomeRow). r.position) (get_or-set_other home v w row (empty_row 0) ne)) (cases_eq w v)

  pub only_sketch : {R : Type 0} (cells cells' : List (Cell R)) (home' : List HomeRow) → home' ≡ set home v row → drop missing cells' ≡ drop missing cells
      → OnlySketch v home cells home' cells'
  only_sketch cells cells' home' is surplus =
      rw is (record { other_rows = λ w ne. nth_set_other home v w row ne; positions = same_positions; surplus = surplus })

module _ {R : Type 0} (n v swept used : ℕ) (home : List HomeRow) (cells cells' : List (Cell R)) (row : HomeRow) (place : v < n) (reach : n ≤ length home)
    (sound : SketchesSound n swept used home cells)
    (stays : (j : ℕ) (c : Cell R) → cell_at cells j ≡ Some c → c.owner < n → (c.owner ≡ v → ⊥) → cell_at cells' j ≡ Some c) where
  home_here : home_at (set home v row) v ≡ row
  home_here = get_or-set_same home v row (empty_row 0) (omega arith)

  home_other : (w : ℕ) → (w ≡ v → ⊥) → home_at (set home v row) w ≡ home_at home w
  home_other w ne = get_or-set_other home v w row (empty_row 0) ne

  other : (w : ℕ) → w < n → (w ≡ v → ⊥) → Linked (set home v row) cells' w × (plain_sketch (set home v row) cells' w ≡ plain_sketch home cells w)
  other w lt ne =
      let old = home_at home w in
      let p = chain_stays cells cells' w swept (λ j c e o _. stays j c e (omega arith) (λ q. ne (sym o ∙ q))) old.last missing old.entries 0 missing old.first
      (sound.links.linked w lt) (rises_all swept (plain_sketch home cells w) (sound.rising w lt)) in
      rw (home_other w ne) p

  at_each : (P : ℕ → Type 0) → P v → ((w : ℕ) → w < n → (w ≡ v → ⊥) → P w) → (w : ℕ) → w < n → P w
  at_each P here others w lt = ⊎_elim (λ e. subst P (sym e) here) (others w lt) (cases_eq w v)

  pub here_sketch : plain_sketch (set home v row) cells' v ≡ forward cells' row.first row.entries
  here_sketch = rw home_here

  pub other_sketches : (w : ℕ) → w < n → (w ≡ v → ⊥) → plain_sketch (set home v row) cells' w ≡ plain_sketch home cells w
  other_sketches w lt ne = (other w lt ne).1

  pub all_linked : Chain cells' v row.last missing missing row.first row.entries → (w : ℕ) → w < n → Linked (set home v row) cells' w
  all_linked h = at_each (Linked (set home v row) cells') (rw home_here h) (λ w lt ne. (other w lt ne).0)

  pub all_rising : RisingBelow swept (positions (forward cells' row.first row.entries)) → PositionsTest n swept (set home v row) cells'
  all_rising h =
      at_each (λ w. RisingBelow swept (positions (plain_sketch (set home v row) cells' w))) (rw home_here h)
      (λ w lt ne. subst (λ es. RisingBelow swept (positions es)) (sym (other w lt ne).1) (sound.rising w lt))
