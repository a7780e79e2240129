-- The five tests of an atlas's memory, over the tables and plain numbers: n places, so many of them swept, so many cells used.
use Rattle.std.specs.Prelude.{◌≡◌, ℕ, ◌+◌, ◌<◌, ◌≤◌, ◌⊎◌, List, length, take, IfSome, sum_by, count_by, Option, nat_lt}
use Rattle.std.specs.List.{AllByRecursion}
use Rattle.fault.specs.Refusals.{test_number}
use Rattle.fault.specs.declared.memory_test.MemoryTest.{MemoryTest}
use Rattle.fault.specs.declared.memory_test.MemoryTest.TheVariants.{Order, Links, Positions, Counts, Places}
use Rattle.bottom_k.specs.Lists.{Rising}
use Rattle.tables.specs.declared.rows.OrderRow.{OrderRow}
use Rattle.tables.specs.declared.rows.HomeRow.{HomeRow}
use Rattle.tables.specs.declared.rows.Cell.{Cell}
use Rattle.tables.specs.Rows.{missing, order_at, home_at, cells_there}
use Rattle.tables.specs.Walks.{plain_sketch, positions, Linked}

-- lower rank comes first; equal ranks go by lower place number
abbrev pub ComesBefore : OrderRow → OrderRow → Type 0
ComesBefore a b = (a.rank < b.rank) ⊎ ((a.rank ≡ b.rank) × (a.place < b.place))

-- the row of a position names a place whose row names that position
abbrev pub PointsBack : ℕ → List OrderRow → List HomeRow → ℕ → Type 0
PointsBack n order home p = ((order_at order p).place < n) × ((home_at home (order_at order p).place).position ≡ p)

-- the row of a place names a position whose row names that place
abbrev pub PointedTo : ℕ → List OrderRow → List HomeRow → ℕ → Type 0
PointedTo n order home v = ((home_at home v).position < n) × ((order_at order (home_at home v).position).place ≡ v)

-- the row of a position has a rank above 0, and the next one, if there is one, comes after it
abbrev pub RanksRise : ℕ → List OrderRow → ℕ → Type 0
RanksRise n order p = (0 < (order_at order p).rank) × (p + 1 < n → ComesBefore (order_at order p) (order_at order (p + 1)))

-- order and home positions point back at each other, and the order rises by rank, then place, with no rank 0
pub record OrderTest (n : ℕ) (order : List OrderRow) (home : List HomeRow) : Type 0 where
  pub order_long : n ≤ length order
  pub home_long : n ≤ length home
  pub to_places : (p : ℕ) → p < n → PointsBack n order home p
  pub to_positions : (v : ℕ) → v < n → PointedTo n order home v
  pub ranks_rise : (p : ℕ) → p < n → RanksRise n order p

-- there are the cells used, and each sketch walked forward matches its walk back, its ends, its owner and its number of entries
pub record LinksTest {R : Type 0} (n used : ℕ) (home : List HomeRow) (cells : List (Cell R)) : Type 0 where
  pub enough : used ≤ cells_there cells
  pub linked : (v : ℕ) → v < n → Linked home cells v

-- numbers that rise and are below a bound
abbrev pub RisingBelow : ℕ → List ℕ → Type 0
RisingBelow bound ps = Rising ps × AllByRecursion (λ p. p < bound) ps

-- positions along a sketch rise and are below the number swept
abbrev pub PositionsTest : {R : Type 0} → ℕ → ℕ → List HomeRow → List (Cell R) → Type 0
PositionsTest n swept home cells = (v : ℕ) → v < n → RisingBelow swept (positions (plain_sketch home cells v))

-- how many entries the sketches of n places have together, as their rows say
abbrev pub entries_total : ℕ → List HomeRow → ℕ
entries_total n home = sum_by (λ h. h.entries) (take n home)

-- how many cells name a noting place below n
abbrev pub cells_taken : {R : Type 0} → ℕ → List (Cell R) → ℕ
cells_taken n cells = count_by (λ c. nat_lt c.owner n) (take missing cells)

-- the entries total the cells used, and as many cells name a noting place below n
pub record CountsTest {R : Type 0} (n used : ℕ) (home : List HomeRow) (cells : List (Cell R)) : Type 0 where
  pub total : entries_total n home ≡ used
  pub taken : cells_taken n cells ≡ used

-- a map given has n places
abbrev pub PlacesTest : ℕ → Option ℕ → Type 0
PlacesTest n given = IfSome given (λ places. places ≡ n)

-- the tests of links, positions and counts together: the sketches can be worked with
pub record SketchesSound {R : Type 0} (n swept used : ℕ) (home : List HomeRow) (cells : List (Cell R)) : Type 0 where
  pub links : LinksTest n used home cells
  pub rising : PositionsTest n swept home cells
  pub counts : CountsTest n used home cells

module _ {R : Type 0} (n swept used : ℕ) (order : List OrderRow) (home : List HomeRow) (cells : List (Cell R)) (given : Option ℕ) where
  -- the memory passes a test
  abbrev pub Passes : MemoryTest → Type 0
  Passes Order = OrderTest n order home
  Passes Links = LinksTest n used home cells
  Passes Positions = PositionsTest n swept home cells
  Passes Counts = CountsTest n used home cells
  Passes Places = PlacesTest n given

  -- it passes every test
  abbrev pub Sound : Type 0
  Sound = (t : MemoryTest) → Passes t

  -- it fails this test, and passes every earlier one
  abbrev pub FailsFirst : MemoryTest → Type 0
  FailsFirst t = ((s : MemoryTest) → test_number s < test_number t → Passes s) × (Passes t → ⊥)
