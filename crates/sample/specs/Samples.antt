-- A sample taken on a memory: why it is refused, what is sampled, and what is told and written of it.
use Rattle.std.specs.Prelude.{◌≡◌, ℕ, ◌<◌, ◌≤◌, List, [], ◌∷◌, ◌++◌, map, length, take, drop, None}
use Rattle.fault.specs.Causes.{Cause, cause}
use Rattle.fault.specs.Refusals.{test_number}
use Rattle.fault.specs.declared.memory_test.MemoryTest.{MemoryTest}
use Rattle.fault.specs.declared.refusal.Layer.TheVariants.{Atlas}
use Rattle.measure.specs.Laws.{OrderedMonoid, RowEncoding}
use Rattle.bottom_k.specs.Figures.{figure_of_ranks}
use Rattle.bottom_k.specs.Sketches.{Entry, entries_within}
use Rattle.tables.specs.declared.rows.OrderRow.{OrderRow}
use Rattle.tables.specs.Rows.{order_at}
use Rattle.tables.specs.Walks.{sketch}
use Rattle.examine.specs.Memories.{FailsFirst}
use Rattle.examine.specs.declared.memory.Memory.{Memory}
use Rattle.sample.specs.declared.told.Sample.{Sample}

-- why a sample of k places into a buffer of this room is refused: the memory fails a test, of which the first is told by its number;
-- there is no such place; or the buffer is shorter than k
abbrev pub sample_causes : {R : Type 0} → Memory R → (k start room : ℕ) → List Cause
sample_causes m k start room =
    cause 8 Atlas (λ w. (test : MemoryTest) × FailsFirst m None test × (w ≡ test_number test))
    ∷ cause 9 Atlas (λ w. (m.n ≤ start) × (w ≡ start))
    ∷ cause 7 Atlas (λ w. (room < k) × (w ≡ k))
    ∷ []

module _ {L R : Type 0} (laws : OrderedMonoid L) (rows : RowEncoding L R) (m : Memory R) (k start : ℕ) (limit : L) where
  -- what is sampled: the first k entries, by rank, of those that the start notes within the limit
  abbrev pub sampled_entries : List (Entry L)
  sampled_entries = take k (entries_within laws limit (sketch rows m.sketches.home.now m.sketches.cells.now start))

  -- the rows of the order in which their places and ranks stand
  abbrev pub sampled_rows : List OrderRow
  sampled_rows = map (λ e. order_at m.order.now e.position) sampled_entries

  -- what is told of them, and a buffer before and after they are written
  pub record Sampled (before after : List ℕ) (s : Sample) : Type 0 where
    -- their number, and the figure by their ranks
    pub count : s.count ≡ length sampled_rows
    pub figure : s.figure ≡ figure_of_ranks k (map (λ row. row.rank) sampled_rows)
    -- their places stand at the front, by rank; the rest is as it was
    pub written : after ≡ map (λ row. row.place) sampled_rows ++ drop (length sampled_rows) before
