-- From the tests made one by one to the first that fails.
use Rattle.std.proofs.Common.{ℕ, ◌<◌, List, Option, arith}
use Rattle.fault.specs.Refusals.{test_number}
use Rattle.fault.specs.declared.memory_test.MemoryTest.{MemoryTest}
use Rattle.fault.specs.declared.memory_test.MemoryTest.TheVariants.{Order, Links, Positions, Counts, Places}
use Rattle.tables.specs.declared.rows.OrderRow.{OrderRow}
use Rattle.tables.specs.declared.rows.HomeRow.{HomeRow}
use Rattle.tables.specs.declared.rows.Cell.{Cell}
use Rattle.tables.specs.Tests.{SketchesSound, Passes, Sound, FailsFirst}

module _ {R : Type 0} (n swept used : ℕ) (order : List OrderRow) (home : List HomeRow) (cells : List (Cell R)) (given : Option ℕ) where
  abbrev Pass : MemoryTest → Type 0
  Pass t = Passes n swept used order home cells given t

  abbrev Fail : MemoryTest → Type 0
  Fail t = FailsFirst n swept used order home cells given t

  pub fails_order : (Pass Order → ⊥) → Fail Order
  fails_order not = (earlier, not)
    where
      earlier : (s : MemoryTest) → test_number s < 1 → Pass s
      earlier Order h = absurd (omega arith)
      earlier Links h = absurd (omega arith)
      earlier Positions h = absurd (omega arith)
      earlier Counts h = absurd (omega arith)
      earlier Places h = absurd (omega arith)

  pub fails_links : Pass Order → (Pass Links → ⊥) → Fail Links
  fails_links o not = (earlier, not)
    where
      earlier : (s : MemoryTest) → test_number s < 2 → Pass s
      earlier Order h = o
      earlier Links h = absurd (omega arith)
      earlier Positions h = absurd (omega arith)
      earlier Counts h = absurd (omega arith)
      earlier Places h = absurd (omega arith)

  pub fails_positions : Pass Order → Pass Links → (Pass Positions → ⊥) → Fail Positions
  fails_positions o l not = (earlier, not)
    where
      earlier : (s : MemoryTest) → test_number s < 3 → Pass s
      earlier Order h = o
      earlier Links h = l
      earlier Positions h = absurd (omega arith)
      earlier Counts h = absurd (omega arith)
      earlier Places h = absurd (omega arith)

  pub fails_counts : Pass Order → Pass Links → Pass Positions → (Pass Counts → ⊥) → Fail Counts
  fails_counts o l p not = (earlier, not)
    where
      earlier : (s : MemoryTest) → test_number s < 4 → Pass s
      earlier Order h = o
      earlier Links h = l
      earlier Positions h = p
      earlier Counts h = absurd (omega arith)
      earlier Places h = absurd (omega arith)

  pub fails_places : Pass Order → Pass Links → Pass Positions → Pass Counts → (Pass Places → ⊥) → Fail Places
  fails_places o l p c not = (earlier, not)
    where
      earlier : (s : MemoryTest) → test_number s < 5 → Pass s
      earlier Order h = o
      earlier Links h = l
      earlier Positions h = p
      earlier Counts h = c
      earlier Places h = absurd (omega arith)

  pub sound_by : Pass Order → Pass Links → Pass Positions → Pass Counts → Pass Places → Sound n swept used order home cells given
  sound_by o l p c m Order = o
  sound_by o l p c m Links = l
  sound_by o l p c m Positions = p
  sound_by o l p c m Counts = c
  sound_by o l p c m Places = m

  -- sound memory has sound sketches
  pub sketches_sound : Sound n swept used order home cells given → SketchesSound n swept used home cells
  sketches_sound s = record { links = s Links; rising = s Positions; counts = s Counts }

-- each verdict, for a function that makes the tests in turn
pub ruleset verdicts = (fails_order, fails_links, fails_positions, fails_counts, fails_places, sound_by)
