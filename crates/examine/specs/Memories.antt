-- The tests of a memory as it is handed over.
use Rattle.std.specs.Prelude.{ℕ, Option}
use Rattle.fault.specs.declared.memory_test.MemoryTest.{MemoryTest}
use Rattle.tables.specs.Tests.{Sound, FailsFirst as FailsFirstOf}
use Rattle.examine.specs.declared.memory.Memory.{Memory}

-- it passes every test
abbrev pub IsSound : {R : Type 0} → Memory R → Option ℕ → Type 0
IsSound m given = Sound m.n m.swept m.used m.order.now m.sketches.home.now m.sketches.cells.now given

-- it fails this test, and passes every earlier one
abbrev pub FailsFirst : {R : Type 0} → Memory R → Option ℕ → MemoryTest → Type 0
FailsFirst m given test = FailsFirstOf m.n m.swept m.used m.order.now m.sketches.home.now m.sketches.cells.now given test
