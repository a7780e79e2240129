-- What a move of places through the slots leaves as it was.
use Rattle.std.specs.Prelude.{◌≡◌, ℕ}
use Rattle.heap.specs.declared.table.Table.{Table}
use Rattle.heap.specs.Pairing.{waits}

-- as many slots are filled, and the same places wait
pub record SameWaiting (before after : Table) : Type 0 where
  pub len : after.len ≡ before.len
  pub waiting : (p : ℕ) → waits after.positions p ≡ waits before.positions p
