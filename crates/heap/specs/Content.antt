-- What a heap holds, how many places that is, and the order that it keeps.
use Rattle.std.specs.Prelude.{ℕ, zero, suc, ◌+◌, Bool, cond, is_some, None, Option}
use Rattle.std.specs.List.{slice_get}
use Rattle.measure.specs.Orders.{TotalOrder}
use Rattle.heap.specs.declared.indexed_heap.IndexedHeap.{IndexedHeap}
use Rattle.heap.specs.Heaped.{Heaped, key_in}
use Rattle.heap.specs.Pairing.{waits}

-- of how many numbers below n a test holds
unfoldable pub how_many : ℕ → (ℕ → Bool) → ℕ
how_many zero test = 0
how_many (suc n) test = how_many n test + cond (test n) 1 0

module _ {K : Type 0} where
  -- the key that a place waits with, if it waits
  unfoldable pub content : IndexedHeap K → ℕ → Option K
  content h p = cond (waits h.table.positions p) (slice_get h.keys p) None

  -- how many places wait
  unfoldable pub size : IndexedHeap K → ℕ
  size h = how_many 4096 (λ p. is_some (content h p))

  -- each slot's key is at least that of the slot above
  unfoldable pub Ordered : TotalOrder K → IndexedHeap K → Type 0
  Ordered o h = Heaped o (key_in o h.keys h.table.slots) h.table.len
