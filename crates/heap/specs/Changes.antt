-- What each call on a heap answers, and what the heap holds after it. Of the answers of a call exactly one can be given,
-- since what they ask of the heap before excludes one another; a refused call leaves the heap as it was.
use Rattle.std.specs.Prelude.{◌≡◌, ℕ, ◌+◌, ◌<◌, ◌≤◌, true, false, T, is_some, IsSomeAnd, Some, None, Ok, Err, Option, Result, nat_eq}
use Rattle.std.specs.Map.{update}
use Rattle.measure.specs.Orders.{TotalOrder}
use Rattle.heap.specs.declared.indexed_heap.IndexedHeap.{IndexedHeap}
use Rattle.heap.specs.declared.refusal.HeapRefusal.{HeapRefusal}
use Rattle.heap.specs.declared.refusal.HeapRefusal.TheVariants.{NoSuchPlace, Waiting, NotWaiting, HigherKey}
use Rattle.heap.specs.Content.{Ordered, content, size}

module _ {K : Type 0} where
  -- what is held at one place, written anew, and at every other as it was
  abbrev pub With : (ℕ → Option K) → ℕ → Option K → (ℕ → Option K) → Type 0
  With before place entry after = (p : ℕ) → after p ≡ update nat_eq before place entry p

  -- a key is at most every key that is held
  abbrev pub Least : TotalOrder K → (ℕ → Option K) → K → Type 0
  Least o held key = (p : ℕ) (k : K) → held p ≡ Some k → T (o.at_most key k)

  -- a place comes in if there is such a place and it does not wait
  abbrev pub Pushed : IndexedHeap K → ℕ → K → Result (Unit {0}) HeapRefusal → IndexedHeap K → Type 0
  Pushed before place key (Ok _) after =
      (place < 4096)
      × (is_some (content before place) ≡ false)
      × With (content before) place (Some key) (content after)
      × (size after ≡ size before + 1)
  Pushed before place key (Err NoSuchPlace) after = (4096 ≤ place) × (after ≡ before)
  Pushed before place key (Err Waiting) after = (is_some (content before place) ≡ true) × (after ≡ before)
  Pushed before place key (Err NotWaiting) after = ⊥
  Pushed before place key (Err HigherKey) after = ⊥

  -- a key is lowered if the place waits, with a key that is not below it
  abbrev pub Lowered : TotalOrder K → IndexedHeap K → ℕ → K → Result (Unit {0}) HeapRefusal → IndexedHeap K → Type 0
  Lowered o before place key (Ok _) after =
      IsSomeAnd (content before place) (λ old. T (o.at_most key old))
      × With (content before) place (Some key) (content after)
      × (size after ≡ size before)
  Lowered o before place key (Err NoSuchPlace) after = (4096 ≤ place) × (after ≡ before)
  Lowered o before place key (Err Waiting) after = ⊥
  Lowered o before place key (Err NotWaiting) after = (place < 4096) × (content before place ≡ None) × (after ≡ before)
  Lowered o before place key (Err HigherKey) after =
      IsSomeAnd (content before place) (λ old. T (o.at_most key old) → ⊥) × (after ≡ before)

  -- a place is taken out with its key, which in an ordered heap is at most every key held
  pub record Removed (o : TotalOrder K) (before : IndexedHeap K) (place : ℕ) (key : K) (after : IndexedHeap K) : Type 0 where
    pub held : content before place ≡ Some key
    pub least : Ordered o before → Least o (content before) key
    pub rest : With (content before) place None (content after)
    pub fewer : size before ≡ size after + 1

  -- a place is taken out if one waits
  abbrev pub Taken : TotalOrder K → IndexedHeap K → Option (ℕ × K) → IndexedHeap K → Type 0
  Taken o before None after = ((p : ℕ) → content before p ≡ None) × (after ≡ before)
  Taken o before (Some w) after = Removed o before w.0 w.1 after
