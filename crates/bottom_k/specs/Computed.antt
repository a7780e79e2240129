-- Definitions that compute what is due and what is sampled, from any function that gives the least lengths between places.
use Rattle.std.specs.Prelude.{ℕ, zero, suc, Bool, false, cond, not, ◌&&◌, ◌||◌, List, [], ◌∷◌, ◌++◌, length, take, Some, None, filter, Option, nat_eq, nat_lt}
use Rattle.std.specs.List.{range_with_len}
use Rattle.measure.specs.Laws.{OrderedMonoid}
use Rattle.graph.specs.Graphs.{Graph}
use Rattle.graph.specs.Ways.{LeastOrNone}
use Rattle.bottom_k.specs.Sketches.{Setting, Entry, place_at}
use Rattle.bottom_k.specs.Cells.{entries_of}

-- the function gives the least length of the ways from v to w, or none if there is no way
abbrev pub GivesLeast : {L : Type 0} → OrderedMonoid L → Graph L → (ℕ → ℕ → Option L) → Type 0
GivesLeast m g least = (v w : ℕ) → LeastOrNone m g v w (least v w)

-- is there a length, and is it at most t?
abbrev pub is_within : {L : Type 0} → OrderedMonoid L → L → Option L → Bool
is_within m t None = false
is_within m t (Some d) = m.at_most d t

-- does some element pass the test?
abbrev pub some_passes : {X : Type 0} → (X → Bool) → List X → Bool
some_passes test [] = false
some_passes test (x ∷ xs) = test x || some_passes test xs

module _ {L : Type 0} (s : Setting L) (least : ℕ → ℕ → Option L) where
  -- does the place at position q lie within t of v?
  abbrev pub is_near : ℕ → L → ℕ → Bool
  is_near v t q = is_within s.measure t (least v (place_at s q))

  -- the positions before p whose places lie within t of v
  abbrev pub near_before : ℕ → ℕ → L → List ℕ
  near_before v p t = filter (is_near v t) (range_with_len 0 p)

  -- position p at its least length, if there is one and fewer than k places before p are as near or nearer
  abbrev pub entry_at : ℕ → ℕ → Option L → List (Entry L)
  entry_at v p None = []
  entry_at v p (Some d) = cond (nat_lt (length (near_before v p d)) s.k) (record { position = p; length = d } ∷ []) []

  -- what v is due to note of position p
  abbrev pub entry_due : ℕ → ℕ → List (Entry L)
  entry_due v p = entry_at v p (least v (place_at s p))

  -- the sketch due to v
  abbrev pub due_list : ℕ → ℕ → List (Entry L)
  due_list zero v = []
  due_list (suc p) v = due_list p v ++ entry_due v p

  -- the number of entries due in all
  abbrev pub entries_due : ℕ → ℕ
  entries_due swept = entries_of s.map.places (due_list swept)

  -- the place for which the cells run out when it is swept after p others, if they do
  abbrev pub cells_run_out : ℕ → ℕ → Option ℕ
  cells_run_out cells p = cond (nat_lt cells (entries_due (suc p))) (Some (place_at s p)) None

  -- the sample of a group of starts within t, as positions
  abbrev pub sample_list : ℕ → List ℕ → L → List ℕ
  sample_list swept starts t = take s.k (filter (λ q. some_passes (λ v. is_near v t q) starts) (range_with_len 0 swept))

  -- is v due to note position p?
  abbrev pub is_due_to_note : ℕ → ℕ → Bool
  is_due_to_note p v = nat_lt 0 (length (entry_due v p))

  -- does an arc lead from v into a place that is due to note position p?
  abbrev pub leads_into_due : ℕ → ℕ → Bool
  leads_into_due p v = some_passes (λ w. is_due_to_note p w && some_passes (λ a. nat_eq a.from v) (s.map.arriving w)) (range_with_len 0 s.map.places)

  -- the places where the search from position p turns back: not due to note it, with an arc into a place that is
  abbrev pub turned_back : ℕ → List ℕ
  turned_back p = filter (λ v. not (is_due_to_note p v) && leads_into_due p v) (range_with_len 0 s.map.places)
