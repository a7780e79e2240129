-- The least lengths between all places of a map, worked out place by place: first the ways of one arc at most, then for each
-- place in turn the ways that also lead by way of it.
use Rattle.std.specs.Prelude.{ℕ, zero, suc, cond, List, [], ◌∷◌, map, Some, None, Option, ◌==◌, slice_index_or}
use Rattle.std.specs.List.{range_with_len}
use Rattle.measure.specs.Laws.{OrderedMonoid}
use Rattle.graph.specs.Graphs.{Graph}
use Rattle.graph.specs.declared.arc.Arc.{Arc}

-- the shorter of two lengths, each of which may be missing
abbrev pub shorter : {L : Type 0} → OrderedMonoid L → Option L → Option L → Option L
shorter m None b = b
shorter m (Some a) None = Some a
shorter m (Some a) (Some b) = Some (cond (m.at_most a b) a b)

-- the join of two lengths: missing if either is
abbrev pub in_turn : {L : Type 0} → OrderedMonoid L → Option L → Option L → Option L
in_turn m None b = None
in_turn m (Some a) None = None
in_turn m (Some a) (Some b) = Some (m.join a b)

-- the shortest way from v to w of one arc at most, that one among some arcs that arrive at w
abbrev pub shortest_of : {L : Type 0} → OrderedMonoid L → ℕ → ℕ → List (Arc L) → Option L
shortest_of m v w [] = cond (v == w) (Some m.zero) None
shortest_of m v w (a ∷ arcs) = shorter m (shortest_of m v w arcs) (cond (a.from == v) (Some a.length) None)

-- the shortest way from v to w of one arc at most
abbrev pub direct : {L : Type 0} → OrderedMonoid L → Graph L → ℕ → ℕ → Option L
direct m g v w = shortest_of m v w (g.arriving w)

-- a table of n rows and n columns
abbrev pub square : {X : Type 0} → ℕ → (ℕ → ℕ → X) → List (List X)
square n f = map (λ v. map (f v) (range_with_len 0 n)) (range_with_len 0 n)

-- what stands in row v and column w
abbrev pub entry : {X : Type 0} → List (List (Option X)) → ℕ → ℕ → Option X
entry t v w = slice_index_or (slice_index_or t v []) w None

-- each entry, or by way of x if that is shorter
abbrev pub by_way_of : {L : Type 0} → OrderedMonoid L → ℕ → ℕ → List (List (Option L)) → List (List (Option L))
by_way_of m n x t = square n (λ v w. shorter m (entry t v w) (in_turn m (entry t v x) (entry t x w)))

-- the shortest ways that lead only by way of the first so many places
abbrev pub shortest_by_first : {L : Type 0} → OrderedMonoid L → Graph L → ℕ → List (List (Option L))
shortest_by_first m g zero = square g.places (direct m g)
shortest_by_first m g (suc x) = by_way_of m g.places x (shortest_by_first m g x)

-- the table of least lengths: row v has the lengths of the ways from v
unfoldable pub least_table : {L : Type 0} → OrderedMonoid L → Graph L → List (List (Option L))
least_table m g = shortest_by_first m g g.places

-- the least length of a way from v to w, if there is a way
abbrev pub least_length : {L : Type 0} → OrderedMonoid L → Graph L → ℕ → ℕ → Option L
least_length m g v w = entry (least_table m g) v w
