-- What holds of ways, their lengths and least lengths, in every map and every lawful measure.
use Rattle.std.specs.Prelude.{◌≡◌, ℕ, T, ◌↔◌, List, ◌++◌}
use Rattle.measure.specs.Laws.{OrderedMonoid}
use Rattle.graph.specs.Graphs.{Graph}
use Rattle.graph.specs.Ways.{ArcTo, Way, way_length, Least, Within}

pub record WayLaws {L : Type 0} (m : OrderedMonoid L) (g : Graph L) : Type 0 where
  -- a way followed by another is a way, and its length is the join of their lengths
  pub joined : (v x w : ℕ) (one two : List (ArcTo L)) → Way g v one x → Way g x two w → Way g v (one ++ two) w
  pub length_joined : (one two : List (ArcTo L)) → way_length m (one ++ two) ≡ m.join (way_length m one) (way_length m two)
  -- no way is shorter than zero
  pub at_least_zero : (way : List (ArcTo L)) → T (m.at_most m.zero (way_length m way))
  -- arcs added at the end or at the start never make a way shorter
  pub longer_on : (one two : List (ArcTo L)) → T (m.at_most (way_length m one) (way_length m (one ++ two)))
  pub longer_before : (one two : List (ArcTo L)) → T (m.at_most (way_length m two) (way_length m (one ++ two)))
  -- where there is a way there is a least one, and there is one least length at most
  pub least_exists : (v w : ℕ) (way : List (ArcTo L)) → Way g v way w → (d : L) × Least m g v w d
  pub least_once : (v w : ℕ) (d e : L) → Least m g v w d → Least m g v w e → d ≡ e
  -- a place lies within a limit exactly if the least length to it is at most that limit
  pub within : (v w : ℕ) (t : L) → Within m g v w t ↔ ((d : L) × Least m g v w d × T (m.at_most d t))
