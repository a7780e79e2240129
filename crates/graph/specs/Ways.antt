-- Ways through a map and their lengths: which lengths lead from one place to another, the least of them, and reaching within a limit.
use Rattle.std.specs.Prelude.{◌≡◌, ℕ, ◌<◌, T, List, [], ◌∷◌, Some, None, Option}
use Rattle.measure.specs.Laws.{OrderedMonoid}
use Rattle.graph.specs.Members.{In}
use Rattle.graph.specs.Graphs.{Graph}
use Rattle.graph.specs.declared.arc.Arc.{Arc}

-- an arc with its to-place, the place where it arrives
pub record ArcTo (L : Type 0) : Type 0 where
  pub to : ℕ
  pub arc : Arc L

-- it is an arc of the map: it stands among those that arrive there
abbrev pub ArcOf : {L : Type 0} → Graph L → ArcTo L → Type 0
ArcOf g a = In a.arc (g.arriving a.to)

-- a way from v to w: arcs of the map, each starting where the one before ended; the empty way leads from v to v
abbrev pub Way : {L : Type 0} → Graph L → ℕ → List (ArcTo L) → ℕ → Type 0
Way g v [] w = (v ≡ w) × (v < g.places)
Way g v (a ∷ rest) w = ArcOf g a × (a.arc.from ≡ v) × Way g a.to rest w

-- the length of a way: its arcs joined from first to last; the empty way has length zero
abbrev pub way_length : {L : Type 0} → OrderedMonoid L → List (ArcTo L) → L
way_length m [] = m.zero
way_length m (a ∷ rest) = m.join a.arc.length (way_length m rest)

-- some way from v to w has length d
abbrev pub HasWay : {L : Type 0} → OrderedMonoid L → Graph L → ℕ → ℕ → L → Type 0
HasWay {L} m g v w d = (way : List (ArcTo L)) × Way g v way w × (way_length m way ≡ d)

-- d is the least length of a way from v to w
abbrev pub Least : {L : Type 0} → OrderedMonoid L → Graph L → ℕ → ℕ → L → Type 0
Least {L} m g v w d = HasWay m g v w d × ((way : List (ArcTo L)) → Way g v way w → T (m.at_most d (way_length m way)))

-- w lies within t of v: some way from v to w has length at most t
abbrev pub Within : {L : Type 0} → OrderedMonoid L → Graph L → ℕ → ℕ → L → Type 0
Within {L} m g v w t = (way : List (ArcTo L)) × Way g v way w × T (m.at_most (way_length m way) t)

-- the least length of the ways from v to w, or none if there is no way
abbrev pub LeastOrNone : {L : Type 0} → OrderedMonoid L → Graph L → ℕ → ℕ → Option L → Type 0
LeastOrNone {L} m g v w None = (way : List (ArcTo L)) → Way g v way w → ⊥
LeastOrNone m g v w (Some d) = Least m g v w d
