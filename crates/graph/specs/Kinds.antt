-- Kinds of ways, and a length that is right for the ways of one kind: the steps by which the table of least lengths is built.
use Rattle.std.specs.Prelude.{ℕ, T, List, [], ◌∷◌, Some, None, Option}
use Rattle.std.specs.List.{AllByRecursion}
use Rattle.measure.specs.Laws.{OrderedMonoid}
use Rattle.graph.specs.Members.{In}
use Rattle.graph.specs.Graphs.{Graph}
use Rattle.graph.specs.Ways.{ArcTo, Way, way_length, HasWay}
use Rattle.graph.specs.declared.arc.Arc.{Arc}

-- every arc departs from a place of the list
abbrev pub DepartIn : {L : Type 0} → List ℕ → List (ArcTo L) → Type 0
DepartIn xs arcs = AllByRecursion (λ a. In a.arc.from xs) arcs

-- every arc but the first departs from a place of the list
abbrev pub Through : {L : Type 0} → List ℕ → List (ArcTo L) → Type 0
Through xs [] = Unit {0}
Through xs (a ∷ rest) = DepartIn xs rest

-- of one arc at most, that one among some
abbrev pub Direct : {L : Type 0} → List (Arc L) → List (ArcTo L) → Type 0
Direct arcs [] = Unit {0}
Direct arcs (a ∷ []) = In a.arc arcs
Direct arcs (a ∷ b ∷ rest) = ⊥

-- none: there is no way of the kind. Some: a way is so long, and none of the kind is shorter
abbrev pub Right : {L : Type 0} → OrderedMonoid L → Graph L → (List (ArcTo L) → Type 0) → ℕ → ℕ → Option L → Type 0
Right {L} m g Kind v w None = (way : List (ArcTo L)) → Way g v way w → Kind way → ⊥
Right {L} m g Kind v w (Some d) = HasWay m g v w d × ((way : List (ArcTo L)) → Way g v way w → Kind way → T (m.at_most d (way_length m way)))
