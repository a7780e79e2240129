-- One way after another.
use Rattle.std.proofs.Common.{◌≡◌, ℕ, T, List, [], ◌∷◌, ◌++◌, sym, ap, ◌∙◌, subst}
use Rattle.measure.specs.Laws.{OrderedMonoid}
use Rattle.graph.specs.Graphs.{Graph}
use Rattle.graph.specs.Ways.{ArcTo, Way, way_length, HasWay}
use Rattle.graph.proofs.Lengths.{at_most_before, at_most_after}

module _ {L : Type 0} (m : OrderedMonoid L) where
  -- the length of two ways joined is the join of their lengths
  pub length_joined : (one two : List (ArcTo L)) → way_length m (one ++ two) ≡ m.join (way_length m one) (way_length m two)
  length_joined [] two = sym (m.zero_join (way_length m two))
  length_joined (a ∷ rest) two = ap (m.join a.arc.length) (length_joined rest two) ∙ sym (m.assoc _ _ _)

  -- arcs added at the end make no shorter, nor do arcs added at the start
  pub longer_on : (one two : List (ArcTo L)) → T (m.at_most (way_length m one) (way_length m (one ++ two)))
  longer_on one two = subst (λ l. T (m.at_most (way_length m one) l)) (sym (length_joined one two)) (at_most_before m _ _)

  pub longer_before : (one two : List (ArcTo L)) → T (m.at_most (way_length m two) (way_length m (one ++ two)))
  longer_before one two = subst (λ l. T (m.at_most (way_length m two) l)) (sym (length_joined one two)) (at_most_after m _ _)

module _ {L : Type 0} (g : Graph L) where
  pub way_joined : (v x w : ℕ) (one two : List (ArcTo L)) → Way g v one x → Way g x two w → Way g v (one ++ two) w
  way_joined v x w [] two i j = subst (λ u. Way g u two w) (sym i.0) j
  way_joined v x w (a ∷ rest) two i j = (i.0, i.1, way_joined a.to x w rest two i.2 j)

pub has_way_joined : {L : Type 0} (m : OrderedMonoid L) (g : Graph L) (v x w : ℕ) (d e : L) → HasWay m g v x d → HasWay m g x w e → HasWay m g v w (m.join d e)
has_way_joined m g v x w d e b c = (
  b.0 ++ c.0,
  way_joined g v x w b.0 c.0 b.1 c.1,
  length_joined m b.0 c.0 ∙ ap (λ l. m.join l (way_length m c.0)) b.2 ∙ ap (m.join d) c.2,
)
