-- Arcs and ways start and end at places of the map.
use Rattle.std.proofs.Common.{ℕ, ◌<◌, List, [], ◌∷◌, subst, arith}
use native.Mathlib.Decide.{dec_lt}
use Rattle.graph.specs.Members.{In}
use Rattle.graph.specs.Graphs.{Graph}
use Rattle.graph.specs.Ways.{ArcTo, ArcOf, Way}
use Rattle.graph.specs.declared.arc.Arc.{Arc}
use Rattle.graph.proofs.Lists.{all_in, none_in}

module _ {L : Type 0} (g : Graph L) where
  pub arrives_inside : (w : ℕ) (a : Arc L) → In a (g.arriving w) → w < g.places
  arrives_inside w a i = go (dec_lt w g.places)
    where
      go : Dec (w < g.places) → w < g.places
      go (yes h) = h
      go (no h) = absurd (none_in a _ (g.beyond _ (omega arith)) i)

  pub departs_inside : (a : ArcTo L) → ArcOf g a → a.arc.from < g.places
  departs_inside a i = all_in (λ x. x.from < g.places) (g.arriving a.to) (g.inside a.to) a.arc i

  pub starts_inside : (v : ℕ) (way : List (ArcTo L)) (w : ℕ) → Way g v way w → v < g.places
  starts_inside v [] w h = h.1
  starts_inside v (a ∷ rest) w h = subst (λ x. x < g.places) h.1 (departs_inside a h.0)

  pub ends_inside : (v : ℕ) (way : List (ArcTo L)) (w : ℕ) → Way g v way w → w < g.places
  ends_inside v [] w h = subst (λ x. x < g.places) h.0 h.1
  ends_inside v (a ∷ rest) w h = ends_inside a.to rest w h.2
