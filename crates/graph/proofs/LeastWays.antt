-- Where there is a way there is a least one, just one, and what lies within a limit has its least length within it.
use Rattle.std.proofs.Common.{◌≡◌, ℕ, T, ◌⊎◌, List, Some, None, Option, sym, refl, ap, subst, inl, inr, ⊎_elim}
use Rattle.measure.specs.Laws.{OrderedMonoid}
use Rattle.graph.specs.Graphs.{Graph}
use Rattle.graph.specs.Ways.{ArcTo, Way, Least, Within, LeastOrNone}
use Rattle.graph.specs.LeastLengths.{least_length}
use Rattle.graph.specs.WayLaws.{WayLaws}
use Rattle.graph.proofs.Joined.{way_joined, length_joined, longer_on, longer_before}
use Rattle.graph.proofs.Computed.{least_length_right}

module _ {L : Type 0} (m : OrderedMonoid L) (g : Graph L) where
  -- there is a least length, or there is no way
  pub least_or_none : (v w : ℕ) → ((d : L) × Least m g v w d) ⊎ ((way : List (ArcTo L)) → Way g v way w → ⊥)
  least_or_none v w = go (least_length m g v w) (least_length_right m g v w)
    where
      go : (o : Option L) → LeastOrNone m g v w o → ((d : L) × Least m g v w d) ⊎ ((way : List (ArcTo L)) → Way g v way w → ⊥)
      go None h = inr h
      go (Some d) h = inl (d, h)

  -- where there is a way, there is a least length
  pub least_exists : (v w : ℕ) (way : List (ArcTo L)) → Way g v way w → (d : L) × Least m g v w d
  least_exists v w way i = ⊎_elim (λ l. l) (λ none. absurd (none way i)) (least_or_none v w)

  -- what lies within t has a least length, and that is at most t
  pub least_within : (v w : ℕ) (t : L) → Within m g v w t → (d : L) × Least m g v w d × T (m.at_most d t)
  least_within v w t r =
      let b = least_exists v w r.0 r.1 in
      (b.0, b.1, m.trans _ _ _ (b.1.1 r.0 r.1) r.2)

  pub within_least : (v w : ℕ) (d t : L) → T (m.at_most d t) → Least m g v w d → Within m g v w t
  within_least v w d t h l = (l.0.0, l.0.1, subst (λ x. T (m.at_most x t)) (sym l.0.2) h)

  pub within_more : (v w : ℕ) (d t : L) → T (m.at_most d t) → Within m g v w d → Within m g v w t
  within_more v w d t h r = (r.0, r.1, m.trans _ _ _ r.2 h)

  -- there is one least length at most
  pub least_once : (v w : ℕ) (d e : L) → Least m g v w d → Least m g v w e → d ≡ e
  least_once v w d e h k = m.antisym d e (below_other d e h k) (below_other e d k h)
    where
      below_other : (a b : L) → Least m g v w a → Least m g v w b → T (m.at_most a b)
      below_other a b x y = subst (λ l. T (m.at_most a l)) y.0.2 (x.1 y.0.0 y.0.1)

  -- and one answer
  pub least_or_none_once : (v w : ℕ) (o p : Option L) → LeastOrNone m g v w o → LeastOrNone m g v w p → o ≡ p
  least_or_none_once v w None None h k = refl
  least_or_none_once v w None (Some e) h k = absurd (h k.0.0 k.0.1)
  least_or_none_once v w (Some d) None h k = absurd (k h.0.0 h.0.1)
  least_or_none_once v w (Some d) (Some e) h k = ap Some (least_once v w d e h k)

-- all laws of ways
pub way_laws : {L : Type 0} (m : OrderedMonoid L) (g : Graph L) → WayLaws m g
way_laws m g = record {
  joined = way_joined g;
  length_joined = length_joined m;
  at_least_zero = λ way. m.least _;
  longer_on = longer_on m;
  longer_before = longer_before m;
  least_exists = least_exists m g;
  least_once = least_once m g;
  within = λ v w t. (least_within m g v w t, λ l. within_least m g v w l.0 t l.2 l.1);
}
