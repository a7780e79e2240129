-- What the laws of a measure give at once.
use Rattle.std.proofs.Common.{◌≡◌, T, subst, ⊎_elim}
use Rattle.measure.specs.Laws.{OrderedMonoid}

module _ {L : Type 0} (m : OrderedMonoid L) where
  pub at_most_same : (a : L) → T (m.at_most a a)
  at_most_same a = ⊎_elim (λ h. h) (λ h. h) (m.total a a)

  pub at_most_equal : (a b : L) → a ≡ b → T (m.at_most a b)
  at_most_equal a b e = subst (λ x. T (m.at_most a x)) e (at_most_same a)

  -- joining makes no shorter
  pub at_most_after : (a b : L) → T (m.at_most b (m.join a b))
  at_most_after a b = subst (λ x. T (m.at_most x (m.join a b))) (m.zero_join b) (m.mono_left m.zero a b (m.least a))

  pub at_most_before : (a b : L) → T (m.at_most a (m.join a b))
  at_most_before a b = subst (λ x. T (m.at_most x (m.join a b))) (m.join_zero a) (m.mono_right m.zero b a (m.least b))

  pub join_at_most : (a b c d : L) → T (m.at_most a b) → T (m.at_most c d) → T (m.at_most (m.join a c) (m.join b d))
  join_at_most a b c d h k = m.trans _ (m.join b c) _ (m.mono_left a b c h) (m.mono_right c d b k)
