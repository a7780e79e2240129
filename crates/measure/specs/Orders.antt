-- Total orders with a least element, and how they are built from one another.
use Rattle.std.specs.Prelude.{◌≡◌, ℕ, Bool, true, false, cond, ◌&&◌, T, leb, ◌⊎◌}
use Rattle.std.proofs.Common.{sym, subst, inl, inr, ⊎_elim, arith, leb→le, le→leb}
use Rattle.std.proofs.lemmas.Bool.{cases_lt}

-- a comparison that is total, transitive and antisymmetric, with an element at most every other
pub record TotalOrder (K : Type 0) : Type 0 where
  pub least : K
  pub at_most : K → K → Bool
  pub total : (a b : K) → T (at_most a b) ⊎ T (at_most b a)
  pub trans : (a b c : K) → T (at_most a b) → T (at_most b c) → T (at_most a c)
  pub antisym : (a b : K) → T (at_most a b) → T (at_most b a) → a ≡ b
  pub lowest : (a : K) → T (at_most least a)

-- numbers by size
abbrev pub number_order : TotalOrder ℕ
number_order = record {
  least = 0;
  at_most = leb;
  total = λ a b. ⊎_elim (λ h. inl (le→leb a b (omega arith))) (λ h. inr (le→leb b a (omega arith))) (cases_lt a b);
  trans = λ a b c h k. let p = leb→le a b h in let q = leb→le b c k in le→leb a c (omega arith);
  antisym = λ a b h k. let p = leb→le a b h in let q = leb→le b a k in omega arith;
  lowest = λ a. le→leb 0 a (omega arith);
}

module _ {A B : Type 0} (p : TotalOrder A) (q : TotalOrder B) where
  -- pairs by the first part; by the second where the first parts are each at most the other
  abbrev pub pair_at_most : A × B → A × B → Bool
  pair_at_most x y = p.at_most x.0 y.0 && cond (p.at_most y.0 x.0) (q.at_most x.1 y.1) true

  -- what the comparison of pairs tells, and what suffices for it
  pub pair_tells : (x y : A × B) → T (pair_at_most x y) → T (p.at_most x.0 y.0) × (T (p.at_most y.0 x.0) → T (q.at_most x.1 y.1))
  pair_tells x y h = go (p.at_most x.0 y.0) (p.at_most y.0 x.0) (q.at_most x.1 y.1) h
    where
      go : (a b c : Bool) → T (a && cond b c true) → T a × (T b → T c)
      go true true c e = (tt, λ _. e)
      go true false c e = (tt, λ f. absurd f)
      go false b c e = absurd e

  pub pair_told : (x y : A × B) → T (p.at_most x.0 y.0) → (T (p.at_most y.0 x.0) → T (q.at_most x.1 y.1)) → T (pair_at_most x y)
  pair_told x y h k = go (p.at_most x.0 y.0) (p.at_most y.0 x.0) (q.at_most x.1 y.1) h k
    where
      go : (a b c : Bool) → T a → (T b → T c) → T (a && cond b c true)
      go true true c e f = f tt
      go true false c e f = tt
      go false b c e f = absurd e

  pub pair_total : (x y : A × B) → T (pair_at_most x y) ⊎ T (pair_at_most y x)
  pair_total x y = ⊎_elim (λ h. go (p.at_most y.0 x.0) h (λ t. t) (λ t. t)) (λ h. inr' (p.at_most x.0 y.0) h (λ t. t) (λ t. t)) (p.total x.0 y.0)
    where
      both : T (p.at_most x.0 y.0) → T (p.at_most y.0 x.0) → T (pair_at_most x y) ⊎ T (pair_at_most y x)
      both a b = ⊎_elim (λ c. inl (pair_told x y a (λ _. c))) (λ c. inr (pair_told y x b (λ _. c))) (q.total x.1 y.1)

      go : (b : Bool) → T (p.at_most x.0 y.0) → (T b → T (p.at_most y.0 x.0)) → (T (p.at_most y.0 x.0) → T b) → T (pair_at_most x y) ⊎ T (pair_at_most y x)
      go true a to back = both a (to tt)
      go false a to back = inl (pair_told x y a (λ c. absurd (back c)))

      inr' : (b : Bool) → T (p.at_most y.0 x.0) → (T b → T (p.at_most x.0 y.0)) → (T (p.at_most x.0 y.0) → T b) → T (pair_at_most x y) ⊎ T (pair_at_most y x)
      inr' true a to back = both (to tt) a
      inr' false a to back = inr (pair_told y x a (λ c. absurd (back c)))

  pub pair_trans : (x y z : A × B) → T (pair_at_most x y) → T (pair_at_most y z) → T (pair_at_most x z)
  pair_trans x y z h k =
      let a = pair_tells x y h in
      let b = pair_tells y z k in
      pair_told x z (p.trans x.0 y.0 z.0 a.0 b.0)
      (λ c. q.trans x.1 y.1 z.1 (a.1 (p.trans y.0 z.0 x.0 b.0 c)) (b.1 (p.trans z.0 x.0 y.0 c a.0)))

  pub pair_antisym : (x y : A × B) → T (pair_at_most x y) → T (pair_at_most y x) → x ≡ y
  pair_antisym x y h k =
      let a = pair_tells x y h in
      let b = pair_tells y x k in
      λ i. (p.antisym x.0 y.0 a.0 b.0 i, q.antisym x.1 y.1 (a.1 b.0) (b.1 a.0) i)

  abbrev pub pair_order : TotalOrder (A × B)
  pair_order = record {
    least = (p.least, q.least);
    at_most = pair_at_most;
    total = pair_total;
    trans = pair_trans;
    antisym = pair_antisym;
    lowest = λ x. pair_told (p.least, q.least) x (p.lowest x.0) (λ _. q.lowest x.1);
  }

-- values by what they show, where that shows all of them
abbrev pub order_by : {A B : Type 0} (show : A → B) (least : A) → ((a b : A) → show a ≡ show b → a ≡ b) → (o : TotalOrder B) → show least ≡ o.least → TotalOrder A
order_by show least same o lowest = record {
  least = least;
  at_most = λ x y. o.at_most (show x) (show y);
  total = λ x y. o.total (show x) (show y);
  trans = λ x y z. o.trans (show x) (show y) (show z);
  antisym = λ x y h k. same x y (o.antisym (show x) (show y) h k);
  lowest = λ x. subst (λ b. T (o.at_most b (show x))) (sym lowest) (o.lowest (show x));
}
