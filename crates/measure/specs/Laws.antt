-- What a measure is: lengths with a zero, a join and a comparison, and the laws that these keep.
use Rattle.std.specs.Prelude.{◌≡◌, Bool, true, false, cond, T, ◌⊎◌}
use Rattle.std.proofs.Common.{⊎_elim}
use Rattle.measure.specs.Orders.{TotalOrder}

-- a totally ordered monoid whose zero is at most every length
pub record OrderedMonoid (L : Type 0) : Type 0 where
  pub zero : L
  pub join : L → L → L
  pub at_most : L → L → Bool
  -- the comparison is total and transitive, and two lengths each at most the other are equal
  pub total : (a b : L) → T (at_most a b) ⊎ T (at_most b a)
  pub trans : (a b c : L) → T (at_most a b) → T (at_most b c) → T (at_most a c)
  pub antisym : (a b : L) → T (at_most a b) → T (at_most b a) → a ≡ b
  -- the join is associative, and zero joined on either side changes no length
  pub assoc : (a b c : L) → join (join a b) c ≡ join a (join b c)
  pub zero_join : (a : L) → join zero a ≡ a
  pub join_zero : (a : L) → join a zero ≡ a
  -- zero is at most every length
  pub least : (a : L) → T (at_most zero a)
  -- joined to a length, on either side, a larger length makes no smaller one
  pub mono_right : (a b c : L) → T (at_most a b) → T (at_most (join c a) (join c b))
  pub mono_left : (a b c : L) → T (at_most a b) → T (at_most (join a c) (join b c))

-- how lengths stand in the rows of a table: a row reads back to the length that it was written from
pub record RowEncoding (L Row : Type 0) : Type 0 where
  pub reads : Row → L
  pub writes : L → Row
  pub kept : (a : L) → reads (writes a) ≡ a

module _ {L : Type 0} (o : TotalOrder L) where
  -- the higher of two
  abbrev pub higher : L → L → L
  higher a b = cond (o.at_most a b) b a

  pub same_at_most : (a : L) → T (o.at_most a a)
  same_at_most a = ⊎_elim (λ h. h) (λ h. h) (o.total a a)

  -- it is at least both
  pub above_first : (a b : L) → T (o.at_most a (higher a b))
  above_first a b = go (o.at_most a b) (λ h. h)
    where
      go : (t : Bool) → (T t → T (o.at_most a b)) → T (o.at_most a (cond t b a))
      go true h = h tt
      go false h = same_at_most a

  pub above_second : (a b : L) → T (o.at_most b (higher a b))
  above_second a b = go (o.at_most a b) (⊎_elim (λ h n. absurd (n h)) (λ h n. h) (o.total a b))
    where
      go : (t : Bool) → ((T t → ⊥) → T (o.at_most b a)) → T (o.at_most b (cond t b a))
      go true h = same_at_most b
      go false h = h (λ f. f)

  -- and at most whatever is at least both
  pub below_both : (a b c : L) → T (o.at_most a c) → T (o.at_most b c) → T (o.at_most (higher a b) c)
  below_both a b c h k = go (o.at_most a b)
    where
      go : (t : Bool) → T (o.at_most (cond t b a) c)
      go true = k
      go false = h

  pub higher_assoc : (a b c : L) → higher (higher a b) c ≡ higher a (higher b c)
  higher_assoc a b c =
      let ab = higher a b in
      let bc = higher b c in
      let l = higher ab c in
      let r = higher a bc in
      let a-l : T (o.at_most a l) = o.trans a ab l (above_first a b) (above_first ab c) in
      let b-l : T (o.at_most b l) = o.trans b ab l (above_second a b) (above_first ab c) in
      let b-r : T (o.at_most b r) = o.trans b bc r (above_first b c) (above_second a bc) in
      let c-r : T (o.at_most c r) = o.trans c bc r (above_second b c) (above_second a bc) in
      o.antisym l r
      (below_both ab c r (below_both a b r (above_first a bc) b-r) c-r)
      (below_both a bc l a-l (below_both b c l b-l (above_second ab c)))

  pub higher_mono : (a b c d : L) → T (o.at_most a b) → T (o.at_most c d) → T (o.at_most (higher a c) (higher b d))
  higher_mono a b c d h k =
      below_both a c (higher b d) (o.trans a b (higher b d) h (above_first b d)) (o.trans c d (higher b d) k (above_second b d))

  -- any total order with a least element is a measure by the higher of two
  abbrev pub higher_laws : OrderedMonoid L
  higher_laws = record {
    zero = o.least;
    join = higher;
    at_most = o.at_most;
    total = o.total;
    trans = o.trans;
    antisym = o.antisym;
    assoc = higher_assoc;
    zero_join = λ a. o.antisym (higher o.least a) a (below_both o.least a a (o.lowest a) (same_at_most a)) (above_second o.least a);
    join_zero = λ a. o.antisym (higher a o.least) a (below_both a o.least a (same_at_most a) (o.lowest a)) (above_first a o.least);
    least = o.lowest;
    mono_right = λ a b c h. higher_mono c c a b (same_at_most c) h;
    mono_left = λ a b c h. higher_mono a b c c h (same_at_most c);
  }
