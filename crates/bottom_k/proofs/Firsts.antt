-- The first k of a property: how to build the list, and that there is only one.
use Rattle.std.proofs.Common.{◌≡◌, ℕ, zero, suc, ◌<◌, ◌≤◌, ◌⊎◌, List, [], ◌∷◌, ◌++◌, length, take, refl, ap, inl, inr, ⊎_elim, arith, length-append, length-take}
use native.Mathlib.Decide.{ℕ_discrete}
use Rattle.std.specs.List.{AllByRecursion}
use Rattle.std.proofs.ByRecursion.{All-take, All-push}
use Rattle.graph.specs.Members.{In}
use Rattle.graph.proofs.Lists.{all_in, all_from_in}
use Rattle.bottom_k.specs.Lists.{Apart, Rising, FirstK}
use Rattle.bottom_k.proofs.Members.{in_left, in_right}
use Rattle.bottom_k.proofs.Apart.{apart_rising, apart_fits}
use Rattle.bottom_k.proofs.OrderedLists.{ordered_take, ordered_push, same_ordered}

-- the first of none
pub first_none : (P : ℕ → Type 0) → FirstK 0 P []
first_none P = record { rising = tt; right = tt; few = omega arith; first = λ q h. inr (refl, tt) }

-- one more: the next that has P
pub first_more : (P : ℕ → Type 0) (k : ℕ) (xs : List ℕ) (q : ℕ) → FirstK k P xs → length xs ≡ k → P q → AllByRecursion (λ x. x < q) xs →
    ((r : ℕ) → P r → AllByRecursion (λ x. x < r) xs → q ≤ r) → FirstK (suc k) P (xs ++ q ∷ [])
first_more P k xs q firsts full holds above next = record {
  rising = ordered_push (λ x y. x < y) xs q firsts.rising above;
  right = All-push P xs q firsts.right holds;
  few = omega (arith, length-append xs (q ∷ []));
  first = λ r h. ⊎_elim (λ i. inl (in_left r xs (q ∷ []) i)) (λ o. go r (next r h o.1) o.1 (ℕ_discrete r q)) (firsts.first r h);
}
  where
    go : (r : ℕ) → q ≤ r → AllByRecursion (λ x. x < r) xs → Dec (r ≡ q) → In r (xs ++ q ∷ []) ⊎ ((length (xs ++ q ∷ []) ≡ suc k) × AllByRecursion (λ x. x < r) (xs ++ q ∷ []))
    go r low all (yes same) = inl (in_right r xs (q ∷ []) (inl same))
    go r low all (no other) = inr (omega (arith, length-append xs (q ∷ [])), All-push (λ x. x < r) xs q all (omega arith))

-- where no more have P, these are the first of any number
pub first_all : (P : ℕ → Type 0) (k n : ℕ) (xs : List ℕ) → FirstK k P xs → ((r : ℕ) → P r → ¬ AllByRecursion (λ x. x < r) xs) → length xs ≤ n → FirstK n P xs
first_all P k n xs firsts none h = record {
  rising = firsts.rising;
  right = firsts.right;
  few = h;
  first = λ r holds. ⊎_elim (λ i. inl i) (λ o. absurd (none r holds o.1)) (firsts.first r holds);
}

-- the first k of a property are those of any equivalent one
pub first_same : (P Q : ℕ → Type 0) (k : ℕ) (xs : List ℕ) → ((q : ℕ) → P q → Q q) → ((q : ℕ) → Q q → P q) → FirstK k P xs → FirstK k Q xs
first_same P Q k xs to back firsts = record {
  rising = firsts.rising;
  right = all_from_in Q xs (λ q i. to q (all_in P xs firsts.right q i));
  few = firsts.few;
  first = λ q h. firsts.first q (back q h);
}

-- the first k of a list that rises
take_or_above : (k : ℕ) (xs : List ℕ) → Rising xs → (q : ℕ) → In q xs → In q (take k xs) ⊎ ((length (take k xs) ≡ k) × AllByRecursion (λ x. x < q) (take k xs))
take_or_above zero xs r q i = inr (refl, tt)
take_or_above (suc k) [] r q i = absurd i
take_or_above (suc k) (x ∷ xs) r q (inl e) = inl (inl e)
take_or_above (suc k) (x ∷ xs) r q (inr i) =
    ⊎_elim (λ j. inl (inr j)) (λ o. inr (ap suc o.0, (all_in (λ y. x < y) xs r.0 q i, o.1))) (take_or_above k xs r.1 q i)

pub first_take : (k : ℕ) (xs : List ℕ) → Rising xs → FirstK k (λ q. In q xs) (take k xs)
first_take k xs r = record {
  rising = ordered_take (λ x y. x < y) k xs r;
  right = All-take (λ q. In q xs) k xs (all_from_in (λ q. In q xs) xs (λ q i. i));
  few = omega (arith, length-take k xs);
  first = take_or_above k xs r;
}

module _ {k : ℕ} {P : ℕ → Type 0} where
  in_other : (xs ys : List ℕ) → FirstK k P xs → FirstK k P ys → (q : ℕ) → In q xs → In q ys
  in_other xs ys a b q i = ⊎_elim (λ j. j) (λ r. absurd (no r)) (b.first q (all_in P xs a.right q i))
    where
      no : (length ys ≡ k) × AllByRecursion (λ y. y < q) ys → ⊥
      no r =
          let stand : AllByRecursion (λ y. In y xs) ys = all_from_in (λ y. In y xs) ys (λ y j.
          ⊎_elim (λ s. s)
          (λ s. let u = all_in (λ z. z < y) xs s.1 q i in let v = all_in (λ z. z < q) ys r.1 y j in absurd (omega arith))
          (a.first y (all_in P ys b.right y j))) in
          let apart : Apart (q ∷ ys) = (λ j. let v = all_in (λ z. z < q) ys r.1 q j in absurd (omega arith), apart_rising ys b.rising) in
          let fit = apart_fits (q ∷ ys) xs apart (i, stand) in
          let few = a.few in
          let way_length = r.0 in
          omega arith

  pub one_first : (xs ys : List ℕ) → FirstK k P xs → FirstK k P ys → xs ≡ ys
  one_first xs ys a b = same_ordered (λ x y. x < y) (λ x y h k. omega arith) xs ys a.rising b.rising (in_other xs ys a b) (in_other ys xs b a)
