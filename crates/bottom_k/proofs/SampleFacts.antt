-- The first k that sketches note within a limit are the first k that are reached within it.
use Rattle.std.proofs.Common.{◌≡◌, ℕ, ◌<◌, ◌≤◌, ltb, ◌⊎◌, List, [], ◌∷◌, map, length, take, sym, refl, subst, inl, inr, ⊎_elim, arith}
use native.Mathlib.Decide.{dec_lt}
use lib.ListN.{length-map}
use Rattle.std.specs.List.{AllByRecursion}
use Rattle.std.proofs.ByRecursion.{All-take}
use Rattle.graph.specs.Members.{In}
use Rattle.graph.proofs.Lists.{all_in, all_from_in}
use Rattle.graph.proofs.LeastWays.{least_within, within_least}
use Rattle.bottom_k.specs.Lists.{Apart, FirstK}
use Rattle.bottom_k.specs.Sketches.{Setting, Entry, Near, Noted, Due, place_at, entries_within, entries_before}
use Rattle.bottom_k.specs.Samples.{ReachedFrom, ReachedFromSome, Sample, JointSample, NotedWithin, NotedBySome}
use Rattle.bottom_k.proofs.Members.{in_map, in_kept, kept_in, map_in}
use Rattle.bottom_k.proofs.Apart.{apart_fits}
use Rattle.bottom_k.proofs.DueSketches.{rising_kept, due_before}
use Rattle.bottom_k.proofs.Counting.{near_more, noted_near, enough_noted}
use Rattle.bottom_k.proofs.Firsts.{first_same, first_take, one_first}

-- some element has the one, or all have the other
sift : (P Q : ℕ → Type 0) (ps : List ℕ) → ((p : ℕ) → In p ps → P p ⊎ Q p) → ((p : ℕ) × In p ps × Q p) ⊎ AllByRecursion P ps
sift P Q [] h = inr tt
sift P Q (p ∷ ps) h = go (h p (inl refl)) (sift P Q ps (λ q i. h q (inr i)))
  where
    go : P p ⊎ Q p → ((q : ℕ) × In q ps × Q q) ⊎ AllByRecursion P ps → ((q : ℕ) × In q (p ∷ ps) × Q q) ⊎ AllByRecursion P (p ∷ ps)
    go (inr b) r = inl (p, inl refl, b)
    go (inl a) (inl r) = inl (r.0, inr r.1, r.2)
    go (inl a) (inr r) = inr (a, r)

-- k different elements below q fill a list of k at most
filled : (k q : ℕ) (ps xs : List ℕ) → Apart ps → AllByRecursion (λ p. p < q) ps → k ≤ length ps → length xs ≤ k → AllByRecursion (λ p. In p xs) ps →
    (length xs ≡ k) × AllByRecursion (λ x. x < q) xs
filled k q ps xs apart low many few stand =
    let fits = apart_fits ps xs apart stand in
    (omega arith, all_from_in (λ x. x < q) xs (λ x i. go x i (dec_lt x q)))
  where
    go : (x : ℕ) → In x xs → Dec (x < q) → x < q
    go x i (yes h) = h
    go x i (no h) =
        let more = apart_fits (x ∷ ps) xs ((λ j. h (all_in (λ p. p < q) ps low x j)), apart) (i, stand) in
        absurd (omega arith)

-- the positions that a sketch notes within t
pub noted_positions : {L : Type 0} (s : Setting L) (t : L) (es : List (Entry L)) (q : ℕ) →
    In q (map (λ e. e.position) (entries_within s.measure t es)) → NotedWithin s t q es
noted_positions s t es q i =
    let r = map_in (λ e. e.position) q (entries_within s.measure t es) i in
    let k = kept_in (λ e. s.measure.at_most e.length t) r.0 es r.1 in
    (r.0.length, subst (λ e. In e es) (λ j. record { position = sym r.2 j; length = r.0.length }) k.0, k.1)

pub positions_noted : {L : Type 0} (s : Setting L) (t : L) (es : List (Entry L)) (q : ℕ) →
    NotedWithin s t q es → In q (map (λ e. e.position) (entries_within s.measure t es))
positions_noted {L} s t es q n =
    in_map (λ e. e.position) new (entries_within s.measure t es) (in_kept (λ e. s.measure.at_most e.length t) new es n.1 n.2)
  where
    new : Entry L
    new = record { position = q; length = n.0 }

-- a place reached within t, with fewer than k entries within t before it, is noted
noted_if_few : {L : Type 0} (s : Setting L) (swept v : ℕ) (es : List (Entry L)) → Due s swept v es → (t : L) (q : ℕ) → q < swept → Near s v q t →
    length (entries_within s.measure t (entries_before q es)) < s.k → NotedWithin s t q es
noted_if_few s swept v es due t q low near few =
    let m = s.measure in
    let l = least_within m s.map v (place_at s q) t near in
    let n : Noted s swept v q l.0 = record {
      swept_by = low;
      least = l.1;
      fewer = λ rs h.
          let k = enough_noted s v q (entries_before q es) (due_before s v swept q es (omega arith) due) t rs (near_more s v q l.0 t l.2 rs h) in
          omega arith;
    } in
    (l.0, (due.exact (record { position = q; length = l.0 })).1 n, l.2)

module _ {L : Type 0} (s : Setting L) (swept : ℕ) (sketch : ℕ → List (Entry L)) (starts : List ℕ)
    (due : AllByRecursion (λ v. Due s swept v (sketch v)) starts) (t : L) where
  -- the sketch of a start is due
  due_at : (v : ℕ) → In v starts → Due s swept v (sketch v)
  due_at v i = all_in (λ x. Due s swept x (sketch x)) starts due v i

  -- what a start notes is reached
  reached_if_noted : (q : ℕ) → NotedBySome s sketch starts t q → ReachedFromSome s swept starts t q
  reached_if_noted q n =
      let v = n.0 in
      let d = n.2.0 in
      let o = ((due_at v n.1).exact (record { position = q; length = d })).0 n.2.1 in
      (o.swept_by, (v, n.1, within_least s.measure s.map v (place_at s q) d t n.2.2 o.least))

  pub joint_sample_is_right : (xs : List ℕ) → FirstK s.k (NotedBySome s sketch starts t) xs → JointSample s swept starts t xs
  joint_sample_is_right xs firsts = record {
    rising = firsts.rising;
    right = all_from_in (ReachedFromSome s swept starts t) xs (λ q i.
        reached_if_noted q (all_in (NotedBySome s sketch starts t) xs firsts.right q i));
    few = firsts.few;
    first = λ q r. go q r.0 r.1.0 r.1.1 r.1.2 (dec_lt (length (entries_within s.measure t (entries_before q (sketch r.1.0)))) s.k);
  }
    where
      -- a place that a start reaches is noted, or k places before it are, and these fill the sample
      go : (q : ℕ) → q < swept → (v : ℕ) → In v starts → Near s v q t →
          Dec (length (entries_within s.measure t (entries_before q (sketch v))) < s.k) → In q xs ⊎ ((length xs ≡ s.k) × AllByRecursion (λ x. x < q) xs)
      go q low v start near (yes few) = firsts.first q (v, start, noted_if_few s swept v (sketch v) (due_at v start) t q low near few)
      go q low v start near (no many) =
          ⊎_elim
          (λ r. let p-low = all_in (λ p. p < q) ps lower r.0 r.1 in
          inr (r.2.0, all_from_in (λ x. x < q) xs (λ x i. let k = all_in (λ z. z < r.0) xs r.2.1 x i in omega arith)))
          (λ stand. inr (filled s.k q ps xs earlier.0 lower (omega (arith, length-map near_entries (λ e. e.position))) firsts.few stand))
          (sift (λ p. In p xs) (λ p. (length xs ≡ s.k) × AllByRecursion (λ x. x < p) xs) ps (λ p i. firsts.first p (noted p i)))
        where
          near_entries : List (Entry L)
          near_entries = entries_within s.measure t (entries_before q (sketch v))

          ps : List ℕ
          ps = map (λ e. e.position) near_entries

          earlier : Apart ps × AllByRecursion (λ p. (p < q) × Near s v p t) ps
          earlier = noted_near s q v (entries_before q (sketch v)) (due_before s v swept q (sketch v) (omega arith) (due_at v start)) t

          lower : AllByRecursion (λ p. p < q) ps
          lower = all_from_in (λ p. p < q) ps (λ p i. (all_in (λ z. (z < q) × Near s v z t) ps earlier.1 p i).0)

          noted : (p : ℕ) → In p ps → NotedBySome s sketch starts t p
          noted p i =
              let n = noted_positions s t (entries_before q (sketch v)) p i in
              (v, start, (n.0, (kept_in (λ e. ltb e.position q) _ (sketch v) n.1).0, n.2))

-- one start
module _ {L : Type 0} (s : Setting L) (swept v : ℕ) (t : L) where
  pub sample_if_joint : (xs : List ℕ) → JointSample s swept (v ∷ []) t xs → Sample s swept v t xs
  sample_if_joint xs = first_same (ReachedFromSome s swept (v ∷ []) t) (ReachedFrom s swept v t) s.k xs
      (λ q r. (r.0, ⊎_elim (λ e. subst (λ x. Near s x q t) e r.1.2) absurd r.1.1))
      (λ q r. (r.0, (v, inl refl, r.1)))

  pub joint_if_sample : (xs : List ℕ) → Sample s swept v t xs → JointSample s swept (v ∷ []) t xs
  joint_if_sample xs = first_same (ReachedFrom s swept v t) (ReachedFromSome s swept (v ∷ []) t) s.k xs
      (λ q r. (r.0, (v, inl refl, r.1)))
      (λ q r. (r.0, ⊎_elim (λ e. subst (λ x. Near s x q t) e r.1.2) absurd r.1.1))

  -- the first k entries of a sketch within t are the sample
  pub sample_is_right : (es : List (Entry L)) → Due s swept v es →
      Sample s swept v t (take s.k (map (λ e. e.position) (entries_within s.measure t es)))
  sample_is_right es due =
      let ps = map (λ e. e.position) (entries_within s.measure t es) in
      sample_if_joint (take s.k ps) (joint_sample_is_right s swept (λ _. es) (v ∷ []) (due, tt) t (take s.k ps)
      (first_same (λ q. In q ps) (NotedBySome s (λ _. es) (v ∷ []) t) s.k (take s.k ps)
      (λ q i. (v, inl refl, noted_positions s t es q i))
      (λ q n. positions_noted s t es q n.2)
      (first_take s.k ps (rising_kept (λ e. s.measure.at_most e.length t) es due.rising))))

  -- so the sample is noted
  pub first_k_are_noted : (es : List (Entry L)) → Due s swept v es → (xs : List ℕ) → Sample s swept v t xs → AllByRecursion (λ q. NotedWithin s t q es) xs
  first_k_are_noted es due xs sample =
      let ps = map (λ e. e.position) (entries_within s.measure t es) in
      subst (λ ys. AllByRecursion (λ q. NotedWithin s t q es) ys) (one_first (take s.k ps) xs (sample_is_right es due) sample)
      (All-take (λ q. NotedWithin s t q es) s.k ps (all_from_in (λ q. NotedWithin s t q es) ps (noted_positions s t es)))
