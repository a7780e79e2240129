-- The steps of filling a table of least lengths.
use Rattle.std.proofs.Common.{◌≡◌, ℕ, zero, suc, ◌+◌, ◌*◌, ◌/◌, ◌%◌, ◌<◌, ◌≤◌, Bool, true, false, cond, eqb, List, [], ◌∷◌, length, get_or, take, set, ◌++◌, Some, None, Option, sym, refl, ap, ◌∙◌, subst, subst₂, ⊎_elim, add-one, arith}
use Rattle.std.specs.Option.{option_map}
use Rattle.std.specs.List.{slice_get, fold, range_with_len}
use Rattle.std.proofs.lemmas.Nat.{mul-add-lt, div-mul-add, mod-mul-add, div_below}
use Rattle.std.proofs.lemmas.List.{get_or-set_same, get_or-set_other, get_or_append_left, take_all}
use Rattle.std.proofs.lemmas.Bool.{cases_eq}
use Rattle.measure.specs.Laws.{OrderedMonoid, RowEncoding}
use Rattle.graph.specs.Graphs.{Graph}
use Rattle.graph.specs.Kinds.{Through, Direct, Right}
use Rattle.graph.specs.LeastLengths.{shorter, in_turn, least_length}
use Rattle.graph.specs.declared.arc.Arc.{Arc}
use Rattle.graph.proofs.Lists.{below, nth_in, nth_none, in_take_more}
use Rattle.graph.proofs.Shortest.{right_arc_more, right_direct, right_by_way_of, right_without, right_all}
use Rattle.graph.proofs.Computed.{least_length_right}
use Rattle.graph.proofs.LeastWays.{least_or_none_once}
use Rattle.all_pairs.specs.Tables.{Filled, SameFrom, RightAt, RightBelow}

-- a missing length is never the shorter
shorter_none : {L : Type 0} (m : OrderedMonoid L) (o : Option L) → shorter m o None ≡ o
shorter_none m None = refl
shorter_none m (Some d) = refl

-- a row reads back
read_back : {L R : Type 0} (e : RowEncoding L R) (o : Option L) → option_map e.reads (option_map e.writes o) ≡ o
read_back e None = refl
read_back e (Some d) = ap Some (e.kept d)

-- the place of a pair is inside the table
pub inside : (n v w : ℕ) → v < n → w < n → v * n + w < n * n
inside n v w h k = mul-add-lt v n w n h k

-- and inside a longer one
pub inside_table : (n v w long : ℕ) → v < n → w < n → n * n ≤ long → v * n + w < long
inside_table n v w long h k whole = omega (arith, inside n v w h k)

-- a length, or that of an arc if there is one, it departs from v and is shorter
abbrev pub counted : {L : Type 0} → OrderedMonoid L → ℕ → Option L → Option (Arc L) → Option L
counted m v o None = o
counted m v o (Some a) = cond (eqb a.from v) (shorter m o (Some a.length)) o

module _ {L : Type 0} (m : OrderedMonoid L) (g : Graph L) (v w : ℕ) where
  -- right for one arc more
  one_counted : (i : ℕ) (o : Option L) → i < length (g.arriving w) → Right m g (Direct (take i (g.arriving w))) v w o →
      Right m g (Direct (take (i + 1) (g.arriving w))) v w (counted m v o (slice_get (g.arriving w) i))
  one_counted i o here before = go (slice_get (g.arriving w) i) refl
    where
      go : (answer : Option (Arc L)) → slice_get (g.arriving w) i ≡ answer → Right m g (Direct (take (i + 1) (g.arriving w))) v w (counted m v o answer)
      go None e = absurd (omega (arith, nth_none (g.arriving w) i e))
      go (Some a) e =
          subst (Right m g (Direct (take (i + 1) (g.arriving w))) v w) (by_test (eqb a.from v))
          (right_arc_more m g v w a (take i (g.arriving w)) (take (i + 1) (g.arriving w))
          (λ b h. in_take_more (g.arriving w) i a b e h) (nth_in (g.arriving w) i a e) o before)
        where
          by_test : (t : Bool) → shorter m o (cond t (Some a.length) None) ≡ cond t (shorter m o (Some a.length)) o
          by_test true = refl
          by_test false = shorter_none m o

  -- and for all
  pub all_counted : (n i : ℕ) (o : Option L) → i + n ≡ length (g.arriving w) → Right m g (Direct (take i (g.arriving w))) v w o →
      Right m g (Direct (g.arriving w)) v w (fold (λ p j. counted m v p (slice_get (g.arriving w) j)) o (range_with_len i n))
  all_counted zero i o e before = subst (λ arcs. Right m g (Direct arcs) v w o) (take_all i (g.arriving w) (omega arith)) before
  all_counted (suc n) i o e before = all_counted n (i + 1) (counted m v o (slice_get (g.arriving w) i)) (omega arith) (one_counted i o (omega arith) before)

-- what is unchanged from a position on stays so after a write before it
pub same_set : {R : Type 0} (n m k : ℕ) (start table written after : List (Option R)) (row : Option R) → written ≡ set table k row → after ≡ written → n ≤ m → k < m → SameFrom n start table → SameFrom m start after
same_set n m k start table written after row is then le here same j h =
    ap (λ t. get_or t j None) (then ∙ is) ∙ get_or-set_other table k j row None (λ e. omega arith) ∙ same j (omega arith)

-- and where nothing is written
pub same_pass : {R : Type 0} (n : ℕ) (start table after : List (Option R)) → after ≡ table → SameFrom n start table → SameFrom n start after
same_pass n start table after is same k h = ap (λ t. get_or t k None) is ∙ same k h

module _ {L R : Type 0} (m : OrderedMonoid L) (e : RowEncoding L R) (g : Graph L) where
  -- a row written is right, and the others stay so
  right_set : (xs : List ℕ) (table : List (Option R)) (k n : ℕ) (o : Option L) → k < length table →
      Right m g (Through xs) (k / g.places) (k % g.places) o →
      ((j : ℕ) → j < n → (j ≡ k → ⊥) → RightAt m e g xs table j) → RightBelow m e g xs (set table k (option_map e.writes o)) n
  right_set xs table k n o here right others j h = ⊎_elim
      (λ same. (o, subst (λ i. get_or (set table k (option_map e.writes o)) i None ≡ option_map e.writes o) (sym same) (get_or-set_same table k (option_map e.writes o) None here), subst (λ i. Right m g (Through xs) (i / g.places) (i % g.places) o) (sym same) right))
      (λ apart. let r = others j h apart in (r.0, get_or-set_other table k j (option_map e.writes o) None apart ∙ r.1, r.2))
      (cases_eq j k)

  -- one row more is filled with the ways of one arc at most
  abbrev FillStep : ℕ → Type 0
  FillStep n = (table : List (Option R)) (k : ℕ) (o : Option L) → k < n * n → k < length table →
      (k / n < g.places → Right m g (Direct (g.arriving (k % n))) (k / n) (k % n) o) →
      RightBelow m e g [] table k → RightBelow m e g [] (set table k (option_map e.writes o)) (k + 1)

  fill_at_places : FillStep g.places
  fill_at_places table k o here inside-table right before =
      right_set [] table k (k + 1) o inside-table
      (right_direct m g (k / g.places) (k % g.places) o (right (div_below k g.places g.places g.some here)))
      (λ j h apart. before j (omega arith))

  pub fill_step : (n : ℕ) → n ≡ g.places → (table : List (Option R)) (k : ℕ) (o : Option L) (row : Option R) → row ≡ option_map e.writes o →
      k < n * n → k < length table → (k / n < g.places → Right m g (Direct (g.arriving (k % n))) (k / n) (k % n) o) →
      RightBelow m e g [] table k → RightBelow m e g [] (set table k row) (k + 1)
  fill_step n places table k o row is here inside-table right before =
      subst (λ r. RightBelow m e g [] (set table k r) (k + 1)) (sym is) (subst FillStep (sym places) fill_at_places table k o here inside-table right before)

  -- the rows of a longer table are right where those of its front are
  pub right_front : (n : ℕ) (front rest : List (Option R)) → n ≤ length front → RightBelow m e g [] front n → RightBelow m e g [] (front ++ rest) n
  right_front n front rest long before k h =
      let r = before k h in (r.0, get_or_append_left front rest None k (omega arith) ∙ r.1, r.2)

  module _ (xs : List ℕ) (table : List (Option R)) (all : RightBelow m e g xs table (g.places * g.places)) where
    -- the length that a row holds, with the places that it stands for
    at_pair : (v w : ℕ) → v < g.places → w < g.places → (o : Option L) × (get_or table (v * g.places + w) None ≡ option_map e.writes o) × Right m g (Through xs) v w o
    at_pair v w h k =
        let r = all (v * g.places + w) (inside g.places v w h k) in
        (r.0, r.1, subst₂ (λ p q. Right m g (Through xs) p q r.0) (div-mul-add v g.places w k) (mod-mul-add v g.places w k) r.2)

    read_pair : (v w : ℕ) (h : v < g.places) (k : w < g.places) → option_map e.reads (get_or table (v * g.places + w) None) ≡ (at_pair v w h k).0
    read_pair v w h k = ap (option_map e.reads) (at_pair v w h k).1 ∙ read_back e (at_pair v w h k).0

    -- the shorter of a length and one by way of x
    shortened : (x v w : ℕ) → x < g.places → v < g.places → w < g.places → (by : Option L) →
        by ≡ in_turn m (option_map e.reads (get_or table (v * g.places + x) None)) (option_map e.reads (get_or table (x * g.places + w) None)) →
        Right m g (Through (x ∷ xs)) v w (shorter m (option_map e.reads (get_or table (v * g.places + w) None)) by)
    shortened x v w hx hv hw by is =
        subst (Right m g (Through (x ∷ xs)) v w)
        (sym (λ i. shorter m (read_pair v w hv hw i) ((is ∙ (λ j. in_turn m (read_pair v x hv hx j) (read_pair x w hx hw j))) i)))
        (right_by_way_of m g xs x v w _ _ _ (at_pair v w hv hw).2 (at_pair v x hv hx).2 (at_pair x w hx hw).2)

    -- a table right by way of all places holds the least lengths
    filled_at : xs ≡ below g.places → Filled m e g table
    filled_at is v w h k =
        let r = at_pair v w h k in
        r.1 ∙ ap (option_map e.writes) (least_or_none_once m g v w r.0 (least_length m g v w)
        (right_all m g v w r.0 (subst (λ ys. Right m g (Through ys) v w r.0) is r.2)) (least_length_right m g v w))

  pub filled : (n x : ℕ) (table : List (Option R)) → n ≡ g.places → n ≤ x → x ≤ n → RightBelow m e g (below x) table (n * n) → Filled m e g table
  filled n x table places low high right =
      let same : x ≡ g.places = omega arith in
      filled_at (below x) table (subst (λ i. RightBelow m e g (below x) table (i * i)) places right) (ap below same)

  -- what the loop along a row of the table keeps
  abbrev Done : List ℕ → ℕ → ℕ → ℕ → ℕ → List (Option R) → Type 0
  Done xs x n v w table = RightBelow m e g xs table (n * n) × RightBelow m e g (x ∷ xs) table (v * n + w)

  abbrev PutStep : ℕ → Type 0
  PutStep n = (xs : List ℕ) (x v w : ℕ) (table : List (Option R)) (by : Option L) → x < n → v < n → w < n → n * n ≤ length table →
      by ≡ in_turn m (option_map e.reads (get_or table (v * n + x) None)) (option_map e.reads (get_or table (x * n + w) None)) →
      Done xs x n v w table → Done xs x n v (w + 1) (set table (v * n + w) (option_map e.writes (shorter m (option_map e.reads (get_or table (v * n + w) None)) by)))

  put_at_places : PutStep g.places
  put_at_places xs x v w table by hx hv hw whole is done =
      let k = v * g.places + w in
      let o = shorter m (option_map e.reads (get_or table k None)) by in
      let k-inside = inside g.places v w hv hw in
      let right = shortened xs table done.0 x v w hx hv hw by is in
      let at-k = subst₂ (λ p q. Right m g (Through (x ∷ xs)) p q o) (sym (div-mul-add v g.places w hw)) (sym (mod-mul-add v g.places w hw)) right in (
        right_set xs table k (g.places * g.places) o (omega arith) (right_without m g xs x _ _ o at-k) (λ j h apart. done.0 j h),
        right_set (x ∷ xs) table k (v * g.places + (w + 1)) o (omega arith) at-k (λ j h apart. done.1 j (omega arith)),
      )

  -- one length more of the row, where there is a way by way of x: what the code reads, joins, compares and writes
  pub put_step : (n : ℕ) → g.places ≡ n → (xs : List ℕ) (x v w : ℕ) (table written after : List (Option R)) (first second joined old : Option L) (least length-by : L) →
      x < n → v < n → w < n → n * n ≤ length table →
      first ≡ option_map e.reads (get_or table (v * n + x) None) → second ≡ option_map e.reads (get_or table (x * n + w) None) →
      joined ≡ in_turn m first second → joined ≡ Some length-by → old ≡ option_map e.reads (get_or table (v * n + w) None) →
      Some least ≡ shorter m old (Some length-by) → written ≡ set table (v * n + w) (Some (e.writes least)) → after ≡ written →
      Done xs x n v w table → Done xs x n v (w + 1) after
  put_step n places xs x v w table written after first second joined old least length-by hx hv hw whole e1 e2 e3 e4 e5 e6 e7 e8 done =
      subst (Done xs x n v (w + 1)) (sym (e8 ∙ e7 ∙ (λ i. set table (v * n + w) (option_map e.writes ((e6 ∙ ap (λ o. shorter m o (Some length-by)) e5) i)))))
      (subst PutStep places put_at_places xs x v w table (Some length-by) hx hv hw whole (sym e4 ∙ e3 ∙ (λ i. in_turn m (e1 i) (e2 i))) done)

  abbrev PassStep : ℕ → Type 0
  PassStep n = (xs : List ℕ) (x v w : ℕ) (table : List (Option R)) → x < n → v < n → w < n →
      None ≡ in_turn m (option_map e.reads (get_or table (v * n + x) None)) (option_map e.reads (get_or table (x * n + w) None)) →
      Done xs x n v w table → Done xs x n v (w + 1) table

  pass_at_places : PassStep g.places
  pass_at_places xs x v w table hx hv hw is done = (done.0, λ j h. ⊎_elim here (λ apart. done.1 j (omega arith)) (cases_eq j (v * g.places + w)))
    where
      here : {j : ℕ} → j ≡ v * g.places + w → RightAt m e g (x ∷ xs) table j
      here {j} same =
          let r = at_pair xs table done.0 v w hv hw in
          let right = subst (Right m g (Through (x ∷ xs)) v w) (shorter_none m _ ∙ read_pair xs table done.0 v w hv hw) (shortened xs table done.0 x v w hx hv hw None is) in (
            r.0,
            ap (λ i. get_or table i None) same ∙ r.1,
            subst₂ (λ p q. Right m g (Through (x ∷ xs)) p q r.0) (sym (ap (λ i. i / g.places) same ∙ div-mul-add v g.places w hw)) (sym (ap (λ i. i % g.places) same ∙ mod-mul-add v g.places w hw)) right,
          )

  -- and where there is none
  pub pass_step : (n : ℕ) → g.places ≡ n → (xs : List ℕ) (x v w : ℕ) (table after : List (Option R)) (first second joined : Option L) → x < n → v < n → w < n →
      first ≡ option_map e.reads (get_or table (v * n + x) None) → second ≡ option_map e.reads (get_or table (x * n + w) None) →
      joined ≡ in_turn m first second → joined ≡ None → after ≡ table →
      Done xs x n v w table → Done xs x n v (w + 1) after
  pass_step n places xs x v w table after first second joined hx hv hw e1 e2 e3 e4 e5 done =
      subst (Done xs x n v (w + 1)) (sym e5)
      (subst PassStep places pass_at_places xs x v w table hx hv hw (sym e4 ∙ e3 ∙ (λ i. in_turn m (e1 i) (e2 i))) done)

  -- the last place by way of which ways are sought
  pub shorten_more : (n x : ℕ) (table : List (Option R)) → RightBelow m e g (x ∷ below x) table n → RightBelow m e g (below (x + 1)) table n
  shorten_more n x table = subst (λ ys. RightBelow m e g ys table n) (sym (ap below (add-one x)))
