-- How a loop that reads a sketch keeps what is sampled so far.
use Rattle.std.proofs.Common.{◌≡◌, ℕ, zero, suc, ◌+◌, ◌-◌, ◌<◌, ◌≤◌, Bool, true, cond, List, [], ◌∷◌, ◌++◌, map, length, take, drop, slice_index, slice_set, refl, sym, ap, ◌∙◌, arith}
use Rattle.std.proofs.Math.Seq.{get_or-append_seam, set-append_seam}
use Rattle.std.proofs.lemmas.List.{append-nil, append_assoc, drop_more, length-append, length-map, map-append}
use Rattle.measure.specs.Laws.{OrderedMonoid, RowEncoding}
use Rattle.bottom_k.specs.Figures.{figure_of, figure_of_ranks}
use Rattle.bottom_k.specs.Sketches.{entries_within}
use Rattle.tables.specs.declared.rows.Entry.{Entry}
use Rattle.tables.specs.declared.rows.OrderRow.{OrderRow}
use Rattle.tables.specs.Rows.{order_at}
use Rattle.tables.specs.Walks.{read_entry}
use Rattle.examine.specs.declared.memory.Memory.{Memory}
use Rattle.sample.specs.declared.told.Sample.{Sample}
use Rattle.sample.specs.Samples.{sampled_rows, Sampled}

-- where numbers stand at the front of a list and the rest is as it was, one more is written behind them
written_next : (xs before now : List ℕ) (n x : ℕ) → length xs ≡ n → n < length before → now ≡ xs ++ drop n before → slice_set now n x ≡ (xs ++ x ∷ []) ++ drop (n + 1) before
written_next xs before now n x long inside is =
    ap (λ l. slice_set l n x) (is ∙ ap (λ l. xs ++ l) (drop_more before n 0 inside))
    ∙ ap (λ i. slice_set (xs ++ slice_index before n ∷ drop (n + 1) before) i x) (sym long)
    ∙ set-append_seam xs (slice_index before n) (drop (n + 1) before) x
    ∙ sym (append_assoc xs (x ∷ []) (drop (n + 1) before))

-- the last of a list that is one longer
last_is : (xs : List ℕ) (n x : ℕ) → length xs ≡ n → slice_index (xs ++ x ∷ []) (n + 1 - 1) ≡ x
last_is xs n x long = ap (λ i. slice_index (xs ++ x ∷ []) i) (omega (arith, long)) ∙ get_or-append_seam xs x [] 0

module _ {L R : Type 0} (laws : OrderedMonoid L) (rows : RowEncoding L R) (order : List OrderRow) (limit : L) where
  -- whether an entry is within the limit
  abbrev pub is_within : Entry R → Bool
  is_within e = laws.at_most (rows.reads e.length) limit

  -- the rows of the order of the first j entries within the limit
  abbrev pub rows_within : ℕ → List (Entry R) → List OrderRow
  rows_within j es = map (λ e. order_at order e.position) (take j (entries_within laws limit (map (read_entry rows) es)))

  none_of_none : (j : ℕ) → rows_within j [] ≡ []
  none_of_none zero = refl
  none_of_none (suc j) = refl

  one_more : (e : Entry R) (es : List (Entry R)) (j : ℕ) → is_within e ≡ true → rows_within (suc j) (e ∷ es) ≡ order_at order e.position ∷ rows_within j es
  one_more e es j near =
      let rest = entries_within laws limit (map (read_entry rows) es) in
      ap (λ t. map (λ x. order_at order x.position) (take (suc j) (cond t (read_entry rows e ∷ rest) rest))) near

  -- of the rows that are sampled in all, those so far are counted and written, and the others are of the entries left
  pub record Filled (k : ℕ) (all : List OrderRow) (left : List (Entry R)) (count last : ℕ) (before after : List ℕ) : Type 0 where
    pub so_far : List OrderRow
    pub others : ℕ
    pub whole : all ≡ so_far ++ rows_within others left
    pub room : count + others ≡ k
    pub counted : count ≡ length so_far
    pub last_rank : last ≡ slice_index (map (λ row. row.rank) so_far) (count - 1)
    pub written : after ≡ map (λ row. row.place) so_far ++ drop count before

  pub filled_starts : (k : ℕ) (es left : List (Entry R)) → left ≡ es → (before : List ℕ) → Filled k (rows_within k es) left 0 0 before before
  filled_starts k es left is before = record {
    so_far = [];
    others = k;
    whole = ap (rows_within k) (sym is);
    room = omega arith;
    counted = omega arith;
    last_rank = refl;
    written = refl;
  }

  module _ {k : ℕ} {all : List OrderRow} {left : List (Entry R)} {count last : ℕ} {before after : List ℕ} (f : Filled k all left count last before after) where
    pub filled_more : (e : Entry R) (left' : List (Entry R)) → left ≡ e ∷ left' → is_within e ≡ true → (count ≡ k → ⊥) → k ≤ length before
        → (row : OrderRow) → row ≡ order_at order e.position → Filled k all left' (count + 1) row.rank before (slice_set after count row.place)
    filled_more e left' is near free long row of = go f.others f.whole f.room
      where
        go : (j : ℕ) → all ≡ f.so_far ++ rows_within j left → count + j ≡ k
            → Filled k all left' (count + 1) row.rank before (slice_set after count row.place)
        go zero whole room = absurd (free (omega arith))
        go (suc j) whole room = record {
          so_far = f.so_far ++ row ∷ [];
          others = j;
          whole =
              whole
              ∙ ap (λ es. f.so_far ++ rows_within (suc j) es) is
              ∙ ap (λ r. f.so_far ++ r) (one_more e left' j near)
              ∙ ap (λ r. f.so_far ++ r ∷ rows_within j left') (sym of)
              ∙ sym (append_assoc f.so_far (row ∷ []) (rows_within j left'));
          room = omega arith;
          counted = omega (arith, f.counted, length-append f.so_far (row ∷ []));
          last_rank =
              sym (ap (λ xs. slice_index xs (count + 1 - 1)) (map-append (λ r. r.rank) f.so_far (row ∷ []))
              ∙ last_is (map (λ r. r.rank) f.so_far) count row.rank (length-map f.so_far (λ r. r.rank) ∙ sym f.counted));
          written =
              written_next (map (λ r. r.place) f.so_far) before after count row.place (length-map f.so_far (λ r. r.place) ∙ sym f.counted) (omega arith) f.written
              ∙ ap (λ xs. xs ++ drop (count + 1) before) (sym (map-append (λ r. r.place) f.so_far (row ∷ [])));
        }

    -- once none is left, or k are sampled, those so far are all
    pub all_if_none_left : left ≡ [] → all ≡ f.so_far
    all_if_none_left is = f.whole ∙ ap (λ r. f.so_far ++ r) (ap (rows_within f.others) is ∙ none_of_none f.others) ∙ append-nil f.so_far

    pub all_if_enough : count ≡ k → all ≡ f.so_far
    all_if_enough enough =
        let none : f.others ≡ 0 = omega (arith, f.room, enough) in
        f.whole ∙ ap (λ j. f.so_far ++ rows_within j left) none ∙ append-nil f.so_far

-- once those so far are all, what is counted and written is the sample
pub sampled_if_all : {L R : Type 0} (laws : OrderedMonoid L) (rows : RowEncoding L R) (m : Memory R) (k start : ℕ) (limit : L)
    (left : List (Entry R)) (count last : ℕ) (before after : List ℕ)
    (f : Filled laws rows m.order.now limit k (sampled_rows laws rows m k start limit) left count last before after)
    → sampled_rows laws rows m k start limit ≡ f.so_far → (s : Sample) → s.count ≡ count → s.figure ≡ figure_of k count last → Sampled laws rows m k start limit before after s
sampled_if_all laws rows m k start limit left count last before after f full s so_many is =
    let ranks : List ℕ = map (λ row. row.rank) f.so_far in
    let long : count ≡ length ranks = f.counted ∙ sym (length-map f.so_far (λ row. row.rank)) in
    record {
      count = so_many ∙ f.counted ∙ ap length (sym full);
      figure =
          is
          ∙ ap (λ n. figure_of k n last) long
          ∙ ap (λ r. figure_of k (length ranks) r) (f.last_rank ∙ ap (λ n. slice_index ranks (n - 1)) long)
          ∙ ap (λ xs. figure_of_ranks k (map (λ row. row.rank) xs)) (sym full);
      written =
          f.written
          ∙ ap (λ n. map (λ row. row.place) f.so_far ++ drop n before) f.counted
          ∙ ap (λ xs. map (λ row. row.place) xs ++ drop (length xs) before) (sym full);
    }
