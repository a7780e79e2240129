-- Counting entries by the rows of their lengths.
use Rattle.std.proofs.Common.{◌≡◌, Bool, true, false, cond, List, [], ◌∷◌, map, length, filter, refl, arith}
use Rattle.measure.specs.Laws.{OrderedMonoid, RowEncoding}
use Rattle.bottom_k.specs.Sketches.{entries_within}
use Rattle.tables.specs.declared.rows.Entry.{Entry}
use Rattle.tables.specs.Walks.{read_entry}

module _ {L R : Type 0} (m : OrderedMonoid L) (rows : RowEncoding L R) (limit : L) where
  -- as many entries are within the limit as rows read lengths that are at most it
  pub counted : (es : List (Entry R)) → length (entries_within m limit (map (read_entry rows) es)) ≡ length (filter (λ e. m.at_most (rows.reads e.length) limit) es)
  counted [] = refl
  counted (e ∷ es) = go (m.at_most (rows.reads e.length) limit) (counted es)
    where
      go : (t : Bool) → length (entries_within m limit (map (read_entry rows) es)) ≡ length (filter (λ x. m.at_most (rows.reads x.length) limit) es)
          → length (cond t (read_entry rows e ∷ entries_within m limit (map (read_entry rows) es)) (entries_within m limit (map (read_entry rows) es)))
          ≡ length (cond t (e ∷ filter (λ x. m.at_most (rows.reads x.length) limit) es) (filter (λ x. m.at_most (rows.reads x.length) limit) es))
      go true h = omega (arith, h)
      go false h = h
