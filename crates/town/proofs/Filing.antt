-- The file of rows.
use Rattle.std.proofs.Common.{◌≡◌, ℕ, ◌+◌, ◌*◌, ◌<◌, ◌≤◌, List, [], ◌∷◌, ◌++◌, map, length, get_or, drop, vec_items, vec_len, sym, ap, ◌∙◌, subst, arith, length-append, length-drop}
use lib.ListN.{length-map}
use borrow.Rule.Slice.PartMut.{put_mid}
use Rattle.std.proofs.lemmas.List.{drop_more}
use Rattle.std.specs.List.{AllByRecursion}
use Rattle.town_record.specs.FileForms.{FileForm}
use Rattle.town_record.specs.Parts.{place_record, arc_record}
use Rattle.town_record.specs.declared.arc_row.ArcRow.{ArcRow}
use Rattle.town_record.specs.declared.name.Name.{Name}
use Rattle.town.specs.declared.rows.Rows.{Rows}
use Rattle.town.specs.Holds.{place_records}
use Rattle.town.specs.RowsGraph.{rows_file, rows_records}
use Rattle.town.specs.Writes.{Wrote}
use Rattle.town.proofs.Writing.{length_joined, length_place_records, records_long, wrote_all, wrote_more, place_record_at, arc_record_at, arc_record_long}

module _ {L : Type 0} (f : FileForm L) (r : Rows L) where
  pub as_many_names : length (vec_items r.tables.names) ≡ length (vec_items r.tables.ranks)
  as_many_names = sym r.tables.names.ok.0 ∙ r.sound.named ∙ r.tables.ranks.ok.0

  pub places_counted : length (place_records (vec_items r.tables.ranks) (vec_items r.tables.names)) ≡ vec_len r.tables.ranks
  places_counted = length_place_records (vec_items r.tables.ranks) (vec_items r.tables.names) as_many_names ∙ sym r.tables.ranks.ok.0

  pub records_counted : length (rows_records f r) ≡ vec_len r.tables.ranks + vec_len r.tables.arcs
  records_counted =
      let a = length-append (place_records (vec_items r.tables.ranks) (vec_items r.tables.names)) (map (arc_record f) (vec_items r.tables.arcs)) in
      let p = places_counted in
      let m = length-map (vec_items r.tables.arcs) (arc_record f) in
      let o = r.tables.arcs.ok.0 in
      omega arith

  pub all_whole : AllByRecursion (λ x. length x ≡ 16) (rows_records f r)
  all_whole = records_long f (vec_items r.tables.ranks) (vec_items r.tables.names) (vec_items r.tables.arcs)

  pub file_long : length (rows_file f r) ≡ 16 * (vec_len r.tables.ranks + vec_len r.tables.arcs)
  file_long = length_joined (rows_records f r) all_whole ∙ ap (λ n. 16 * n) records_counted

  -- all records written over the front of a buffer are the file, and what lies past it is as it was
  pub wrote_file : (was now : List ℕ) → Wrote (rows_records f r) (vec_len r.tables.ranks + vec_len r.tables.arcs) was now → now ≡ rows_file f r ++ drop (length (rows_file f r)) was
  wrote_file was now done = wrote_all (rows_records f r) was now (subst (λ n. Wrote (rows_records f r) n was now) (sym records_counted) done) all_whole

  module _ (was now next rec : List ℕ) (i n : ℕ) (more : i + 1 ≡ n) (fits : 16 * (vec_len r.tables.ranks + vec_len r.tables.arcs) ≤ length now)
      (w : Wrote (rows_records f r) i was now) (put : next ≡ put_mid (16 * i) 16 now rec) where
    -- one record more is written, at its place
    next_written : i < vec_len r.tables.ranks + vec_len r.tables.arcs → get_or (rows_records f r) i [] ≡ rec → length rec ≡ 16 → Wrote (rows_records f r) n was next
    next_written inside is long =
        let c = records_counted in
        subst (λ k. Wrote (rows_records f r) k was next) more (wrote_more (rows_records f r) i was now next rec w (omega arith) is long (omega arith) put)

    pub place_written : (rank : ℕ) (name : Name) → i < vec_len r.tables.ranks → get_or (vec_items r.tables.ranks) i 0 ≡ rank → get_or (vec_items r.tables.names) i name ≡ name →
        rec ≡ place_record rank name.bytes → Wrote (rows_records f r) n was next
    place_written rank name inside is-rank is-name is =
        let o = r.tables.ranks.ok.0 in
        let at = place_record_at (vec_items r.tables.ranks) (vec_items r.tables.names) (map (arc_record f) (vec_items r.tables.arcs)) i name as_many_names (omega arith) (sym is-name) in
        next_written (omega arith) (at ∙ ap (λ x. place_record x name.bytes) is-rank ∙ sym is) (omega (arith, ap length is, name.sized))

    pub arc_written : (j : ℕ) (a : ArcRow L) → i ≡ vec_len r.tables.ranks + j → j < vec_len r.tables.arcs → a ≡ get_or (vec_items r.tables.arcs) j a →
        rec ≡ arc_record f a → Wrote (rows_records f r) n was next
    arc_written j a here inside is-arc is =
        let o = r.tables.arcs.ok.0 in
        let at = arc_record_at f (place_records (vec_items r.tables.ranks) (vec_items r.tables.names)) (vec_items r.tables.arcs) (vec_len r.tables.ranks) j a places_counted (omega arith) is-arc in
        next_written (omega arith) (ap (λ k. get_or (rows_records f r) k []) here ∙ at ∙ sym is) (omega (arith, ap length is, arc_record_long f a))

-- what is left of a list, one element on
pub left_more : {X : Type 0} (xs : List X) (i : ℕ) (x : X) (ys : List X) → drop i xs ≡ x ∷ ys → (i < length xs) × ((d : X) → get_or xs i d ≡ x) × (drop (i + 1) xs ≡ ys)
left_more xs i x ys e =
    let long = ap length e in
    let inside : i < length xs = omega (arith, length-drop i xs) in
    (inside, λ d. let m = drop_more xs i d inside in cc, let m = drop_more xs i x inside in cc)
