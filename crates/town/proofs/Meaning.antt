-- What an accepted file means, once its records are in the tables.
use Rattle.std.proofs.Common.{◌≡◌, ℕ, zero, suc, ◌+◌, ◌*◌, ◌≤◌, Bool, true, false, cond, eqb, List, [], ◌∷◌, ◌++◌, map, length, take, Some, vec_items, vec_len, filter, sym, refl, ap, ◌∙◌, ⊎_elim, append-nil, arith, take-add}
use lib.ListN.{length-map}
use Rattle.std.specs.Option.{option_map}
use Rattle.std.specs.List.{concat}
use Rattle.std.proofs.lemmas.List.{take_all}
use Rattle.std.proofs.lemmas.List.Folds.{concat-append}
use Rattle.std.proofs.lemmas.Bool.{cases_Bool, cond-true, leb-false}
use Rattle.town_record.specs.FileForms.{FileForm}
use Rattle.town_record.specs.Parts.{is_place, rank_of, from_of, to_of, arc_of}
use Rattle.town_record.specs.declared.arc_row.ArcRow.{ArcRow}
use Rattle.town_record.specs.declared.before.Limits.{Limits}
use Rattle.town_record.specs.declared.rule.Rule.TheVariants.{BadByte, BadValue}
use Rattle.town_record.proofs.Tells.{either_letter, arc_values}
use Rattle.town.specs.declared.rows.Rows.{Rows}
use Rattle.town.specs.declared.tables.Tables.{Tables}
use Rattle.town.specs.Files.{record_at, record_count, records, seen, Accepted}
use Rattle.town.specs.Holds.{Holds}
use Rattle.town.specs.Reads.{Reads, places_of, arcs_of, arrival_of}
use Rattle.town.specs.RowsGraph.{as_arc}
use Rattle.town.specs.SpanLaws.{arriving_at}
use Rattle.town.proofs.Holding.{listed_tos}
use Rattle.town.proofs.Judged.{listed_ends}

-- the first record stands first
first_record : (file : List ℕ) (n : ℕ) → (rest : List (List ℕ)) × (records file (suc n) ≡ record_at file 0 ∷ rest)
first_record file zero = ([], refl)
first_record file (suc n) =
    let r = first_record file n in
    (r.0 ++ record_at file (suc n) ∷ [], ap (λ xs. xs ++ record_at file (suc n) ∷ []) r.1)

-- an accepted file begins with a place
begins_with_place : {L : Type 0} (f : FileForm L) (limits : Limits) (file : List ℕ) → Accepted f limits file → is_place (record_at file 0) ≡ true
begins_with_place f limits file a = ⊎_elim (λ e. e)
    (λ other.
    let s = a.some in
    let good = a.clean 0 (omega arith) in
    let arc = either_letter f.used (record_at file 0) (good BadByte) other in
    let low = leb-false 0 (from_of (record_at file 0)) (arc_values f (seen []) (record_at file 0) (good BadValue) arc).0 in
    absurd (omega arith))
    (cases_Bool (is_place (record_at file 0)))

some_kept : (r : List ℕ) (rest rs : List (List ℕ)) → rs ≡ r ∷ rest → is_place r ≡ true → 1 ≤ length (filter is_place rs)
some_kept r rest rs e h =
    let is : filter is_place rs ≡ r ∷ filter is_place rest = ap (filter is_place) e ∙ cond-true _ _ _ h in
    let long = ap length is in
    omega arith

pub has_place : {L : Type 0} (f : FileForm L) (limits : Limits) (file : List ℕ) (t : Tables L) → Accepted f limits file → Holds f (records file (record_count file)) t → 1 ≤ vec_len t.ranks
has_place f limits file t a h = go (record_count file) refl
  where
    go : (n : ℕ) → record_count file ≡ n → 1 ≤ vec_len t.ranks
    go zero e = let s = a.some in absurd (omega arith)
    go (suc n) e =
        let r = first_record file n in
        let some = some_kept (record_at file 0) r.0 (records file (record_count file)) (ap (records file) e ∙ r.1) (begins_with_place f limits file a) in
        let long = ap length h.ranks in
        let same = length-map (filter is_place (records file (record_count file))) rank_of in
        let o = t.ranks.ok.0 in
        omega arith

-- an arc and the record that lists it are kept or left together
kept_alike : {L : Type 0} (f : FileForm L) (a : ArcRow L) (r : List ℕ) (arcs : List (ArcRow L)) (rs : List (List ℕ)) → Some a ≡ arc_of f r →
    map (λ x. Some x) (map as_arc arcs) ≡ map (arrival_of f) rs → (b : Bool) →
    map (λ x. Some x) (map as_arc (cond b (a ∷ arcs) arcs)) ≡ map (arrival_of f) (cond b (r ∷ rs) rs)
kept_alike f a r arcs rs head rest true = λ i. option_map as_arc (head i) ∷ rest i
kept_alike f a r arcs rs head rest false = rest

-- at each place the rows have the arcs that the records list there
arrivals_listed : {L : Type 0} (f : FileForm L) (w : ℕ) (arcs : List (ArcRow L)) (rs : List (List ℕ)) → map (λ a. Some a) arcs ≡ map (arc_of f) rs →
    map (λ a. Some a) (map as_arc (arriving_at w arcs)) ≡ map (arrival_of f) (filter (λ r. eqb (to_of r) w) rs)
arrivals_listed f w [] [] e = refl
arrivals_listed f w [] (r ∷ rs) e = cc
arrivals_listed f w (a ∷ arcs) [] e = cc
arrivals_listed f w (a ∷ arcs) (r ∷ rs) e =
    let head : Some a ≡ arc_of f r = cc in
    let tail : map (λ x. Some x) arcs ≡ map (arc_of f) rs = cc in
    let kept = filter (λ x. eqb (to_of x) w) rs in
    kept_alike f a r (arriving_at w arcs) kept head (arrivals_listed f w arcs rs tail) (eqb a.to w)
    ∙ ap (λ t. map (arrival_of f) (cond (eqb t w) (r ∷ kept) kept)) (listed_ends f r a head).1

pub joined_push : (xs : List (List ℕ)) (x : List ℕ) → concat (xs ++ x ∷ []) ≡ concat xs ++ x
joined_push xs x = concat-append xs (x ∷ []) ∙ ap (λ t. concat xs ++ t) (append-nil x)

-- the records of a file make the file
joined_records : (file : List ℕ) (n : ℕ) → concat (records file n) ≡ take (16 * n) file
joined_records file zero = refl
joined_records file (suc n) =
    let k : 16 * n + 16 ≡ 16 * suc n = omega arith in
    joined_push (records file n) (record_at file n) ∙ ap (λ t. t ++ record_at file n) (joined_records file n) ∙ sym (take-add (16 * n) 16 file) ∙ ap (λ m. take m file) k

pub reads : {L : Type 0} (f : FileForm L) (file : List ℕ) (rows : Rows L) → Holds f (records file (record_count file)) rows.tables → Reads f file rows
reads f file rows h = record {
  places = rows.tables.ranks.ok.0 ∙ ap length h.ranks ∙ length-map (places_of file) rank_of;
  ranks = h.ranks;
  arcs = rows.tables.arcs.ok.0 ∙ sym (length-map (vec_items rows.tables.arcs) (λ a. a.to)) ∙ ap length (listed_tos f (vec_items rows.tables.arcs) (arcs_of file) h.arcs) ∙ length-map (arcs_of file) to_of;
  names = h.names;
  arriving = λ w. arrivals_listed f w (vec_items rows.tables.arcs) (arcs_of file) h.arcs;
  written = ap concat h.written ∙ joined_records file (record_count file) ∙ take_all (16 * record_count file) file (omega arith);
}
