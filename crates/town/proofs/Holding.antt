-- The tables still hold what the records say when one more is read.
use Rattle.std.proofs.Common.{◌≡◌, ℕ, ◌-◌, Bool, true, false, List, [], ◌∷◌, ◌++◌, map, length, get_or, Some, vec_items, vec_len, filter, sym, refl, ap, ◌∙◌, append_assoc, append-nil, arith}
use lib.ListN.{length-map}
use Rattle.std.proofs.lemmas.List.Elements.{filter-append}
use Rattle.std.proofs.lemmas.List.{map_push, nil_from_length}
use Rattle.std.proofs.lemmas.Bool.{cond-true, cond-false}
use Rattle.town_record.specs.Entries.{SaysPlace, SaysArc}
use Rattle.town_record.specs.FileForms.{FileForm}
use Rattle.town_record.specs.Parts.{is_place, is_arc, rank_of, name_of, to_of, arc_of, place_record, arc_record}
use Rattle.town_record.specs.declared.arc_row.ArcRow.{ArcRow}
use Rattle.town_record.specs.declared.name.Name.{Name}
use Rattle.town_record.proofs.Tells.{not_place, not_arc}
use Rattle.town.specs.declared.tables.Tables.{Tables}
use Rattle.town.specs.Files.{seen}
use Rattle.town.specs.Holds.{Holds, so_far, place_records}
use Rattle.town.specs.Index.{tos}
use Rattle.town.proofs.Judged.{listed_ends}

-- what a filter keeps of one element more
kept_push : {X : Type 0} (p : X → Bool) (xs : List X) (x : X) → p x ≡ true → filter p (xs ++ x ∷ []) ≡ filter p xs ++ x ∷ []
kept_push p xs x e = filter-append p xs (x ∷ []) ∙ ap (λ t. filter p xs ++ t) (cond-true (p x) (x ∷ []) [] e)

left_push : {X : Type 0} (p : X → Bool) (xs : List X) (x : X) → p x ≡ false → filter p (xs ++ x ∷ []) ≡ filter p xs
left_push p xs x e = filter-append p xs (x ∷ []) ∙ ap (λ t. filter p xs ++ t) (cond-false (p x) (x ∷ []) [] e) ∙ append-nil (filter p xs)

place_records_push : (ranks : List ℕ) (names : List Name) (rank : ℕ) (name : Name) → length names ≡ length ranks →
    place_records (ranks ++ rank ∷ []) (names ++ name ∷ []) ≡ place_records ranks names ++ place_record rank name.bytes ∷ []
place_records_push [] [] rank name e = refl
place_records_push [] (n ∷ names) rank name e = absurd (omega arith)
place_records_push (r ∷ ranks) [] rank name e = absurd (omega arith)
place_records_push (r ∷ ranks) (n ∷ names) rank name e = ap (λ t. place_record r n.bytes ∷ t) (place_records_push ranks names rank name (omega arith))

-- arcs listed by records have the records' to-places
pub listed_tos : {L : Type 0} (f : FileForm L) (arcs : List (ArcRow L)) (rs : List (List ℕ)) → map (λ a. Some a) arcs ≡ map (arc_of f) rs → tos arcs ≡ map to_of rs
listed_tos f [] [] e = refl
listed_tos f [] (r ∷ rs) e = cc
listed_tos f (a ∷ arcs) [] e = cc
listed_tos {L} f (a ∷ arcs) (r ∷ rs) e =
    let head : Some a ≡ arc_of f r = cc in
    let tail : map (λ x. Some x) arcs ≡ map (arc_of f) rs = cc in
    let same = (listed_ends f r a head).1 in
    let rest = listed_tos f arcs rs tail in
    λ i. same i ∷ rest i

module _ {L : Type 0} (f : FileForm L) (rs : List (List ℕ)) (t : Tables L) (h : Holds f rs t) where
  -- what the tables hold so far is what stands before the next record
  pub so_far_seen : so_far t ≡ seen rs
  so_far_seen =
      let places : vec_len t.ranks ≡ length (filter is_place rs) = t.ranks.ok.0 ∙ ap length h.ranks ∙ length-map (filter is_place rs) rank_of in
      let same-tos = listed_tos f (vec_items t.arcs) (filter is_arc rs) h.arcs in
      let arcs : vec_len t.arcs ≡ length (filter is_arc rs) =
      t.arcs.ok.0 ∙ sym (length-map (vec_items t.arcs) (λ a. a.to)) ∙ ap length same-tos ∙ length-map (filter is_arc rs) to_of in
      λ i. record { places = places i; arcs = arcs i; last_to = get_or (same-tos i) (arcs i - 1) 0 }

  pub holds_place : (u : Tables L) (r : List ℕ) (rank : ℕ) (name : Name) → SaysPlace r rank name →
      vec_items u.ranks ≡ vec_items t.ranks ++ rank ∷ [] → vec_items u.names ≡ vec_items t.names ++ name ∷ [] → u.arcs ≡ t.arcs →
      vec_len t.names ≡ vec_len t.ranks → vec_len t.arcs ≡ 0 → Holds f (rs ++ r ∷ []) u
  holds_place u r rank name says ranks names arcs even none =
      let P = kept_push is_place rs r says.letter in
      let A = left_push is_arc rs r (not_arc r says.letter) in
      let no_arcs : vec_items t.arcs ≡ [] = nil_from_length (vec_items t.arcs) (sym t.arcs.ok.0 ∙ none) in
      let same-arcs : vec_items u.arcs ≡ [] = ap (λ v. vec_items v) arcs ∙ no_arcs in
      let even' : length (vec_items t.names) ≡ length (vec_items t.ranks) = sym t.names.ok.0 ∙ even ∙ t.ranks.ok.0 in
      let before : place_records (vec_items t.ranks) (vec_items t.names) ≡ rs =
      sym (append-nil _) ∙ ap (λ a. place_records (vec_items t.ranks) (vec_items t.names) ++ map (arc_record f) a) (sym no_arcs) ∙ h.written in
      record {
        ranks = ranks ∙ (λ i. h.ranks i ++ says.ranked i ∷ []) ∙ sym (map_push rank_of (filter is_place rs) r) ∙ ap (map rank_of) (sym P);
        names = ap (map (λ n. n.bytes)) names ∙ map_push (λ n. n.bytes) (vec_items t.names) name ∙ (λ i. h.names i ++ says.named i ∷ [])
            ∙ sym (map_push name_of (filter is_place rs) r) ∙ ap (map name_of) (sym P);
        arcs = ap (λ v. map (λ a. Some a) (vec_items v)) arcs ∙ h.arcs ∙ ap (map (arc_of f)) (sym A);
        written = (λ i. place_records (ranks i) (names i) ++ map (arc_record f) (same-arcs i)) ∙ append-nil _
            ∙ place_records_push (vec_items t.ranks) (vec_items t.names) rank name even' ∙ (λ i. before i ++ says.written i ∷ []);
      }

  pub holds_arc : (u : Tables L) (r : List ℕ) (a : ArcRow L) → SaysArc f r a →
      vec_items u.arcs ≡ vec_items t.arcs ++ a ∷ [] → u.ranks ≡ t.ranks → u.names ≡ t.names → Holds f (rs ++ r ∷ []) u
  holds_arc u r a says arcs ranks names =
      let A = kept_push is_arc rs r says.letter in
      let P = left_push is_place rs r (not_place r says.letter) in
      record {
        ranks = ap (λ v. vec_items v) ranks ∙ h.ranks ∙ ap (map rank_of) (sym P);
        names = ap (λ v. map (λ n. n.bytes) (vec_items v)) names ∙ h.names ∙ ap (map name_of) (sym P);
        arcs = ap (map (λ x. Some x)) arcs ∙ map_push (λ x. Some x) (vec_items t.arcs) a ∙ (λ i. h.arcs i ++ says.listed i ∷ [])
            ∙ sym (map_push (arc_of f) (filter is_arc rs) r) ∙ ap (map (arc_of f)) (sym A);
        written = (λ i. place_records (vec_items (ranks i)) (vec_items (names i)) ++ map (arc_record f) (arcs i))
            ∙ ap (λ x. place_records (vec_items t.ranks) (vec_items t.names) ++ x) (map_push (arc_record f) (vec_items t.arcs) a)
            ∙ sym (append_assoc (place_records (vec_items t.ranks) (vec_items t.names)) (map (arc_record f) (vec_items t.arcs)) (arc_record f a ∷ []))
            ∙ (λ i. h.written i ++ says.written i ∷ []);
      }
