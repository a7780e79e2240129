-- What rows mean: the map, and the file written for them.
use Rattle.std.specs.Prelude.{ℕ, ◌<◌, List, [], ◌∷◌, ◌++◌, map, length, vec_items, vec_len, nat_eq}
use Rattle.std.proofs.Common.{ap, arith}
use Rattle.std.specs.List.{concat, AllByRecursion}
use Rattle.std.proofs.ByRecursion.{all_kept_by}
use Rattle.graph.specs.Graphs.{Graph}
use Rattle.graph.specs.declared.arc.Arc.{Arc}
use Rattle.town_record.specs.FileForms.{FileForm}
use Rattle.town_record.specs.Parts.{arc_record}
use Rattle.town_record.specs.declared.arc_row.ArcRow.{ArcRow}
use Rattle.town.specs.declared.rows.Rows.{Rows}
use Rattle.town.specs.Holds.{place_records}
use Rattle.town.specs.SpanLaws.{arriving_at, none_beyond, all_below}

-- an arc as the place where it arrives knows it
abbrev pub as_arc : {L : Type 0} → ArcRow L → Arc L
as_arc a = record { from = a.from; length = a.length }

pub all_as_arc : {L : Type 0} (n : ℕ) (arcs : List (ArcRow L)) → AllByRecursion (λ a. a.from < n) arcs → AllByRecursion (λ a. a.from < n) (map as_arc arcs)
all_as_arc n [] h = tt
all_as_arc n (a ∷ arcs) h = (h.0, all_as_arc n arcs h.1)

-- as many places as ranks; at each the arcs that arrive there, in the order of the file
abbrev pub rows_graph : {L : Type 0} → Rows L → Graph L
rows_graph r = record {
  places = vec_len r.tables.ranks;
  arriving = λ w. map as_arc (arriving_at w (vec_items r.tables.arcs));
  some = r.some;
  few = r.few_places;
  inside = λ w. all_as_arc (vec_len r.tables.ranks) (arriving_at w (vec_items r.tables.arcs))
      (all_kept_by (λ a. nat_eq a.to w) (λ a. a.from < vec_len r.tables.ranks) (vec_items r.tables.arcs)
      (all_below (vec_items r.tables.arcs) (vec_len r.tables.ranks) r.sound.inside));
  beyond = λ w h. ap (λ xs. length (map as_arc xs))
      (none_beyond (vec_items r.tables.spans) (vec_items r.tables.arcs) r.sound.ends r.sound.arrive r.sound.begun r.sound.not_past w
      (let p = r.sound.spanned in let o = r.tables.spans.ok.0 in omega arith));
}

-- the records written for rows, places first, and the file that they make
abbrev pub rows_records : {L : Type 0} → FileForm L → Rows L → List (List ℕ)
rows_records f r =
    place_records (vec_items r.tables.ranks) (vec_items r.tables.names) ++ map (arc_record f) (vec_items r.tables.arcs)

abbrev pub rows_file : {L : Type 0} → FileForm L → Rows L → List ℕ
rows_file f r = concat (rows_records f r)
