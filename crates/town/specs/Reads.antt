-- What rows say of the file that they were read from.
use Rattle.std.specs.Prelude.{◌≡◌, ℕ, List, map, length, Some, vec_items, vec_len, filter, Option, nat_eq}
use Rattle.std.specs.Option.{option_map}
use Rattle.graph.specs.declared.arc.Arc.{Arc}
use Rattle.town_record.specs.FileForms.{FileForm}
use Rattle.town_record.specs.Parts.{is_place, is_arc, rank_of, name_of, to_of, arc_of}
use Rattle.town_record.specs.declared.before.Limits.{Limits}
use Rattle.town.specs.Files.{records, record_count}
use Rattle.town.specs.RowsGraph.{as_arc, rows_graph, rows_file}
use Rattle.town.specs.declared.room.Room.{Room}
use Rattle.town.specs.declared.rows.Rows.{Rows}

-- the place records and the arc records of a file
abbrev pub places_of : List ℕ → List (List ℕ)
places_of file = filter is_place (records file (record_count file))

abbrev pub arcs_of : List ℕ → List (List ℕ)
arcs_of file = filter is_arc (records file (record_count file))

-- the arc that a record lists, as the place where it arrives knows it
abbrev pub arrival_of : {L : Type 0} → FileForm L → List ℕ → Option (Arc L)
arrival_of f r = option_map as_arc (arc_of f r)

-- the rows mean what the records say: as many places, with their ranks and names;
-- at each place the arcs that the records list there, in their order; and the rows are written as that file
pub record Reads {L : Type 0} (f : FileForm L) (file : List ℕ) (rows : Rows L) : Type 0 where
  pub places : (rows_graph rows).places ≡ length (places_of file)
  pub ranks : vec_items rows.tables.ranks ≡ map rank_of (places_of file)
  pub arcs : vec_len rows.tables.arcs ≡ length (arcs_of file)
  pub names : map (λ n. n.bytes) (vec_items rows.tables.names) ≡ map name_of (places_of file)
  pub arriving : (w : ℕ) → map (λ a. Some a) ((rows_graph rows).arriving w) ≡ map (arrival_of f) (filter (λ r. nat_eq (to_of r) w) (arcs_of file))
  pub written : rows_file f rows ≡ file

-- room allows a file as many places and arcs as it has memory for
abbrev pub limits_of : {L : Type 0} → Room L → Limits
limits_of room = room.filling.limits
