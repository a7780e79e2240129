-- What the tables hold of the records read.
use Rattle.std.specs.Prelude.{◌≡◌, ℕ, ◌-◌, ◌<◌, ◌≤◌, List, [], ◌∷◌, ◌++◌, map, Some, vec_items, vec_len, vec_capacity, filter, slice_index}
use Rattle.town_record.specs.FileForms.{FileForm}
use Rattle.town_record.specs.Parts.{is_place, is_arc, rank_of, name_of, arc_of, place_record, arc_record}
use Rattle.town_record.specs.declared.before.Before.{Before}
use Rattle.town_record.specs.declared.before.Limits.{Limits}
use Rattle.town_record.specs.declared.name.Name.{Name}
use Rattle.town.specs.Index.{froms, tos, Below, Ends, Arrive, Begun, NotPast}
use Rattle.town.specs.declared.tables.Tables.{Tables}

-- the records of places with these ranks and names
abbrev pub place_records : List ℕ → List Name → List (List ℕ)
place_records [] names = []
place_records (r ∷ ranks) [] = []
place_records (r ∷ ranks) (n ∷ names) = place_record r n.bytes ∷ place_records ranks names

-- the tables have, in the order of the records, every place's rank and name and every arc;
-- and the records written for them, places first, are those that were read
pub record Holds {L : Type 0} (f : FileForm L) (rs : List (List ℕ)) (t : Tables L) : Type 0 where
  pub ranks : vec_items t.ranks ≡ map rank_of (filter is_place rs)
  pub names : map (λ n. n.bytes) (vec_items t.names) ≡ map name_of (filter is_place rs)
  pub arcs : map (λ a. Some a) (vec_items t.arcs) ≡ map (arc_of f) (filter is_arc rs)
  pub written : place_records (vec_items t.ranks) (vec_items t.names) ++ map (arc_record f) (vec_items t.arcs) ≡ rs

-- what the tables hold, as what stands before the next record
abbrev pub so_far : {L : Type 0} → Tables L → Before
so_far t = record {
  places = vec_len t.ranks;
  arcs = vec_len t.arcs;
  last_to = slice_index (tos (vec_items t.arcs)) (vec_len t.arcs - 1);
}

-- the tables fit one another
pub record Sound {L : Type 0} (t : Tables L) : Type 0 where
  pub named : vec_len t.names ≡ vec_len t.ranks
  pub spanned : vec_len t.spans ≡ vec_len t.ranks
  pub inside : Below (froms (vec_items t.arcs)) (vec_len t.ranks)
  pub ends : Ends (vec_items t.spans) (tos (vec_items t.arcs))
  pub arrive : Arrive (vec_items t.spans) (tos (vec_items t.arcs))
  pub begun : Begun (vec_items t.spans) (tos (vec_items t.arcs))
  pub not_past : NotPast (vec_items t.spans) (tos (vec_items t.arcs))
  -- no to-place is above that of the last arc
  pub rising : (j : ℕ) → j < vec_len t.arcs → slice_index (tos (vec_items t.arcs)) j ≤ (so_far t).last_to

-- the tables have memory for as many places and arcs as the limits allow, and no more stand in them
pub record Roomy {L : Type 0} (limits : Limits) (t : Tables L) : Type 0 where
  pub ranks : limits.places ≤ vec_capacity t.ranks
  pub names : limits.places ≤ vec_capacity t.names
  pub spans : limits.places ≤ vec_capacity t.spans
  pub arcs : limits.arcs ≤ vec_capacity t.arcs
  pub few_places : vec_len t.ranks ≤ limits.places
  pub few_arcs : vec_len t.arcs ≤ limits.arcs

-- each table has memory for as many rows as before: nothing was allocated
pub record SameRoom {L : Type 0} (before after : Tables L) : Type 0 where
  pub ranks : vec_capacity after.ranks ≡ vec_capacity before.ranks
  pub names : vec_capacity after.names ≡ vec_capacity before.names
  pub spans : vec_capacity after.spans ≡ vec_capacity before.spans
  pub arcs : vec_capacity after.arcs ≡ vec_capacity before.arcs

-- the limits are no wider than those of a town file
pub record Few (limits : Limits) : Type 0 where
  pub places : limits.places ≤ 4096
  pub arcs : limits.arcs ≤ 16384

-- nothing stands in the tables yet
pub record Empty {L : Type 0} (t : Tables L) : Type 0 where
  pub ranks : vec_items t.ranks ≡ []
  pub names : vec_items t.names ≡ []
  pub spans : vec_items t.spans ≡ []
  pub arcs : vec_items t.arcs ≡ []
