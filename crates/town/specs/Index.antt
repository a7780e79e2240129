-- Where the arcs that arrive at each place stand in the table of arcs.
use Rattle.std.specs.Prelude.{◌≡◌, ℕ, ◌+◌, ◌<◌, ◌≤◌, cond, List, map, length, ◌==◌, slice_index, slice_index_or}
use Rattle.town_record.specs.declared.arc_row.ArcRow.{ArcRow}
use Rattle.town.specs.declared.tables.Span.{Span}

-- the from-places and the to-places of the arcs
abbrev pub froms : {L : Type 0} → List (ArcRow L) → List ℕ
froms arcs = map (λ a. a.from) arcs

abbrev pub tos : {L : Type 0} → List (ArcRow L) → List ℕ
tos arcs = map (λ a. a.to) arcs

-- a span of no arcs
abbrev pub empty_span : Span
empty_span = record { first = 0; count = 0 }

-- where the arcs of a place begin, and how many they are
abbrev pub first : List Span → ℕ → ℕ
first spans w = (slice_index_or spans w empty_span).first

abbrev pub count : List Span → ℕ → ℕ
count spans w = (slice_index_or spans w empty_span).count

-- every number is below n
abbrev pub Below : List ℕ → ℕ → Type 0
Below xs n = (j : ℕ) → j < length xs → slice_index xs j < n

-- the span of a place ends within the table
abbrev pub Ends : List Span → List ℕ → Type 0
Ends spans ts = (w : ℕ) → first spans w + count spans w ≤ length ts

-- each arc of the span of a place arrives there
abbrev pub Arrive : List Span → List ℕ → Type 0
Arrive spans ts = (w i : ℕ) → i < count spans w → slice_index ts (first spans w + i) ≡ w

-- each arc stands in the span of the place where it arrives
abbrev pub Begun : List Span → List ℕ → Type 0
Begun spans ts = (j : ℕ) → j < length ts → first spans (slice_index ts j) ≤ j

abbrev pub NotPast : List Span → List ℕ → Type 0
NotPast spans ts = (j : ℕ) → j < length ts → j < first spans (slice_index ts j) + count spans (slice_index ts j)

-- the span of a place with one arc more, where the table has n: it begins there if it was empty
abbrev pub longer : Span → ℕ → Span
longer s n = record { first = cond (s.count == 0) n s.first; count = s.count + 1 }
