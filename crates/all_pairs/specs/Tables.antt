-- What a table of least lengths holds, row by row: the length from place v to place w stands at v × n + w.
use Rattle.std.specs.Prelude.{◌≡◌, ℕ, ◌+◌, ◌*◌, ◌/◌, ◌%◌, ◌<◌, ◌≤◌, List, [], ◌∷◌, length, None, Option, slice_index_or}
use Rattle.std.specs.Option.{option_map}
use Rattle.fault.specs.Causes.{Cause, cause, Clear, Refused}
use Rattle.fault.specs.Refusals.{atlas_refusal}
use Rattle.fault.specs.declared.atlas.AtlasFault.{AtlasFault}
use Rattle.fault.specs.declared.refusal.Layer.TheVariants.{Atlas}
use Rattle.measure.specs.Laws.{OrderedMonoid, RowEncoding}
use Rattle.graph.specs.Graphs.{Graph}
use Rattle.graph.specs.Kinds.{Through, Right}
use Rattle.graph.specs.LeastLengths.{least_length}

-- why a table is refused: it is too short for all pairs of places
abbrev pub table_causes : (places given : ℕ) → List Cause
table_causes places given = cause 7 Atlas (λ at. (at ≡ places * places) × (given < places * places)) ∷ []

-- every pair of places has its least length, written as a row, or none
abbrev pub Filled : {L R : Type 0} → OrderedMonoid L → RowEncoding L R → Graph L → List (Option R) → Type 0
Filled m e g table = (v w : ℕ) → v < g.places → w < g.places → slice_index_or table (v * g.places + w) None ≡ option_map e.writes (least_length m g v w)

-- nothing has changed from a position on
abbrev pub SameFrom : {R : Type 0} → ℕ → List (Option R) → List (Option R) → Type 0
SameFrom n before after = (k : ℕ) → n ≤ k → slice_index_or after k None ≡ slice_index_or before k None

-- a table that is accepted: every pair has its least length, and the rest is as it was
abbrev pub Accepted : {L R : Type 0} → OrderedMonoid L → RowEncoding L R → Graph L → (before after : List (Option R)) → Type 0
Accepted m e g before after = Clear (table_causes g.places (length before)) × Filled m e g after × SameFrom (g.places * g.places) before after

-- a table that is refused is unchanged
abbrev pub Rejected : {L R : Type 0} → Graph L → (before after : List (Option R)) → AtlasFault → Type 0
Rejected g before after f = Refused (table_causes g.places (length before)) (atlas_refusal f) × (after ≡ before)

-- a row of the table is a length that is right for the ways that lead only by way of some places
abbrev pub RightAt : {L R : Type 0} → OrderedMonoid L → RowEncoding L R → Graph L → List ℕ → List (Option R) → ℕ → Type 0
RightAt {L} m e g xs table k = (o : Option L) × (slice_index_or table k None ≡ option_map e.writes o) × Right m g (Through xs) (k / g.places) (k % g.places) o

-- all rows, or those before a position
abbrev pub RightBelow : {L R : Type 0} → OrderedMonoid L → RowEncoding L R → Graph L → List ℕ → List (Option R) → ℕ → Type 0
RightBelow m e g xs table n = (k : ℕ) → k < n → RightAt m e g xs table k

-- shortening by way of x: whatever the map and the places before, what was right for these is right by way of x too
abbrev pub Shortened : {L R : Type 0} → OrderedMonoid L → RowEncoding L R → (n x : ℕ) → (before after : List (Option R)) → Type 0
Shortened {L} m e n x before after = (g : Graph L) (xs : List ℕ) → g.places ≡ n → RightBelow m e g xs before (n * n) → RightBelow m e g (x ∷ xs) after (n * n)

-- shortening the lengths from v, where those from the places before v are shortened already
abbrev pub ShortenedFrom : {L R : Type 0} → OrderedMonoid L → RowEncoding L R → (n x v : ℕ) → (before after : List (Option R)) → Type 0
ShortenedFrom {L} m e n x v before after = (g : Graph L) (xs : List ℕ) → g.places ≡ n →
    RightBelow m e g xs before (n * n) → RightBelow m e g (x ∷ xs) before (v * n) →
    RightBelow m e g xs after (n * n) × RightBelow m e g (x ∷ xs) after (v * n + n)
