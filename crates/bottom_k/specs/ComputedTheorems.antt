-- The theorems on the definitions that compute: each meets the relation that it is for.
use Rattle.std.specs.Prelude.{◌≡◌, ℕ, suc, ◌<◌, ◌↔◌, List, Some, Option}
use Rattle.measure.specs.Laws.{OrderedMonoid}
use Rattle.graph.specs.Members.{In}
use Rattle.graph.specs.Graphs.{Graph}
use Rattle.graph.specs.LeastLengths.{least_length}
use Rattle.bottom_k.specs.Ranking.{Ranking, ranking}
use Rattle.bottom_k.specs.Sketches.{Setting, Due, place_at}
use Rattle.bottom_k.specs.Samples.{JointSample}
use Rattle.bottom_k.specs.Cells.{EntriesDue, PassesCells}
use Rattle.bottom_k.specs.Search.{TurnedBackAt}
use Rattle.bottom_k.specs.Computed.{GivesLeast, due_list, entries_due, cells_run_out, sample_list, turned_back}

-- the places in order are worked out rightly, and no other list is their order
abbrev pub RankingIsComputed : Type 0
RankingIsComputed = (ranks : List ℕ) (n : ℕ) →
    Ranking ranks n (ranking ranks n) × ((order : List ℕ) → Ranking ranks n order → order ≡ ranking ranks n)

-- the computed table of all pairs gives the least lengths
abbrev pub LengthsAreComputed : Type 0 → Type 0
LengthsAreComputed L = (m : OrderedMonoid L) (g : Graph L) → GivesLeast m g (least_length m g)

-- the due list is the sketch due
abbrev pub SketchIsComputed : Type 0 → Type 0
SketchIsComputed L = (s : Setting L) (least : ℕ → ℕ → Option L) → GivesLeast s.measure s.map least →
    (swept v : ℕ) → Due s swept v (due_list s least swept v)

-- the number of entries due is theirs, and it passes a number of cells just if the entries due do
abbrev pub EntriesAreComputed : Type 0 → Type 0
EntriesAreComputed L = (s : Setting L) (least : ℕ → ℕ → Option L) → GivesLeast s.measure s.map least →
    ((swept : ℕ) → EntriesDue s swept (entries_due s least swept))
    × ((swept cells : ℕ) → PassesCells s swept cells ↔ (cells < entries_due s least swept))
    × ((cells p u : ℕ) → (cells_run_out s least cells p ≡ Some u) ↔ (PassesCells s (suc p) cells × (u ≡ place_at s p)))

-- the sample list is the joint sample
abbrev pub SampleIsComputed : Type 0 → Type 0
SampleIsComputed L = (s : Setting L) (least : ℕ → ℕ → Option L) → GivesLeast s.measure s.map least →
    (swept : ℕ) (starts : List ℕ) (t : L) → JointSample s swept starts t (sample_list s least swept starts t)

-- the list of places where a search turns back has just those
abbrev pub TurnedBackIsComputed : Type 0 → Type 0
TurnedBackIsComputed L = (s : Setting L) (least : ℕ → ℕ → Option L) → GivesLeast s.measure s.map least →
    (p v : ℕ) → In v (turned_back s least p) ↔ TurnedBackAt s p v
