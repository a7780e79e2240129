-- The theorems on sketches and samples, over any lengths L: for every lawful measure, every map's meaning, every order and k.
use Rattle.std.specs.Prelude.{◌≡◌, ℕ, suc, ◌+◌, ◌<◌, ◌≤◌, ◌↔◌, List, [], ◌∷◌, ◌++◌, map, length, take}
use Rattle.std.specs.List.{AllByRecursion}
use Rattle.graph.specs.Members.{In}
use Rattle.bottom_k.specs.Lists.{FirstK}
use Rattle.bottom_k.specs.Sketches.{Setting, Entry, ManyNear, Noted, Due, AllDue, place_at, entries_within, entries_before}
use Rattle.bottom_k.specs.Samples.{Sample, JointSample, NotedWithin, NotedBySome}
use Rattle.bottom_k.specs.Cells.{entries_of, EntriesDue, PassesCells}
use Rattle.bottom_k.specs.Search.{Mark, settled, TurnsBack, Finished, sketch_after, notes_made, DueToNote, TurnedBackAt}

-- before any place is swept, the empty sketch is due to every place
abbrev pub EmptyIsDue : Type 0 → Type 0
EmptyIsDue L = (s : Setting L) → AllDue s 0 (λ _. [])

-- a sketch is due to every place, and only one
abbrev pub OneSketchIsDue : Type 0 → Type 0
OneSketchIsDue L = (s : Setting L) (swept v : ℕ) →
    ((es : List (Entry L)) × Due s swept v es)
    × ((es fs : List (Entry L)) → Due s swept v es → Due s swept v fs → es ≡ fs)

-- so many entries are due in all, and no other number
abbrev pub OneNumberIsDue : Type 0 → Type 0
OneNumberIsDue L = (s : Setting L) (swept : ℕ) →
    ((total : ℕ) × EntriesDue s swept total)
    × ((a b : ℕ) → EntriesDue s swept a → EntriesDue s swept b → a ≡ b)

-- the k first-ranked within a limit are noted, within that limit
abbrev pub FirstKAreNoted : Type 0 → Type 0
FirstKAreNoted L = (s : Setting L) (swept v : ℕ) (es : List (Entry L)) → Due s swept v es →
    (t : L) (xs : List ℕ) → Sample s swept v t xs → AllByRecursion (λ q. NotedWithin s t q es) xs

-- counting entries is counting places: k or more entries of at most t are noted just if k or more swept places lie within t
abbrev pub EntriesCountPlaces : Type 0 → Type 0
EntriesCountPlaces L = (s : Setting L) (swept v : ℕ) (es : List (Entry L)) → Due s swept v es → (t : L) →
    (s.k ≤ length (entries_within s.measure t es)) ↔ ManyNear s v swept t

-- from every place of the map there is a finished search
abbrev pub SearchCanFinish : Type 0 → Type 0
SearchCanFinish L = (s : Setting L) (sketch : ℕ → List (Entry L)) (u : ℕ) → u < s.map.places → (mark : ℕ → Mark L) × Finished s sketch u mark

-- a finished search from the place at position p that turned back at sketches with k or more entries: it settled a place,
-- without turning back there, just where p is due, at the least length; and its notes make the sketches due with p swept too
abbrev pub TurningBackIsRight : Type 0 → Type 0
TurningBackIsRight L = (s : Setting L) (p : ℕ) (sketch : ℕ → List (Entry L)) (mark : ℕ → Mark L) →
    AllDue s p sketch → Finished s sketch (place_at s p) mark →
    ((v : ℕ) (d : L) → ((mark v ≡ settled d) × (¬ TurnsBack s sketch v d)) ↔ Noted s (suc p) v p d)
    × AllDue s (suc p) (λ v. sketch_after s p (mark v) (sketch v))

-- the places where it turns back are settled and not due; and wherever an arc leads from a place that is not due into one
-- that is, it turns back
abbrev pub TurnedBackAreNotDue : Type 0 → Type 0
TurnedBackAreNotDue L = (s : Setting L) (p : ℕ) (sketch : ℕ → List (Entry L)) (mark : ℕ → Mark L) →
    AllDue s p sketch → Finished s sketch (place_at s p) mark → (v : ℕ) →
    ((d : L) → mark v ≡ settled d → TurnsBack s sketch v d → ¬ DueToNote s p v)
    × (TurnedBackAt s p v → (d : L) × (mark v ≡ settled d) × TurnsBack s sketch v d)

-- the entries due with p swept too are those before and the notes made, so that whether they pass a number of cells is known
-- before any is written
abbrev pub NotesCanBeCounted : Type 0 → Type 0
NotesCanBeCounted L = (s : Setting L) (p : ℕ) (sketch : ℕ → List (Entry L)) (mark : ℕ → Mark L) →
    AllDue s p sketch → Finished s sketch (place_at s p) mark → (cells : ℕ) →
    PassesCells s (suc p) cells ↔ (cells < entries_of s.map.places sketch + notes_made s sketch mark)

-- without the entries of the last swept place, the sketches are those due with one place fewer swept
abbrev pub TakingBackIsRight : Type 0 → Type 0
TakingBackIsRight L = (s : Setting L) (p : ℕ) (sketch : ℕ → List (Entry L)) → AllDue s (suc p) sketch → AllDue s p (λ v. entries_before p (sketch v))

-- in each sketch that drops the entry at its end, if that is one of the last swept place, or none
abbrev pub TakingBackDropsLast : Type 0 → Type 0
TakingBackDropsLast L = (s : Setting L) (p v : ℕ) (es : List (Entry L)) →
    ((d : L) → Due s (suc p) v (es ++ record { position = p; length = d } ∷ []) → Due s p v es)
    × (Due s (suc p) v es → ((d : L) → ¬ In (record { position = p; length = d }) es) → Due s p v es)

-- the first k entries of a sketch at most t long are the sample within t
abbrev pub SampleIsRight : Type 0 → Type 0
SampleIsRight L = (s : Setting L) (swept v : ℕ) (es : List (Entry L)) → Due s swept v es → (t : L) →
    Sample s swept v t (take s.k (map (λ e. e.position) (entries_within s.measure t es)))

-- of what the sketches of the starts note within t, the k first are the joint sample
abbrev pub JointSampleIsRight : Type 0 → Type 0
JointSampleIsRight L = (s : Setting L) (swept : ℕ) (sketch : ℕ → List (Entry L)) (starts : List ℕ) →
    AllByRecursion (λ v. Due s swept v (sketch v)) starts → (t : L) (xs : List ℕ) →
    FirstK s.k (NotedBySome s sketch starts t) xs → JointSample s swept starts t xs

-- the joint sample of one start is its sample
abbrev pub OneStartIsASample : Type 0 → Type 0
OneStartIsASample L = (s : Setting L) (swept v : ℕ) (t : L) (xs : List ℕ) → JointSample s swept (v ∷ []) t xs ↔ Sample s swept v t xs

-- only one list has the first k of a property, here that of being the number of one of the things X
abbrev pub FirstKIsOneList : Type 0 → Type 0
FirstKIsOneList X = (k : ℕ) (number : X → ℕ) (xs ys : List ℕ) →
    FirstK k (λ q. (x : X) × (number x ≡ q)) xs → FirstK k (λ q. (x : X) × (number x ≡ q)) ys → xs ≡ ys

-- so there is only one sample, single or joint
abbrev pub OneSample : Type 0 → Type 0
OneSample L = (s : Setting L) (swept : ℕ) (t : L) (xs ys : List ℕ) →
    ((v : ℕ) → Sample s swept v t xs → Sample s swept v t ys → xs ≡ ys)
    × ((starts : List ℕ) → JointSample s swept starts t xs → JointSample s swept starts t ys → xs ≡ ys)
