-- Samples: the k first-ranked of the swept places that are reached within a limit.
use Rattle.std.specs.Prelude.{ℕ, ◌<◌, T, List}
use Rattle.graph.specs.Members.{In}
use Rattle.bottom_k.specs.Lists.{FirstK}
use Rattle.bottom_k.specs.Sketches.{Setting, Entry, Near}

-- the place at position q is swept and lies within t of v
abbrev pub ReachedFrom : {L : Type 0} → Setting L → ℕ → ℕ → L → ℕ → Type 0
ReachedFrom s swept v t q = (q < swept) × Near s v q t

-- the place at position q is swept and lies within t of some start
abbrev pub ReachedFromSome : {L : Type 0} → Setting L → ℕ → List ℕ → L → ℕ → Type 0
ReachedFromSome s swept starts t q = (q < swept) × ((v : ℕ) × In v starts × Near s v q t)

-- the sample of v within t: the positions of the k first-ranked swept places reached, or of all if they are fewer
abbrev pub Sample : {L : Type 0} → Setting L → ℕ → ℕ → L → List ℕ → Type 0
Sample s swept v t xs = FirstK s.k (ReachedFrom s swept v t) xs

-- the joint sample of several starts within t
abbrev pub JointSample : {L : Type 0} → Setting L → ℕ → List ℕ → L → List ℕ → Type 0
JointSample s swept starts t xs = FirstK s.k (ReachedFromSome s swept starts t) xs

-- a sketch notes position q at a length of at most t
abbrev pub NotedWithin : {L : Type 0} → Setting L → L → ℕ → List (Entry L) → Type 0
NotedWithin {L} s t q sketch = (d : L) × In (record { position = q; length = d }) sketch × T (s.measure.at_most d t)

-- the sketch of some start does
abbrev pub NotedBySome : {L : Type 0} → Setting L → (ℕ → List (Entry L)) → List ℕ → L → ℕ → Type 0
NotedBySome s sketch starts t q = (v : ℕ) × In v starts × NotedWithin s t q (sketch v)
