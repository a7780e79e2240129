-- The theorems on the steps of a search, over any lengths L: each step keeps what holds between steps, and the end is a finished search.
use Rattle.std.specs.Prelude.{◌≡◌, ℕ, ◌<◌, List, [], ◌∷◌, ◌++◌}
use Rattle.graph.specs.Members.{In}
use Rattle.graph.specs.declared.arc.Arc.{Arc}
use Rattle.bottom_k.specs.Sketches.{Setting, Entry}
use Rattle.bottom_k.specs.Search.{Mark, unseen, waiting, settled, TurnsBack, Finished, sketch_after}
use Rattle.bottom_k.specs.Steps.{with_mark, relaxed, unsettled, NoneNearer, Searching, Following}

-- a search begins with its place waiting at zero, all others unseen
abbrev pub SearchBegins : Type 0 → Type 0
SearchBegins L = (s : Setting L) (sketch : ℕ → List (Entry L)) (u : ℕ) → u < s.map.places →
    Searching s sketch u (with_mark (λ _. unseen) u (waiting s.measure.zero))

-- a waiting place of least length settles and turns the search back
abbrev pub SearchTurnsBack : Type 0 → Type 0
SearchTurnsBack L = (s : Setting L) (sketch : ℕ → List (Entry L)) (u : ℕ) (mark : ℕ → Mark L) → Searching s sketch u mark →
    (x : ℕ) (d : L) → mark x ≡ waiting d → NoneNearer s.measure mark d → TurnsBack s sketch x d → Searching s sketch u (with_mark mark x (settled d))

-- a waiting place of least length settles; none of its arriving arcs is followed yet
abbrev pub SearchSettles : Type 0 → Type 0
SearchSettles L = (s : Setting L) (sketch : ℕ → List (Entry L)) (u : ℕ) (mark : ℕ → Mark L) → Searching s sketch u mark →
    (x : ℕ) (d : L) → mark x ≡ waiting d → NoneNearer s.measure mark d → Following s sketch u (with_mark mark x (settled d)) x d []

-- each place that settles leaves fewer unsettled
abbrev pub SearchAdvances : Type 0 → Type 0
SearchAdvances L = (mark : ℕ → Mark L) (n x : ℕ) (d : L) → x < n → mark x ≡ waiting d → unsettled n (with_mark mark x (settled d)) < unsettled n mark

-- one more arriving arc is followed
abbrev pub SearchFollows : Type 0 → Type 0
SearchFollows L = (s : Setting L) (sketch : ℕ → List (Entry L)) (u : ℕ) (mark : ℕ → Mark L) (x : ℕ) (d : L) (done : List (Arc L)) →
    Following s sketch u mark x d done → (a : Arc L) → In a (s.map.arriving x) →
    Following s sketch u (with_mark mark a.from (relaxed s.measure (mark a.from) (s.measure.join a.length d))) x d (done ++ a ∷ [])

-- which changes neither how many are unsettled nor what is noted
abbrev pub FollowingSettlesNone : Type 0 → Type 0
FollowingSettlesNone L = (s : Setting L) (mark : ℕ → Mark L) (y : ℕ) (t : L) →
    ((n : ℕ) → unsettled n (with_mark mark y (relaxed s.measure (mark y) t)) ≡ unsettled n mark)
    × ((p v : ℕ) (es : List (Entry L)) → sketch_after s p (with_mark mark y (relaxed s.measure (mark y) t) v) es ≡ sketch_after s p (mark v) es)

-- when all arriving arcs are followed, the next place may settle
abbrev pub SearchGoesOn : Type 0 → Type 0
SearchGoesOn L = (s : Setting L) (sketch : ℕ → List (Entry L)) (u : ℕ) (mark : ℕ → Mark L) (x : ℕ) (d : L) →
    Following s sketch u mark x d (s.map.arriving x) → Searching s sketch u mark

-- when no place waits, the search is finished
abbrev pub SearchEnds : Type 0 → Type 0
SearchEnds L = (s : Setting L) (sketch : ℕ → List (Entry L)) (u : ℕ) (mark : ℕ → Mark L) → Searching s sketch u mark →
    ((v : ℕ) (d : L) → ¬ (mark v ≡ waiting d)) → Finished s sketch u mark
