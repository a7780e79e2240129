-- A search from one place along arriving arcs, which turns back where enough places are noted.
use Rattle.std.specs.Prelude.{◌≡◌, ℕ, suc, ◌≤◌, Bool, false, cond, T, List, [], ◌∷◌, ◌++◌, length, count_by, nat_le, nat_lt}
use Rattle.std.specs.List.{range_with_len}
use Rattle.graph.specs.Members.{In}
use Rattle.graph.specs.Ways.{HasWay}
use Rattle.graph.specs.declared.arc.Arc.{Arc}
use Rattle.bottom_k.specs.Sketches.{Setting, Entry, Noted, entries_within}

-- what a search knows of a place
pub data Mark (L : Type 0) : Type 0 where
  unseen : Mark L
  waiting : L → Mark L
  settled : L → Mark L

-- a search that settles v at the length d turns back there: the sketch of v has k or more entries at most d long
abbrev pub TurnsBack : {L : Type 0} → Setting L → (ℕ → List (Entry L)) → ℕ → L → Type 0
TurnsBack s sketch v d = s.k ≤ length (entries_within s.measure d (sketch v))

-- what a finished search from u leaves: u is settled at zero; each settled length is that of a way from there to u;
-- and where the search did not turn back, the from-place of every arriving arc is settled, at no more than the length along that arc
pub record Finished {L : Type 0} (s : Setting L) (sketch : ℕ → List (Entry L)) (u : ℕ) (mark : ℕ → Mark L) : Type 0 where
  pub begun : mark u ≡ settled s.measure.zero
  pub by_a_way : (v : ℕ) (d : L) → mark v ≡ settled d → HasWay s.measure s.map v u d
  pub followed : (v : ℕ) (d : L) → mark v ≡ settled d → ¬ TurnsBack s sketch v d → (a : Arc L) → In a (s.map.arriving v) →
      (e : L) × (mark a.from ≡ settled e) × T (s.measure.at_most e (s.measure.join a.length d))

-- a sketch after the search from position p: p is noted at the end if the place settled and did not turn the search back
abbrev pub sketch_after : {L : Type 0} → Setting L → ℕ → Mark L → List (Entry L) → List (Entry L)
sketch_after s p unseen es = es
sketch_after s p (waiting d) es = es
sketch_after s p (settled d) es = cond (nat_le s.k (length (entries_within s.measure d es))) es (es ++ record { position = p; length = d } ∷ [])

-- does a place with this mark and this sketch note the place that is searched from?
abbrev pub makes_note : {L : Type 0} → Setting L → Mark L → List (Entry L) → Bool
makes_note s unseen es = false
makes_note s (waiting d) es = false
makes_note s (settled d) es = nat_lt (length (entries_within s.measure d es)) s.k

-- how many of the places of the map do
abbrev pub notes_made : {L : Type 0} → Setting L → (ℕ → List (Entry L)) → (ℕ → Mark L) → ℕ
notes_made s sketch mark = count_by (λ v. makes_note s (mark v) (sketch v)) (range_with_len 0 s.map.places)

-- v is due to note the place at position p, once it is swept
abbrev pub DueToNote : {L : Type 0} → Setting L → ℕ → ℕ → Type 0
DueToNote {L} s p v = (d : L) × Noted s (suc p) v p d

-- the search from position p turns back at v: v is not due to note the place, but an arc leads from v into a place that is
abbrev pub TurnedBackAt : {L : Type 0} → Setting L → ℕ → ℕ → Type 0
TurnedBackAt {L} s p v = (¬ DueToNote s p v) × ((w : ℕ) × (a : Arc L) × In a (s.map.arriving w) × (a.from ≡ v) × DueToNote s p w)
