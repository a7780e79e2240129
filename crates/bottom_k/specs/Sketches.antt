-- The sketch due to a place: which swept places it notes, and at which lengths.
use Rattle.std.specs.Prelude.{ℕ, ◌<◌, ◌≤◌, ◌↔◌, List, map, length, filter, nat_lt, slice_index}
use Rattle.std.specs.List.{AllByRecursion}
use Rattle.measure.specs.Laws.{OrderedMonoid}
use Rattle.graph.specs.Members.{In}
use Rattle.graph.specs.Graphs.{Graph}
use Rattle.graph.specs.Ways.{Least, Within}
use Rattle.bottom_k.specs.Lists.{Apart, Rising}

-- what sketches are about: a measure, a map in it, the number k, and an order of places, first-ranked first.
-- Any list of places may be the order: it need not have every place of the map.
pub record Setting (L : Type 0) : Type 0 where
  pub measure : OrderedMonoid L
  pub map : Graph L
  pub k : ℕ
  pub order : List ℕ

-- the place at a position of the order; no position past its end is ever swept
abbrev pub place_at : {L : Type 0} → Setting L → ℕ → ℕ
place_at s p = slice_index s.order p

-- an entry of a sketch: the position of the noted place in the order, and its length
pub record Entry (L : Type 0) : Type 0 where
  pub position : ℕ
  pub length : L

-- the place at position q lies within t of v
abbrev pub Near : {L : Type 0} → Setting L → ℕ → ℕ → L → Type 0
Near s v q t = Within s.measure s.map v (place_at s q) t

-- the positions of the list differ, stand before p, and their places lie within t of v
abbrev pub NearBefore : {L : Type 0} → Setting L → ℕ → ℕ → L → List ℕ → Type 0
NearBefore s v p t qs = Apart qs × AllByRecursion (λ q. (q < p) × Near s v q t) qs

-- fewer than k places before position p lie within t of v
abbrev pub FewerNear : {L : Type 0} → Setting L → ℕ → ℕ → L → Type 0
FewerNear s v p t = (qs : List ℕ) → NearBefore s v p t qs → length qs < s.k

-- k or more places before position p lie within t of v
abbrev pub ManyNear : {L : Type 0} → Setting L → ℕ → ℕ → L → Type 0
ManyNear s v p t = (qs : List ℕ) × NearBefore s v p t qs × (s.k ≤ length qs)

-- with `swept` places swept, v notes the place at position p at the length d: the place is swept, it is reached from v,
-- d is the least length of a way there, and fewer than k places ranked before it are as near or nearer
pub record Noted {L : Type 0} (s : Setting L) (swept v p : ℕ) (d : L) : Type 0 where
  pub swept_by : p < swept
  pub least : Least s.measure s.map v (place_at s p) d
  pub fewer : FewerNear s v p d

-- the sketch due to v with `swept` places swept: exactly what v notes, in order of rank
pub record Due {L : Type 0} (s : Setting L) (swept v : ℕ) (sketch : List (Entry L)) : Type 0 where
  pub rising : Rising (map (λ e. e.position) sketch)
  pub exact : (e : Entry L) → In e sketch ↔ Noted s swept v e.position e.length

-- every place of the map has the sketch due to it
abbrev pub AllDue : {L : Type 0} → Setting L → ℕ → (ℕ → List (Entry L)) → Type 0
AllDue s swept sketch = (v : ℕ) → v < s.map.places → Due s swept v (sketch v)

-- the entries of a sketch at most t long
abbrev pub entries_within : {L : Type 0} → OrderedMonoid L → L → List (Entry L) → List (Entry L)
entries_within m t es = filter (λ e. m.at_most e.length t) es

-- the entries of a sketch at positions below p
abbrev pub entries_before : {L : Type 0} → ℕ → List (Entry L) → List (Entry L)
entries_before p es = filter (λ e. nat_lt e.position p) es
