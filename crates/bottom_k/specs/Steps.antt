-- A search under way: what holds between its steps.
use Rattle.std.specs.Prelude.{◌≡◌, ℕ, zero, suc, ◌+◌, Bool, true, false, cond, T, ◌⊎◌, List, ◌==◌}
use Rattle.measure.specs.Laws.{OrderedMonoid}
use Rattle.graph.specs.Members.{In}
use Rattle.graph.specs.Ways.{HasWay}
use Rattle.graph.specs.declared.arc.Arc.{Arc}
use Rattle.bottom_k.specs.Sketches.{Setting, Entry}
use Rattle.bottom_k.specs.Search.{Mark, unseen, waiting, settled, TurnsBack}

-- the mark carries the length d, waiting or settled
abbrev pub Carries : {L : Type 0} → Mark L → L → Type 0
Carries k d = (k ≡ waiting d) ⊎ (k ≡ settled d)

-- the mark carries a length at most t
abbrev pub CarriesWithin : {L : Type 0} → OrderedMonoid L → Mark L → L → Type 0
CarriesWithin {L} m k t = (e : L) × Carries k e × T (m.at_most e t)

-- the marks with that of one place replaced
abbrev pub with_mark : {L : Type 0} → (ℕ → Mark L) → ℕ → Mark L → ℕ → Mark L
with_mark mark x k v = cond (v == x) k (mark v)

-- the mark of a place after an arc leads to it at the length t: the shorter length waits; a settled place stays
abbrev pub relaxed : {L : Type 0} → OrderedMonoid L → Mark L → L → Mark L
relaxed m unseen t = waiting t
relaxed m (waiting d) t = cond (m.at_most d t) (waiting d) (waiting t)
relaxed m (settled d) t = settled d

-- is the place settled?
abbrev pub is_settled : {L : Type 0} → Mark L → Bool
is_settled unseen = false
is_settled (waiting d) = false
is_settled (settled d) = true

-- how many of the places below n are not settled
abbrev pub unsettled : {L : Type 0} → ℕ → (ℕ → Mark L) → ℕ
unsettled zero mark = 0
unsettled (suc n) mark = cond (is_settled (mark n)) 0 1 + unsettled n mark

-- every waiting length is at least d
abbrev pub NoneNearer : {L : Type 0} → OrderedMonoid L → (ℕ → Mark L) → L → Type 0
NoneNearer {L} m mark d = (v : ℕ) (e : L) → mark v ≡ waiting e → T (m.at_most d e)

-- a search from u before the next place settles: no settled length exceeds a waiting one,
-- and where the search did not turn back, every arriving arc was followed
pub record Searching {L : Type 0} (s : Setting L) (sketch : ℕ → List (Entry L)) (u : ℕ) (mark : ℕ → Mark L) : Type 0 where
  pub begun : Carries (mark u) s.measure.zero
  pub by_a_way : (v : ℕ) (d : L) → Carries (mark v) d → HasWay s.measure s.map v u d
  pub in_order : (v w : ℕ) (d e : L) → mark v ≡ settled d → mark w ≡ waiting e → T (s.measure.at_most d e)
  pub followed : (v : ℕ) (d : L) → mark v ≡ settled d → ¬ TurnsBack s sketch v d → (a : Arc L) → In a (s.map.arriving v) →
      CarriesWithin s.measure (mark a.from) (s.measure.join a.length d)

-- a search from u that has settled x at d and followed the arcs `done` of those that arrive at x
pub record Following {L : Type 0} (s : Setting L) (sketch : ℕ → List (Entry L)) (u : ℕ) (mark : ℕ → Mark L) (x : ℕ) (d : L) (done : List (Arc L)) : Type 0 where
  pub begun : Carries (mark u) s.measure.zero
  pub by_a_way : (v : ℕ) (e : L) → Carries (mark v) e → HasWay s.measure s.map v u e
  pub here : mark x ≡ settled d
  pub none_farther : (v : ℕ) (e : L) → mark v ≡ settled e → T (s.measure.at_most e d)
  pub none_nearer : NoneNearer s.measure mark d
  pub followed : (v : ℕ) (e : L) → mark v ≡ settled e → ¬ TurnsBack s sketch v e → (a : Arc L) → In a (s.map.arriving v) →
      (v ≡ x → In a done) → CarriesWithin s.measure (mark a.from) (s.measure.join a.length e)
