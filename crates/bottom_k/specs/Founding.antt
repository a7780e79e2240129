-- What founding is given, the setting that this makes, and notes and samples said of places alone.
use Rattle.std.specs.Prelude.{◌≡◌, ℕ, ◌<◌, ◌≤◌, ◌⊎◌, ◌↔◌, List, map, length, take}
use Rattle.std.specs.List.{AllByRecursion}
use Rattle.measure.specs.Laws.{OrderedMonoid}
use Rattle.graph.specs.Members.{In}
use Rattle.graph.specs.Graphs.{Graph}
use Rattle.graph.specs.Ways.{Least, Within}
use Rattle.bottom_k.specs.Lists.{Apart}
use Rattle.bottom_k.specs.Ranking.{Before, InOrder, ranking}
use Rattle.bottom_k.specs.Sketches.{Setting, place_at, Noted}
use Rattle.bottom_k.specs.Samples.{JointSample}

-- a measure, a map in it, a rank for each place, and k
pub record Founding (L : Type 0) : Type 0 where
  pub measure : OrderedMonoid L
  pub map : Graph L
  pub ranks : List ℕ
  pub k : ℕ

-- the order is that of the ranks
abbrev pub setting_of : {L : Type 0} → Founding L → Setting L
setting_of f = record { measure = f.measure; map = f.map; k = f.k; order = ranking f.ranks f.map.places }

-- v notes the place u at d: u is among the first `swept` places in order, d is the least length of a way from v to u,
-- and fewer than k places that come before u lie within d of v
pub record NotesPlace {L : Type 0} (f : Founding L) (swept v u : ℕ) (d : L) : Type 0 where
  pub swept_place : In u (take swept (setting_of f).order)
  pub least : Least f.measure f.map v u d
  pub fewer : (ws : List ℕ) → Apart ws → AllByRecursion (λ w. Before f.ranks w u × Within f.measure f.map v w d) ws → length ws < f.k

-- that is what is noted by position
abbrev pub PositionsArePlaces : Type 0 → Type 0
PositionsArePlaces L = (f : Founding L) (swept v u : ℕ) (d : L) →
    NotesPlace f swept v u d ↔ ((p : ℕ) × (p < f.map.places) × (place_at (setting_of f) p ≡ u) × Noted (setting_of f) swept v p d)

-- u is among the first `swept` places in order and lies within t of some start
abbrev pub PlaceReached : {L : Type 0} → Founding L → ℕ → List ℕ → L → ℕ → Type 0
PlaceReached f swept starts t u = In u (take swept (setting_of f).order) × ((v : ℕ) × In v starts × Within f.measure f.map v u t)

-- us lists, in order, the k first-ranked of the swept places within t of some start, or all if they are fewer:
-- whatever else is reached comes after all of k members
pub record PlaceSample {L : Type 0} (f : Founding L) (swept : ℕ) (starts : List ℕ) (t : L) (us : List ℕ) : Type 0 where
  pub in_order : InOrder f.ranks us
  pub reached : AllByRecursion (PlaceReached f swept starts t) us
  pub few : length us ≤ f.k
  pub first : (u : ℕ) → PlaceReached f swept starts t u → In u us ⊎ ((length us ≡ f.k) × AllByRecursion (λ w. Before f.ranks w u) us)

-- the places at the positions of a joint sample are that list
abbrev pub SamplesArePlaces : Type 0 → Type 0
SamplesArePlaces L = (f : Founding L) (swept : ℕ) → swept ≤ f.map.places → (starts : List ℕ) (t : L) (xs : List ℕ) →
    JointSample (setting_of f) swept starts t xs → PlaceSample f swept starts t (map (place_at (setting_of f)) xs)
