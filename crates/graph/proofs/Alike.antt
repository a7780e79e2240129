-- Graphs of the same arcs are one.
use Rattle.std.proofs.Common.{◌≡◌, ℕ, suc, ◌<◌, ◌≤◌, List, [], ◌∷◌, length, refl, arith}
use mathlib.Core.HLevel.{is_prop→PathP}
use native.Mathlib.Bridge.{le_prop}
use native.Mathlib.Nat.{ℕ_set}
use Rattle.std.specs.List.{AllByRecursion, AllByRecursion-prop, slice_get}
use Rattle.graph.specs.Graphs.{Graph}
use Rattle.graph.specs.Alike.{SameArcs, SameAnswers}

-- lists with the same answers are one
nth_same : {X : Type 0} (xs ys : List X) → ((i : ℕ) → slice_get xs i ≡ slice_get ys i) → xs ≡ ys
nth_same [] [] h = refl
nth_same [] (y ∷ ys) h = absurd (let e = h 0 in let z : ◌≡◌ {A = ℕ} 0 1 = cc in omega arith)
nth_same (x ∷ xs) [] h = absurd (let e = h 0 in let z : ◌≡◌ {A = ℕ} 0 1 = cc in omega arith)
nth_same (x ∷ xs) (y ∷ ys) h = let e = h 0 in let same : x ≡ y = cc in λ i. same i ∷ nth_same xs ys (λ j. h (suc j)) i

pub same_graph : {L : Type 0} (g h : Graph L) → SameArcs g h → g ≡ h
same_graph g h same = λ i. record {
  places = same.as_many i;
  arriving = λ w. same.arcs w i;
  some = is_prop→PathP (λ j. 1 ≤ same.as_many j) (λ j. le_prop) g.some h.some i;
  few = is_prop→PathP (λ j. same.as_many j ≤ 4096) (λ j. le_prop) g.few h.few i;
  inside = λ w. is_prop→PathP (λ j. AllByRecursion (λ a. a.from < same.as_many j) (same.arcs w j)) (λ j. AllByRecursion-prop (λ a. a.from < same.as_many j) (λ a. le_prop) (same.arcs w j)) (g.inside w) (h.inside w) i;
  beyond = λ w. is_prop→PathP (λ j. same.as_many j ≤ w → length (same.arcs w j) ≡ 0) (λ j p q. λ k x. ℕ_set (length (same.arcs w j)) 0 (p x) (q x) k) (g.beyond w) (h.beyond w) i;
}

pub same_by_answers : {L : Type 0} (g h : Graph L) → SameAnswers g h → g ≡ h
same_by_answers g h same = same_graph g h (record { as_many = same.as_many; arcs = λ w. nth_same (g.arriving w) (h.arriving w) (same.arcs w) })
