-- What `all` over the places below n answers.
use Rattle.std.proofs.Common.{◌≡◌, ℕ, ◌<◌, List, length, Bool, true, false, Option, MatchBool, MatchOption, refl, subst, arith}
use denote.Param.Members.{Mut}
use Rattle.std.specs.Prelude.{IsTrue, ◌↔◌}
use Rattle.std.specs.Fn.{Called}
use Rattle.std.specs.Iterator.{YieldsThen}
use Rattle.std.specs.List.{range_with_len, AllWithin, FoldsTo, HoldsAt}
use Rattle.std.specs.declared.ops.Range.{Range}
use Rattle.std.proofs.iter.Yields.{nat_range_steps}
use Rattle.std.proofs.lemmas.Bool.{false≢true}
use Rattle.std.proofs.lemmas.Iterator.{cases_from_all, YieldsList-from_range}
use Rattle.std.proofs.lemmas.List.FromFn.{length-range_with_len, get_or-range_with_len}

module _ (n : ℕ) (P : ℕ → Type 0) where
  -- the numbers below n
  abbrev pub below : List ℕ
  below = range_with_len 0 n

  by_cases : (r : Bool) → MatchBool r (AllWithin P below 0 (length below)) ((k : ℕ) × (k < length below) × HoldsAt (λ v. P v → ⊥) below k)
      → IsTrue r ↔ ((v : ℕ) → v < n → P v)
  by_cases true h =
      (λ _ v lt. subst P (omega (arith, get_or-range_with_len 0 n v 0 lt)) (h v 0 (omega arith) (omega (arith, length-range_with_len 0 n))), λ _. refl)
  by_cases false (k, lt, h) =
      let under : k < n = omega (arith, length-range_with_len 0 n) in
      (λ e. absurd (false≢true e), λ all. absurd (h 0 (all _ (omega (arith, get_or-range_with_len 0 n k 0 under)))))

  -- the closure answers whether P holds, and so does `all` for the numbers below n
  pub all_below : {F : Type 0} {g : Mut F (ℕ × Unit {0}) Bool} (f : F) (r : Bool) (s u : Range ℕ) → s ≡ record { start = 0; end = n }
      → (xs : List ℕ) × (o : Option ℕ) × (j : F) × YieldsThen nat_range_steps s xs o u × FoldsTo (λ p x q. Called g p (x, tt) true q) f xs j
      × MatchOption o (r ≡ true) (λ x. (r ≡ false) × ((h : F) × Called g j (x, tt) false h))
      → ((x : ℕ) (q : F) → Called g f (x, tt) true q → (q ≡ f) × P x) → ((x : ℕ) (q : F) → Called g f (x, tt) false q → P x → ⊥)
      → IsTrue r ↔ ((v : ℕ) → v < n → P v)
  all_below f r s u is ran holds fails =
      by_cases r (cases_from_all u f r P (λ v. P v → ⊥) ran (YieldsList-from_range 0 n n is (omega arith)) holds fails)
