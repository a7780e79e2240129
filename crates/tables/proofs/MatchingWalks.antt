-- A chain of cells and the two walks along it.
use Rattle.std.proofs.Common.{◌≡◌, ℕ, zero, suc, ◌↔◌, List, [], ◌∷◌, ◌++◌, reverse, length, Some, sym, refl, ap, ◌∙◌, subst}
use mathlib.Core.List.{reverse-cons}
use Rattle.std.specs.List.{AllByRecursion}
use Rattle.tables.specs.declared.rows.HomeRow.{HomeRow}
use Rattle.tables.specs.declared.rows.Cell.{Cell}
use Rattle.tables.specs.Rows.{missing, home_at}
use Rattle.tables.specs.Walks.{Chain, Linked}
use Rattle.tables.specs.Changes.{OwnedBy}
use Rattle.tables.specs.MatchingWalks.{Walk, WalksMatch}
use Rattle.tables.proofs.Chains.{chain_some}
use Rattle.tables.proofs.Splices.{chain_cell}

module _ {R : Type 0} (cells : List (Cell R)) where
  -- one walk after another, and one walk cut in two
  walk_on : (next : Cell R → ℕ) (at mid end : ℕ) (js ks : List ℕ) → Walk next cells at js mid → Walk next cells mid ks end → Walk next cells at (js ++ ks) end
  walk_on next at mid end [] ks w z = subst (λ m. Walk next cells m ks end) (sym w) z
  walk_on next at mid end (j ∷ js) ks (e, (c, f, w)) z = (e, (c, f, walk_on next (next c) mid end js ks w z))

  walk_cut : (next : Cell R → ℕ) (at end : ℕ) (js ks : List ℕ) → Walk next cells at (js ++ ks) end → (mid : ℕ) × Walk next cells at js mid × Walk next cells mid ks end
  walk_cut next at end [] ks w = (at, refl, w)
  walk_cut next at end (j ∷ js) ks (e, (c, f, w)) = let (mid, a, b) = walk_cut next (next c) end js ks w in (mid, (e, (c, f, a)), b)

  -- what a chain meets
  pub record Met (v last end prev at k : ℕ) : Type 0 where
    pub met : List ℕ
    pub on : Walk (λ c. c.after) cells at met end
    pub back : Walk (λ c. c.before) cells last (reverse met) prev
    pub owned : AllByRecursion (OwnedBy v cells) met
    pub many : length met ≡ k

  pub chain_met : (v last end prev at k : ℕ) → Chain cells v last end prev at k → Met v last end prev at k
  chain_met v last end prev at zero (a, l) = record { met = []; on = a; back = l; owned = tt; many = refl }
  chain_met v last end prev at (suc k) h =
      let (c, e, (o, b, t)) = chain_cell cells v last end prev at k h in
      let m = chain_met v last end at c.after k t in
      record {
        met = at ∷ m.met;
        on = (refl, (c, e, m.on));
        back = subst (λ js. Walk (λ x. x.before) cells last js prev) (sym (reverse-cons at m.met))
            (walk_on (λ x. x.before) last at prev (reverse m.met) (at ∷ []) m.back (refl, (c, e, b)));
        owned = ((c, e, o), m.owned);
        many = ap suc m.many;
      }

  pub met_chain : (v last end prev at : ℕ) (js : List ℕ) → Walk (λ c. c.after) cells at js end → Walk (λ c. c.before) cells last (reverse js) prev → AllByRecursion (OwnedBy v cells) js
      → Chain cells v last end prev at (length js)
  met_chain v last end prev at [] on back owned = (on, back)
  met_chain v last end prev at (j ∷ js) (a, (c, e, on)) back ((d, f, o), owned) =
      let back' = subst (λ ks. Walk (λ x. x.before) cells last ks prev) (reverse-cons j js) back in
      let (mid, pre, (m, (b, g, p))) = walk_cut (λ x. x.before) last prev (reverse js) (j ∷ []) back' in
      let one : Some d ≡ Some c = sym f ∙ e in
      let two : Some b ≡ Some c = sym g ∙ e in
      let owner : c.owner ≡ v = let s : d ≡ c = cc in subst (λ (x : Cell R). x.owner ≡ v) s o in
      let before : c.before ≡ prev = let s : b ≡ c = cc in subst (λ (x : Cell R). x.before ≡ prev) s p in
      let rest = met_chain v last end j c.after js on (subst (λ x. Walk (λ y. y.before) cells last (reverse js) x) m pre) owned in
      subst (λ x. Chain cells v last end prev x (suc (length js))) (sym a) ((chain_some cells v last end prev j (length js) c e).1 (owner, before, rest))

pub linked_matching : {R : Type 0} (home : List HomeRow) (cells : List (Cell R)) (v : ℕ) → Linked home cells v ↔ WalksMatch home cells v
linked_matching home cells v = (
  λ h.
      let m = chain_met cells v (home_at home v).last missing missing (home_at home v).first (home_at home v).entries h in
      record { met = m.met; walked_forward = m.on; walked_back = m.back; owned = m.owned; as_many = m.many },
  λ m.
      subst (λ k. Chain cells v (home_at home v).last missing missing (home_at home v).first k) m.as_many
      (met_chain cells v (home_at home v).last missing missing (home_at home v).first m.met m.walked_forward m.walked_back m.owned),
)
