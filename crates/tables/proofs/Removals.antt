-- The last entry of a sketch taken away.
use Rattle.std.proofs.Common.{◌≡◌, ℕ, suc, ◌+◌, ◌-◌, ◌<◌, cond, eqb, List, [], ◌∷◌, ◌++◌, set, Some, None, sym, refl, ap, ◌∙◌, subst, ⊎_elim, arith, eq-eqb}
use Rattle.std.proofs.lemmas.Bool.{cases_eq, ne_eqb}
use Rattle.tables.specs.declared.rows.HomeRow.{HomeRow}
use Rattle.tables.specs.declared.rows.Cell.{Cell}
use Rattle.tables.specs.declared.rows.Entry.{Entry}
use Rattle.tables.specs.Rows.{missing, home_at, cell_at}
use Rattle.tables.specs.Walks.{noted, forward, plain_sketch, positions, Chain}
use Rattle.tables.specs.Tests.{RisingBelow, cells_taken}
use Rattle.tables.specs.Changes.{CanRemove, Removed, with_after, with_owner}
use Rattle.tables.proofs.Rises.{Rises, rises_all, rising_from, rises_weaker}
use Rattle.tables.proofs.Splices.{apart, lower, cell_far, cell_in, cell_set_same, cell_set_other, chain_stays, before_last, relinked, last_cell}
use Rattle.tables.proofs.Counts.{entries_set, taken_same, taken_less, taken_few}
use Rattle.tables.proofs.Rewrites.{here_sketch, other_sketches, all_linked, all_rising, row_made}

module _ {R : Type 0} (n swept used : ℕ) (home : List HomeRow) (cells : List (Cell R)) (v : ℕ) (can : CanRemove n swept used home cells v)
    (k : ℕ) (one : (home_at home v).entries ≡ suc k) (d : Cell R) (at_last : cell_at cells (home_at home v).last ≡ Some d) where
  -- the row of v without its last entry
  abbrev less_row : ℕ → HomeRow
  less_row first = record { position = (home_at home v).position; first = first; last = d.before; entries = k }

  chain : Chain cells v (home_at home v).last missing missing (home_at home v).first (suc k)
  chain = subst (λ m. Chain cells v (home_at home v).last missing missing (home_at home v).first m) one (can.sound.links.linked v can.place)

  rises : Rises swept 0 (forward cells (home_at home v).first (suc k))
  rises = subst (λ m. Rises swept 0 (forward cells (home_at home v).first m)) one (rises_all swept (plain_sketch home cells v) (can.sound.rising v can.place))

  pub cut : (d.owner ≡ v) × (d.after ≡ missing) × (Chain cells v d.before (home_at home v).last missing (home_at home v).first k
      × (forward cells (home_at home v).first (suc k) ≡ forward cells (home_at home v).first k ++ (noted d ∷ []))
      × (Rises d.position 0 (forward cells (home_at home v).first k) × (d.position < swept)))
  cut = before_last cells v swept (home_at home v).last missing missing (home_at home v).first k missing chain rises d at_last

  -- where the sketch of v already ends before its last cell, in a table that is otherwise the same
  module _ (mid : List (Cell R)) (first : ℕ) (chain-mid : Chain mid v d.before missing missing first k)
      (same : forward mid first k ≡ forward cells (home_at home v).first k) (mid-last : cell_at mid (home_at home v).last ≡ Some d)
      (stays : (j : ℕ) (c : Cell R) → cell_at cells j ≡ Some c → (c.owner ≡ v → ⊥) → cell_at mid j ≡ Some c)
      (count : cells_taken n mid ≡ cells_taken n cells) where
    set_free : Removed n swept used home cells v (set home v (less_row first)) (set mid (home_at home v).last (with_owner d n))
    set_free =
        let (o, a, (pre, walk, (below, top))) = cut in
        let last = (home_at home v).last in
        let place = can.place in
        let counted = can.sound.counts in
        let gone = with_owner d n in
        let cells' = set mid last gone in
        let at-gone = cell_set_same mid last gone (cell_far mid last d mid-last) (cell_in mid last d mid-last) in
        let (chain', same') = chain_stays mid cells' v d.position
        (λ j c g _ h. cell_set_other mid last j gone (lower mid j last c d g mid-last h) ∙ g) d.before missing k 0 missing first chain-mid
        (subst (Rises d.position 0) (sym same) below) in
        let kept : (j : ℕ) (c : Cell R) → cell_at cells j ≡ Some c → c.owner < n → (c.owner ≡ v → ⊥) → cell_at cells' j ≡ Some c =
        λ j c g lt ne. cell_set_other mid last j gone (apart cells j last c d g at_last (λ q. ne (q ∙ o))) ∙ stays j c g ne in
        let here = here_sketch n v swept (used + 1) home cells cells' (less_row first) place can.home_long can.sound kept in
        let all : plain_sketch home cells v ≡ forward cells (home_at home v).first (suc k) = ap (forward cells (home_at home v).first) one in
        let taken : cells_taken n cells' ≡ used = omega (arith, taken_less n last mid d gone mid-last (omega arith) (omega arith), count, counted.taken) in
        record {
          here = (noted d, all ∙ walk ∙ ap (λ (es : List (Entry R)). es ++ (noted d ∷ [])) (sym (here ∙ same' ∙ same)));
          others = other_sketches n v swept (used + 1) home cells cells' (less_row first) place can.home_long can.sound kept;
          sound = record {
            links = record {
              enough = omega (arith, taken_few n cells', taken);
              linked = all_linked n v swept (used + 1) home cells cells' (less_row first) place can.home_long can.sound kept chain';
            };
            rising = all_rising n v swept (used + 1) home cells cells' (less_row first) place can.home_long can.sound kept
                (subst (λ es. RisingBelow swept (positions es)) (sym (same' ∙ same))
                (rising_from swept 0 (forward cells (home_at home v).first k) (rises_weaker d.position swept 0 (forward cells (home_at home v).first k) (omega arith) below)));
            counts = record { total = omega (arith, entries_set n v home (less_row first) place can.home_long, counted.total, one); taken = taken };
          };
          freed = (gone, at-gone, refl);
          still_free = λ j (c, g, f).
              ⊎_elim (λ q. (gone, ap (cell_at cells') q ∙ at-gone, omega arith))
              (λ ne. (c, cell_set_other mid last j gone ne ∙ stays j c g (λ q. omega arith), f)) (cases_eq j last);
        }

  -- the only entry
  pub remove_only : k ≡ 0 → Removed n swept used home cells v (set home v (less_row missing)) (set cells (home_at home v).last (with_owner d n))
  remove_only none =
      let pre = subst (λ m. Chain cells v d.before (home_at home v).last missing (home_at home v).first m) none cut.2.0 in
      set_free cells missing (rw none (refl, pre.1)) (rw none) at_last (λ j c g _. g) refl

  -- one entry of several; b is the cell before the last
  pub remove_more : (b : Cell R) → 0 < k → cell_at cells d.before ≡ Some b
      → Removed n swept used home cells v (set home v (less_row (home_at home v).first))
      (set (set cells d.before (with_after b missing)) (home_at home v).last (with_owner d n))
  remove_more b some at_b =
      let row = home_at home v in
      let m = k - 1 in
      let two : k ≡ suc m = omega arith in
      let pre = subst (λ i. Chain cells v d.before row.last missing row.first i) two cut.2.0 in
      let below = subst (λ i. Rises d.position 0 (forward cells row.first i)) two cut.2.2.0 in
      let (o, a, (_, _, (_, under))) = before_last cells v d.position d.before row.last missing row.first m missing pre below b at_b in
      let (chain', same) = relinked cells v d.position d.before row.last missing row.first m missing pre below b at_b in
      let end = with_after b missing in
      let mid = set cells d.before end in
      set_free mid row.first (subst (λ i. Chain mid v d.before missing missing row.first i) (sym two) chain')
      (subst (λ i. forward mid row.first i ≡ forward cells row.first i) (sym two) same)
      (cell_set_other cells d.before row.last end (λ q. lower cells d.before row.last b d at_b at_last under (sym q)) ∙ at_last)
      (λ j c g ne. cell_set_other cells d.before j end (apart cells j d.before c b g at_b (λ q. ne (q ∙ o))) ∙ g)
      (taken_same n d.before cells b end at_b refl)

-- the last cell of a sketch with an entry is there, and so is the one before it, if there are more
module _ {R : Type 0} (n swept used : ℕ) (home : List HomeRow) (cells : List (Cell R)) (v : ℕ) (can : CanRemove n swept used home cells v) where
  pub last_there : (d : Cell R) × (cell_at cells (home_at home v).last ≡ Some d)
  last_there =
      let row = home_at home v in
      last_cell cells v row.last missing missing row.first row.entries (can.sound.links.linked v can.place) can.some

  pub before_there : (d : Cell R) → cell_at cells (home_at home v).last ≡ Some d → 0 < (home_at home v).entries - 1 → (b : Cell R) × (cell_at cells d.before ≡ Some b)
  before_there d at_last some =
      let row = home_at home v in
      last_cell cells v d.before row.last missing row.first (row.entries - 1)
      (cut n swept used home cells v can (row.entries - 1) (omega (arith, can.some)) d at_last).2.0 some

-- what the code writes is that: `row` is what it read of v, `d` its last cell, and `shorter` what it writes of v
module _ {R : Type 0} (n swept used : ℕ) (home : List HomeRow) (cells : List (Cell R)) (v : ℕ) (can : CanRemove n swept used home cells v) where
  pub removed_by : (row shorter : HomeRow) (d : Cell R) (home' : List HomeRow) (cells' : List (Cell R)) → row ≡ home_at home v → cell_at cells row.last ≡ Some d
      → home' ≡ set home v shorter
      → shorter.position ≡ row.position → shorter.first ≡ cond (eqb (row.entries - 1) 0) missing row.first → shorter.last ≡ d.before → shorter.entries ≡ row.entries - 1
      → (shorter.entries ≡ 0 → cells' ≡ set cells row.last (with_owner d n))
      → ((b : Cell R) → 0 < shorter.entries → cell_at cells shorter.last ≡ Some b → cells' ≡ set (set cells shorter.last (with_after b missing)) row.last (with_owner d n))
      → Removed n swept used home cells v home' cells'
  removed_by row shorter d home' cells' is found written =
      rw written (subst (λ r.
      cell_at cells r.last ≡ Some d
      → shorter.position ≡ r.position → shorter.first ≡ cond (eqb (r.entries - 1) 0) missing r.first → shorter.last ≡ d.before → shorter.entries ≡ r.entries - 1
      → (shorter.entries ≡ 0 → cells' ≡ set cells r.last (with_owner d n))
      → ((b : Cell R) → 0 < shorter.entries → cell_at cells shorter.last ≡ Some b → cells' ≡ set (set cells shorter.last (with_after b missing)) r.last (with_owner d n))
      → Removed n swept used home cells v (set home v shorter) cells')
      (sym is) (λ found p f l k only more.
      let row' = home_at home v in
      let one : row'.entries ≡ suc shorter.entries = omega (arith, can.some) in
      ⊎_elim
      (λ none.
      let first : shorter.first ≡ missing = f ∙ ap (λ b. cond b missing row'.first) (eq-eqb (row'.entries - 1) 0 (omega arith)) in
      rw (row_made shorter _ _ _ _ p first l refl, only none) (remove_only n swept used home cells v can shorter.entries one d found none))
      (λ some.
      let there : 0 < shorter.entries = omega arith in
      let b = before_there n swept used home cells v can d found (omega arith) in
      let first : shorter.first ≡ row'.first = f ∙ ap (λ b. cond b missing row'.first) (ne_eqb (row'.entries - 1) 0 (λ q. some (k ∙ q))) in
      let at_b : cell_at cells shorter.last ≡ Some b.0 = ap (cell_at cells) l ∙ b.1 in
      rw (row_made shorter _ _ _ _ p first l refl, more b.0 there at_b, l) (remove_more n swept used home cells v can shorter.entries one d found b.0 there b.1))
      (cases_eq shorter.entries 0)) found)

  pub removed_some : (row : HomeRow) → row ≡ home_at home v → cell_at cells row.last ≡ None → ⊥
  removed_some row is =
      subst (λ r. cell_at cells r.last ≡ None → ⊥) (sym is) (λ none. let p = last_there n swept used home cells v can in let q = p.1 in let z : ◌≡◌ {A = ℕ} 0 1 = cc in omega arith)
