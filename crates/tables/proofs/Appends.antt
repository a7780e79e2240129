-- An entry more at the end of a sketch.
use Rattle.std.proofs.Common.{◌≡◌, ℕ, suc, ◌+◌, ◌-◌, ◌<◌, min, cond, eqb, List, [], ◌∷◌, ◌++◌, set, Some, sym, refl, ap, ◌∙◌, subst, ⊎_elim, add-one, arith, eq-eqb}
use Rattle.std.proofs.lemmas.Bool.{cases_eq, ne_eqb}
use Rattle.tables.specs.declared.rows.HomeRow.{HomeRow}
use Rattle.tables.specs.declared.rows.Cell.{Cell}
use Rattle.tables.specs.declared.rows.Entry.{Entry}
use Rattle.tables.specs.Rows.{missing, home_at, cell_at}
use Rattle.tables.specs.Walks.{forward, plain_sketch, positions, Chain}
use Rattle.tables.specs.Tests.{RisingBelow, cells_taken}
use Rattle.tables.specs.Changes.{CanAppend, Appended, Free, with_after}
use Rattle.tables.proofs.Rises.{Rises, rises_all, rising_from, rises_push}
use Rattle.tables.proofs.Splices.{apart, cell_far, cell_in, cell_set_same, cell_set_other, chain_stays, chain_push, forward_push, before_last, relinked, last_cell}
use Rattle.tables.proofs.Counts.{entries_set, entries_few, taken_same, taken_more, taken_few}
use Rattle.tables.proofs.Rewrites.{here_sketch, other_sketches, all_linked, all_rising, row_made}

module _ {R : Type 0} (n swept used : ℕ) (home : List HomeRow) (cells : List (Cell R)) (v free : ℕ) (e : Entry R) (can : CanAppend n swept used home cells v free e) where
  -- the cell that is linked, and the row of v after that
  abbrev new_cell : Cell R
  new_cell = record { owner = v; position = e.position; length = e.length; before = (home_at home v).last; after = missing }

  abbrev new_row : ℕ → HomeRow
  new_row first = record { position = (home_at home v).position; first = first; last = free; entries = (home_at home v).entries + 1 }

  -- the positions before the new one
  lower : Rises e.position 0 (plain_sketch home cells v)
  lower = rises_all e.position (plain_sketch home cells v) ((can.sound.rising v can.place).0, can.above)

  -- where the sketch of v already leads to the free cell, in a table that is otherwise the same
  module _ (mid : List (Cell R)) (first : ℕ) (chain : Chain mid v (home_at home v).last free missing first (home_at home v).entries)
      (same : forward mid first (home_at home v).entries ≡ plain_sketch home cells v)
      (stays : (j : ℕ) (c : Cell R) → cell_at cells j ≡ Some c → (c.owner ≡ v → ⊥) → cell_at mid j ≡ Some c)
      (unfreed : (j : ℕ) → Free n mid j → Free n cells j)
      (count : cells_taken n mid ≡ cells_taken n cells) where
    linked_in : Appended n swept used home cells v free e (set home v (new_row first)) (set mid free new_cell)
    linked_in =
        let (f, at-free, f-free) = can.room in
        let k = (home_at home v).entries in
        let place = can.place in
        let mid-free = stays free f at-free (λ q. omega arith) in
        let far = cell_far mid free f mid-free in
        let in' = cell_in mid free f mid-free in
        let cells' = set mid free new_cell in
        let here = cell_set_same mid free new_cell far in' in
        let below = subst (Rises e.position 0) (sym same) lower in
        let (chain', same') = chain_stays mid cells' v e.position
        (λ j c g o _. cell_set_other mid free j new_cell (apart mid j free c f g mid-free (λ q. omega arith)) ∙ g) (home_at home v).last free k 0 missing first chain below in
        let whole : Chain cells' v free missing missing first (k + 1) = rw add-one (chain_push cells' v (home_at home v).last free new_cell here refl refl k missing first chain') in
        let walk : forward cells' first (k + 1) ≡ plain_sketch home cells v ++ (e ∷ []) =
        rw add-one (forward_push cells' v (home_at home v).last free new_cell here k missing first chain' ∙ ap (λ (es : List (Entry R)). es ++ (e ∷ [])) (same' ∙ same)) in
        let kept : (j : ℕ) (c : Cell R) → cell_at cells j ≡ Some c → c.owner < n → (c.owner ≡ v → ⊥) → cell_at cells' j ≡ Some c =
        λ j c g lt ne. cell_set_other mid free j new_cell (apart cells j free c f g at-free (λ q. omega arith)) ∙ stays j c g ne in
        let rise = rising_from swept 0 (plain_sketch home cells v ++ (e ∷ []))
        (rises_push e.position swept 0 (plain_sketch home cells v) e lower (omega arith) (omega arith) can.below) in
        let counted = can.sound.counts in
        let taken : cells_taken n cells' ≡ used + 1 = taken_more n free mid f new_cell mid-free f-free place ∙ ap (λ m. m + 1) (count ∙ counted.taken) in
        record {
          here = here_sketch n v swept used home cells cells' (new_row first) place can.home_long can.sound kept ∙ walk;
          others = other_sketches n v swept used home cells cells' (new_row first) place can.home_long can.sound kept;
          sound = record {
            links = record {
              enough = omega (arith, taken_few n cells', taken);
              linked = all_linked n v swept used home cells cells' (new_row first) place can.home_long can.sound kept whole;
            };
            rising = all_rising n v swept used home cells cells' (new_row first) place can.home_long can.sound kept
                (subst (λ es. RisingBelow swept (positions es)) (sym walk) rise);
            counts = record { total = omega (arith, entries_set n v home (new_row first) place can.home_long, counted.total); taken = taken };
          };
          owned = (new_cell, here, refl);
          still_free = λ j ne (c, g, o). (c, cell_set_other mid free j new_cell ne ∙ stays j c g (λ q. omega arith), o);
          none_freed = λ j (c, g, o).
              ⊎_elim (λ q. let s : Some c ≡ Some new_cell = sym g ∙ ap (cell_at cells') q ∙ here in let p : c.owner ≡ v = cc in absurd (omega arith))
              (λ ne. unfreed j (c, sym (cell_set_other mid free j new_cell ne) ∙ g, o)) (cases_eq j free);
        }

  -- the first entry
  pub append_first : (home_at home v).entries ≡ 0 → Appended n swept used home cells v free e (set home v (new_row free)) (set cells free new_cell)
  append_first none =
      let old = subst (λ k. Chain cells v (home_at home v).last missing missing (home_at home v).first k) none (can.sound.links.linked v can.place) in
      linked_in cells free (rw none (refl, old.1)) (rw none) (λ j c g _. g) (λ j f. f) refl

  -- one more entry
  pub append_more : (d : Cell R) → 0 < (home_at home v).entries → cell_at cells (home_at home v).last ≡ Some d
      → Appended n swept used home cells v free e (set home v (new_row (home_at home v).first)) (set (set cells (home_at home v).last (with_after d free)) free new_cell)
  append_more d some at_last =
      let row = home_at home v in
      let k = row.entries - 1 in
      let one : row.entries ≡ suc k = omega arith in
      let chain = subst (λ m. Chain cells v row.last missing missing row.first m) one (can.sound.links.linked v can.place) in
      let rises = subst (λ m. Rises e.position 0 (forward cells row.first m)) one lower in
      let o = (before_last cells v e.position row.last missing missing row.first k free chain rises d at_last).0 in
      let (chain', same) = relinked cells v e.position row.last missing missing row.first k free chain rises d at_last in
      let end = with_after d free in
      let mid = set cells row.last end in
      let here = cell_set_same cells row.last end (cell_far cells row.last d at_last) (cell_in cells row.last d at_last) in
      let place = can.place in
      linked_in mid row.first (subst (λ m. Chain mid v row.last free missing row.first m) (sym one) chain')
      (subst (λ m. forward mid row.first m ≡ forward cells row.first m) (sym one) same)
      (λ j c g ne. cell_set_other cells row.last j end (apart cells j row.last c d g at_last (λ q. ne (q ∙ o))) ∙ g)
      (λ j (c, g, f).
      ⊎_elim (λ q. let s : Some c ≡ Some end = sym g ∙ ap (cell_at mid) q ∙ here in let p : c.owner ≡ d.owner = cc in absurd (omega arith))
      (λ ne. (c, sym (cell_set_other cells row.last j end ne) ∙ g, f)) (cases_eq j row.last))
      (taken_same n row.last cells d end at_last refl)

  held : (entries : ℕ) → entries ≡ min ((home_at home v).entries + 1) 4294967295 → entries ≡ (home_at home v).entries + 1
  held entries more = omega (arith, entries_few n v used home cells can.place can.home_long can.sound.counts)

  abbrev linked_cell : HomeRow → Cell R
  linked_cell row = record { owner = v; position = e.position; length = e.length; before = row.last; after = missing }

  -- what the code writes is that: `row` is what it read of v, `longer` what it writes of v, and the number of entries is held at the largest
  pub appended_by : (row longer : HomeRow) (home' : List HomeRow) (cells' : List (Cell R)) → row ≡ home_at home v → home' ≡ set home v longer
      → longer.position ≡ row.position → longer.first ≡ cond (eqb row.entries 0) free row.first → longer.last ≡ free → longer.entries ≡ min (row.entries + 1) 4294967295
      → (row.entries ≡ 0 → cells' ≡ set cells free (linked_cell row))
      → ((d : Cell R) → 0 < row.entries → cell_at cells row.last ≡ Some d → cells' ≡ set (set cells row.last (with_after d free)) free (linked_cell row))
      → Appended n swept used home cells v free e home' cells'
  appended_by row longer home' cells' is written =
      rw written (subst (λ r.
      longer.position ≡ r.position → longer.first ≡ cond (eqb r.entries 0) free r.first → longer.last ≡ free → longer.entries ≡ min (r.entries + 1) 4294967295
      → (r.entries ≡ 0 → cells' ≡ set cells free (linked_cell r))
      → ((d : Cell R) → 0 < r.entries → cell_at cells r.last ≡ Some d → cells' ≡ set (set cells r.last (with_after d free)) free (linked_cell r))
      → Appended n swept used home cells v free e (set home v longer) cells')
      (sym is) (λ p f l more one several.
      let row' = home_at home v in
      ⊎_elim
      (λ none.
      let first : longer.first ≡ free = f ∙ ap (λ b. cond b free row'.first) (eq-eqb row'.entries 0 none) in
      rw (row_made longer _ _ _ _ p first l (held longer.entries more), one none) (append_first none))
      (λ some.
      let there : 0 < row'.entries = omega arith in
      let d = last_cell cells v row'.last missing missing row'.first row'.entries (can.sound.links.linked v can.place) there in
      let first : longer.first ≡ row'.first = f ∙ ap (λ b. cond b free row'.first) (ne_eqb row'.entries 0 some) in
      rw (row_made longer _ _ _ _ p first l (held longer.entries more), several d.0 there d.1) (append_more d.0 there d.1))
      (cases_eq row'.entries 0)))
