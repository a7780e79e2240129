-- The last entry of a sketch is what its last cell notes.
use Rattle.std.proofs.Common.{◌≡◌, ℕ, ◌-◌, ◌<◌, Some, None, Option, List, [], ◌∷◌, ◌++◌, MatchOption, sym, ⊎_elim, subst, arith}
use Rattle.std.proofs.lemmas.Bool.{cases_eq}
use Rattle.std.specs.Option.{option_map}
use Rattle.tables.specs.declared.rows.HomeRow.{HomeRow}
use Rattle.tables.specs.declared.rows.Cell.{Cell}
use Rattle.tables.specs.declared.rows.Entry.{Entry}
use Rattle.tables.specs.Rows.{home_at, cell_at}
use Rattle.tables.specs.Walks.{forward, plain_sketch, Linked, noted}
use Rattle.tables.proofs.Ends.{none_noted, last_noted, last_found}

module _ {R : Type 0} (home : List HomeRow) (cells : List (Cell R)) (v : ℕ) where
  -- the sketch of v is empty, or ends with this entry
  abbrev pub EndsWith : Option (Entry R) → Type 0
  EndsWith r = MatchOption r (plain_sketch home cells v ≡ []) (λ e. (front : List (Entry R)) × (plain_sketch home cells v ≡ front ++ (e ∷ [])))

  by_cell : (o : Option (Cell R)) → 0 < (home_at home v).entries → o ≡ cell_at cells (home_at home v).last → Linked home cells v → EndsWith (option_map noted o)
  by_cell None some e linked = absurd (last_found home cells v linked some (sym e))
  by_cell (Some c) some e linked = (forward cells (home_at home v).first ((home_at home v).entries - 1), last_noted home cells v c linked some (sym e))

  pub ends_with : (o : Option (Cell R)) (r : Option (Entry R)) → r ≡ option_map noted o
      → ((home_at home v).entries ≡ 0 → o ≡ None) → (0 < (home_at home v).entries → o ≡ cell_at cells (home_at home v).last) → Linked home cells v → EndsWith r
  ends_with o r is none some linked =
      subst EndsWith (sym is)
      (⊎_elim (λ z. subst (λ (p : Option (Cell R)). EndsWith (option_map noted p)) (sym (none z)) (none_noted home cells v z))
      (λ nz. let there : 0 < (home_at home v).entries = omega arith in by_cell o there (some there) linked) (cases_eq (home_at home v).entries 0))
