-- Taking back, place by place: each sketch loses its last entry if that stands at the last swept position, and nothing else.
use Rattle.std.proofs.Common.{◌≡◌, ℕ, ◌+◌, ◌-◌, ◌<◌, ◌≤◌, true, false, cond, ltb, ◌⊎◌, List, [], ◌∷◌, ◌++◌, map, length, filter, sym, refl, ap, ◌∙◌, subst, inl, inr, ⊎_elim, append-nil, arith}
use Rattle.std.proofs.lemmas.List.Elements.{filter-append}
use Rattle.std.proofs.lemmas.List.{length_push, same_from_push}
use Rattle.std.proofs.lemmas.Bool.{lt-ltb, le-ltb, cases_eq, cases_lt}
use Rattle.measure.specs.Laws.{RowEncoding}
use Rattle.bottom_k.specs.Sketches.{entries_before}
use Rattle.tables.specs.declared.rows.HomeRow.{HomeRow}
use Rattle.tables.specs.declared.rows.Cell.{Cell}
use Rattle.tables.specs.declared.rows.Entry.{Entry}
use Rattle.tables.specs.Rows.{home_at}
use Rattle.tables.specs.Walks.{forward, plain_sketch, read_entry, positions}
use Rattle.tables.specs.Tests.{RisingBelow, SketchesSound}
use Rattle.tables.specs.Changes.{CanRemove, Removed, OnlySketch}
use Rattle.tables.proofs.Counts.{entries_some}
use Rattle.tables.proofs.Rises.{Rises, rises_all, rising_from, rises_pop}

-- the entries of a plain sketch before a position
abbrev pub plain_before : {R : Type 0} → ℕ → List (Entry R) → List (Entry R)
plain_before p es = filter (λ e. ltb e.position p) es

-- the last entry of a plain sketch stands at this position
abbrev pub EndsAt : {R : Type 0} → ℕ → List (Entry R) → Type 0
EndsAt {R} p es = (front : List (Entry R)) × (e : Entry R) × (es ≡ front ++ (e ∷ [])) × (e.position ≡ p)

-- reading the lengths changes nothing in which entries stand before a position
pub before_read : {L R : Type 0} (rows : RowEncoding L R) (p : ℕ) (es : List (Entry R)) → map (read_entry rows) (plain_before p es) ≡ entries_before p (map (read_entry rows) es)
before_read rows p [] = refl
before_read {L} {R} rows p (e ∷ es) = go (ltb e.position p) (before_read rows p es)
  where
    go : (t : _) → map (read_entry rows) (plain_before p es) ≡ entries_before p (map (read_entry rows) es)
        → map (read_entry rows) (cond t (e ∷ plain_before p es) (plain_before p es)) ≡ cond t (read_entry rows e ∷ entries_before p (map (read_entry rows) es)) (entries_before p (map (read_entry rows) es))
    go true h = ap (λ xs. read_entry rows e ∷ xs) h
    go false h = h

pub nil_not_push : {A : Type 0} (xs : List A) (x : A) → [] ≡ xs ++ (x ∷ []) → ⊥
nil_not_push xs x e = omega (arith, ap length e, length_push xs x)

module _ {R : Type 0} where
  -- positions up to p are below it, or the last is p
  pub below_or_at : (p low : ℕ) (es : List (Entry R)) → Rises (p + 1) low es → Rises p low es ⊎ EndsAt p es
  below_or_at p low [] r = inl tt
  below_or_at p low (x ∷ []) (a, b, r) =
      ⊎_elim (λ h. inl (a, h, tt)) (λ h. inr ([], x, refl, omega arith)) (cases_lt x.position p)
  below_or_at p low (x ∷ y ∷ ys) (a, b, r) =
      ⊎_elim (λ q. inl (a, omega arith, q)) (λ q. inr (x ∷ q.0, q.1, ap (λ (es : List (Entry R)). x ∷ es) q.2, q.3)) (below_or_at p (x.position + 1) (y ∷ ys) r)

  pub before_all : (p low : ℕ) (es : List (Entry R)) → Rises p low es → plain_before p es ≡ es
  before_all p low [] r = refl
  before_all p low (x ∷ xs) (a, b, r) = rw (lt-ltb x.position p b) (ap (λ (es : List (Entry R)). x ∷ es) (before_all p (x.position + 1) xs r))

  pub before_push : (p : ℕ) (es : List (Entry R)) (e : Entry R) → Rises (p + 1) 0 (es ++ (e ∷ [])) → e.position ≡ p → plain_before p (es ++ (e ∷ [])) ≡ es
  before_push p es e r is =
      let q = rises_pop (p + 1) 0 es e r in
      let last : plain_before p (e ∷ []) ≡ [] = rw (le-ltb e.position p (omega arith)) in
      filter-append (λ x. ltb x.position p) es (e ∷ [])
      ∙ ap (λ (t : List (Entry R)). plain_before p es ++ t) last ∙ append-nil (plain_before p es) ∙ before_all p 0 es (subst (λ t. Rises t 0 es) is q.2)

  pub before_rises : (p : ℕ) (es : List (Entry R)) → Rises (p + 1) 0 es → Rises p 0 (plain_before p es)
  before_rises p es r =
      ⊎_elim (λ q. rw (before_all p 0 es q) q)
      (λ q.
      let (xs, e, is, at) = q in
      let r' = subst (Rises (p + 1) 0) is r in
      let xs-rise = (rises_pop (p + 1) 0 xs e r').2 in
      subst (λ t. Rises p 0 (plain_before p t)) (sym is) (rw (before_push p xs e r' at) (subst (λ t. Rises t 0 xs) at xs-rise)))
      (below_or_at p 0 es r)

-- the entries at position `gone` are taken back from the places below v, and from no other
pub record TakenBackBelow {R : Type 0} (n gone v used : ℕ) (home₀ : List HomeRow) (cells₀ : List (Cell R)) (home : List HomeRow) (cells : List (Cell R)) : Type 0 where
  pub sound : SketchesSound n (gone + 1) used home cells
  pub done : (w : ℕ) → w < v → plain_sketch home cells w ≡ plain_before gone (plain_sketch home₀ cells₀ w)
  pub ahead : (w : ℕ) → v ≤ w → w < n → plain_sketch home cells w ≡ plain_sketch home₀ cells₀ w
  pub positions_kept : (w : ℕ) → (home_at home w).position ≡ (home_at home₀ w).position
  pub long : length home ≡ length home₀

pub back_begins : {R : Type 0} (n gone used : ℕ) (home : List HomeRow) (cells : List (Cell R)) → SketchesSound n (gone + 1) used home cells → TakenBackBelow n gone 0 used home cells home cells
back_begins n gone used home cells sound =
    record { sound = sound; done = λ w h. absurd (omega arith); ahead = λ w _ _. refl; positions_kept = λ w. refl; long = refl }

module _ {R : Type 0} (n gone v used : ℕ) (home₀ : List HomeRow) (cells₀ : List (Cell R)) (home : List HomeRow) (cells : List (Cell R))
    (half : TakenBackBelow n gone v used home₀ cells₀ home cells) (place : v < n) where
  rise_here : Rises (gone + 1) 0 (plain_sketch home cells v)
  rise_here = rises_all (gone + 1) (plain_sketch home cells v) (half.sound.rising v place)

  -- the place v has nothing to take back
  pub back_passes : (EndsAt gone (plain_sketch home cells v) → ⊥) → TakenBackBelow n gone (v + 1) used home₀ cells₀ home cells
  back_passes none =
      let same : plain_before gone (plain_sketch home cells v) ≡ plain_sketch home cells v =
      ⊎_elim (before_all gone 0 (plain_sketch home cells v)) (λ q. absurd (none q)) (below_or_at gone 0 (plain_sketch home cells v) rise_here) in
      let here : plain_sketch home cells v ≡ plain_before gone (plain_sketch home₀ cells₀ v) = sym same ∙ ap (plain_before gone) (half.ahead v (omega arith) place) in
      record {
        sound = half.sound;
        done = λ w h. ⊎_elim (λ q. subst (λ u. plain_sketch home cells u ≡ plain_before gone (plain_sketch home₀ cells₀ u)) (sym q) here) (λ ne. half.done w (omega arith)) (cases_eq w v);
        ahead = λ w h. half.ahead w (omega arith);
        positions_kept = half.positions_kept;
        long = half.long;
      }

  -- the place v can have its last entry removed
  pub can_remove : n ≤ length home → EndsAt gone (plain_sketch home cells v) → CanRemove n (gone + 1) (used - 1) home cells v
  can_remove reach (xs, e, is, p) =
      let row = home_at home v in
      let some : 0 < row.entries =
      ⊎_elim (λ h. h) (λ h. let z : row.entries ≡ 0 = omega arith in absurd (nil_not_push xs e (sym (ap (forward cells row.first) z) ∙ is))) (cases_lt 0 row.entries) in
      let one : used ≡ used - 1 + 1 = omega (arith, entries_some n v home place reach, half.sound.counts.total) in
      record { place = place; home_long = reach; sound = subst (λ u. SketchesSound n (gone + 1) u home cells) one half.sound; some = some }

  pub back_removes : (home' : List HomeRow) (cells' : List (Cell R)) → EndsAt gone (plain_sketch home cells v) → Removed n (gone + 1) (used - 1) home cells v home' cells'
      → OnlySketch v home cells home' cells' → length home' ≡ length home → TakenBackBelow n gone (v + 1) (used - 1) home₀ cells₀ home' cells'
  back_removes home' cells' (xs, e, is, p) removed only long =
      let rise = subst (Rises (gone + 1) 0) is rise_here in
      let xs-is = (same_from_push xs (plain_sketch home' cells' v) e removed.here.0 (sym is ∙ removed.here.1)).0 in
      let here : plain_sketch home' cells' v ≡ plain_before gone (plain_sketch home₀ cells₀ v) =
      sym xs-is ∙ sym (before_push gone xs e rise p) ∙ ap (plain_before gone) (sym is ∙ half.ahead v (omega arith) place) in
      record {
        sound = removed.sound;
        done = λ w h.
            ⊎_elim (λ q. subst (λ u. plain_sketch home' cells' u ≡ plain_before gone (plain_sketch home₀ cells₀ u)) (sym q) here)
            (λ ne. removed.others w (omega arith) ne ∙ half.done w (omega arith)) (cases_eq w v);
        ahead = λ w h lt. removed.others w lt (λ q. omega arith) ∙ half.ahead w (omega arith) lt;
        positions_kept = λ w. only.positions w ∙ half.positions_kept w;
        long = long ∙ half.long;
      }

-- every place is done: one place fewer is swept
pub back_ends : {R : Type 0} (n gone v used : ℕ) (home₀ : List HomeRow) (cells₀ : List (Cell R)) (home : List HomeRow) (cells : List (Cell R))
    → TakenBackBelow n gone v used home₀ cells₀ home cells → n ≤ v → ((w : ℕ) → w < n → RisingBelow (gone + 1) (positions (plain_sketch home₀ cells₀ w))) → SketchesSound n gone used home cells
back_ends n gone v used home₀ cells₀ home cells half over old =
    record {
      links = half.sound.links;
      rising = λ w h.
          subst (λ es. RisingBelow gone (positions es)) (sym (half.done w (omega arith)))
          (rising_from gone 0 (plain_before gone (plain_sketch home₀ cells₀ w)) (before_rises gone (plain_sketch home₀ cells₀ w) (rises_all (gone + 1) (plain_sketch home₀ cells₀ w) (old w h))));
      counts = half.sound.counts;
    }
