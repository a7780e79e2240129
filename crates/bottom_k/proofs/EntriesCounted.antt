-- The number of entries due: there is only one, and a search adds the notes that it makes.
use Rattle.std.proofs.Common.{◌≡◌, ℕ, suc, ◌+◌, ◌<◌, ◌≤◌, cond, ltb, leb, List, [], ◌∷◌, ◌++◌, length, sum_by, count_by, sym, refl, ap, ◌∙◌, inl, inr, arith, length-append}
use native.Mathlib.Decide.{dec_le}
use Rattle.std.specs.List.{range_with_len}
use Rattle.std.proofs.lemmas.List.Sums.{sum_by-cons}
use Rattle.std.proofs.lemmas.Bool.{cond-true, cond-false, le-leb, lt-leb, lt-ltb, le-ltb}
use Rattle.graph.specs.Members.{In}
use Rattle.bottom_k.specs.Sketches.{Setting, Entry, AllDue, place_at, entries_within}
use Rattle.bottom_k.specs.Cells.{entries_of, EntriesDue, PassesCells}
use Rattle.bottom_k.specs.Search.{Mark, unseen, waiting, settled, Finished, sketch_after, makes_note, notes_made}
use Rattle.bottom_k.proofs.DueSketches.{one_is_due}
use Rattle.bottom_k.proofs.NearPlaces.{counting_in}
use Rattle.bottom_k.proofs.TurningBack.{all_due_after}

-- equal sketches have as many entries
entries_same : {L : Type 0} (vs : List ℕ) (one two : ℕ → List (Entry L)) → ((v : ℕ) → In v vs → one v ≡ two v) →
    sum_by (λ v. length (one v)) vs ≡ sum_by (λ v. length (two v)) vs
entries_same [] one two same = refl
entries_same (v ∷ vs) one two same =
    sum_by-cons (λ w. length (one w)) v vs
    ∙ ap (λ es. length es + sum_by (λ w. length (one w)) vs) (same v (inl refl))
    ∙ ap (λ n. length (two v) + n) (entries_same vs one two (λ w i. same w (inr i)))
    ∙ sym (sum_by-cons (λ w. length (two w)) v vs)

module _ {L : Type 0} (s : Setting L) where
  -- only one number of entries is due
  pub one_number_due : (swept a b : ℕ) → EntriesDue s swept a → EntriesDue s swept b → a ≡ b
  one_number_due swept a b one two =
      one.2
      ∙ entries_same (range_with_len 0 s.map.places) one.0 two.0 (λ v i.
      let inside : v < s.map.places = omega (arith, (counting_in 0 s.map.places v i).1) in
      one_is_due s v swept (one.0 v) (two.0 v) (one.1 v inside) (two.1 v inside))
      ∙ sym two.2

  -- a sketch gains one entry where a note is made, and none elsewhere
  length_after : (p : ℕ) (k : Mark L) (es : List (Entry L)) → length (sketch_after s p k es) ≡ length es + cond (makes_note s k es) 1 0
  length_after p unseen es = omega arith
  length_after p (waiting d) es = omega arith
  length_after p (settled d) es = go (dec_le s.k (length (entries_within s.measure d es)))
    where
      near : ℕ
      near = length (entries_within s.measure d es)

      new : Entry L
      new = record { position = p; length = d }

      go : Dec (s.k ≤ near) → length (cond (leb s.k near) es (es ++ new ∷ [])) ≡ length es + cond (ltb near s.k) 1 0
      go (yes many) =
          ap length (cond-true (leb s.k near) es (es ++ new ∷ []) (le-leb _ _ many))
          ∙ omega (arith, cond-false {A = ℕ} (ltb near s.k) 1 0 (le-ltb _ _ many))
      go (no few) =
          ap length (cond-false (leb s.k near) es (es ++ new ∷ []) (lt-leb _ _ (omega arith)))
          ∙ omega (arith, length-append es (new ∷ []), cond-true {A = ℕ} (ltb near s.k) 1 0 (lt-ltb _ _ (omega arith)))

  entries_after : (p : ℕ) (sketch : ℕ → List (Entry L)) (mark : ℕ → Mark L) (vs : List ℕ) →
      sum_by (λ v. length (sketch_after s p (mark v) (sketch v))) vs ≡ sum_by (λ v. length (sketch v)) vs + count_by (λ v. makes_note s (mark v) (sketch v)) vs
  entries_after p sketch mark [] = omega arith
  entries_after p sketch mark (v ∷ vs) = omega (
    arith,
    sum_by-cons (λ w. length (sketch_after s p (mark w) (sketch w))) v vs,
    sum_by-cons (λ w. length (sketch w)) v vs,
    sum_by-cons (λ w. cond (makes_note s (mark w) (sketch w)) 1 0) v vs,
    length_after p (mark v) (sketch v),
    entries_after p sketch mark vs,
  )

  -- the entries due after a search are those before it and the notes that it makes
  pub entries_after_search : (p : ℕ) (sketch : ℕ → List (Entry L)) (mark : ℕ → Mark L) → AllDue s p sketch → Finished s sketch (place_at s p) mark →
      EntriesDue s (suc p) (entries_of s.map.places sketch + notes_made s sketch mark)
  entries_after_search p sketch mark due done = (
    (λ v. sketch_after s p (mark v) (sketch v)),
    all_due_after s p sketch due mark done,
    sym (entries_after p sketch mark (range_with_len 0 s.map.places)),
  )

  pub counted_if_passes : (swept total : ℕ) → EntriesDue s swept total → (cells : ℕ) → PassesCells s swept cells → cells < total
  counted_if_passes swept total due cells h = omega (arith, h.2, one_number_due swept h.0 total h.1 due)
