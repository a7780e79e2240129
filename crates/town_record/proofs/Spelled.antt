-- A list's rest, and a part of it, spelled out by its elements.
use Rattle.std.proofs.Common.{◌≡◌, ℕ, zero, suc, ◌+◌, ◌-◌, ◌<◌, ◌≤◌, List, [], ◌∷◌, length, get_or, take, drop, Some, sym, refl, ap, ◌∙◌, arith, length-drop, length-take}
use Rattle.std.specs.List.{between}
use Rattle.std.proofs.ByRecursion.{All-take, All-drop, All-from_get_or}
use Rattle.std.proofs.lemmas.List.{drop_all, drop-drop, drop_more}
use Rattle.std.proofs.lemmas.Slice.{between_to_end}
use Rattle.town_record.specs.Bytes.{two_bytes, four_bytes}
use Rattle.town_record.specs.ByteLaws.{bytes_of_two, bytes_of_four}
use Rattle.town_record.specs.FileForms.{FileForm}
use Rattle.town_record.specs.Parts.{rank_of, from_of, to_of, length_bytes}

-- the n elements from i on
abbrev pub elements : List ℕ → ℕ → ℕ → List ℕ
elements xs i zero = []
elements xs i (suc n) = get_or xs i 0 ∷ elements xs (i + 1) n

pub take_drop_elements : (n i : ℕ) (xs : List ℕ) → i + n ≤ length xs → take n (drop i xs) ≡ elements xs i n
take_drop_elements zero i xs h = refl
take_drop_elements (suc n) i xs h =
    ap (take (suc n)) (drop_more xs i 0 (omega arith)) ∙ ap (λ t. get_or xs i 0 ∷ t) (take_drop_elements n (i + 1) xs (omega arith))

pub drop_elements : (n i : ℕ) (xs : List ℕ) → length xs ≡ i + n → drop i xs ≡ elements xs i n
drop_elements zero i xs h = drop_all i xs (omega arith)
drop_elements (suc n) i xs h =
    drop_more xs i 0 (omega arith) ∙ ap (λ t. get_or xs i 0 ∷ t) (drop_elements n (i + 1) xs (omega arith))

-- the used bytes of a length's field are the last of its record
pub used_bytes : (r : List ℕ) (used : ℕ) → length r ≡ 16 → used ≤ 8 → drop (8 - used) (between 8 16 r) ≡ between (16 - used) 16 r
used_bytes r used h few =
    let p : 8 + (8 - used) ≡ 16 - used = omega arith in
    ap (drop (8 - used)) (between_to_end r 8 16 (omega arith)) ∙ drop-drop (8 - used) 8 r ∙ ap (λ n. drop n r) p ∙ sym (between_to_end r (16 - used) 16 (omega arith))

module _ (r : List ℕ) (whole : length r ≡ 16) (fits : (i : ℕ) → get_or r i 0 < 256) where
  -- the numbers of a record have its bytes
  pub rank_bytes : four_bytes (rank_of r) ≡ between 4 8 r
  rank_bytes = bytes_of_four (get_or r 4 0) (get_or r 5 0) (get_or r 6 0) (get_or r 7 0) (fits 4) (fits 5) (fits 6) (fits 7) ∙ sym (take_drop_elements 4 4 r (omega arith))

  pub from_bytes : two_bytes (from_of r) ≡ between 2 4 r
  from_bytes = bytes_of_two (get_or r 2 0) (get_or r 3 0) (fits 2) (fits 3) ∙ sym (take_drop_elements 2 2 r (omega arith))

  pub to_bytes : two_bytes (to_of r) ≡ between 4 6 r
  to_bytes = bytes_of_two (get_or r 4 0) (get_or r 5 0) (fits 4) (fits 5) ∙ sym (take_drop_elements 2 4 r (omega arith))

  -- a length that is read from a record has its bytes
  pub length_exact : {L : Type 0} (f : FileForm L) (l : L) → f.length_of (length_bytes f.used r) ≡ Some l → f.bytes_of l ≡ length_bytes f.used r
  length_exact f l e =
      let few = f.few in
      let k : 16 - (16 - f.used) ≡ f.used = omega arith in
      let long : length (length_bytes f.used r) ≡ f.used = simp (length-take, length-drop) (omega arith) in
      let below = All-from_get_or (λ b. b < 256) r 0 (λ i h. fits i) in
      f.writes_back (length_bytes f.used r) l long (All-take (λ b. b < 256) (16 - (16 - f.used)) (drop (16 - f.used) r) (All-drop (λ b. b < 256) (16 - f.used) r below)) e
