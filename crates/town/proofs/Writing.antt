-- Writing records one after another over the front of a buffer.
use Rattle.std.proofs.Common.{◌≡◌, ℕ, zero, suc, ◌+◌, ◌-◌, ◌*◌, ◌<◌, ◌≤◌, List, [], ◌∷◌, ◌++◌, map, length, get_or, take, drop, replicate, sym, refl, ap, ◌∙◌, arith, length-append}
use borrow.Rule.Slice.PartMut.{put_mid}
use lib.ListN.{length-replicate}
use Rattle.std.specs.List.{concat, AllByRecursion}
use Rattle.std.proofs.lemmas.List.{take_more, take_all, take-append-drop, get_or_append_left, get_or-append_right, get_or-map, length_push}
use Rattle.std.proofs.lemmas.Slice.{take-put_mid, drop-put_mid}
use Rattle.town_record.specs.FileForms.{FileForm}
use Rattle.town_record.specs.Parts.{place_record, arc_record}
use Rattle.town_record.specs.declared.arc_row.ArcRow.{ArcRow}
use Rattle.town_record.specs.declared.name.Name.{Name}
use Rattle.town.specs.Holds.{place_records}
use Rattle.town.specs.Writes.{Wrote}
use Rattle.town.proofs.Meaning.{joined_push}

pub wrote_more : (rs : List (List ℕ)) (i : ℕ) (was now next r : List ℕ) → Wrote rs i was now → i < length rs → get_or rs i [] ≡ r → length r ≡ 16 → 16 * i + 16 ≤ length now →
    next ≡ put_mid (16 * i) 16 now r → Wrote rs (i + 1) was next
wrote_more rs i was now next r w inside is sized fits put =
    let k : 16 * (i + 1) ≡ 16 * i + length r = omega arith in
    let d : drop (16 * (i + 1)) now ≡ drop (16 * (i + 1)) was = later (16 * i) (16 * (i + 1)) now was (omega arith) w.back in
    record {
      front = ap (take (16 * (i + 1))) put ∙ take-put_mid (16 * i) 16 now r (16 * (i + 1)) k (omega arith) ∙ ap (λ t. t ++ r) w.front
          ∙ sym (joined_push (take i rs) r) ∙ ap (λ x. concat (take i rs ++ x ∷ [])) (sym is) ∙ ap concat (sym (take_more rs i [] inside));
      back = ap (drop (16 * (i + 1))) put ∙ drop-put_mid (16 * i) 16 now r (16 * (i + 1)) (omega arith) (omega arith) sized ∙ d;
    }
  where
    later : (a b : ℕ) (xs ys : List ℕ) → a ≤ b → drop a xs ≡ drop a ys → drop b xs ≡ drop b ys
    later a b xs ys h e =
        let k : a + (b - a) ≡ b = omega arith in
        ap (λ n. drop n xs) (sym k) ∙ sym (Rattle.std.proofs.lemmas.List.drop-drop (b - a) a xs) ∙ ap (drop (b - a)) e ∙ Rattle.std.proofs.lemmas.List.drop-drop (b - a) a ys ∙ ap (λ n. drop n ys) k

pub length_joined : (rs : List (List ℕ)) → AllByRecursion (λ r. length r ≡ 16) rs → length (concat rs) ≡ 16 * length rs
length_joined [] h = refl
length_joined (r ∷ rs) h = let a = length-append r (concat rs) in let b = h.0 in let c = length_joined rs h.1 in omega arith

pub wrote_all : (rs : List (List ℕ)) (was now : List ℕ) → Wrote rs (length rs) was now → AllByRecursion (λ r. length r ≡ 16) rs → now ≡ concat rs ++ drop (length (concat rs)) was
wrote_all rs was now w sized =
    sym (take-append-drop (16 * length rs) now)
    ∙ (λ i. (w.front ∙ ap concat (take_all (length rs) rs (omega arith))) i ++ w.back i)
    ∙ ap (λ n. concat rs ++ drop n was) (sym (length_joined rs sized))

-- the records of places and of arcs, one by one
pub length_place_records : (ranks : List ℕ) (names : List Name) → length names ≡ length ranks → length (place_records ranks names) ≡ length ranks
length_place_records [] names e = refl
length_place_records (r ∷ ranks) [] e = absurd (omega arith)
length_place_records (r ∷ ranks) (n ∷ names) e = let h = length_place_records ranks names (omega arith) in omega arith

pub place_record_at : (ranks : List ℕ) (names : List Name) (more : List (List ℕ)) (i : ℕ) (name : Name) → length names ≡ length ranks → i < length ranks → name ≡ get_or names i name →
    get_or (place_records ranks names ++ more) i [] ≡ place_record (get_or ranks i 0) name.bytes
place_record_at [] names more i name e h is = absurd (omega arith)
place_record_at (r ∷ ranks) [] more i name e h is = absurd (omega arith)
place_record_at (r ∷ ranks) (n ∷ names) more zero name e h is = ap (λ x. place_record r x.bytes) (sym is)
place_record_at (r ∷ ranks) (n ∷ names) more (suc i) name e h is = place_record_at ranks names more i name (omega arith) (omega arith) is

module _ {L : Type 0} (f : FileForm L) where
  pub arc_record_at : (front : List (List ℕ)) (arcs : List (ArcRow L)) (n j : ℕ) (a : ArcRow L) → length front ≡ n → j < length arcs → a ≡ get_or arcs j a →
      get_or (front ++ map (arc_record f) arcs) (n + j) [] ≡ arc_record f a
  arc_record_at front arcs n j a e h is =
      let k : n + j - n ≡ j = omega arith in
      get_or-append_right front (map (arc_record f) arcs) n (n + j) [] e (omega arith) ∙ ap (λ x. get_or (map (arc_record f) arcs) x []) k
      ∙ get_or-map (arc_record f) arcs j a [] h ∙ ap (arc_record f) (sym is)

  pub arc_record_long : (a : ArcRow L) → length (arc_record f a) ≡ 16
  arc_record_long a =
      let e = length-append (replicate (8 - f.used) 0) (f.bytes_of a.length) in
      let z : length (replicate {A = ℕ} (8 - f.used) 0) ≡ 8 - f.used = length-replicate (8 - f.used) 0 in
      let s = f.sized a.length in
      let u = f.few in
      omega arith

  arcs_long : (arcs : List (ArcRow L)) → AllByRecursion (λ r. length r ≡ 16) (map (arc_record f) arcs)
  arcs_long [] = tt
  arcs_long (a ∷ arcs) = (arc_record_long a, arcs_long arcs)

  pub records_long : (ranks : List ℕ) (names : List Name) (arcs : List (ArcRow L)) → AllByRecursion (λ r. length r ≡ 16) (place_records ranks names ++ map (arc_record f) arcs)
  records_long [] names arcs = arcs_long arcs
  records_long (r ∷ ranks) [] arcs = arcs_long arcs
  records_long (r ∷ ranks) (n ∷ names) arcs = (let s = n.sized in omega arith, records_long ranks names arcs)
