-- A name's bytes are ASCII, and what is kept of them is what is shown.
use Rattle.std.proofs.Common.{◌≡◌, ℕ, zero, suc, ◌-◌, true, List, [], ◌∷◌, length, take, ◌==◌, subst, sym, ap, ◌∙◌, arith}
use Rattle.std.specs.List.{suffix_len}
use Rattle.std.specs.Str.{IsAscii, IsUtf8}
use Rattle.std.proofs.lemmas.Bool.{eq-eqb, ne_eqb, and_parts, leb-true}
use Rattle.std.proofs.lemmas.List.Sums.{suffix_len_is}
use Rattle.std.proofs.lemmas.Str.{IsUtf8-from_ascii, IsAscii-take}
use Rattle.town_record.specs.Names.{Kept, shown_bytes}
use Rattle.town_record.specs.Rules.{printable, all_printable}

printable_ascii : (bytes : List ℕ) → all_printable bytes ≡ true → IsAscii bytes
printable_ascii [] e i = omega arith
printable_ascii (b ∷ bytes) e zero = omega (arith, leb-true b 126 (and_parts _ _ (and_parts _ _ e).0).1)
printable_ascii (b ∷ bytes) e (suc i) = printable_ascii bytes (and_parts (printable b) _ e).1 i

-- a part of a name is text
pub kept_utf8 : (bytes text : List ℕ) → all_printable bytes ≡ true → Kept bytes text → IsUtf8 text
kept_utf8 bytes text printed kept =
    subst IsUtf8 (sym kept.front) (IsUtf8-from_ascii _ (IsAscii-take bytes (length text) (printable_ascii bytes printed)))

pub kept_is_shown : (bytes text : List ℕ) → length bytes ≡ 8 → Kept bytes text → text ≡ shown_bytes bytes
kept_is_shown bytes text sized kept =
    let few = kept.few in
    let n : suffix_len (λ b. b == 32) bytes ≡ length bytes - length text =
    suffix_len_is (λ b. b == 32) bytes (length text) 0 (omega arith) (λ k h l. eq-eqb _ _ (kept.behind k h (omega arith))) (λ h. ne_eqb _ _ kept.ends) in
    let e : length text ≡ length bytes - suffix_len (λ b. b == 32) bytes = omega arith in
    kept.front ∙ ap (λ k. take k bytes) e
