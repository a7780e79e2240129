-- A span answers for the arcs that arrive at a place.
use Rattle.std.proofs.Common.{◌≡◌, ℕ, ◌+◌, ◌-◌, List, vec_items, take, drop, slice_index_or, sym, ap, ◌∙◌, arith}
use Rattle.town_record.specs.declared.arc_row.ArcRow.{ArcRow}
use Rattle.town.specs.declared.tables.Span.{Span}
use Rattle.town.specs.declared.rows.Rows.{Rows}
use Rattle.town.specs.Index.{empty_span}
use Rattle.town.specs.SpanLaws.{arriving_at, kept_span}

-- the part of the table that a place's span marks has the arcs that arrive there
pub part_of_span : {L : Type 0} (r : Rows L) (w : ℕ) (s : Span) (arcs : List (ArcRow L)) → s ≡ slice_index_or (vec_items r.tables.spans) w empty_span → arcs ≡ vec_items r.tables.arcs →
    take (s.first + s.count - s.first) (drop s.first arcs) ≡ arriving_at w (vec_items r.tables.arcs)
part_of_span r w s arcs is same =
    let n : s.first + s.count - s.first ≡ s.count = omega arith in
    ap (λ k. take k (drop s.first arcs)) n ∙ (λ i. take (is i).count (drop (is i).first (same i)))
    ∙ sym (kept_span (vec_items r.tables.spans) (vec_items r.tables.arcs) r.sound.ends r.sound.arrive r.sound.begun r.sound.not_past w)
