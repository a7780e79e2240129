-- One record more in the tables.
use Rattle.std.proofs.Common.{◌≡◌, ℕ, ◌<◌, ◌≤◌, List, [], ◌∷◌, ◌++◌, vec_items, vec_len, ◌∙◌, subst}
use Rattle.town_record.specs.Entries.{Says, SaysPlace, SaysArc}
use Rattle.town_record.specs.FileForms.{FileForm}
use Rattle.town_record.specs.Rules.{Faultless}
use Rattle.town_record.specs.declared.arc_row.ArcRow.{ArcRow}
use Rattle.town_record.specs.declared.before.Before.{Before}
use Rattle.town_record.specs.declared.entry.Entry.{Entry}
use Rattle.town_record.specs.declared.entry.Entry.TheVariants.{Place, Arc}
use Rattle.town_record.specs.declared.name.Name.{Name}
use Rattle.town.specs.declared.filling.Filling.{Filling}
use Rattle.town.specs.declared.tables.Tables.{Tables}
use Rattle.town.specs.Files.{seen}
use Rattle.town.specs.Holds.{Holds, so_far}
use Rattle.town.proofs.Holding.{so_far_seen, holds_place, holds_arc}
use Rattle.town.proofs.Judged.{place_judged, arc_judged}

-- what is so by what the tables hold is so by the records before
pub so_by_records : {L : Type 0} (f : FileForm L) (t : Tables L) (b : Before) (P : Before → Type 0) → b ≡ so_far t → P b → (rs : List (List ℕ)) → Holds f rs t → P (seen rs)
so_by_records f t b P same p rs h = subst P (same ∙ so_far_seen f rs t h) p

module _ {L : Type 0} (f : FileForm L) (x : Filling L) (r : List ℕ) (b : Before) (same : b ≡ so_far x.tables) (e : Entry L) (told : Faultless f x.limits b r × Says f r e) where
  judged : Faultless f x.limits (so_far x.tables) r
  judged = subst (λ z. Faultless f x.limits z r) same told.0

  good : (rs : List (List ℕ)) → Holds f rs x.tables → Faultless f x.limits (seen rs) r
  good = so_by_records f x.tables b (λ z. Faultless f x.limits z r) same told.0

  module _ (rank : ℕ) (name : Name) (is : e ≡ Place rank name) where
    says_place : SaysPlace r rank name
    says_place = subst (Says f r) is told.1

    pub place_fits : vec_len x.tables.ranks < x.limits.places
    place_fits = (place_judged f x.limits (so_far x.tables) r judged says_place.letter).1

    pub place_added : (u : Tables L) → vec_items u.ranks ≡ vec_items x.tables.ranks ++ rank ∷ [] → vec_items u.names ≡ vec_items x.tables.names ++ name ∷ [] → u.arcs ≡ x.tables.arcs →
        (rs : List (List ℕ)) → Holds f rs x.tables → Faultless f x.limits (seen rs) r × Holds f (rs ++ r ∷ []) u
    place_added u ranks names arcs rs h = (
      good rs h,
      holds_place f rs x.tables h u r rank name says_place ranks names arcs x.sound.named (place_judged f x.limits (so_far x.tables) r judged says_place.letter).0,
    )

  module _ (a : ArcRow L) (is : e ≡ Arc a) where
    says_arc : SaysArc f r a
    says_arc = subst (Says f r) is told.1

    pub arc_fits : (a.from < vec_len x.tables.ranks) × (a.to < vec_len x.tables.ranks) × ((so_far x.tables).last_to ≤ a.to) × (vec_len x.tables.arcs < x.limits.arcs)
    arc_fits = arc_judged f x.limits (so_far x.tables) r judged a says_arc.letter says_arc.listed

    pub arc_added : (u : Tables L) → vec_items u.arcs ≡ vec_items x.tables.arcs ++ a ∷ [] → u.ranks ≡ x.tables.ranks → u.names ≡ x.tables.names →
        (rs : List (List ℕ)) → Holds f rs x.tables → Faultless f x.limits (seen rs) r × Holds f (rs ++ r ∷ []) u
    arc_added u arcs ranks names rs h = (good rs h, holds_arc f rs x.tables h u r a says_arc arcs ranks names)
