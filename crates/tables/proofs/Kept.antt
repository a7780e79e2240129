-- The test of the order reads only the positions of the home table.
use Rattle.std.proofs.Common.{◌≡◌, ℕ, ◌<◌, List, length, sym, ap, ◌∙◌, subst, arith}
use Rattle.tables.specs.declared.rows.OrderRow.{OrderRow}
use Rattle.tables.specs.declared.rows.HomeRow.{HomeRow}
use Rattle.tables.specs.Rows.{order_at, home_at}
use Rattle.tables.specs.Tests.{OrderTest}

pub order_kept : (n : ℕ) (order : List OrderRow) (home home' : List HomeRow) → length home' ≡ length home
    → ((w : ℕ) → (home_at home' w).position ≡ (home_at home w).position) → OrderTest n order home → OrderTest n order home'
order_kept n order home home' long same old =
    record {
      order_long = old.order_long;
      home_long = omega (arith, old.home_long);
      to_places = λ p h. ((old.to_places p h).0, same (order_at order p).place ∙ (old.to_places p h).1);
      to_positions = λ v h.
          (subst (λ p. p < n) (sym (same v)) (old.to_positions v h).0, ap (λ p. (order_at order p).place) (same v) ∙ (old.to_positions v h).1);
      ranks_rise = old.ranks_rise;
    }
