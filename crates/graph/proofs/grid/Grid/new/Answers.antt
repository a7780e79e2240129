use Rattle.std.proofs.Common.{◌≡◌, ℕ, ◌*◌, ◌≤◌, take, length, subst, ◌∙◌, arith, rules}
use Rattle.graph.proofs.Cells.{grid_means}
use Rattle.graph.proofs.grid.Grid.new.Goals as goal

pub returns : goal.returns
returns c =
    let needed : ℕ = c.args.rows * c.args.columns in
    let enough : needed ≤ length c.args.bytes.now = search rules in
    let cells : c.in_ok-cells.cells.now ≡ take needed c.args.bytes.now = search rules in
    let long : length c.in_ok-cells.cells.now ≡ needed = search rules in
    let same : take needed c.of.result.bytes ≡ take needed c.args.bytes.now = subst (λ n. take n c.of.result.bytes ≡ c.in_ok-cells.cells.now) long c.of.ensures.bytes ∙ cells in (
      ((λ w h. h.1 c.in_ok-rows.ensures.1), ((λ w h. h.1 c.in_ok-columns.ensures.1), ((λ w h. omega arith), tt))),
      grid_means c.of.result c.args.rows c.args.columns c.args.bytes.now (c.of.ensures.rows ∙ c.in_ok-rows.ensures.0) (c.of.ensures.columns ∙ c.in_ok-columns.ensures.0) same,
    )
