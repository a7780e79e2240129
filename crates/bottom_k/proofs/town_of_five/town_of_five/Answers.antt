-- Each case by computing both sides.
use Rattle.std.proofs.Common.{refl, arith}
use Rattle.graph.specs.LeastLengths.{least_table}
use Rattle.bottom_k.proofs.town_of_five.town_of_five.Goals as goal

pub returns : goal.returns
unfolding least_table
returns c = record {
  ranks = (refl, omega arith);
  order = refl;
  mill_notes = refl;
  third_turns_back = refl;
  before_third = refl;
  after_third = refl;
  nine_cells = refl;
  ten_cells = refl;
  within_299 = refl;
  figure_299 = refl;
  within_300 = refl;
  figure_300 = refl;
  within_99 = refl;
  figure_99 = refl;
  after_fifth = refl;
  taken_back = refl;
  fares_over = refl;
}
