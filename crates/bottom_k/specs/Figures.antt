-- The figure of a sample: how many places it stands for.
use Rattle.std.specs.Prelude.{ℕ, ◌-◌, ◌*◌, ◌/◌, cond, List, length, nat_lt, slice_index}
use Rattle.bottom_k.specs.declared.figure.Figure.{Figure}
use Rattle.bottom_k.specs.declared.figure.Figure.TheVariants.{Exact, Estimated}

-- (k − 1) × 4,294,967,296 divided by a rank, rounded down
abbrev pub estimated : ℕ → ℕ → ℕ
estimated k rank = (k - 1) * 4294967296 / rank

-- the number sampled where fewer than k are, exact; else the estimate by the rank of the last
abbrev pub figure_of : ℕ → ℕ → ℕ → Figure
figure_of k sampled last = cond (nat_lt sampled k) (Exact sampled) (Estimated (estimated k last))

-- the figure of a sample, by the ranks of the sampled places, first-ranked first
abbrev pub figure_of_ranks : ℕ → List ℕ → Figure
figure_of_ranks k ranks = figure_of k (length ranks) (slice_index ranks (length ranks - 1))
