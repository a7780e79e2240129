-- A name without its trailing spaces.
use Rattle.std.specs.Prelude.{◌≡◌, ℕ, ◌-◌, ◌<◌, ◌≤◌, List, length, take, slice_index, slice_index_or, ◌==◌}
use Rattle.std.specs.List.{suffix_len}

-- what is kept of a name: its first 1 to 8 bytes, the last of them no space, and all behind them spaces
pub record Kept (bytes text : List ℕ) : Type 0 where
  pub front : text ≡ take (length text) bytes
  pub some : 1 ≤ length text
  pub few : length text ≤ 8
  pub ends : slice_index_or bytes (length text - 1) 0 ≡ 32 → ⊥
  pub behind : (i : ℕ) → length text ≤ i → i < 8 → slice_index bytes i ≡ 32

-- the bytes of a name without the spaces at its end
abbrev pub shown_bytes : List ℕ → List ℕ
shown_bytes bytes = take (length bytes - suffix_len (λ b. b == 32) bytes) bytes
