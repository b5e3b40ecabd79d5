-- What holds of the fields of an extender's tables, which have a place for each port, from 1, and place 0.
use Rattle.std.specs.Prelude.{◌≡◌, ℕ, ◌<◌, ◌≤◌, Bool, List, length, slice_index}

pub record IsKept (count : ℕ) (own : List ℕ) (cascade : List Bool) : Type 0 where
  pub some : 1 ≤ count
  pub few : count ≤ 64
  pub own_each : length own ≡ 65
  pub cascade_each : length cascade ≡ 65
  -- what is no port of the extender has no channel
  pub outside : (q : ℕ) → count < q → slice_index own q ≡ 0
  pub no_port : slice_index own 0 ≡ 0
  pub channels : (q : ℕ) → slice_index own q < 4095
