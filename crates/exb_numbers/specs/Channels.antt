-- The channels of a space, as the list of the port of each, from channel 0 on, which is of none.
use Rattle.std.specs.Prelude.{◌≡◌, ℕ, ◌-◌, ◌<◌, ◌≤◌, Bool, true, false, List, Option, Some, None, is_some, find, length, slice_index_or}
use Rattle.std.specs.List.{range_with_len}
use Rattle.exb_model.specs.LowestFree.{lowest_free, is_port}

-- the port of a channel
abbrev pub holder : List (Option ℕ) → ℕ → Option ℕ
holder ports c = slice_index_or ports c None

abbrev pub is_used : List (Option ℕ) → ℕ → Bool
is_used ports c = is_some (holder ports c)

-- the channel of a port, among all channels that there can be
unfoldable pub channel_of : List (Option ℕ) → ℕ → Option ℕ
channel_of ports p = find (λ c. is_port p (holder ports c)) (range_with_len 1 4094)

abbrev pub lowest_channel : List (Option ℕ) → Option ℕ
lowest_channel ports = lowest_free (is_used ports) 1 (length ports - 1)

-- what the type keeps: the channel of each port beside the port of each channel, and the lowest free channel
pub record AreKept (ports channels : List (Option ℕ)) (free : ℕ) : Type 0 where
  pub sized : length channels ≡ 4160
  pub one : 1 ≤ length ports
  pub short : length ports ≤ 4095
  pub zeroth : holder ports 0 ≡ None
  pub there : (p c : ℕ) → slice_index_or channels p None ≡ Some c → holder ports c ≡ Some p
  pub back : (p c : ℕ) → holder ports c ≡ Some p → slice_index_or channels p None ≡ Some c
  pub low : 1 ≤ free
  pub high : free ≤ length ports
  pub below : (c : ℕ) → 1 ≤ c → c < free → is_used ports c ≡ true
  pub at : is_used ports free ≡ false
