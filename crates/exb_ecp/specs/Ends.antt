-- The bridge's ends of the transport, by extender.
use Rattle.std.specs.Prelude.{◌≡◌, ◌≢◌, ◌↔◌, ℕ, ◌<◌, ◌≤◌, List, None, length, slice_index_or}
use Rattle.exb_ecp.specs.StopAndWait.{State, new_state}
use Rattle.exb_model.specs.DeviceSets.{number_in}

abbrev pub near_of : List State → ℕ → State
near_of ends n = slice_index_or ends n new_state

-- there is an end for each device, and exactly those that send something are noted by their bits
pub record AreNoted (ends : List State) (sending : ℕ) : Type 0 where
  pub sized : length ends ≡ 65
  pub noted : (n : ℕ) → (number_in sending n ≡ 0) ↔ ((near_of ends n).sending ≡ None)

-- the end with extender n is the first, from a number on, that sends something
pub record IsNextSending (ends : List State) (from n : ℕ) : Type 0 where
  pub low : n < 65
  pub start : from ≤ n
  pub sends : (near_of ends n).sending ≢ None
  pub before : (k : ℕ) → from ≤ k → k < n → (near_of ends k).sending ≡ None
