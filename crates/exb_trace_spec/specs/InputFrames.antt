-- The frames that an input brings to each port, and those that the one bridge sends there; and when.
use Rattle.std.specs.Prelude.{◌≡◌, ◌*◌, ◌<◌, ◌^◌, ℕ, List, Some, map}
use Rattle.exb_model.specs.declared.event.Event.{Event}
use Rattle.exb_model.specs.declared.event.Event.TheVariants as event
use Rattle.exb_model.specs.Lists.{numbered}
use Rattle.exb_model.specs.FlatBridge.{Sent, flat}
use Rattle.exb_model.specs.History.{History}
use Rattle.exb_model.specs.Input.{Input, Record, basis_of}

-- the frames of the capture of port p, and those that the one bridge sends at port q
abbrev pub frames_in : Input → ℕ → List (List ℕ)
frames_in i p = map (λ (r : Record). r.bytes) (i.records p)

abbrev pub frames_out : Input → History → ℕ → List (List ℕ)
frames_out i h q = map (λ (x : Sent). x.1) (flat (basis_of i) h q)

-- ---- moments
-- what a capture can hold: below 2^32 seconds
abbrev pub IsInTime : ℕ → Type 0
IsInTime moment = moment < 2 ^ 32 * 1_000_000_000

-- each record of an input
abbrev pub AreInTime : Input → Type 0
AreInTime i = (p n : ℕ) (r : Record) → numbered (i.records p) n ≡ Some r → IsInTime r.time

-- a Relay's moment
abbrev pub RelayFits : History → Event → Type 0
RelayFits h (event.Relay p n t f) = IsInTime t
RelayFits h _ = Unit {0}
