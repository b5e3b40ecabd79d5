-- What an `Ecp` is, by its fields.
use Rattle.std.specs.Prelude.{ℕ, ◌<◌, ◌≤◌, List, length, Option, Some, None}
use Rattle.std.specs.Option.{ForSome}
use Rattle.exb_ecp.specs.declared.stop_and_wait.Ecp.TheInside.{Inside}
use Rattle.exb_ecp.specs.StopAndWait.{Sending, State, after}

abbrev pub sending_of : ℕ → List ℕ → Option ℕ → Option Sending
sending_of latest payload None = None
sending_of latest payload (Some beats) = Some (record { sequence = latest; beats = beats; payload = payload })

abbrev pub state_of : Inside → State
state_of e = record {
  next = after e.latest;
  sending = sending_of e.latest e.payload.items e.beats;
  received = e.received;
}

-- what holds of the fields
pub record IsKept (e : Inside) : Type 0 where
  pub latest : e.latest < 65536
  pub beats : ForSome e.beats (λ n. n < 12)
  pub payload : length e.payload.items ≤ 1024
  pub received : ForSome e.received (λ r. r < 65536)
