-- What an output capture can hold, and what it keeps of it.
use Rattle.std.specs.Prelude.{◌*◌, ◌/◌, ◌<◌, ◌≤◌, ◌^◌, length}
use Rattle.exb_model.specs.FlatBridge.{Sent}
use Rattle.exb_model.specs.Input.{Record}

-- the moment is below 2^32 seconds, and the frame has at most 262,144 bytes
pub record CanBeWritten (sent : Sent) : Type 0 where
  pub moment : sent.0 < 2 ^ 32 * 1_000_000_000
  pub bytes : length sent.1 ≤ 262_144

-- the moment cut down to whole microseconds
abbrev pub in_microseconds : Sent → Record
in_microseconds (moment, bytes) = record { time = moment / 1_000 * 1_000; bytes = bytes }
