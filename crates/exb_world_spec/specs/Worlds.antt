-- The world: the bridge's control and what it has learned, the two ends of the transport between the bridge and each
-- extender, the extenders, and the words on the links. And what a step is, and what it makes happen.
use Rattle.std.specs.Prelude.{ℕ, ◌+◌, ◌-◌, ◌^◌, min, ◌==◌, Bool, if◌then◌else◌, List, [], ◌∷◌, ◌++◌, Option, Some, None, slice_index}
use Rattle.exb_model.specs.declared.command.Command.{Command}
use Rattle.exb_model.specs.declared.event.Event.{Event}
use Rattle.exb_model.specs.Tables.{at}
use Rattle.exb_model.specs.Tree.{Shape}
use Rattle.exb_model.specs.Setup.{Limits}
use Rattle.exb_model.specs.Configuration.{Bridge}
use Rattle.exb_model.specs.FlatBridge.{Sent}
use Rattle.exb_model.specs.declared.arrival.Arrival.{Arrival}
use Rattle.exb_ecp.specs.StopAndWait.{State as Ecp, new_state}
use Rattle.exb_extender.specs.declared.sends.Side.{Side}
use Rattle.exb_extender.specs.Machine.{ExtenderState, at_power_on}
use Rattle.exb_link.specs.declared.link_frame.Stamp.{Stamp}
use Rattle.exb_link.specs.declared.link_frame.LinkFrame.{LinkFrame}
use Rattle.exb_learn.specs.Calls.{Table, empty_table}
use Rattle.exb_control_spec.specs.Machine.{State}
use Rattle.exb_control_spec.specs.InitialState.{first_state}

-- By extender: the bridge's end of the transport, the extender, and the words on its link, down to it and up from
-- it, in order of sending. By port: the index of the next record. And how many beats there were.
pub record World : Type 0 where
  pub control : State
  pub table : Table
  pub near : ℕ → Ecp
  pub far : ℕ → ExtenderState
  pub down : ℕ → List LinkFrame
  pub up : ℕ → List LinkFrame
  pub next : ℕ → ℕ
  pub beats : ℕ

-- as it begins, over a configuration
abbrev pub first_world : Shape → Limits → Bridge → ℕ → World
first_world t l b ageing =
    record {
      control = first_state t l b;
      table = empty_table ageing;
      near = λ n. new_state;
      far = λ n. at_power_on n (slice_index t.ports n);
      down = λ n. [];
      up = λ n. [];
      next = λ p. 1;
      beats = 0;
    }

-- the number of beats, which stays at 2^64 - 1
unfoldable pub next_beat : ℕ → ℕ
next_beat n = min (n + 1) (2 ^ 64 - 1)

-- ---- steps
pub data Way : Type 0 where
  Up : Way
  Down : Way

-- a frame arrives; the first data word of a direction is taken; a control word is delivered, and kept or not; one is
-- lost; a beat; seconds pass; a command is given; a settled world is marked
pub data Step : Type 0 where
  Arrive : (arrival : Arrival) → Step
  Carry : (link : ℕ) (way : Way) → Step
  Control : (link : ℕ) (way : Way) (at : ℕ) (keep : Bool) → Step
  Lose : (link : ℕ) (way : Way) (at : ℕ) → Step
  Beat : Step
  Tick : (seconds : ℕ) → Step
  Order : (command : Command) → Step
  Mark : Step

-- a frame that left a port, with the moment of its record
pub record Left : Type 0 where
  pub port : ℕ
  pub moment : ℕ
  pub bytes : List ℕ

-- what has left a port, of all that has left
abbrev pub left_at : ℕ → List Left → List Sent
left_at q [] = []
left_at q (x ∷ xs) = if x.port == q then (x.moment, x.bytes) ∷ left_at q xs else left_at q xs

-- a line of the trace: a frame that an extender takes from a side, or sends there; one that the bridge takes or sends
-- at a port, counted from 1; a beat; a line of the journal
pub data Line : Type 0 where
  In : (extender : ℕ) (side : Side) (bytes : List ℕ) → Line
  Out : (extender : ℕ) (side : Side) (bytes : List ℕ) → Line
  BridgeIn : (port : ℕ) (bytes : List ℕ) → Line
  BridgeOut : (port : ℕ) (bytes : List ℕ) → Line
  BeatLine : Line
  Journal : (event : Event) → Line

-- ---- parts of a world that change
abbrev pub with_control : State → World → World
with_control s w = record w { control = s }

abbrev pub with_table : Table → World → World
with_table u w = record w { table = u }

abbrev pub with_near : ℕ → Ecp → World → World
with_near n e w = record w { near = at n e w.near }

abbrev pub with_far : ℕ → ExtenderState → World → World
with_far n s w = record w { far = at n s w.far }

abbrev pub with_down : ℕ → List LinkFrame → World → World
with_down n ws w = record w { down = at n ws w.down }

abbrev pub with_up : ℕ → List LinkFrame → World → World
with_up n ws w = record w { up = at n ws w.up }

-- a word is put behind all others
abbrev pub push_down : ℕ → LinkFrame → World → World
push_down n x w = with_down n (w.down n ++ x ∷ []) w

abbrev pub push_up : ℕ → LinkFrame → World → World
push_up n x w = with_up n (w.up n ++ x ∷ []) w

abbrev pub control_word : List ℕ → LinkFrame
control_word f = record { bytes = f; stamp = None }

abbrev pub moment_of : Option Stamp → ℕ
moment_of None = 0
moment_of (Some s) = s.moment
