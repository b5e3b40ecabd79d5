-- The steps of the world.
use Rattle.std.specs.Prelude.{ℕ, ◌+◌, nat_lt, Bool, if◌then◌else◌, List, [], ◌∷◌, ◌++◌, Option, Some, None, slice_get, filter, map}
use Rattle.std.specs.List.{range_with_len}
use Rattle.exb_model.specs.declared.event.Event.{Event}
use Rattle.exb_model.specs.declared.event.Event.TheVariants as event
use Rattle.exb_model.specs.Tree.{Shape, device, on, is_extender, port_number}
use Rattle.exb_model.specs.Setup.{Limits}
use Rattle.exb_model.specs.declared.arrival.Arrival.{Arrival}
use Rattle.exb_extender.specs.declared.sends.Side.TheVariants as side
use Rattle.exb_extender.specs.Machine.{Beats}
use Rattle.exb_link.specs.declared.link_frame.LinkFrame.{LinkFrame}
use Rattle.exb_link.specs.LinkFrames.{is_control, is_data, without_data, without_control}
use Rattle.exb_learn.specs.Calls.{Tick as Ticks, after_call}
use Rattle.exb_control_spec.specs.Decisions.{decide}
use Rattle.exb_control_spec.specs.Machine.{ordered}
use Rattle.exb_world_spec.specs.Worlds.{World, Way, Up, Down, Step, Arrive, Carry, Control, Lose, Beat, Tick, Order, Mark, Left, Line, In, BridgeIn, BeatLine, Journal, with_table, with_down, with_up, next_beat}
use Rattle.exb_model.specs.Tables.{at}
use Rattle.exb_world_spec.specs.Effects.{Effect, only, then_do, each}
use Rattle.exb_world_spec.specs.ExtenderSteps.{reacts, takes_from_above, takes_from_below, arrives_at}
use Rattle.exb_world_spec.specs.ControlFrames.{moves, beats_near, beats_control}
use Rattle.exb_world_spec.specs.DataFrames.{comes, bridge_takes}

-- ---- words
abbrev pub words_on : ℕ → Way → World → List LinkFrame
words_on n Up w = w.up n
words_on n Down w = w.down n

abbrev pub with_words : ℕ → Way → List LinkFrame → World → World
with_words n Up ws w = with_up n ws w
with_words n Down ws w = with_down n ws w

-- a word that comes up from extender n is taken by the device on which it hangs
abbrev pub takes_up : Shape → Limits → ℕ → LinkFrame → World → Effect
takes_up t l n x w =
    if nat_lt (on t n) 64 then bridge_takes t l (on t n) n x w
    else takes_from_below t (device (on t n)) (port_number (on t n)) x w

abbrev pub takes : Shape → Limits → ℕ → Way → LinkFrame → World → Effect
takes t l n Up x w = takes_up t l n x w
takes t l n Down x w = takes_from_above t n x w

-- a word that may be there is taken, and these stay on the link
abbrev pub takes_any : Shape → Limits → ℕ → Way → Option LinkFrame → List LinkFrame → World → Effect
takes_any t l n way None rest w = only w
takes_any t l n way (Some x) rest w = takes t l n way x (with_words n way rest w)

abbrev pub first_data : List LinkFrame → Option LinkFrame
first_data ws = slice_get (filter is_data ws) 0

abbrev pub control_at : List LinkFrame → ℕ → Option LinkFrame
control_at ws k = slice_get (filter is_control ws) k

-- what stays of a control word that is delivered
abbrev pub rest_of : Bool → List LinkFrame → ℕ → List LinkFrame
rest_of keep ws k = if keep then ws else without_control ws k

-- ---- arrivals
abbrev pub counted : Arrival → World → World
counted a w = record w { next = at a.port (w.next a.port + 1) w.next }

abbrev pub arrives : Shape → Arrival → World → Effect
arrives t a w = if nat_lt a.port 64 then comes t a (counted a w) else arrives_at t a (counted a w)

-- ---- beats
abbrev pub if_there : Shape → (ℕ → World → Effect) → ℕ → World → Effect
if_there t f n w = if is_extender t n then f n w else only w

abbrev pub all_extenders : List ℕ
all_extenders = range_with_len 1 64

-- the bridge's ends by extender, then the control, then the extenders
unfoldable pub beats_all : Shape → World → Effect
beats_all t w =
    then_do
    (then_do (each (if_there t (beats_near t)) all_extenders (record w { beats = next_beat w.beats }))
    (beats_control t))
    (each (if_there t (λ n. reacts t n None Beats)) all_extenders)

-- ---- a step
abbrev pub done_by : Shape → Limits → Step → World → Effect
done_by t l (Arrive a) w = arrives t a w
done_by t l (Carry n way) w = takes_any t l n way (first_data (words_on n way w)) (without_data (words_on n way w)) w
done_by t l (Control n way k keep) w = takes_any t l n way (control_at (words_on n way w) k)
    (rest_of keep (words_on n way w) k) w
done_by t l (Lose n way k) w = only (with_words n way (without_control (words_on n way w) k) w)
done_by t l Beat w = beats_all t w
done_by t l (Tick seconds) w = record (only (with_table (after_call (Ticks seconds) w.table) w))
    { events = event.Tick seconds ∷ [] }
done_by t l (Order c) w = moves t (ordered (decide t l) c w.control) w
done_by t l Mark w = record (only w) { events = event.Settled ∷ [] }

-- ---- the trace
-- the line of a frame that comes in by a port
abbrev pub line_at : ℕ → List ℕ → Line
line_at p bytes = if nat_lt p 64 then BridgeIn (p + 1) bytes else In (device p) (side.Port (port_number p)) bytes

abbrev pub line_of : Shape → ℕ → Way → List ℕ → Line
line_of t n Up bytes = line_at (on t n) bytes
line_of t n Down bytes = In n side.Up bytes

abbrev pub line_of_any : Shape → ℕ → Way → Option LinkFrame → List Line
line_of_any t n way None = []
line_of_any t n way (Some x) = line_of t n way x.bytes ∷ []

abbrev pub lines_in : Shape → Step → World → List Line
lines_in t (Arrive a) w = line_at a.port a.bytes ∷ []
lines_in t (Carry n way) w = line_of_any t n way (first_data (words_on n way w))
lines_in t (Control n way k keep) w = line_of_any t n way (control_at (words_on n way w) k)
lines_in t Beat w = BeatLine ∷ []
lines_in t _ w = []

-- what comes in, then the journal, then what goes out
abbrev pub lines_by : List Line → Effect → List Line
lines_by ins e = ins ++ map Journal e.events ++ e.outs

-- what a step makes of the world, and what it tells
pub record Stepped : Type 0 where
  pub world : World
  pub events : List Event
  pub passed : List Bool
  pub left : List Left
  pub lines : List Line

unfoldable pub stepped : Shape → Limits → Step → World → Stepped
stepped t l step w =
    record {
      world = (done_by t l step w).world;
      events = (done_by t l step w).events;
      passed = (done_by t l step w).passed;
      left = (done_by t l step w).left;
      lines = lines_by (lines_in t step w) (done_by t l step w);
    }
