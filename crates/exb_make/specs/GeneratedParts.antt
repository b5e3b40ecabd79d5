-- What is made, as it is kept.
use Rattle.std.specs.Prelude.{◌≡◌, ℕ, ◌*◌, ◌/◌, ◌<◌, ◌≤◌, ◌^◌, ◌==◌, List, true, map, filter, length, Result, IsOk}
use Rattle.exb_model.specs.Input.{Record}
use Rattle.exb_model.specs.FlatBridge.{Sent}
use Rattle.exb_model.specs.Tree.{Shape, is_external}
use Rattle.exb_capture.specs.declared.fault.FormatFault.{FormatFault}
use Rattle.exb_capture.specs.Captures.{capture_records}
use Rattle.exb_make.specs.declared.frames.TimedFrame.{TimedFrame}
use Rattle.exb_make.specs.declared.captures.GeneratedCapture.{GeneratedCapture}
use Rattle.exb_make.specs.declared.generated_input.DrawnParts.{DrawnParts as Kept}
use Rattle.exb_make.specs.DrawOrder.{Frame}
use Rattle.exb_make.specs.GeneratedInputs.{Drawn}

abbrev pub frame_of : TimedFrame → Frame
frame_of a = record { port = a.port; record_there = record { time = a.moment; bytes = a.bytes.items } }

-- as a capture holds it
abbrev pub sent_of : Frame → Sent
sent_of f = (f.record_there.time, f.record_there.bytes)

-- what arrives at a port
unfoldable pub sent_at : List Frame → ℕ → List Sent
sent_at fs q = map sent_of (filter (λ f. f.port == q) fs)

-- a capture can hold it, nothing of its time is lost, and it is short
pub record IsPlayable (f : Frame) : Type 0 where
  pub moment : f.record_there.time < 2 ^ 32 * 1_000_000_000
  pub whole : f.record_there.time / 1_000 * 1_000 ≡ f.record_there.time
  pub bytes : length f.record_there.bytes ≤ 64

-- a port, and what a reader gives of its capture
abbrev pub read_of : GeneratedCapture → ℕ × Result (List Record) FormatFault
read_of c = (c.port, capture_records c.file.items)

-- what was drawn
abbrev pub drawn_of : Kept → Drawn
drawn_of d = record { start = d.start; commands = d.commands; frames = map frame_of d.arrived.items }

-- its port is external
abbrev pub IsAtExternal : Shape → GeneratedCapture → Type 0
IsAtExternal t c = is_external t c.port ≡ true

-- a reader finds no fault in it
abbrev pub IsWhole : GeneratedCapture → Type 0
IsWhole c = IsOk (capture_records c.file.items)
