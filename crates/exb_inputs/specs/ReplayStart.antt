-- Captures that were checked, at their first records: where each stands, what is still to come of it, and when commands
-- begin.
use Rattle.std.specs.Prelude.{◌≤◌, ℕ, List, [], ◌∷◌, All, filter_map, IfSome, min, option_map, Option, Some, None}
use Rattle.exb_model.specs.Input.{least_or, second_of}
use Rattle.exb_timeline.specs.CaptureMerges.{Standing}
use Rattle.exb_timeline.specs.Streams.{Stream, stream_of}
use Rattle.exb_shelf.specs.Files.{Files}
use Rattle.exb_topology_tables.specs.declared.elements.Named.{Named}
use Rattle.exb_inputs.specs.declared.captures.CheckedCapture.{CheckedCapture}
use Rattle.exb_inputs.specs.Inputs.{records_at}

-- the whole seconds of the first records of some captures, of those that have any
abbrev pub seconds_told : List CheckedCapture → List ℕ
seconds_told checked = filter_map (λ (c : CheckedCapture). option_map second_of c.told.first) checked

-- The second from which commands count: the least of them, or 0. It is that of the input, since the moments of a port
-- never fall.
abbrev pub start_told : List CheckedCapture → ℕ
start_told checked = least_or 0 (seconds_told checked)

-- no first record was told before this second
abbrev pub AreSince : ℕ → List CheckedCapture → Type 0
AreSince second checked = All (λ c. IfSome c.told.first (λ first. second ≤ second_of first)) checked

-- the least second so far, with that of one capture more
abbrev pub earlier : Option ℕ → Option ℕ → Option ℕ
earlier None told = option_map second_of told
earlier (Some least) None = Some least
earlier (Some least) (Some first) = Some (min least (second_of first))

-- the least second of the first records of some captures, and of those before them, if there is any
abbrev pub earliest_told : Option ℕ → List CheckedCapture → Option ℕ
earliest_told before [] = before
earliest_told before (c ∷ cs) = earliest_told (earlier before c.told.first) cs

-- ---- captures that are opened again
-- where the capture of a port stands before it is read again
abbrev pub first_standing : CheckedCapture → Standing
first_standing c = record { port = c.port; index = 1; least = 0 }

-- what is still to come of it then
abbrev pub stream_told : List Named → Files → CheckedCapture → Stream
stream_told names file c = stream_of c.port (records_at names file c.port)
