-- What calls that read a capture count at the shelf: a file that is missing, and a read that failed, each once and
-- where it is the answer.
use Rattle.std.specs.Prelude.{Result, Ok, Err}
use Rattle.exb_shelf.specs.Shelf.{Faults}
use Rattle.exb_shelf.specs.FaultCounts.{missing_more, reads_more}
use Rattle.exb_capture.specs.declared.capture_file.Halt.{Halt}
use Rattle.exb_capture.specs.declared.capture_file.Halt.TheVariants as halt
use Rattle.exb_capture.specs.declared.scans.ScanFault.{ScanFault}
use Rattle.exb_capture.specs.declared.scans.ScanFault.TheVariants as scan
use Rattle.exb_capture.specs.declared.replay.ReplayFault.{ReplayFault}
use Rattle.exb_capture.specs.declared.replay.ReplayFault.TheVariants as replay

-- ---- the counts after a call, by its answer
-- where it isn't read on
abbrev pub after_halt : Halt → Faults → Faults
after_halt halt.Memory f = f
after_halt halt.Failed f = reads_more f
after_halt (halt.Broken fault) f = f
after_halt halt.Large f = f

-- to look what comes next
abbrev pub after_looking : {X : Type 0} → Result X Halt → Faults → Faults
after_looking (Ok x) f = f
after_looking (Err why) f = after_halt why f

-- to check a capture from front to end
abbrev pub after_scan : {X : Type 0} → Result X ScanFault → Faults → Faults
after_scan (Ok x) f = f
after_scan (Err scan.Memory) f = f
after_scan (Err scan.Missing) f = missing_more f
after_scan (Err scan.Read) f = reads_more f
after_scan (Err (scan.Fault fault)) f = f
after_scan (Err (scan.Large limit)) f = f

-- to open a capture again: it has changed only where it is missing
abbrev pub after_opening : {X : Type 0} → Result X ReplayFault → Faults → Faults
after_opening (Ok x) f = f
after_opening (Err replay.Memory) f = f
after_opening (Err replay.Read) f = reads_more f
after_opening (Err (replay.Changed at)) f = missing_more f

-- where it isn't read again
abbrev pub after_fault : ReplayFault → Faults → Faults
after_fault replay.Memory f = f
after_fault replay.Read f = reads_more f
after_fault (replay.Changed at) f = f

-- to read it again
abbrev pub after_replay : {X : Type 0} → Result X ReplayFault → Faults → Faults
after_replay (Ok x) f = f
after_replay (Err why) f = after_fault why f
