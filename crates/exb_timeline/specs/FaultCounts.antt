-- What reading captures again counts at the shelf.
use Rattle.std.specs.Prelude.{◌≡◌, ◌⊎◌, Result, Ok, Err}
use Rattle.exb_shelf.specs.Shelf.{Faults}
use Rattle.exb_shelf.specs.FaultCounts.{missing_more, reads_more}
use Rattle.exb_timeline.specs.declared.net_timeline.BridgeFault.{BridgeFault}
use Rattle.exb_timeline.specs.declared.capture_merge.CaptureFault.{CaptureFault}
use Rattle.exb_timeline.specs.declared.capture_merge.CaptureFault.TheVariants.{Memory, Read, Changed}

-- The counts before and after a fault: a read that failed is counted, once. A capture that has changed may be a file
-- that is missing, which is counted.
abbrev pub CountsFault : CaptureFault → Faults → Faults → Type 0
CountsFault Memory old new = new ≡ old
CountsFault Read old new = new ≡ reads_more old
CountsFault (Changed p at) old new = (new ≡ old) ⊎ (new ≡ missing_more old)

-- the counts before and after a call, by its answer
abbrev pub CountsAgain : {X : Type 0} → Result X CaptureFault → Faults → Faults → Type 0
CountsAgain (Ok x) old new = new ≡ old
CountsAgain (Err fault) old new = CountsFault fault old new

-- and where several bridges have captures
abbrev pub CountsNext : {X : Type 0} → Result X BridgeFault → Faults → Faults → Type 0
CountsNext (Ok x) old new = new ≡ old
CountsNext (Err fault) old new = CountsFault fault.fault old new
