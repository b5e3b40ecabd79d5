-- What a call counts, by its answer: each fault of the shelf once, and nothing else.
use Rattle.std.specs.Prelude.{◌≡◌, ◌⊎◌, Result, Ok, Err}
use Rattle.exb_shelf.specs.FaultCounts.{missing_more, reads_more, writes_more}
use Rattle.exb_shelf.specs.Shelf.{Faults}
use Rattle.exb_inputs.specs.declared.fault.Fault.{Fault}
use Rattle.exb_inputs.specs.declared.fault.Fault.TheVariants.{Missing, Changed, MemberChanged, Read, Write, Memory}

-- A fault of the shelf was counted once, and no other. Memory may run out while the fault of a missing file is made,
-- and a capture that is missing when it is opened again is another one.
abbrev pub CountsFault : Fault → Faults → Faults → Type 0
CountsFault (Missing name) old new = new ≡ missing_more old
CountsFault Read old new = new ≡ reads_more old
CountsFault Write old new = new ≡ writes_more old
CountsFault Memory old new = (new ≡ old) ⊎ (new ≡ missing_more old)
CountsFault (Changed p at) old new = (new ≡ old) ⊎ (new ≡ missing_more old)
CountsFault (MemberChanged name p at) old new = (new ≡ old) ⊎ (new ≡ missing_more old)
CountsFault _ old new = new ≡ old

-- the same by the answer: where a call does its work nothing was counted
abbrev pub CountsOnce : {X : Type 0} → Result X Fault → Faults → Faults → Type 0
CountsOnce (Ok x) old new = new ≡ old
CountsOnce (Err fault) old new = CountsFault fault old new
