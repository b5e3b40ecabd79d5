-- What a call counts, count by count.
use Rattle.std.proofs.Common.{◌≡◌, refl}
use Rattle.std.specs.Prelude.{Result, Ok, Err, IsErrOf}
use Rattle.exb_shelf.specs.declared.shelf.OpenFault.{OpenFault}
use Rattle.exb_shelf.specs.declared.shelf.OpenFault.TheVariants as open_fault
use Rattle.exb_shelf.specs.declared.shelf.ShelfFault.{ShelfFault}
use Rattle.exb_shelf.specs.declared.shelf.ShelfFault.TheVariants as shelf_fault
use Rattle.exb_shelf.specs.Shelf.{Faults}
use Rattle.exb_shelf.specs.FaultCounts.{after_open, after_read, after_write}

-- a call to open that doesn't fail counts no failure to read
pub open_reads : {X : Type 0} (r : Result X OpenFault) (old new : Faults) → new ≡ after_open r old → ¬ IsErrOf r open_fault.Failed → new.reads ≡ old.reads
open_reads (Ok x) old new is fails = cc
open_reads (Err open_fault.Missing) old new is fails = cc
open_reads (Err open_fault.Failed) old new is fails = absurd (fails refl)
open_reads (Err open_fault.Memory) old new is fails = cc

-- and never one to write
pub open_writes : {X : Type 0} (r : Result X OpenFault) (old new : Faults) → new ≡ after_open r old → new.writes ≡ old.writes
open_writes (Ok x) old new is = cc
open_writes (Err open_fault.Missing) old new is = cc
open_writes (Err open_fault.Failed) old new is = cc
open_writes (Err open_fault.Memory) old new is = cc

-- a call to read that doesn't fail counts no failure to read
pub read_reads : {X : Type 0} (r : Result X ShelfFault) (old new : Faults) → new ≡ after_read r old → ¬ IsErrOf r shelf_fault.Failed → new.reads ≡ old.reads
read_reads (Ok x) old new is fails = cc
read_reads (Err shelf_fault.Failed) old new is fails = absurd (fails refl)
read_reads (Err shelf_fault.Memory) old new is fails = cc

-- and never one to write
pub read_writes : {X : Type 0} (r : Result X ShelfFault) (old new : Faults) → new ≡ after_read r old → new.writes ≡ old.writes
read_writes (Ok x) old new is = cc
read_writes (Err shelf_fault.Failed) old new is = cc
read_writes (Err shelf_fault.Memory) old new is = cc

-- a call to make or to write that doesn't fail counts no failure to write
pub write_writes : {X : Type 0} (r : Result X ShelfFault) (old new : Faults) → new ≡ after_write r old → ¬ IsErrOf r shelf_fault.Failed → new.writes ≡ old.writes
write_writes (Ok x) old new is fails = cc
write_writes (Err shelf_fault.Failed) old new is fails = absurd (fails refl)
write_writes (Err shelf_fault.Memory) old new is fails = cc

-- and never one to read
pub write_reads : {X : Type 0} (r : Result X ShelfFault) (old new : Faults) → new ≡ after_write r old → new.reads ≡ old.reads
write_reads (Ok x) old new is = cc
write_reads (Err shelf_fault.Failed) old new is = cc
write_reads (Err shelf_fault.Memory) old new is = cc
