-- Why a whole file isn't read, by the call that failed.
use Rattle.std.proofs.Common.{◌≡◌, ◌∙◌, ap, refl}
use Rattle.std.specs.Prelude.{ℕ, Vec, Err, IsErrOf}
use Rattle.std.specs.declared.alloc.Global.{Global}
use Rattle.exb_shelf.specs.declared.shelf.OpenFault.{OpenFault}
use Rattle.exb_shelf.specs.declared.shelf.OpenFault.TheVariants as open_fault
use Rattle.exb_shelf.specs.declared.shelf.ShelfFault.{ShelfFault}
use Rattle.exb_shelf.specs.declared.shelf.ShelfFault.TheVariants as shelf_fault
use Rattle.exb_shelf.specs.declared.whole_files.ReadFault.TheVariants as read_fault
use Rattle.exb_shelf.specs.FaultCounts.{after_open, after_read, after_reading}
use Rattle.exb_shelf.specs.ReadFaults.{unopened, unread}
use Rattle.exb_shelf.specs.Shelf.{Faults}

abbrev Bytes : Type 0
Bytes = Vec ℕ Global

-- ---- it can't be opened
pub unopened_missing : (f : OpenFault) → IsErrOf {T = Bytes} (Err (unopened f)) read_fault.Missing → IsErrOf {T = ℕ} (Err f) open_fault.Missing
unopened_missing open_fault.Missing e = refl
unopened_missing open_fault.Failed e = cc
unopened_missing open_fault.Memory e = cc

pub unopened_failed : (f : OpenFault) → IsErrOf {T = Bytes} (Err (unopened f)) read_fault.Failed → IsErrOf {T = ℕ} (Err f) open_fault.Failed
unopened_failed open_fault.Missing e = cc
unopened_failed open_fault.Failed e = refl
unopened_failed open_fault.Memory e = cc

pub unopened_small : (f : OpenFault) → ¬ IsErrOf {T = Bytes} (Err (unopened f)) read_fault.Large
unopened_small open_fault.Missing e = cc
unopened_small open_fault.Failed e = cc
unopened_small open_fault.Memory e = cc

pub unopened_counts : (f : OpenFault) (old new : Faults) → new ≡ after_open {X = ℕ} (Err f) old → new ≡ after_reading {X = Bytes} (Err (unopened f)) old
unopened_counts open_fault.Missing old new e = e
unopened_counts open_fault.Failed old new e = e
unopened_counts open_fault.Memory old new e = e

-- ---- reading fails
pub unread_there : (f : ShelfFault) → ¬ IsErrOf {T = Bytes} (Err (unread f)) read_fault.Missing
unread_there shelf_fault.Failed e = cc
unread_there shelf_fault.Memory e = cc

pub unread_failed : (f : ShelfFault) → IsErrOf {T = Bytes} (Err (unread f)) read_fault.Failed → IsErrOf {T = ℕ} (Err f) shelf_fault.Failed
unread_failed shelf_fault.Failed e = refl
unread_failed shelf_fault.Memory e = cc

pub unread_small : (f : ShelfFault) → ¬ IsErrOf {T = Bytes} (Err (unread f)) read_fault.Large
unread_small shelf_fault.Failed e = cc
unread_small shelf_fault.Memory e = cc

pub unread_counts : (f : ShelfFault) (old mid new : Faults) → mid ≡ old → new ≡ after_read {X = ℕ} (Err f) mid → new ≡ after_reading {X = Bytes} (Err (unread f)) old
unread_counts shelf_fault.Failed old mid new same e = e ∙ ap (after_read {X = ℕ} (Err shelf_fault.Failed)) same
unread_counts shelf_fault.Memory old mid new same e = e ∙ same
