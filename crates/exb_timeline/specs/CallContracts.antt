-- What each call promises that takes what comes next, or opens a capture again, clause by clause: on a shelf that told
-- its files or not, with these files, ids and counts before the call and those after it.
use Rattle.std.specs.Prelude.{◌≡◌, ◌+◌, ◌≤◌, ℕ, true, false, List, [], ◌∷◌, ◌++◌, length, Option, Some, None, Result, Ok, IfOk, OnOk, IsErrOf, IfSome, IfNone}
use Rattle.exb_model.specs.Input.{Record, moment_of, second_of}
use Rattle.exb_shelf.specs.Files.{Files, SameFiles}
use Rattle.exb_shelf.specs.Shelf.{Faults, Id, IsReadingOf, NoFewer, Opens, Rose}
use Rattle.exb_capture.specs.declared.scans.Scanned.{Scanned}
use Rattle.exb_capture.specs.Captures.{capture_records}
use Rattle.exb_capture.specs.Scans.{scanned_of}
use Rattle.exb_timeline.specs.declared.bridge_timeline.Next.{Next}
use Rattle.exb_timeline.specs.declared.bridge_timeline.Timeline.{Timeline}
use Rattle.exb_model.specs.declared.arrival.Arrival.{Arrival}
use Rattle.exb_timeline.specs.declared.capture_merge.CaptureFault.{CaptureFault}
use Rattle.exb_timeline.specs.declared.capture_merge.CaptureFault.TheVariants.{Read, Changed}
use Rattle.exb_timeline.specs.declared.capture_merge.CaptureMerge.{CaptureMerge}
use Rattle.exb_timeline.specs.MergeOrder.{begins_in, comes_first, commands_left, first_moment, still_to_come}
use Rattle.exb_timeline.specs.FaultCounts.{CountsAgain}
use Rattle.exb_timeline.specs.Timelines.{IsComing, IsProgramme, IsSoonest, IsTakenOf, moment_in, played_with, what}
use Rattle.exb_timeline.specs.CaptureMerges.{AreOpened, AreReplays, AreToldSince, ComesFirst, HasCome, HasPort, IsEarliest, IsWithin, NoneIsBefore, ReadsOn, ids_in, left_in, standings}
use Rattle.exb_timeline.specs.Streams.{Stream, stream_of, to_come}

-- it opens the capture of a port again, of which this was told, and puts it behind those so far
pub record AddsCapture {X : Type 0} (tells : Type 0) (were are : Files) (had has : ℕ → Id) (f g : Faults) (mine : ℕ)
    (name : List ℕ) (told : Scanned) (old new : CaptureMerge) (result : Result X CaptureFault) : Type 0 where
  pub opened : OnOk result (AreOpened has new)
  pub standings : OnOk result (standings new ≡ standings old ++ record { port = mine; index = 1; least = 0 } ∷ [])
  pub left : OnOk result (left_in new ≤ left_in old + told.bytes + 1)
  pub since : (second : ℕ) → IfSome told.first (λ first. second ≤ second_of first) → AreToldSince second old
      → OnOk result (AreToldSince second new)
  -- Where the files are told.
  pub streams : tells → OnOk result ((bytes : List ℕ) (records : List Record) (streams : List Stream)
      → were name ≡ Some bytes → capture_records bytes ≡ Ok records → told ≡ scanned_of bytes records
      → AreReplays were had old.sources.items streams
      → AreReplays are has new.sources.items (streams ++ stream_of mine records ∷ []))
  pub never : tells → (p at : ℕ) → IsErrOf result (Changed p at) → (bytes : List ℕ) (records : List Record)
      → were name ≡ Some bytes → capture_records bytes ≡ Ok records → told ≡ scanned_of bytes records → ⊥
  -- What is opened, and what stays.
  pub id : OnOk result ((id : ℕ) × (ids_in new ≡ ids_in old ++ id ∷ []) × ((had id).given ≡ false))
  pub opens : Opens (IsReadingOf name) had has
  pub files : SameFiles were are
  pub port_is : (p at : ℕ) → IsErrOf result (Changed p at) → p ≡ mine
  pub place : (p at : ℕ) → IsErrOf result (Changed p at) → at ≤ told.bytes + 1
  pub counts : CountsAgain result f g
  pub faults : NoFewer f g
  pub failed : IsErrOf result Read → Rose f.reads g.reads

-- it takes the record that comes next of some captures
pub record TakesRecord (tells : Type 0) (were are : Files) (had has : ℕ → Id) (f g : Faults) (old new : CaptureMerge)
    (result : Result (Option Arrival) CaptureFault) : Type 0 where
  pub opened : OnOk result (AreOpened has new)
  -- Whatever the files hold.
  pub come : IfOk result (λ next. IfSome next (λ c. HasCome (standings old) c (standings new)))
  pub earliest : IfOk result (λ next. IfSome next (λ c. IsEarliest (Some c.moment) old))
  pub rises : IfOk result (λ next. IfSome next (λ c. NoneIsBefore c.moment new))
  pub since : (second : ℕ) → AreToldSince second old
      → IfOk result (λ next. IfSome next (λ c. second ≤ second_of c.moment))
  pub told : (second : ℕ) → AreToldSince second old → OnOk result (AreToldSince second new)
  pub left : IfOk result (λ next. IfSome next (λ c. left_in new + 16 ≤ left_in old))
  pub end : IfOk result (λ next. IfNone next (IsEarliest None old))
  pub same : IfOk result (λ next. IfNone next (standings new ≡ standings old))
  -- Where the files are told.
  pub order : tells → IfOk result (λ next. (streams : List Stream) → AreReplays were had old.sources.items streams
      → ComesFirst streams next (λ rest. AreReplays are has new.sources.items rest))
  pub never : tells → (p at : ℕ) → IsErrOf result (Changed p at) → (streams : List Stream)
      → AreReplays were had old.sources.items streams → ⊥
  -- What is read, and what stays.
  pub ids : OnOk result (ids_in new ≡ ids_in old)
  pub reads : ReadsOn (ids_in old) had has
  pub files : SameFiles were are
  pub port : (p at : ℕ) → IsErrOf result (Changed p at) → HasPort p (standings old)
  pub place : (p at : ℕ) → IsErrOf result (Changed p at) → IsWithin p at old.sources.items
  pub counts : CountsAgain result f g
  pub faults : NoFewer f g
  pub failed : IsErrOf result Read → Rose f.reads g.reads

-- it takes the next command, which comes first
pub record TakesCommand (old : Timeline) (result : Next) (new : Timeline) : Type 0 where
  pub programme : (ids : ℕ → Id) → IsProgramme ids old → IsProgramme ids new
  pub captures : new.captures ≡ old.captures
  pub coming : IsComing old result new
  pub moment : first_moment (commands_left (played_with [] old)) ≡ Some (moment_of (what result))
  pub order : (streams : List Stream) → comes_first (first_moment (commands_left (played_with [] old)))
      (first_moment (to_come streams)) ≡ true
      → still_to_come (played_with streams old) ≡ what result ∷ still_to_come (played_with streams new)

-- it takes what comes next of commands and captures
pub record TakesNext (tells : Type 0) (were are : Files) (had has : ℕ → Id) (f g : Faults) (old new : Timeline)
    (result : Result (Option Next) CaptureFault) : Type 0 where
  pub programme : OnOk result (IsProgramme has new)
  pub coming : IfOk result (λ next. IfSome next (λ d. IsComing old d new))
  pub soonest : IfOk result (λ next. IsSoonest (moment_in next) old)
  pub end : IfOk result (λ next. IfNone next ((old.taken ≡ length old.commands.now) × IsEarliest None old.captures))
  -- Where the files are told.
  pub order : tells → IfOk result (λ next. IfSome next (λ d. IsTakenOf were are had has old d new))
  pub nothing : tells → IfOk result (λ next. IfNone next ((streams : List Stream)
      → AreReplays were had old.captures.sources.items streams
      → still_to_come (played_with streams old) ≡ []))
  pub never : tells → (p at : ℕ) → IsErrOf result (Changed p at) → (streams : List Stream)
      → AreReplays were had old.captures.sources.items streams → ⊥
  -- What is read, and what stays.
  pub reads : ReadsOn (ids_in old.captures) had has
  pub files : SameFiles were are
  pub port : (p at : ℕ) → IsErrOf result (Changed p at) → HasPort p (standings old.captures)
  pub place : (p at : ℕ) → IsErrOf result (Changed p at) → IsWithin p at old.captures.sources.items
  pub counts : CountsAgain result f g
  pub faults : NoFewer f g
  pub failed : IsErrOf result Read → Rose f.reads g.reads

-- it takes what comes next where it is of this second, and else changes nothing
pub record TakesWithin (second : ℕ) (tells : Type 0) (were are : Files) (had has : ℕ → Id) (f g : Faults)
    (old new : Timeline) (result : Result (Option Next) CaptureFault) : Type 0 where
  pub programme : OnOk result (IsProgramme has new)
  pub coming : IfOk result (λ next. IfSome next (λ d. IsComing old d new))
  pub within : IfOk result (λ next. IfSome next (λ d. second_of (moment_of (what d)) ≡ second))
  pub same : IfOk result (λ next. IfNone next (new ≡ old))
  -- Where the files are told.
  pub order : tells → IfOk result (λ next. IfSome next (λ d. IsTakenOf were are had has old d new))
  pub other : tells → IfOk result (λ next. IfNone next ((streams : List Stream)
      → AreReplays were had old.captures.sources.items streams
      → begins_in second (still_to_come (played_with streams old)) ≡ false))
  pub never : tells → (p at : ℕ) → IsErrOf result (Changed p at) → (streams : List Stream)
      → AreReplays were had old.captures.sources.items streams → ⊥
  -- What is read, and what stays.
  pub reads : ReadsOn (ids_in old.captures) had has
  pub files : SameFiles were are
  pub port : (p at : ℕ) → IsErrOf result (Changed p at) → HasPort p (standings old.captures)
  pub place : (p at : ℕ) → IsErrOf result (Changed p at) → IsWithin p at old.captures.sources.items
  pub counts : CountsAgain result f g
  pub faults : NoFewer f g
  pub failed : IsErrOf result Read → Rose f.reads g.reads
