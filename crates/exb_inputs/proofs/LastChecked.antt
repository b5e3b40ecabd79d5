-- At which port checking ends, and what was opened by then.
use Rattle.std.proofs.Common.{◌≡◌, ◌<◌, ◌≤◌, ◌+◌, ℕ, List, Some, ap, arith}
use Rattle.std.specs.Prelude.{is_some}
use Rattle.exb_shelf.specs.Files.{Files}
use Rattle.exb_shelf.specs.Shelf.{Id, IsReadingOf, Opens}
use Rattle.exb_shelf.proofs.IdLemmas.{opens_then, opens_weaker}
use Rattle.exb_topology_tables.specs.declared.elements.Named.{Named}
use Rattle.exb_inputs.specs.declared.fault.Fault.{Fault}
use Rattle.exb_inputs.specs.declared.fault.Fault.TheVariants.{Capture}
use Rattle.exb_inputs.specs.declared.fault.InputFlaw.{InputFlaw}
use Rattle.exb_inputs.specs.CaptureChecks.{IsGoodNamed}
use Rattle.exb_inputs.specs.Inputs.{name_of}
use Rattle.exb_inputs.specs.ShelfEffects.{EndsAt, ReadsBelow, ReadsCapture}

pub below_any : (names : List Named) (n : ℕ) (i : Id) → ReadsBelow names n i → ReadsCapture names i
below_any names n i r = record { port = r.port; name = r.name; named = r.named; reads = r.reads }

pub below_higher : (names : List Named) (n m : ℕ) → n ≤ m → (i : Id) → ReadsBelow names n i → ReadsBelow names m i
below_higher names n m low i r = record { port = r.port; below = let l = r.below in omega arith; name = r.name; named = r.named; reads = r.reads }

pub opened_any : (names : List Named) (n : ℕ) (a b : ℕ → Id) → Opens (ReadsBelow names n) a b → Opens (ReadsCapture names) a b
opened_any names n a b opens = opens_weaker (ReadsBelow names n) (ReadsCapture names) a b (below_any names n) opens

pub opened_higher : (names : List Named) (n m : ℕ) (a b : ℕ → Id) → n ≤ m → Opens (ReadsBelow names n) a b → Opens (ReadsBelow names m) a b
opened_higher names n m a b low opens = opens_weaker (ReadsBelow names n) (ReadsBelow names m) a b (below_higher names n m low) opens

-- the capture of a port is opened after those below it
pub opened_next : (names : List Named) (n : ℕ) (name : List ℕ) (a b c : ℕ → Id) → name_of names n ≡ Some name → Opens (ReadsBelow names n) a b → Opens (IsReadingOf name) b c → Opens (ReadsBelow names (n + 1)) a c
opened_next names n name a b c named before opens =
    opens_then (ReadsBelow names (n + 1)) a b c (opened_higher names n (n + 1) a b (omega arith) before)
    (opens_weaker (IsReadingOf name) (ReadsBelow names (n + 1)) b c (λ i reads. record { port = n; below = omega arith; name = name; named = named; reads = reads }) opens)

pub ends_at : (tells : Type 0) (names : List Named) (file : Files) (n : ℕ) (name : List ℕ) (a b c : ℕ → Id) (fault : Fault) → name_of names n ≡ Some name → Opens (ReadsBelow names n) a b → Opens (IsReadingOf name) b c
    → (tells → (q : ℕ) → q < n → IsGoodNamed (name_of names q) file) → ((q : ℕ) (flaw : InputFlaw) → fault ≡ Capture q flaw → q ≡ n) → EndsAt tells names file a c fault
ends_at tells names file n name a b c fault named before opens good own = record {
  port = n;
  own = λ q flaw e. (own q flaw e, ap is_some named);
  before = good;
  opened = opened_next names n name a b c named before opens;
}
