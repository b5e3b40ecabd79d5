-- The captures of some ports that are read again, each looked at as far as its next record.
use Rattle.std.specs.Prelude.{⊤, ◌≡◌, ◌≢◌, ◌<◌, ◌≤◌, ◌+◌, ◌*◌, ◌^◌, ◌==◌, suc, if◌then◌else◌, ℕ, List, [], ◌∷◌, ◌⊎◌, length, map, sum_by, Option, Some, None, IfSome}
use Rattle.std.specs.List.{AllByRecursion}
use Rattle.exb_model.specs.Input.{Captured, second_of}
use Rattle.exb_shelf.specs.Files.{Files, bytes_of}
use Rattle.exb_shelf.specs.Shelf.{Id, IsReadingOf}
use Rattle.exb_capture.specs.CaptureFiles.{IsAt, left_to_read}
use Rattle.exb_capture.specs.Replays.{IsKept, ComesAt, IsReplaying}
use Rattle.exb_timeline.specs.declared.capture_merge.CaptureSource.{CaptureSource}
use Rattle.exb_capture.specs.declared.replay.ReplayFault.{ReplayFault}
use Rattle.exb_capture.specs.declared.replay.ReplayFault.TheVariants as replay
use Rattle.exb_timeline.specs.declared.capture_merge.CaptureFault.{CaptureFault}
use Rattle.exb_timeline.specs.declared.capture_merge.CaptureFault.TheVariants.{Memory, Read, Changed}
use Rattle.exb_model.specs.declared.arrival.Arrival.{Arrival}
use Rattle.exb_timeline.specs.declared.capture_merge.CaptureMerge.{CaptureMerge}
use Rattle.exb_timeline.specs.Streams.{Stream, to_come}
use Rattle.exb_timeline.specs.Tournaments.{AreTurns}

-- why captures aren't read on, where that of this port isn't
abbrev pub fault_at : ℕ → ReplayFault → CaptureFault
fault_at p replay.Memory = Memory
fault_at p replay.Read = Read
fault_at p (replay.Changed at) = Changed p at

-- ---- what comes next of one capture
-- the moment of its next record, if it has one
abbrev pub next_in : CaptureSource → Option ℕ
next_in s = s.next

-- The capture was opened and looked at: the moment of its next record is kept, where it has one, and its numbers are no
-- more than its bytes.
pub record IsOpened (ids : ℕ → Id) (s : CaptureSource) : Type 0 where
  pub at : IsAt (ids s.replay.file.id) s.replay.file.got
  pub kept : IsKept s.replay
  pub small : s.replay.told.bytes + 2 < 2 ^ 63
  pub first : 1 ≤ s.index
  pub numbers : s.index + left_to_read s.replay.file ≤ s.replay.told.bytes + 2
  pub comes : IfSome s.next (λ m. ComesAt m s.replay)

-- no two of them are of one port or read through one id
abbrev pub Apart : List CaptureSource → Type 0
Apart [] = ⊤
Apart (s ∷ rest) = AllByRecursion (λ t. (t.port ≢ s.port) × (t.replay.file.id ≢ s.replay.file.id)) rest × Apart rest

-- all were opened and looked at, and each that isn't at its end has its turn
pub record AreOpened (ids : ℕ → Id) (r : CaptureMerge) : Type 0 where
  pub each : AllByRecursion (IsOpened ids) r.sources.items
  pub apart : Apart r.sources.items
  pub turns : AreTurns (map next_in r.sources.items) r.turns

-- how many bytes are left of all
abbrev pub left_in : CaptureMerge → ℕ
left_in r = sum_by (λ (s : CaptureSource). left_to_read s.replay.file) r.sources.items

-- the ids through which they read
abbrev pub ids_in : CaptureMerge → List ℕ
ids_in r = map (λ (s : CaptureSource). s.replay.file.id) r.sources.items

-- Only through these ids was read: every other one stands for what it stood for, and these stand for the same files.
pub record ReadsOn (mine : List ℕ) (given ids : ℕ → Id) : Type 0 where
  pub others : (j : ℕ) → AllByRecursion (λ k. j ≢ k) mine → ids j ≡ given j
  pub same : (j : ℕ) (name : List ℕ) → IsReadingOf name (given j) → IsReadingOf name (ids j)

-- ---- what is known whatever the files hold
-- where each capture stands: its port, the number of its next record, and the moment of the one before it
pub record Standing : Type 0 where
  pub port : ℕ
  pub index : ℕ
  pub least : ℕ

abbrev pub standing_of : CaptureSource → Standing
standing_of s = record { port = s.port; index = s.index; least = s.replay.least }

abbrev pub standings : CaptureMerge → List Standing
standings r = map standing_of r.sources.items

-- the number of the next record of a port; 1 where it has no capture
abbrev pub number_of : List Standing → ℕ → ℕ
number_of [] p = 1
number_of (s ∷ rest) p = if s.port == p then s.index else number_of rest p

-- the captures once a record of this port has come at this moment
abbrev pub gone_on : ℕ → ℕ → List Standing → List Standing
gone_on p m [] = []
gone_on p m (s ∷ rest) = if s.port == p then record { port = s.port; index = suc s.index; least = m } ∷ rest else s
    ∷ gone_on p m rest

-- a port has a capture
abbrev pub HasPort : ℕ → List Standing → Type 0
HasPort p [] = ⊥
HasPort p (s ∷ rest) = (s.port ≡ p) ⊎ HasPort p rest

-- a byte lies within what is read of the capture of a port: it is at most one behind the bytes that were told of that
-- capture
abbrev pub IsWithin : ℕ → ℕ → List CaptureSource → Type 0
IsWithin p at [] = ⊥
IsWithin p at (s ∷ rest) = ((s.port ≡ p) × (at ≤ s.replay.told.bytes + 1)) ⊎ IsWithin p at rest

-- A record came: it is the next one of its port, whose moments never fall, and within its limits.
pub record HasCome (old : List Standing) (c : Arrival) (new : List Standing) : Type 0 where
  pub port : HasPort c.port old
  pub number : c.index ≡ number_of old c.port
  pub first : 1 ≤ c.index
  pub numbers : c.index < 2 ^ 63
  pub moment : c.moment < 2 ^ 32 * 1_000_000_000
  pub bytes : length c.bytes ≤ 262_144
  pub gone : new ≡ gone_on c.port c.moment old

-- no first record that was told is before this second
abbrev pub AreToldSince : ℕ → CaptureMerge → Type 0
AreToldSince second r = AllByRecursion (λ (s : CaptureSource).
    IfSome s.replay.told.first (λ first. second ≤ second_of first)) r.sources.items

-- no capture has a next record before this moment
abbrev pub NoneIsBefore : ℕ → CaptureMerge → Type 0
NoneIsBefore m r = AllByRecursion (λ (s : CaptureSource). IfSome s.next (λ k. m ≤ k)) r.sources.items

-- one capture has a next record at this moment
abbrev pub HasNext : ℕ → List CaptureSource → Type 0
HasNext m [] = ⊥
HasNext m (s ∷ rest) = (s.next ≡ Some m) ⊎ HasNext m rest

-- the moment of one capture's next record, before which none of another comes; or no capture has one
abbrev pub IsEarliest : Option ℕ → CaptureMerge → Type 0
IsEarliest None r = AllByRecursion (λ (s : CaptureSource). s.next ≡ None) r.sources.items
IsEarliest (Some m) r = HasNext m r.sources.items × NoneIsBefore m r

-- ---- what is told
-- the file of a capture is the one that was checked, and this is still to come of it
pub record IsReplayOf (files : Files) (ids : ℕ → Id) (s : CaptureSource) (stream : Stream) : Type 0 where
  pub port : stream.port ≡ s.port
  pub index : stream.index ≡ s.index
  pub least : stream.least ≡ s.replay.least
  pub left : IsReplaying (bytes_of (files (ids s.replay.file.id).name)) stream.records s.replay
  pub over : s.next ≡ None → stream.records ≡ []

-- so of all
abbrev pub AreReplays : Files → (ℕ → Id) → List CaptureSource → List Stream → Type 0
AreReplays files ids [] [] = ⊤
AreReplays files ids [] (x ∷ xs) = ⊥
AreReplays files ids (s ∷ ss) [] = ⊥
AreReplays files ids (s ∷ ss) (x ∷ xs) = IsReplayOf files ids s x × AreReplays files ids ss xs

-- what came is the first of what was still to come of these streams, and what is left of them is what is left; or
-- nothing was
abbrev pub ComesFirst : List Stream → Option Arrival → (List Stream → Type 0) → Type 0
ComesFirst streams None Rest = to_come streams ≡ []
ComesFirst streams (Some c) Rest = (rest : List Stream) × (to_come streams ≡ Captured c ∷ to_come rest) × Rest rest
