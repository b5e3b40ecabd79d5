-- What is counted where a capture can't be opened or read again, and of which port that is told.
use Rattle.std.proofs.Common.{◌≡◌, ℕ, ◌+◌, ◌≤◌, List, [], ◌∷◌, ◌++◌, map, sym, subst, inl, inr}
use Rattle.std.specs.Prelude.{Err, IsErrOf, Ok}
use Rattle.exb_shelf.specs.Shelf.{Faults}
use Rattle.exb_capture.specs.FaultCounts.{after_fault, after_opening}
use Rattle.exb_capture.specs.declared.replay.Replay.{Replay}
use Rattle.exb_capture.specs.declared.replay.ReplayFault.{ReplayFault}
use Rattle.exb_capture.specs.declared.replay.ReplayFault.TheVariants as replay
use Rattle.exb_timeline.specs.declared.capture_merge.CaptureSource.{CaptureSource}
use Rattle.exb_timeline.specs.declared.capture_merge.CaptureFault.{CaptureFault}
use Rattle.exb_timeline.specs.declared.capture_merge.CaptureFault.TheVariants.{Changed, Memory, Read}
use Rattle.exb_timeline.specs.FaultCounts.{CountsFault}
use Rattle.exb_timeline.specs.CaptureMerges.{HasPort, IsWithin, fault_at, standing_of}
use Rattle.exb_timeline.proofs.SourceTurns.{IsNext}
use Rattle.exb_timeline.proofs.SourcePositions.{has_port}

counts_as : (e f : CaptureFault) (old new : Faults) → e ≡ f → CountsFault f old new → CountsFault e old new
counts_as e f old new is h = subst (λ (x : CaptureFault). CountsFault x old new) (sym is) h

opening_counts : (p : ℕ) (fault : ReplayFault) (old new : Faults) → new ≡ after_opening {X = Replay} (Err fault) old → CountsFault (fault_at p fault) old new
opening_counts p replay.Memory old new h = h
opening_counts p replay.Read old new h = h
opening_counts p (replay.Changed at) old new h = inr h

reading_counts : (p : ℕ) (fault : ReplayFault) (old new : Faults) → new ≡ after_fault fault old → CountsFault (fault_at p fault) old new
reading_counts p replay.Memory old new h = h
reading_counts p replay.Read old new h = h
reading_counts p (replay.Changed at) old new h = inl h

-- where it can't be opened
pub not_opened : (p : ℕ) (fault : ReplayFault) (e : CaptureFault) (old new : Faults) → e ≡ fault_at p fault → new ≡ after_opening {X = Replay} (Err fault) old → CountsFault e old new
not_opened p fault e old new is h = counts_as e (fault_at p fault) old new is (opening_counts p fault old new h)

-- where it can't be read on
pub not_read : (p : ℕ) (fault : ReplayFault) (e : CaptureFault) (old new : Faults) → e ≡ fault_at p fault → new ≡ after_fault fault old → CountsFault e old new
not_read p fault e old new is h = counts_as e (fault_at p fault) old new is (reading_counts p fault old new h)

-- the port that is told
pub port_at : (port p at : ℕ) (fault : ReplayFault) → fault_at port fault ≡ Changed p at → p ≡ port
port_at port p at replay.Memory e = absurd (cc)
port_at port p at replay.Read e = absurd (cc)
port_at port p at (replay.Changed n) e = cc

-- it has a capture
pub turn_port : (xs : List CaptureSource) (m place : ℕ) (s : CaptureSource) → IsNext xs m place s → (p : ℕ) → p ≡ s.port → HasPort p (map standing_of xs)
turn_port xs m place s h p is =
    subst (λ (k : ℕ). HasPort k (map standing_of xs)) (sym is) (subst (λ ys. HasPort s.port (map standing_of ys)) (sym h.at.split) (has_port h.at.before h.at.after s))

within_of : (before after : List CaptureSource) (s : CaptureSource) (p at : ℕ) → s.port ≡ p → at ≤ s.replay.told.bytes + 1 → IsWithin p at (before ++ s ∷ after)
within_of [] after s p at is low = inl (is, low)
within_of (t ∷ before) after s p at is low = inr (within_of before after s p at is low)

-- and the byte lies within it
pub turn_within : (xs : List CaptureSource) (m place : ℕ) (s : CaptureSource) → IsNext xs m place s → (p at : ℕ) → p ≡ s.port → at ≤ s.replay.told.bytes + 1 → IsWithin p at xs
turn_within xs m place s h p at is low = subst (IsWithin p at) (sym h.at.split) (within_of h.at.before h.at.after s p at (sym is) low)

-- ---- an answer is no other one
pub ok_not : {X E : Type 0} (x : X) (fault : E) → IsErrOf (Ok x) fault → ⊥
ok_not x fault e = cc

pub memory_not_changed : {X : Type 0} (p at : ℕ) → IsErrOf {T = X} (Err Memory) (Changed p at) → ⊥
memory_not_changed p at e = cc

pub memory_not_read : {X : Type 0} → IsErrOf {T = X} (Err Memory) Read → ⊥
memory_not_read e = cc
