-- What a run has told after some of the segments of an input: what it leaves where it ends early.
use Rattle.std.specs.Prelude.{◌≡◌, ℕ, true, List, [], ◌++◌, reverse, take}
use Rattle.exb_model.specs.declared.event.Event.{Event}
use Rattle.exb_model.specs.EagerHistory.{opening}
use Rattle.exb_model.specs.FlatBridge.{flat}
use Rattle.exb_model.specs.History.{History, ◌then◌}
use Rattle.exb_model.specs.Input.{Input, Mode, Segment, basis_of, bounds_of, tree_of, arrivals_at, segments}
use Rattle.exb_model.specs.LegalHistory.{EachEvent, IsDecided, IsEntered, IsInOrder, Plays, settled_each}
use Rattle.exb_model.specs.Lists.{Pairwise}
use Rattle.exb_model.specs.Traces.{TraceLine}
use Rattle.exb_model.specs.Tree.{is_external}
use Rattle.exb_world_spec.specs.Steps.{Stepped}
use Rattle.exb_world_spec.specs.TraceLines.{all_told}
use Rattle.exb_trace_spec.specs.JournalLines.{journal_of}
use Rattle.exb_trace_spec.specs.InputFrames.{frames_in, frames_out}
use Rattle.exb_trace_spec.specs.LegalTrace.{LegalTrace}
use Rattle.exb_world_spec.specs.Worlds.{left_at}
use Rattle.exb_world_laws.specs.SegmentRuns.{IsTimely}
use Rattle.exb_world_laws.specs.Runs.SegmentRuns.{PlaysIn}

-- A history of the opening and of these segments, each ended by Settled. Its rules are those of a legal history, which
-- plays all segments of its input.
pub record LegalUpTo (i : Input) (so_far : List Segment) (h : History) : Type 0 where
  pub plays : List (List Event)
  pub segments_in_order : h ≡ (opening (tree_of i) (bounds_of i) (basis_of i) then settled_each plays)
  pub each_played : Pairwise Plays so_far plays
  pub refused_exactly : EachEvent (IsDecided (tree_of i) (bounds_of i) (basis_of i)) h
  pub ports_in_order : (p : ℕ) → IsInOrder (tree_of i) (reverse h) p
  pub relayed_exactly : EachEvent (IsEntered (basis_of i) (arrivals_at i)) h

-- a history of the first segments of an input
pub record IsHistorySoFar (m : Mode) (i : Input) (h : History) : Type 0 where
  pub so_far : List Segment
  pub rest : List Segment
  pub segments_are : segments m i ≡ so_far ++ rest
  pub legal : LegalUpTo i so_far h

-- a legal trace of it: of the frames that have arrived, the first ones of each capture, and of what the one flat bridge
-- has sent
pub record IsTraceSoFar (i : Input) (h : History) (lines : List TraceLine) : Type 0 where
  pub came : ℕ → List (List ℕ)
  pub firsts : (p : ℕ) → is_external (tree_of i) p ≡ true → (n : ℕ) × (came p ≡ take n (frames_in i p))
  pub legal : LegalTrace (tree_of i) (journal_of h) came (frames_out i h) lines

-- Of what was told and has left: the history is one so far, each external port has what the one flat bridge sends there
-- over it, and the lines are a trace of it.
pub record HasToldSoFar (m : Mode) (i : Input) (done : Stepped) : Type 0 where
  pub journal : IsHistorySoFar m i ([] then done.events)
  pub captures : (q : ℕ) → is_external (tree_of i) q ≡ true → left_at q done.left
      ≡ flat (basis_of i) ([] then done.events) q
  pub trace : IsTraceSoFar i ([] then done.events) (all_told done.lines)

-- So it is wherever a run that plays an input has played some segments, in either mode.
abbrev pub RunsTellSoFar : Type 0
RunsTellSoFar = (m : Mode) (i : Input) (so_far rest : List Segment) (done : Stepped) → IsTimely i
    → segments m i ≡ so_far ++ rest → PlaysIn m i so_far done → HasToldSoFar m i done
