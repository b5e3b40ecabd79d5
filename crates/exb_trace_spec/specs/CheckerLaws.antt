-- What the verdicts of the machines tell: each says yes exactly where its rule holds.
use Rattle.std.specs.Prelude.{◌≡◌, ◌≤◌, ◌<◌, ◌^◌, ◌↔◌, ℕ, List, [], length, Some, None}
use Rattle.std.specs.Bool.{Decides}
use Rattle.exb_model.specs.Traces.{TraceLine}
use Rattle.exb_model.specs.Tree.{Shape}
use Rattle.exb_trace_spec.specs.TraceChecker.{through, start_1, step_1, verdict_1, start_2, step_2, verdict_2, start_3, step_3, verdict_3, start_4, step_4, verdict_4, start_5, step_5, verdict_5, is_in_time, judged}
use Rattle.exb_trace_spec.specs.Rule1Places.{HasPlaces}
use Rattle.exb_trace_spec.specs.Rules.{Files, KeepsLinks, IsLegal, IsLowestBroken}
use Rattle.exb_trace_spec.specs.Rule2Extenders.{FollowMachines}
use Rattle.exb_trace_spec.specs.Rule3Links.{IsFront, WasSent, data_of}
use Rattle.exb_trace_spec.specs.Rule4Captures.{IsCaptured}
use Rattle.exb_trace_spec.specs.Rule5Relays.{AreSteps}

-- a tree has 65 places of devices
abbrev pub IsSized : Shape → Type 0
IsSized t = length t.ports ≡ 65

-- what a capture can be of: a port, and fewer frames than 64 bits count
pub record AreFrames (captures : ℕ → List (List ℕ)) : Type 0 where
  pub ports : (p : ℕ) → 4160 ≤ p → captures p ≡ []
  pub few : (p : ℕ) → length (captures p) < 2 ^ 64

abbrev pub Rule1IsDecided : Type 0
Rule1IsDecided = (t : Shape) (journal : List (List ℕ)) (lines : List TraceLine)
    → Decides (verdict_1 (through (step_1 t) (start_1 journal) lines)) (HasPlaces t journal lines)

abbrev pub Rule2IsDecided : Type 0
Rule2IsDecided = (t : Shape) (lines : List TraceLine) → IsSized t
    → Decides (verdict_2 t (through step_2 (start_2 t) lines)) (FollowMachines t lines)

-- A control word is in time exactly where it was sent, where the data words in are a front of those out.
abbrev pub TimeIsDecided : Type 0
TimeIsDecided = (sent came : List (List ℕ)) (f : List ℕ) → IsFront came (data_of sent)
    → Decides (is_in_time sent (length came) f) (WasSent sent came f)

abbrev pub Rule3IsDecided : Type 0
Rule3IsDecided = (t : Shape) (lines : List TraceLine) → IsSized t
    → Decides (verdict_3 t (through (step_3 t) start_3 lines)) (KeepsLinks t lines)

abbrev pub Rule4IsDecided : Type 0
Rule4IsDecided =
    (t : Shape) (captures outputs : ℕ → List (List ℕ)) (lines : List TraceLine) → IsSized t →
    Decides (verdict_4 t (through step_4 (start_4 captures outputs) lines)) (IsCaptured t captures outputs lines)

abbrev pub Rule5IsDecided : Type 0
Rule5IsDecided =
    (t : Shape) (captures : ℕ → List (List ℕ)) (lines : List TraceLine) → AreFrames captures →
    Decides (verdict_5 t captures (through (step_5 t captures) start_5 lines)) (AreSteps t captures lines)

-- ---- all rules
-- what is asked of files: a tree of 65 places, and captures of ports
pub record AreFiles (x : Files) : Type 0 where
  pub sized : IsSized x.tree
  pub captures : AreFrames x.captures

-- What `judged` answers: none exactly where the trace is legal, and else the lowest rule that doesn't hold.
pub record JudgesRightly (x : Files) : Type 0 where
  pub legal : (judged x ≡ None) ↔ IsLegal x
  pub broken : (r : ℕ) → judged x ≡ Some r → IsLowestBroken x r
  pub few : (r : ℕ) → judged x ≡ Some r → (1 ≤ r) × (r ≤ 5)

abbrev pub AllAreJudged : Type 0
AllAreJudged = (x : Files) → AreFiles x → JudgesRightly x
