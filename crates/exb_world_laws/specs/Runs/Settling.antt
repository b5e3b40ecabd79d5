-- Settling from every world that a run of a valid setup reaches.
use Rattle.std.specs.Prelude.{◌≡◌, ℕ, ◌≤◌, ◌<◌, ◌^◌, true, List, ◌++◌, All}
use Rattle.exb_model.specs.declared.setup.Setup.{Setup}
use Rattle.exb_model.specs.declared.setup.Verdict.{Verdict}
use Rattle.exb_model.specs.History.{Basis}
use Rattle.exb_model.specs.Input.{Segment}
use Rattle.exb_model.specs.Rounds.{rounds}
use Rattle.exb_model.specs.Setup.{IsValid, shape_of, limits_of}
use Rattle.exb_csp.specs.Sessions.AskingEnd.{AskerState}
use Rattle.exb_world_spec.specs.Settling.{run, settled_within, is_settled, planned_in}
use Rattle.exb_world_spec.specs.Worlds.{Step}
use Rattle.exb_world_spec.specs.Runs.ReachedWorlds.{MayTakeAll, beginning, reached_by, HasVid}
use Rattle.exb_world_laws.specs.FrameBytes.{MayGoAll}
use Rattle.exb_world_laws.specs.SegmentRuns.{Gives, IsPlayedBy}
use Rattle.exb_settling_laws.specs.SettlingBound.{costs}
use Rattle.exb_settling_laws.specs.SessionInvariant.{IsOrderly}
use Rattle.exb_settling_laws.specs.SettlingLaws.{KeepsFacts}

-- the serials of all requests are below 2 ^ 38
abbrev pub AreRoomy : (ℕ → AskerState) → Type 0
AreRoomy askers = (n : ℕ) → (askers n).serial < 2 ^ 38

-- ---- the laws
-- Every world that a run reaches is orderly, its serials are low, and it keeps the facts that the bound on settling
-- asks.
pub record IsReady (s : Setup) (steps : List Step) : Type 0 where
  pub orderly : IsOrderly (shape_of s) (reached_by s steps)
  pub roomy : AreRoomy (reached_by s steps).control.askers
  pub facts : KeepsFacts (shape_of s) (limits_of s) (reached_by s steps)

abbrev pub RunsAreReady : Type 0
RunsAreReady = (s : Setup) (steps : List Step) → IsValid s → All HasVid s.start
    → MayTakeAll (shape_of s) (limits_of s) (beginning s) steps → IsReady s steps

-- So that serials fit is no premise of a run.
abbrev pub RunsStayLow : Type 0
RunsStayLow = (s : Setup) (steps : List Step) → IsValid s → All HasVid s.start
    → MayTakeAll (shape_of s) (limits_of s) (beginning s) steps
    → MayGoAll (shape_of s) (limits_of s) (beginning s) steps

-- From every such world settling ends settled, with verdicts of which at most b aren't Pass, within 64(b + e + 1)
-- rounds, where e exchanges are planned.
abbrev pub Settles : Type 0
Settles =
    (s : Setup) (steps : List Step) → IsValid s → All HasVid s.start
    → MayTakeAll (shape_of s) (limits_of s) (beginning s) steps →
    let t = shape_of s in
    let l = limits_of s in
    let w = reached_by s steps in
    (b : ℕ) (verdicts : List Verdict) → costs verdicts ≤ b
    → is_settled t (settled_within t l (rounds b (planned_in t l w)) w verdicts).done.world ≡ true

-- So steps that give a segment, from such a world, play it with the settling after them.
abbrev pub SettlingAlwaysPlays : Type 0
SettlingAlwaysPlays =
    (s : Setup) (steps more : List Step) → IsValid s → All HasVid s.start
    → MayTakeAll (shape_of s) (limits_of s) (beginning s) (steps ++ more) →
    (i : Basis) (segment : Segment) → Gives i segment more →
    let t = shape_of s in
    let l = limits_of s in
    let w = reached_by s steps in
    let v = (run t l more w).world in
    (b : ℕ) (verdicts : List Verdict) → costs verdicts ≤ b
    → IsPlayedBy t l i segment w more (settled_within t l (rounds b (planned_in t l v)) v verdicts).done
