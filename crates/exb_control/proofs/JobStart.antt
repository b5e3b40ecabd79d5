-- A job's turn comes.
use Rattle.std.proofs.Common.{◌≡◌, ℕ, ◌^◌, ◌<◌, List, [], ◌∷◌, Option, None, length, refl, subst, arith}
use Rattle.exb_model.specs.declared.event.Event.{Event}
use Rattle.exb_model.specs.declared.event.Cause.{Cause}
use Rattle.exb_model.specs.Tree.{Shape}
use Rattle.exb_model.specs.Configuration.{Bridge}
use Rattle.exb_csp.specs.declared.ask_at.AskAt.{AskAt}
use Rattle.exb_control_spec.specs.declared.plan.change.Change.{Change}
use Rattle.exb_control_spec.specs.Plans.HeldNumbers.{Held}
use Rattle.exb_control_spec.specs.declared.extender_message.Asked.{Asked}
use Rattle.exb_control_spec.specs.declared.job.Job.{Job}
use Rattle.exb_control_spec.specs.declared.job.Phase.TheVariants.{Preparing}
use Rattle.exb_control.specs.declared.stage.Stage.{Stage}
use Rattle.exb_control.specs.declared.stage.Stage.TheVariants.{AtRest, Prepared, InForce}
use Rattle.exb_control_spec.specs.Decisions.{Outcome, Refused, Ready}
use Rattle.exb_control.specs.ActiveConfigs.{IsShort, HoldsIn, cause_of, held_after, stage_of}
use Rattle.exb_control_spec.specs.Machine.{State, commits, prepares, starts}
use Rattle.exb_control.specs.MachineSteps.{reached_by, next_of, advances, asks_in}

-- a job that isn't refused has its change
pub record IsReady (o : Outcome) : Type 0 where
  pub change : Change
  pub claimed : Held
  pub is : o ≡ Ready change claimed

pub is_ready : (o : Outcome) (cause : Option Cause) → cause ≡ cause_of o → cause ≡ None → IsReady o
is_ready (Refused x) cause is none = absurd (cc)
is_ready (Ready x h) cause is none = record { change = x; claimed = h; is = refl }

next_prepares : (j : Job) (x : Change) (xs : List AskAt) (s : State) → next_of j x Preparing (commits j x) xs s ≡ prepares j x xs s
next_prepares j x [] s = refl
next_prepares j x (a ∷ rest) s = refl

-- its prepare begins
pub begins : (s : State) (j : Job) (o : Outcome) (x : Change) (h : Held) (stage : Stage) (b' : Bridge) (h' : Held) (events : List Event) (asks : List Asked) (t : List ℕ) →
    o ≡ Ready x h → stage ≡ stage_of j o → b' ≡ s.bridge → h' ≡ held_after o s.held →
    reached_by (advances stage (asks_in stage) (record s { bridge = b'; held = h' })) events asks t ≡ reached_by (starts j o s) events asks t
begins s j o x h stage b' h' events asks t is stage_is bridge held =
    rw (rw is at stage_is, bridge, rw is at held, is, next_prepares j x x.prepare (record s { held = h })) refl

-- the change is short
pub short : (t : Shape) (b : Bridge) (h : Held) (stage : Stage) (j : Job) (x : Change) → stage ≡ Prepared j x → HoldsIn t b h stage → IsShort x
short t b h stage j x is holds = (subst (λ (st : Stage). HoldsIn t b h st) is holds).0

-- so is the phase
pub short_phase : (t : Shape) (b : Bridge) (h : Held) (stage : Stage) (place : ℕ) → HoldsIn t b h stage → place < length (asks_in stage) → place < 2 ^ 20
short_phase t b h AtRest place holds within = omega arith
short_phase t b h (Prepared j x) place holds within = let few = holds.0.prepare in omega arith
short_phase t b h (InForce j x) place holds within = let few = holds.0.cleanup in omega arith
