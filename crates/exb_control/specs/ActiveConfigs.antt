-- The configuration in force, the numbers that are held, and the change at work, as the code keeps them.
use Rattle.std.specs.Prelude.{ℕ, ◌^◌, ◌≤◌, Option, Some, None, length}
use Rattle.exb_model.specs.Tree.{Shape, IsTree}
use Rattle.exb_model.specs.Setup.{Limits}
use Rattle.exb_model.specs.Configuration.{Bridge}
use Rattle.exb_model.specs.declared.event.Cause.{Cause}
use Rattle.exb_config.specs.Tables.{Tables, bridge_of}
use Rattle.exb_numbers.specs.Spaces.{Spaces}
use Rattle.exb_config.specs.Pvids.{HasPvids}
use Rattle.exb_control_spec.specs.declared.plan.change.Change.{Change}
use Rattle.exb_control_spec.specs.declared.plan.change.Decision.{Decision}
use Rattle.exb_control_spec.specs.declared.plan.change.Decision.TheVariants as decision
use Rattle.exb_control_spec.specs.Plans.HeldNumbers.{Held, HoldsNeeded, in_spaces}
use Rattle.exb_plan.specs.SpaceContents.{HasSpaces, held_by}
use Rattle.exb_control_spec.specs.declared.job.Job.{Job}
use Rattle.exb_control.specs.declared.stage.Stage.{Stage}
use Rattle.exb_control.specs.declared.stage.Stage.TheVariants.{AtRest, Prepared, InForce}
use Rattle.exb_control_spec.specs.JobsOfTree.{Fits, HasExternals}
use Rattle.exb_control_spec.specs.Decisions.{Outcome, Refused, Ready, bridge_after, release}

pub record ActiveConfig : Type 0 where
  pub shape : Shape
  pub limits : Limits
  pub config : Tables
  pub spaces : Spaces
  pub stage : Stage

abbrev pub active_config_of : Shape → ℕ → ℕ → Tables → Spaces → Stage → ActiveConfig
active_config_of t channels groups config spaces stage =
    record {
      shape = t;
      limits = record { channels = channels; groups = groups };
      config = config;
      spaces = spaces;
      stage = stage;
    }

-- ---- what is in force
abbrev pub bridge_in : ActiveConfig → Bridge
bridge_in v = bridge_of v.config

abbrev pub held_in : ActiveConfig → Held
held_in v = in_spaces v.shape (held_by v.spaces)

-- ---- what was decided
-- the stage of a job that was decided
abbrev pub stage_of : Job → Outcome → Stage
stage_of j (Refused cause) = AtRest
stage_of j (Ready x claimed) = Prepared j x

abbrev pub cause_of : Outcome → Option Cause
cause_of (Refused cause) = Some cause
cause_of (Ready x claimed) = None

abbrev pub held_after : Outcome → Held → Held
held_after (Refused cause) h = h
held_after (Ready x claimed) h = claimed

-- what the code says of it
abbrev pub decision_of : Outcome → Decision
decision_of (Refused cause) = decision.Refused cause
decision_of (Ready x claimed) = decision.Ready x

-- ---- stages
abbrev pub IsPrepared : Stage → Type 0
IsPrepared AtRest = ⊥
IsPrepared (Prepared j x) = Unit {0}
IsPrepared (InForce j x) = ⊥

abbrev pub IsInForce : Stage → Type 0
IsInForce AtRest = ⊥
IsInForce (Prepared j x) = ⊥
IsInForce (InForce j x) = Unit {0}

-- a prepared change takes effect
abbrev pub in_force : Stage → Stage
in_force AtRest = AtRest
in_force (Prepared j x) = InForce j x
in_force (InForce j x) = InForce j x

-- the configuration once the change at work is done, and what is held then
abbrev pub bridge_at_end : Stage → Bridge → Bridge
bridge_at_end AtRest b = b
bridge_at_end (Prepared j x) b = bridge_after j b
bridge_at_end (InForce j x) b = b

abbrev pub held_at_end : Stage → Held → Held
held_at_end AtRest h = h
held_at_end (Prepared j x) h = release x h
held_at_end (InForce j x) h = release x h

-- ---- what holds of every active configuration
-- a change has at most so many requests in each phase
pub record IsShort (x : Change) : Type 0 where
  pub prepare : length x.prepare ≤ 2 ^ 20
  pub cleanup : length x.cleanup ≤ 2 ^ 20

-- At rest just what the configuration needs is held; in the middle of a change it will be so at its end.
abbrev pub HoldsIn : Shape → Bridge → Held → Stage → Type 0
HoldsIn t b h AtRest = HoldsNeeded t b h
HoldsIn t b h (Prepared j x) = IsShort x × Fits t j × HoldsNeeded t (bridge_after j b) (release x h)
HoldsIn t b h (InForce j x) = IsShort x × HoldsNeeded t b (release x h)

-- what the type keeps of its value
pub record IsActiveConfig (v : ActiveConfig) : Type 0 where
  pub tree : IsTree v.shape
  pub channels : v.limits.channels ≤ 4094
  pub groups : v.limits.groups ≤ 12288
  pub spaces : HasSpaces v.shape v.limits v.spaces
  pub external : HasExternals v.shape (bridge_in v)
  pub pvids : HasPvids (bridge_in v)
  pub holds : HoldsIn v.shape (bridge_in v) (held_in v) v.stage
