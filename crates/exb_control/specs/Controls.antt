-- What the bridge's control is to its contracts: plain data, and the state of the machine of changes that it
-- stands for.
use Rattle.std.specs.Prelude.{ℕ, ◌&&◌, Bool, false, if◌then◌else◌, List, [], ◌∷◌, Option, Some, None, is_none, drop, slice_index_or}
use Rattle.exb_model.specs.declared.setup.Setup.{Setup}
use Rattle.exb_model.specs.Tree.{Shape, device, trunk, is_extender}
use Rattle.exb_model.specs.Setup.{shape_of, limits_of, start_of}
use Rattle.exb_csp.specs.Sessions.AskingEnd.{AskerState, begun}
use Rattle.exb_csp.specs.declared.ask_at.AskAt.{AskAt}
use Rattle.exb_control_spec.specs.declared.plan.change.Change.{Change}
use Rattle.exb_control_spec.specs.Plans.HeldNumbers.{Held, channel_in}
use Rattle.exb_control_spec.specs.declared.job.Job.{Job}
use Rattle.exb_control_spec.specs.declared.job.Phase.{Phase}
use Rattle.exb_control_spec.specs.declared.job.Phase.TheVariants.{Preparing, Cleaning}
use Rattle.exb_control.specs.declared.stage.Stage.{Stage}
use Rattle.exb_control.specs.declared.stage.Stage.TheVariants.{AtRest, Prepared, InForce}
use Rattle.exb_control_spec.specs.Decisions.{Decide, decide}
use Rattle.exb_control.specs.ActiveConfigs.{ActiveConfig, bridge_in, held_in}
use Rattle.exb_control_spec.specs.Machine.{Work, State, heard}
use Rattle.exb_control_spec.specs.InitialState.{first_state}
use Rattle.exb_control.specs.Queues.{is_empty}

-- The configuration with its numbers and the change at work, the place of the outstanding request among those
-- of its phase, the jobs that wait, which extenders were heard, the bridge's ends of the sessions by extender,
-- how many commands were given, and whether memory ran out.
pub record Parts : Type 0 where
  pub active : ActiveConfig
  pub place : ℕ
  pub queue : List Job
  pub heard : List Bool
  pub askers : List AskerState
  pub given : ℕ
  pub failed : Bool

-- ---- the state that it stands for
abbrev pub is_heard : List Bool → ℕ → Bool
is_heard heard n = slice_index_or heard n false

abbrev pub asker_at : List AskerState → ℕ → AskerState
asker_at askers n = slice_index_or askers n begun

-- a phase of which these requests aren't answered yet
abbrev pub work_from : Job → Change → Phase → List AskAt → Option Work
work_from j x phase [] = None
work_from j x phase (first ∷ rest) = Some (record { job = j; change = x; phase = phase; first = first; rest = rest })

-- the change at work, with the outstanding request at this place
abbrev pub work_at : Stage → ℕ → Option Work
work_at AtRest i = None
work_at (Prepared j x) i = work_from j x Preparing (drop i x.prepare)
work_at (InForce j x) i = work_from j x Cleaning (drop i x.cleanup)

abbrev pub state_of : Parts → State
state_of v =
    record {
      queue = v.queue;
      work = work_at v.active.stage v.place;
      bridge = bridge_in v.active;
      held = held_in v.active;
      heard = λ n. is_heard v.heard n;
      askers = λ n. asker_at v.askers n;
      given = v.given;
    }

-- how its jobs are decided
abbrev pub decide_of : ActiveConfig → Decide
decide_of f = decide f.shape f.limits

-- no job waits and no change is at work
abbrev pub is_settled : State → Bool
is_settled s = is_empty s.queue && is_none s.work

-- as it begins
abbrev pub first_of : Setup → State
first_of s = first_state (shape_of s) (limits_of s) (start_of s)

-- ---- numbers
-- the channel that a port of an extender holds at its trunk
abbrev pub channel_at_trunk : Shape → Held → ℕ → Option ℕ
channel_at_trunk t h p = if is_extender t (device p) then channel_in h (trunk t (device p)) p else None
