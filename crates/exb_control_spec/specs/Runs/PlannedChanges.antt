-- What the plans of changes are to the machine.
use Rattle.std.specs.Prelude.{◌≡◌, ℕ, ◌<◌, ◌≤◌, Bool, true, false, List, Some}
use Rattle.exb_model.specs.declared.command.Command.{Command}
use Rattle.exb_model.specs.Tree.{Shape, IsTree, device, on, is_cascade, is_extender, is_external, is_extended}
use Rattle.exb_model.specs.Setup.{Limits, NamesExternal}
use Rattle.exb_model.specs.Configuration.{Bridge}
use Rattle.exb_model.specs.Numbers.{IsReady, IsNumbering}
use Rattle.exb_csp.specs.declared.message.Response.{Response}
use Rattle.exb_csp.specs.declared.session.asker.Taken.TheVariants as taken
use Rattle.exb_csp.specs.Sessions.AskingEnd.{took}
use Rattle.exb_control_spec.specs.Plans.HeldNumbers.{Held, HoldsNeeded, group_used, numbers_in}
use Rattle.exb_control_spec.specs.Runs.LaidTables.{laid}
use Rattle.exb_control_spec.specs.Runs.Requests.{AreOpened, IsLaidOut}
use Rattle.exb_control_spec.specs.declared.job.Job.{Job}
use Rattle.exb_control_spec.specs.declared.job.Job.TheVariants as job
use Rattle.exb_control_spec.specs.RequestLaws.{IsHeldAtCascades}
use Rattle.exb_control_spec.specs.Decisions.{decide}
use Rattle.exb_control_spec.specs.Machine.{Work}
use Rattle.exb_control_spec.specs.Runs.Systems.{System, Step, answer_message, code_in, stepped, run}
use Rattle.exb_control_spec.specs.Runs.MachineInvariant.{Planning, Stands, MayStep, MayRun, CodesAreZero}

-- a tree of extenders, and spaces of as many numbers as there can be at most
pub record IsSetting (t : Shape) (l : Limits) : Type 0 where
  pub tree : IsTree t
  pub channels : l.channels ≤ 4094
  pub groups : l.groups ≤ 12288

-- ---- numbers
-- At rest just what the configuration needs is held, and ports are present just at opened extenders.
pub record IsExact (t : Shape) (opened : ℕ → Bool) (b : Bridge) (h : Held) : Type 0 where
  pub needed : HoldsNeeded t b h
  pub cascades : IsHeldAtCascades t h
  pub order : AreOpened t opened b
  pub external : (q : ℕ) → b.present q ≡ true → is_external t q ≡ true

-- In the middle of a change both configurations have their numbers, and what is claimed would be laid out for both. No
-- port has two channels in a space, and no set two groups.
pub record HasBoth (t : Shape) (opened : ℕ → Bool) (old new : Bridge) (h : Held) : Type 0 where
  pub before : IsReady t old (numbers_in h)
  pub after : IsReady t new (numbers_in h)
  pub laid_before : IsLaidOut t opened old h
  pub laid_after : IsLaidOut t opened new h
  pub one_channel : (k c d p : ℕ) → k < 64 → is_cascade t k ≡ true → h.port k c ≡ Some p → h.port k d ≡ Some p → c ≡ d
  pub one_group : (k g m : ℕ) → k < 64 → is_cascade t k ≡ true → group_used h k g ≡ true → h.set k g ≡ h.set k m → g ≡ m

-- ---- jobs
-- an extender that isn't opened, and hangs on the bridge or on one that is
pub record MayOpen (t : Shape) (opened : ℕ → Bool) (n : ℕ) : Type 0 where
  pub there : is_extender t n ≡ true
  pub closed : opened n ≡ false
  pub above : 64 ≤ on t n → opened (device (on t n)) ≡ true

-- an external port of an opened extender
pub record MayRise (t : Shape) (opened : ℕ → Bool) (p : ℕ) : Type 0 where
  pub extended : is_extended t p ≡ true
  pub home : opened (device p) ≡ true

-- a command that names external ports, where all extenders are opened
pub record MayChange (t : Shape) (opened : ℕ → Bool) (c : Command) : Type 0 where
  pub names : NamesExternal t c
  pub all : (q : ℕ) → is_extended t q ≡ true → opened (device q) ≡ true

abbrev pub FitsJob : Shape → (ℕ → Bool) → Job → Type 0
FitsJob t opened (job.Opening n) = MayOpen t opened n
FitsJob t opened (job.AutomaticUp p) = MayRise t opened p
FitsJob t opened (job.Ordered n c) = MayChange t opened c

abbrev pub planning : Shape → Planning
planning t = record {
  there = is_extender t;
  laid = laid t;
  Exact = IsExact t;
  During = HasBoth t;
  MayCome = NamesExternal t;
  Fits = FitsJob t;
}

-- ---- the laws
-- Each step of the machine with the plans of changes keeps what stands, and no extender answers another code than 0.
abbrev pub PlannedStepsStand : Type 0
PlannedStepsStand =
    (t : Shape) (l : Limits) → IsSetting t l → (y : System) (step : Step) → Stands (planning t) y
    → MayStep (planning t) y step →
    Stands (planning t) (stepped (decide t l) y step) × (code_in y step ≡ 0)

-- So it is over every run.
abbrev pub PlannedRunsStand : Type 0
PlannedRunsStand =
    (t : Shape) (l : Limits) → IsSetting t l → (y : System) (steps : List Step) → Stands (planning t) y
    → MayRun (planning t) (decide t l) y steps →
    Stands (planning t) (run (decide t l) steps y) × CodesAreZero (decide t l) y steps

-- At every moment, also in the middle of a change, the configuration in force has its numbers.
abbrev pub ReadyMidway : Type 0
ReadyMidway = (t : Shape) (y : System) → IsTree t → Stands (planning t) y
    → IsReady t y.state.bridge (numbers_in y.state.held)

-- The answer to the outstanding request is taken as that, and its code is 0.
abbrev pub AnswersAreTaken : Type 0
AnswersAreTaken =
    (t : Shape) (y : System) (w : Work) (response : Response) → Stands (planning t) y → y.state.work ≡ Some w
    → y.answer ≡ Some response →
    let a = y.state.askers w.first.extender in
    ((took a (answer_message a.serial response)).1 ≡ taken.Answer response) × (response.code ≡ 0)

-- The numbers that are found are numbers of their kinds.
abbrev pub HeldAreNumbers : Type 0
HeldAreNumbers = (h : Held) → IsNumbering (numbers_in h)
