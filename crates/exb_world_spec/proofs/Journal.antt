-- The journal tells of jobs what the machine of changes tells.
use Rattle.std.proofs.Common.{◌≡◌, ℕ, ◌+◌, ◌++◌, List, [], ◌∷◌, refl, ap, sym, ◌∙◌, subst, inl, inr, append_assoc, Option, None}
use Rattle.std.proofs.lemmas.List.{append-nil}
use Rattle.std.proofs.lemmas.List.Elements.{filter-append}
use Rattle.exb_model.specs.declared.command.Command.{Command}
use Rattle.exb_model.specs.declared.event.Event.{Event}
use Rattle.exb_model.specs.Tree.{Shape, IsTree}
use Rattle.exb_model.specs.Setup.{Limits, shape_of, limits_of, start_of}
use Rattle.exb_model.specs.Configuration.{Bridge}
use Rattle.exb_frame.specs.TagValues.{TagRoundTrip}
use Rattle.exb_control_spec.specs.Decisions.{decide}
use Rattle.exb_control_spec.specs.Machine.{Work, State, Moved}
use Rattle.exb_control_spec.specs.InitialState.{first_jobs}
use Rattle.exb_control_spec.specs.declared.job.Job.{Job}
use Rattle.exb_control_spec.specs.declared.job.Job.TheVariants as job
use Rattle.exb_control_spec.specs.Runs.Systems.{System, Order, Hear, Execute, Answer, Stray, Beat, moved}
use Rattle.exb_control_spec.specs.Runs.Systems.{Step as MachineStep}
use Rattle.exb_control_spec.specs.Runs.Journal.{undecided_of, pending, told, kept, Tells, StepsTell, jobs_with}
use Rattle.exb_world_spec.specs.Worlds.{World, first_world}
use Rattle.exb_world_spec.specs.Steps.{stepped as world_stepped}
use Rattle.exb_world_spec.specs.Settling.{run}
use Rattle.exb_world_spec.specs.Runs.Simulation.{is_of_job, jobs_in, commands_in, given_after, jobs_after, system_of, Follows, StaysSound}
use Rattle.exb_world_spec.specs.Runs.SessionLaws.{ordered_by, ordered_in}
use Rattle.exb_world_spec.specs.Runs.Journal.{JobsTold, JobsToldByStep, StepsTellJobs, RunsTellJobs, JournalDecidesOnce, IdleTellsAll, SetupsDecideOnce}
use Rattle.exb_world_spec.proofs.Jobs.{moved_given}
use Rattle.exb_world_spec.proofs.BeatSteps.{sound_after}
use Rattle.exb_control_spec.proofs.Runs.InitialMachine.{setups_begin}
use Rattle.exb_world_spec.proofs.SessionLaws.{begins_sound, steps_stay_sound}
use Rattle.exb_world_spec.proofs.Setups.{few_ports}

-- the jobs of more commands
pub jobs_more : (n : ℕ) (xs ys : List Command) → jobs_after n (xs ++ ys) ≡ jobs_after n xs ++ jobs_after (given_after n xs) ys
jobs_more n [] ys = refl
jobs_more n (x ∷ xs) ys = ap (λ (js : List Job). job.Ordered (n + 1) x ∷ js) (jobs_more (n + 1) xs ys)

given_more : (n : ℕ) (xs ys : List Command) → given_after n (xs ++ ys) ≡ given_after (given_after n xs) ys
given_more n [] ys = refl
given_more n (x ∷ xs) ys = given_more (n + 1) xs ys

-- the jobs of a step are those of its command
jobs_by : (y : System) (all : List Job) (step : MachineStep) → jobs_with y all step ≡ all ++ jobs_after y.state.given (commands_in step)
jobs_by y all (Order c) = refl
jobs_by y all (Hear n) = sym (append-nil all)
jobs_by y all Execute = sym (append-nil all)
jobs_by y all Answer = sym (append-nil all)
jobs_by y all (Stray n m) = sym (append-nil all)
jobs_by y all Beat = sym (append-nil all)

module _ (t : Shape) (l : Limits) (b : Bridge) where
  -- the same jobs, events and ports
  tells_as : (js all : List Job) (es events : List Event) (ps downs : List ℕ) (s u : State) → js ≡ all → es ≡ events → ps ≡ downs → s ≡ u → Tells t l b js es ps s → Tells t l b all events downs u
  tells_as js all es events ps downs s u e f g h k =
      let k0 : Tells t l b all es ps s = subst (λ (x : List Job). Tells t l b x es ps s) e k in
      let k1 : Tells t l b all events ps s = subst (λ (x : List Event). Tells t l b all x ps s) f k0 in
      let k2 : Tells t l b all events downs s = subst (λ (x : List ℕ). Tells t l b all events x s) g k1 in
      subst (λ (x : State). Tells t l b all events downs x) h k2

  -- what follows for the machine tells so
  pub record FollowsTelling (all : List Job) (events : List Event) (downs : List ℕ) (cs : List Command) (es : List Event) (w v : World) : Type 0 where
    pub by_step : JobsToldByStep t l b all events downs cs es w v
    pub given : v.control.given ≡ given_after w.control.given cs

  pub follows_telling : StepsTell → IsTree t → (all : List Job) (events : List Event) (downs : List ℕ) (cs : List Command) (es : List Event) (w v : World) → Follows t l cs (system_of w) (system_of v) es w.table v.table →
      Tells t l b all events downs w.control → FollowsTelling all events downs cs es w v
  follows_telling law tree all events downs cs es w v (inl n) k =
      let same : v.control ≡ w.control = ap (λ (y : System). y.state) n.is in
      let none : jobs_after w.control.given cs ≡ [] = ap (jobs_after w.control.given) n.orders in
      record {
        by_step = record {
          told = record {
            more = [];
            tells = tells_as all (all ++ jobs_after w.control.given cs) events (events ++ jobs_in es) downs (downs ++ []) w.control v.control
                (sym (append-nil all) ∙ ap (λ (js : List Job). all ++ js) (sym none)) (sym (append-nil events) ∙ ap (λ (xs : List Event). events ++ xs) (sym n.tells)) (sym (append-nil downs)) (sym same) k;
          };
          forgets = inl refl;
        };
        given = ap (λ (s : State). s.given) same ∙ ap (given_after w.control.given) (sym n.orders);
      }
  follows_telling law tree all events downs cs es w v (inr s) k =
      let y : System = system_of w in
      let m : Moved = moved (decide t l) y s.step in
      let same : v.control ≡ m.state = ap (λ (y : System). y.state) s.is in
      record {
        by_step = record {
          told = record {
            more = m.downs;
            tells = tells_as (jobs_with y all s.step) (all ++ jobs_after w.control.given cs) (events ++ m.events) (events ++ jobs_in es) (downs ++ m.downs) (downs ++ m.downs) m.state v.control
                (jobs_by y all s.step ∙ ap (λ (xs : List Command). all ++ jobs_after w.control.given xs) (sym s.orders)) (ap (λ (xs : List Event). events ++ xs) (sym s.tells)) refl (sym same)
                (law t l b all events downs y s.step tree k);
          };
          forgets = inr s.forgets;
        };
        given = ap (λ (x : State). x.given) same ∙ moved_given (decide t l) y s.step ∙ ap (given_after w.control.given) (sym s.orders);
      }

  -- and after more steps
  told_then : (all : List Job) (events : List Event) (downs : List ℕ) (cs ds : List Command) (es fs : List Event) (w u v : World) (first : FollowsTelling all events downs cs es w u) →
      JobsTold t l b (all ++ jobs_after w.control.given cs) (events ++ jobs_in es) (downs ++ first.by_step.told.more) ds fs u v → JobsTold t l b all events downs (cs ++ ds) (es ++ fs) w v
  told_then all events downs cs ds es fs w u v first k =
      let n : ℕ = w.control.given in
      let js : List Job = jobs_after n cs in
      let jobs : (all ++ js) ++ jobs_after u.control.given ds ≡ all ++ jobs_after n (cs ++ ds) =
      ap (λ (i : ℕ). (all ++ js) ++ jobs_after i ds) first.given ∙ append_assoc all js (jobs_after (given_after n cs) ds) ∙ ap (λ (xs : List Job). all ++ xs) (sym (jobs_more n cs ds))
      in
      let lines : (events ++ jobs_in es) ++ jobs_in fs ≡ events ++ jobs_in (es ++ fs) = append_assoc events (jobs_in es) (jobs_in fs) ∙ ap (λ (xs : List Event). events ++ xs) (sym (filter-append is_of_job es fs)) in
      record {
        more = first.by_step.told.more ++ k.more;
        tells = tells_as ((all ++ js) ++ jobs_after u.control.given ds) (all ++ jobs_after n (cs ++ ds)) ((events ++ jobs_in es) ++ jobs_in fs) (events ++ jobs_in (es ++ fs))
            ((downs ++ first.by_step.told.more) ++ k.more) (downs ++ (first.by_step.told.more ++ k.more)) v.control v.control jobs lines (append_assoc downs first.by_step.told.more k.more) refl k.tells;
      }

module _ (law : StepsTell) (round : TagRoundTrip) where
  pub steps_tell_jobs : StepsTellJobs
  steps_tell_jobs t l setting b all events downs w step sound may k =
      let es : List Event = (world_stepped t l step w).events in
      let v : World = (world_stepped t l step w).world in
      (follows_telling t l b law setting.tree all events downs (ordered_by step) es w v (steps_stay_sound round t l setting w step sound may).follows k).by_step

  pub runs_tell_jobs : RunsTellJobs
  unfolding run
  runs_tell_jobs t l setting b all events downs w [] sound may k =
      record {
        more = [];
        tells = tells_as t l b all (all ++ []) events (events ++ []) downs (downs ++ []) w.control w.control (sym (append-nil all)) (sym (append-nil events)) (sym (append-nil downs)) refl k;
      }
  runs_tell_jobs t l setting b all events downs w (step ∷ steps) sound may k =
      let es : List Event = (world_stepped t l step w).events in
      let u : World = (world_stepped t l step w).world in
      let one : StaysSound t l (ordered_by step) w u es = steps_stay_sound round t l setting w step sound may.0 in
      let first = follows_telling t l b law setting.tree all events downs (ordered_by step) es w u one.follows k in
      let rest =
      runs_tell_jobs t l setting b (all ++ jobs_after w.control.given (ordered_by step)) (events ++ jobs_in es) (downs ++ first.by_step.told.more) u steps (sound_after t l setting.tree setting round (ordered_by step) w u es sound one)
      may.1 first.by_step.told.tells
      in
      told_then t l b all events downs (ordered_by step) (ordered_in steps) es (run t l steps u).events w u (run t l steps u).world first rest

  pub journal_decides_once : JournalDecidesOnce
  journal_decides_once t l b ageing steps setting few begin may =
      let w : World = first_world t l b ageing in
      let k = runs_tell_jobs t l setting b (first_jobs t) [] [] w steps (begins_sound t l b ageing setting few begin) may (record { decided = []; order = refl; lines = refl; ports = refl; bridge = refl; will = tt }) in
      record { downs = k.more; tells = k.tells }

  pub setups_decide_once : SetupsDecideOnce
  setups_decide_once s steps valid may =
      let k = setups_begin s valid in
      journal_decides_once (shape_of s) (limits_of s) (start_of s) s.ageing steps k.0 (few_ports s valid) k.1 may

-- ---- all is decided
none_pending : (s : State) → s.queue ≡ [] → s.work ≡ None → pending s ≡ []
none_pending s e f = ap (λ (o : Option Work). undecided_of o ++ s.queue) f ∙ e

pub idle_tells_all : IdleTellsAll
idle_tells_all t l b steps es v k queue work =
    let all : List Job = first_jobs t ++ jobs_after 0 (ordered_in steps) in
    let is : k.tells.decided ≡ all = sym (append-nil k.tells.decided) ∙ ap (λ (js : List Job). k.tells.decided ++ js) (sym (none_pending v.control queue work)) ∙ k.tells.order in
    (k.tells.lines ∙ ap (told t l b) is, k.tells.bridge ∙ ap (kept t l b) is)
