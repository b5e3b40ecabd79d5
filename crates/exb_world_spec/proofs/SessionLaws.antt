-- The laws of this crate.
use Rattle.std.proofs.Common.{◌≡◌, ◌++◌, ap, ◌∙◌, ◌<◌, nat_lt, [], ◌∷◌, Some, None, List, slice_index, refl, subst, arith, inl, inr}
use Rattle.std.proofs.lemmas.List.Elements.{filter-append}
use Rattle.std.proofs.lemmas.Bool.{and_parts, ltb-true}
use Rattle.exb_model.specs.declared.command.Command.{Command}
use Rattle.exb_model.specs.declared.event.Event.{Event}
use Rattle.exb_model.specs.Tree.{Shape}
use Rattle.exb_model.specs.Setup.{Limits}
use Rattle.exb_model.proofs.TreeTrunks.{extender-low}
use Rattle.exb_frame.specs.TagValues.{TagRoundTrip}
use Rattle.exb_csp.specs.declared.message.Request.{Request}
use Rattle.exb_csp.specs.declared.message.Response.{Response}
use Rattle.exb_ecp.specs.StopAndWait.{Sending}
use Rattle.exb_extender.proofs.InvariantLemmas.{stays_extender}
use Rattle.exb_control_spec.specs.Decisions.{decide}
use Rattle.exb_control_spec.specs.Runs.Systems.{System, moved, stepped as machine_stepped, run as machine_run}
use Rattle.exb_control_spec.specs.Runs.MachineInvariant.{MayRun as MachineMayRun}
use Rattle.exb_control_spec.specs.Runs.Journal.{events_over}
use Rattle.exb_control_spec.specs.Runs.PlannedChanges.{planning}
use Rattle.exb_world_spec.proofs.CascadeChannels.{fixing_begins}
use Rattle.exb_control_spec.proofs.Runs.RequestTargets.{begins_knowing}
use Rattle.exb_world_spec.specs.Worlds.{World}
use Rattle.exb_world_spec.specs.Steps.{stepped}
use Rattle.exb_world_spec.specs.Settling.{run}
use Rattle.exb_world_spec.specs.Runs.Simulation.{is_of_job, jobs_in, commands_in, system_of, Follows, StaysSound}
use Rattle.exb_world_spec.specs.Runs.SessionLaws.{BeginsSound, StepsStaySound, ordered_by, ordered_in, IsMachineRun, RunsStaySound}
use Rattle.exb_world_spec.proofs.BeatSteps.{sound_after}
use Rattle.exb_world_spec.proofs.Steps.{step_sound}

none_some : {x : Sending} → None ≡ Some x → ⊥
none_some e = cc

none_stored : {x : Response} → None ≡ Some x → ⊥
none_stored e = cc

none_asked : {x : Request} → None ≡ Some x → ⊥
none_asked e = cc

pub begins_sound : BeginsSound
begins_sound t l b ageing setting few may =
    record {
      fits = record {
        ends = record {
          knows = begins_knowing t l b;
          writes = record { work = tt; numbered = λ n request e. absurd (none_asked e) };
          waits = λ n. refl;
          paired = λ n. inl refl;
          extenders = λ n there.
              let p = and_parts (nat_lt 0 n) (nat_lt 0 (slice_index t.ports n)) there in
              let low : n < 65 = extender-low t setting.tree n there in
              stays_extender.begins n (slice_index t.ports n) (ltb-true 0 n p.0) (omega arith) (ltb-true 0 (slice_index t.ports n) p.1) (few n);
          asking = λ n. record { each = λ x e. absurd (none_some e) };
          answering = λ n. record { each = λ x e. absurd (none_some e) };
          codes = λ n response e. absurd (none_stored e);
        };
        downs = λ m. tt;
        ups = λ m. tt;
      };
      stands = fixing_begins t l b setting may;
    }

module _ (round : TagRoundTrip) where
  pub steps_stay_sound : StepsStaySound
  unfolding stepped
  steps_stay_sound t l setting w step sound may = step_sound t l setting.tree setting round w sound may.bytes step may.can may.has may.low may.after

  -- the machine's run with what a step of the world is to it
  run_from : (t : Shape) (l : Limits) (w u v : World) (cs ds : List Command) (es fs : List Event) → Follows t l cs (system_of w) (system_of u) es w.table u.table → IsMachineRun t l ds u v fs → IsMachineRun t l (cs ++ ds) w v (es ++ fs)
  run_from t l w u v cs ds es fs (inl n) k =
      let R : System → Type 0 = λ y. MachineMayRun (planning t) (decide t l) y k.steps × (system_of v ≡ machine_run (decide t l) k.steps y) × (jobs_in fs ≡ events_over t l y k.steps) in
      let r : R (system_of w) = subst R n.is (k.may, k.is, k.tells) in
      record {
        steps = k.steps;
        may = r.0;
        is = r.1;
        orders = ap (λ (xs : List Command). xs ++ ds) n.orders ∙ k.orders;
        tells = filter-append is_of_job es fs ∙ ap (λ (xs : List Event). xs ++ jobs_in fs) n.tells ∙ r.2;
      }
  run_from t l w u v cs ds es fs (inr s) k =
      let R : System → Type 0 = λ y. MachineMayRun (planning t) (decide t l) y k.steps × (system_of v ≡ machine_run (decide t l) k.steps y) × (jobs_in fs ≡ events_over t l y k.steps) in
      let r : R (machine_stepped (decide t l) (system_of w) s.step) = subst R s.is (k.may, k.is, k.tells) in
      record {
        steps = s.step ∷ k.steps;
        may = (s.may, r.0);
        is = r.1;
        orders = ap (λ (xs : List Command). xs ++ ds) s.orders ∙ ap (λ (xs : List Command). commands_in s.step ++ xs) k.orders;
        tells = filter-append is_of_job es fs ∙ ap (λ (xs : List Event). xs ++ jobs_in fs) s.tells ∙ ap (λ (xs : List Event). (moved (decide t l) (system_of w) s.step).events ++ xs) r.2;
      }

  pub runs_stay_sound : RunsStaySound
  unfolding run
  runs_stay_sound t l setting w [] sound may = record { sound = sound; machine = record { steps = []; may = tt; is = refl; orders = refl; tells = refl } }
  runs_stay_sound t l setting w (step ∷ steps) sound may =
      let u : World = (stepped t l step w).world in
      let es : List Event = (stepped t l step w).events in
      let one : StaysSound t l (ordered_by step) w u es = steps_stay_sound t l setting w step sound may.0 in
      let rest = runs_stay_sound t l setting u steps (sound_after t l setting.tree setting round (ordered_by step) w u es sound one) may.1 in
      record { sound = rest.sound; machine = run_from t l w u (run t l steps u).world (ordered_by step) (ordered_in steps) es (run t l steps u).events one.follows rest.machine }
