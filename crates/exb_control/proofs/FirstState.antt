-- The control as it begins.
use Rattle.std.proofs.Common.{◌≡◌, ◌≤◌, Bool, false, None, List, length, refl, arith}
use Rattle.exb_model.specs.declared.setup.Setup.{Setup}
use Rattle.exb_model.specs.Setup.{shape_of, limits_of, start_of}
use Rattle.exb_csp.specs.Sessions.AskingEnd.{begun}
use Rattle.exb_control_spec.specs.declared.job.Job.{Job}
use Rattle.exb_control.specs.declared.stage.Stage.TheVariants.{AtRest}
use Rattle.exb_control_spec.specs.InitialState.{first_jobs, first_held}
use Rattle.exb_control.specs.ActiveConfigs.{bridge_in, held_in}
use Rattle.exb_control.specs.declared.change_execution.ChangeExecutor.{ChangeExecutor}
use Rattle.exb_control.specs.Controls.{state_of, first_of}
use Rattle.exb_control.specs.MachineSteps.{heard_of, askers_of}
use Rattle.exb_control.specs.Soundness.{MayAsk, to_come}
use Rattle.exb_control.specs.EncodableRequests.{Spells}
use Rattle.exb_control.specs.ControlParts.{parts_of, IsKept}
use Rattle.exb_control_spec.proofs.FirstJobs.{few_first, fit_first}
use Rattle.exb_csp.proofs.Sessions.AskerLaws.{stays_sound}

module _ (s : Setup) (core : ChangeExecutor) (queue : List Job) (heard : List Bool) (shape : core.active.shape ≡ shape_of s) (rest : core.active.stage ≡ AtRest)
    (jobs : queue ≡ first_jobs (shape_of s)) (askers : askers_of core.sessions ≡ λ n. begun) where
  pub begins_as : bridge_in core.active ≡ start_of s → held_in core.active ≡ first_held (shape_of s) (limits_of s) → heard_of heard ≡ (λ n. false) →
      state_of (parts_of core queue heard 0 false) ≡ first_of s
  begins_as bridge held none = rw (jobs, rest, bridge, held, none, askers) refl

  may_begin : MayAsk (to_come queue 0) (askers_of core.sessions)
  may_begin =
      let few : length queue ≤ 4160 = rw jobs (few_first (shape_of s)) in
      rw askers (record { idle = λ n. refl; room = λ n. omega arith })

  spells_first : Spells core.active.shape None (askers_of core.sessions)
  spells_first = rw askers (record { known = tt; work = tt; askers = λ n. record { sound = stays_sound.begins; spelled = tt } })

  pub begins_kept : IsKept core queue 0 false
  begins_kept =
      record {
        sound = λ _. record {
          fit = rw (shape, jobs) (fit_first (shape_of s));
          asks = λ _. rest;
          steady = rw rest may_begin;
          spells = rw rest spells_first;
        };
      }
