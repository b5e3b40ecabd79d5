-- Each step keeps what stands, whatever the plans are.
use Rattle.std.proofs.Common.{◌≡◌, ℕ, ◌+◌, ◌==◌, ◌||◌, ◌++◌, Bool, List, [], ◌∷◌, Option, Some, None, refl, sym, ◌∙◌, ap, subst, eq-eqb}
use Rattle.exb_model.specs.declared.command.Command.{Command}
use Rattle.exb_csp.specs.declared.message.Response.{Response}
use Rattle.exb_csp.specs.Execution.{ExtenderTables}
use Rattle.exb_csp.specs.declared.session.asker.Taken.{Taken}
use Rattle.exb_csp.specs.declared.session.asker.Taken.TheVariants as taken
use Rattle.exb_csp.specs.Sessions.AskingEnd.{AskerState, took, beaten}
use Rattle.exb_control_spec.specs.declared.job.Job.TheVariants as job
use Rattle.exb_control_spec.specs.Decisions.{Decide, bridge_after, release}
use Rattle.exb_control_spec.specs.Machine.{Work, State, Moved, answered, answered_in, answered_where, beats_in, with_asker}
use Rattle.exb_control_spec.specs.Runs.Systems.{System, Step, Order, Hear, Execute, Answer, Stray, Beat, answer_message, takes_answer, stepped, code_in, run}
use Rattle.exb_control_spec.specs.Runs.MachineInvariant.{opened_by, AreFew, Planning, Plans, IsSince, InPhase, StandsBy, waited_for, OneWaits, Stands, MayStep, StepsStand, RunsStand, MayRun, CodesAreZero}
use Rattle.exb_control_spec.proofs.Runs.MachineInvariant.{opened_more, fits_more, wakes_stands, execute_stands, answered_stands}
use Rattle.exb_control_spec.proofs.Runs.AskerAnswers.{takes, stray_is_still}
use Rattle.exb_control_spec.proofs.Runs.WaitingAskers.{wakes_waits, answered_waits, none_waits, beats_waits}

-- a command more is queued
abbrev queued : Command → State → State
queued c s = record s { queue = s.queue ++ job.Ordered (s.given + 1) c ∷ []; given = s.given + 1 }

-- extender n is heard
abbrev hearing : ℕ → State → State
hearing n s = record s { heard = λ m. m == n || s.heard m }

module _ (p : Planning) where
  queued_stands : (c : Command) → p.MayCome c → (o : Option Work) (s : State) (all : ℕ → ExtenderTables) (answer : Option Response) → StandsBy p o s s.queue all answer →
      StandsBy p o (queued c s) (queued c s).queue all answer
  queued_stands c m None s all answer h =
      let k : opened_by p.there s.queue ≡ opened_by p.there (queued c s).queue = sym (opened_more p.there (s.given + 1) c s.queue) in (
        record {
          laid = (h.0).laid ∙ ap (λ (o : ℕ → Bool). p.laid o s.held) k;
          exact = subst (λ (o : ℕ → Bool). p.Exact o s.bridge s.held) k (h.0).exact;
          fits = fits_more p (s.given + 1) c s.queue m (h.0).fits;
        },
        h.1,
      )
  queued_stands c m (Some w) s all answer h =
      let k : opened_by p.there s.queue ≡ opened_by p.there (queued c s).queue = sym (opened_more p.there (s.given + 1) c s.queue) in
      record {
        left = subst (λ (o : ℕ → Bool). InPhase p w.phase w o answer all s.held) k h.left;
        old = h.old;
        bridge = h.bridge;
        during = subst (λ (o : ℕ → Bool). p.During o h.old (bridge_after w.job h.old) s.held) k h.during;
        exact = subst (λ (o : ℕ → Bool). p.Exact o (bridge_after w.job h.old) (release w.change s.held)) k h.exact;
        fits = fits_more p (s.given + 1) c s.queue m h.fits;
        answers = h.answers;
        before = h.before;
        were = h.were;
        had = h.had;
        kept = h.kept;
        since = subst (λ (o : ℕ → Bool). IsSince w.phase (p.laid h.were h.before) all (p.laid o s.held)) k h.since;
        kinds = h.kinds;
        now = h.now ∙ k;
        asks = subst (λ (o : ℕ → Bool). AreFew o (w.first ∷ w.rest)) k h.asks;
        last_asks = subst (λ (o : ℕ → Bool). AreFew o w.change.cleanup) k h.last_asks;
      }

  hearing_stands : (n : ℕ) (o : Option Work) (s : State) (all : ℕ → ExtenderTables) (answer : Option Response) → StandsBy p o s s.queue all answer → StandsBy p o (hearing n s) s.queue all answer
  hearing_stands n None s all answer h = (record { laid = (h.0).laid; exact = (h.0).exact; fits = (h.0).fits }, h.1)
  hearing_stands n (Some w) s all answer h = record { left = h.left; old = h.old; bridge = h.bridge; during = h.during; exact = h.exact; fits = h.fits; answers = h.answers; before = h.before; were = h.were; had = h.had; kept = h.kept; since = h.since; kinds = h.kinds; now = h.now; asks = h.asks; last_asks = h.last_asks }

  with_asker_stands : (n : ℕ) (a : AskerState) (o : Option Work) (s : State) (all : ℕ → ExtenderTables) (answer : Option Response) → StandsBy p o s s.queue all answer →
      StandsBy p o (with_asker n a s) s.queue all answer
  with_asker_stands n a None s all answer h = (record { laid = (h.0).laid; exact = (h.0).exact; fits = (h.0).fits }, h.1)
  with_asker_stands n a (Some w) s all answer h = record { left = h.left; old = h.old; bridge = h.bridge; during = h.during; exact = h.exact; fits = h.fits; answers = h.answers; before = h.before; were = h.were; had = h.had; kept = h.kept; since = h.since; kinds = h.kinds; now = h.now; asks = h.asks; last_asks = h.last_asks }

  beats_stands : (o : Option Work) (s : State) (all : ℕ → ExtenderTables) (answer : Option Response) → s.work ≡ o → StandsBy p o s s.queue all answer →
      StandsBy p (beats_in o s).state.work (beats_in o s).state (beats_in o s).state.queue all answer
  beats_stands None s all answer e h = subst (λ (o : Option Work). StandsBy p o s s.queue all answer) (sym e) h
  beats_stands (Some w) s all answer e h =
      let a : AskerState = (beaten (s.askers w.first.extender)).0 in
      subst (λ (o : Option Work). StandsBy p o (with_asker w.first.extender a s) s.queue all answer) (sym e) (with_asker_stands w.first.extender a (Some w) s all answer h)

  module _ (decide : Decide) (plans : Plans p decide) where
    -- the answer that is waited for is taken, and what follows stands
    takes_stands : (o : Option Work) (answer : Option Response) (s : State) (all : ℕ → ExtenderTables) → s.work ≡ o → StandsBy p o s s.queue all answer → OneWaits s →
        StandsBy p (takes_answer decide o answer s).state.work (takes_answer decide o answer s).state (takes_answer decide o answer s).state.queue all None
        × OneWaits (takes_answer decide o answer s).state
    takes_stands None answer s all e h w = (subst (λ (o : Option Work). StandsBy p o s s.queue all None) (sym e) (h.0, refl), w)
    takes_stands (Some v) None s all e h w = (subst (λ (o : Option Work). StandsBy p o s s.queue all None) (sym e) h, w)
    takes_stands (Some v) (Some response) s all e h w =
        let n : ℕ = v.first.extender in
        let a : AskerState = s.askers n in
        let free : AskerState = record { serial = a.serial; waiting = None; beats = 0 } in
        let outstanding : a.waiting ≡ waited_for s.work n = w n in
        let asked : a.waiting ≡ Some v.first.request = rw (e, eq-eqb n n refl) at outstanding in
        let taken_is : took a (answer_message a.serial response) ≡ (free, taken.Answer response) = takes a v.first.request response asked (h.answers).0 in
        let moved_is : answered decide n (answer_message a.serial response) s ≡ answered_in decide (Some v) (with_asker n free s) =
        ap (λ (r : AskerState × Taken). answered_where decide r.1 (with_asker n r.0 s)) taken_is ∙ ap (λ (o : Option Work). answered_in decide o (with_asker n free s)) e in
        subst (λ (m : Moved). StandsBy p m.state.work m.state m.state.queue all None × OneWaits m.state) (sym moved_is) (
          answered_stands p decide plans (Some v) (with_asker n free s) all response e (with_asker_stands n free (Some v) s all (Some response) h),
          answered_waits decide (Some v) (with_asker n free s) e (none_waits decide v s e w free refl),
        )

    pub steps_stand : (y : System) (step : Step) → Stands p y → MayStep p y step → Stands p (stepped decide y step) × (code_in y step ≡ 0)
    steps_stand y (Order c) h m = (
      record {
        stands = wakes_stands p decide plans y.state.work (queued c y.state) y.tables y.answer refl (queued_stands c m y.state.work y.state y.tables y.answer h.stands);
        waits = wakes_waits decide y.state.work (queued c y.state) refl h.waits;
      },
      refl,
    )
    steps_stand y (Hear n) h m = (
      record {
        stands = wakes_stands p decide plans y.state.work (hearing n y.state) y.tables y.answer refl (hearing_stands n y.state.work y.state y.tables y.answer h.stands);
        waits = wakes_waits decide y.state.work (hearing n y.state) refl h.waits;
      },
      refl,
    )
    steps_stand y Execute h m =
        let k = execute_stands p decide plans y.state.work y.state y.tables y.answer h.stands in
        (record { stands = k.0; waits = h.waits }, k.1)
    steps_stand y Answer h m =
        let k = takes_stands y.state.work y.answer y.state y.tables refl h.stands h.waits in
        (record { stands = k.0; waits = k.1 }, refl)
    steps_stand y (Stray n message) h m = (
      subst (λ (x : Moved). Stands p (record { state = x.state; tables = y.tables; answer = y.answer })) (sym (stray_is_still decide n message y.state m))
          (record { stands = h.stands; waits = h.waits }),
      refl,
    )
    steps_stand y Beat h m = (
      record {
        stands = beats_stands y.state.work y.state y.tables y.answer refl h.stands;
        waits = beats_waits y.state.work y.state h.waits;
      },
      refl,
    )

    pub runs_stand : (y : System) (steps : List Step) → Stands p y → MayRun p decide y steps → Stands p (run decide steps y) × CodesAreZero decide y steps
    runs_stand y [] h m = (h, tt)
    runs_stand y (step ∷ steps) h m =
        let k = steps_stand y step h m.0 in
        let more = runs_stand (stepped decide y step) steps k.0 m.1 in
        (more.0, (k.1, more.1))

-- whatever the plans are
pub any_steps_stand : StepsStand
any_steps_stand p decide plans y step h m = steps_stand p decide plans y step h m

pub any_runs_stand : RunsStand
any_runs_stand p decide plans y steps h m = runs_stand p decide plans y steps h m
