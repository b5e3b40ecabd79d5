-- Who waits.
use Rattle.std.proofs.Common.{◌≡◌, ℕ, ◌==◌, List, [], ◌∷◌, Option, Some, None, refl, ◌∙◌, subst, inl, inr, eq-eqb}
use Rattle.std.proofs.lemmas.Bool.{cases_Bool, cases_eq, ne_eqb}
use Rattle.exb_csp.specs.Sessions.AskingEnd.{AskerState}
use Rattle.exb_csp.specs.declared.ask_at.AskAt.{AskAt}
use Rattle.exb_control_spec.specs.declared.plan.change.Change.{Change}
use Rattle.exb_control_spec.specs.declared.job.Job.{Job}
use Rattle.exb_control_spec.specs.declared.job.Phase.{Phase}
use Rattle.exb_control_spec.specs.declared.job.Phase.TheVariants.{Preparing, Cleaning}
use Rattle.exb_control_spec.specs.Decisions.{Outcome, Refused, Ready, Decide, bridge_after}
use Rattle.exb_control_spec.specs.Machine.{Work, State, Moved, asking, works, ends, cleans, prepares, starts, waits, after_start, goes_on, wakes_by, answered_by, answered_in, beats_in, with_asker}
use Rattle.exb_control_spec.specs.Runs.MachineInvariant.{waited_for, OneWaits}
use Rattle.exb_control_spec.proofs.Runs.AskerAnswers.{beat_waits}

-- nobody waits
abbrev pub NoneWaits : State → Type 0
NoneWaits s = (n : ℕ) → (s.askers n).waiting ≡ None

pub asking_waits : (w : Work) (s : State) → NoneWaits s → OneWaits (asking w s).state
asking_waits w s f n =
    elim (cases_Bool (n == w.first.extender)) [
      | inl e ↦ rw e refl
      | inr e ↦ rw e (f n)
    ]

works_waits : (j : Job) (x : Change) (q : Phase) (a : AskAt) (more : List AskAt) (s : State) → NoneWaits s → OneWaits (works j x q a more s).state
works_waits j x q a more s f = asking_waits (record { job = j; change = x; phase = q; first = a; rest = more }) s f

cleans_waits : (j : Job) (x : Change) (left : List AskAt) (s : State) → NoneWaits s → OneWaits (cleans j x left s).state
cleans_waits j x [] s f = f
cleans_waits j x (a ∷ more) s f = works_waits j x Cleaning a more s f

prepares_waits : (j : Job) (x : Change) (left : List AskAt) (s : State) → NoneWaits s → OneWaits (prepares j x left s).state
prepares_waits j x [] s f = cleans_waits j x x.cleanup (record s { bridge = bridge_after j s.bridge }) f
prepares_waits j x (a ∷ more) s f = works_waits j x Preparing a more s f

starts_waits : (j : Job) (d : Outcome) (s : State) → s.work ≡ None → NoneWaits s → OneWaits (starts j d s).state
starts_waits j (Refused cause) s n f = rw n f
starts_waits j (Ready x claimed) s n f = prepares_waits j x x.prepare (record s { held = claimed }) f

module _ (decide : Decide) where
  after_start_waits : (m : Moved) (js : List Job) (onward : Moved) (o : Option Work) → m.state.work ≡ o → OneWaits m.state → (m.state.work ≡ None → NoneWaits m.state → OneWaits onward.state) →
      OneWaits (after_start js o m onward).state
  after_start_waits m js onward None e h f = f e (rw e at h)
  after_start_waits m js onward (Some w) e h f = h

  goes_on_waits : (js : List Job) (s : State) → s.work ≡ None → NoneWaits s → OneWaits (goes_on decide js s).state
  unfolding goes_on
  goes_on_waits [] s n f = rw n f
  goes_on_waits (j ∷ js) s n f =
      elim (cases_Bool (waits s j)) [
        | inl w ↦ rw (w, n) f
        | inr w ↦
            rw w (
            let m : Moved = starts j (decide s.bridge s.held j) s in
            after_start_waits m js (goes_on decide js m.state) m.state.work refl (starts_waits j (decide s.bridge s.held j) s n f) (λ e g. goes_on_waits js m.state e g))
      ]

  pub wakes_waits : (o : Option Work) (s : State) → s.work ≡ o → OneWaits s → OneWaits (wakes_by decide o s).state
  wakes_waits None s e h = goes_on_waits s.queue s e (rw e at h)
  wakes_waits (Some w) s e h = h

  pub answered_waits : (o : Option Work) (s : State) → s.work ≡ o → NoneWaits s → OneWaits (answered_in decide o s).state
  answered_waits None s e f = rw e f
  answered_waits (Some w) s e f = by_phase w.phase w.rest
    where
      by_phase : (q : Phase) (left : List AskAt) → OneWaits (answered_by decide (record w { phase = q }) left s).state
      by_phase q (a ∷ more) = works_waits w.job w.change q a more s f
      by_phase Preparing [] =
          let c : State = record s { work = None; bridge = bridge_after w.job s.bridge } in
          let m : Moved = cleans w.job w.change w.change.cleanup c in
          wakes_waits m.state.work m.state refl (cleans_waits w.job w.change w.change.cleanup c f)
      by_phase Cleaning [] = goes_on_waits s.queue (ends w.change s) refl f

  -- where its answer was taken, nobody waits
  pub none_waits : (w : Work) (s : State) → s.work ≡ Some w → OneWaits s → (a : AskerState) → a.waiting ≡ None → NoneWaits (with_asker w.first.extender a s)
  none_waits w s e h a free n =
      let k : (s.askers n).waiting ≡ waited_for (Some w) n = rw e at h n in
      elim (cases_Bool (n == w.first.extender)) [
        | inl y ↦ rw y free
        | inr y ↦ rw y (rw y at k)
      ]

-- a beat changes nobody who waits
pub beats_waits : (o : Option Work) (s : State) → OneWaits s → OneWaits (beats_in o s).state
beats_waits None s h n = h n
beats_waits (Some w) s h n =
    elim (cases_eq n w.first.extender) [
      | inl e ↦ rw (eq-eqb n w.first.extender e) (beat_waits (s.askers w.first.extender) ∙ subst (λ (m : ℕ). (s.askers m).waiting ≡ waited_for s.work n) e (h n))
      | inr e ↦ rw (ne_eqb n w.first.extender e) (h n)
    ]
