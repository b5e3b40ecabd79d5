-- The calls of the control, from what its parts do.
use Rattle.std.proofs.Common.{◌≡◌, ℕ, ◌^◌, ◌<◌, ◌==◌, Bool, false, List, [], ◌∷◌, Option, Some, None, ◌++◌, drop, refl, ap, sym, subst, ◌∙◌, arith, inl, inr, eq-eqb}
use Rattle.std.proofs.lemmas.Bool.{cases_eq, cases_Bool, ne_eqb}
use Rattle.std.proofs.lemmas.List.{append-nil}
use Rattle.std.specs.Result.{OnOk, is_err}
use Rattle.std.specs.declared.result.Result.{Result}
use Rattle.std.specs.declared.result.Result.TheVariants.{Ok, Err}
use Rattle.exb_model.specs.declared.event.Event.{Event}
use Rattle.exb_csp.specs.declared.message.Request.{Request}
use Rattle.exb_csp.specs.Sessions.AskingEnd.{AskerState, beaten, beaten_while}
use Rattle.exb_csp.specs.declared.ask_at.AskAt.{AskAt}
use Rattle.exb_control_spec.specs.declared.plan.change.Change.{Change}
use Rattle.exb_control_spec.specs.declared.extender_message.Asked.{Asked}
use Rattle.exb_control_spec.specs.declared.job.Job.{Job}
use Rattle.exb_control_spec.specs.declared.job.Phase.{Phase}
use Rattle.exb_control_spec.specs.declared.job.Phase.TheVariants.{Preparing, Cleaning}
use Rattle.exb_control.specs.declared.stage.Stage.{Stage}
use Rattle.exb_control.specs.declared.stage.Stage.TheVariants.{AtRest, Prepared, InForce}
use Rattle.exb_control_spec.specs.Machine.{Work, State, Moved, beats, beats_in, heard, wakes}
use Rattle.exb_control.specs.declared.change_execution.ChangeExecutor.{ChangeExecutor}
use Rattle.exb_control.specs.declared.outbox.Outbox.{Outbox}
use Rattle.exb_model.specs.Tree.{Shape}
use Rattle.exb_control_spec.specs.Decisions.{Decide}
use Rattle.exb_control.specs.Queues.{first_in}
use Rattle.exb_control.specs.Controls.{Parts, state_of, work_from, work_at}
use Rattle.exb_control.specs.CallEffects.{IsMoved}
use Rattle.exb_control.specs.MachineSteps.{askers_of, Reached, reached, reached_by, put, noted, ask_at, after_beat, messages_at_beat}
use Rattle.exb_control.specs.Soundness.{IsSteady, to_come}
use Rattle.exb_control.specs.EncodableRequests.{Repeats, Spells}
use Rattle.exb_control.specs.ControlParts.{parts_of, IsKept}
use Rattle.exb_control.proofs.EncodableMessages.{repeats_put, repeats_beaten}
use Rattle.exb_control.proofs.MachineSteps.{drop-nil}

pub when_ok : {T E P : Type 0} (r : Result T E) → is_err r ≡ false → OnOk r P → P
when_ok (Ok x) fine p = p
when_ok (Err e) fine p = absurd (cc)

-- ---- a step of the machine
pub moved : (m : Moved) (old : Parts) (core : ChangeExecutor) (queue : List Job) (heard : List Bool) (given : ℕ) (failed : Bool) (events : List Event) (asks : List Asked) (downs : List ℕ) (out : Outbox) →
    events ≡ [] → asks ≡ [] → downs ≡ [] →
    reached (state_of (parts_of core queue heard given failed)) out.events out.asks out.downs ≡ reached_by m events asks downs →
    core.active.shape ≡ old.active.shape → core.active.limits ≡ old.active.limits → failed ≡ old.failed →
    IsMoved m old (parts_of core queue heard given failed) out
moved m old core queue heard given failed events asks downs out none no_ask no_down e shape limits same =
    let r : reached (state_of (parts_of core queue heard given failed)) out.events out.asks out.downs ≡ reached_by m [] [] [] = e ∙ rw (none, no_ask, no_down) refl in
    record {
      state = ap (λ (x : Reached). x.state) r;
      events = ap (λ (x : Reached). x.events) r;
      asks = ap (λ (x : Reached). x.asks) r;
      downs = ap (λ (x : Reached). x.downs) r;
      shape = shape;
      limits = limits;
      failed = same;
    }

-- the same number, written another way
pub steady_at : (n k : ℕ) (o : Option Work) (askers : ℕ → AskerState) → n ≡ k → IsSteady n o askers → IsSteady k o askers
steady_at n k o askers same steady = subst (λ (x : ℕ). IsSteady x o askers) same steady

-- ---- beats
beaten_by : (s : AskerState) (o : Option Request) → ((beaten_while s o).0.waiting ≡ s.waiting) × ((beaten_while s o).0.serial ≡ s.serial)
beaten_by s None = (refl, refl)
beaten_by s (Some q) = elim (cases_Bool (s.beats == 15)) [ inl e ↦ rw e (refl, refl) | inr e ↦ rw e (refl, refl) ]

put_keeps : (e : ℕ) (a : AskerState) (askers : ℕ → AskerState) → (a.waiting ≡ (askers e).waiting) × (a.serial ≡ (askers e).serial) → (n : ℕ) →
    ((put e a askers n).waiting ≡ (askers n).waiting) × ((put e a askers n).serial ≡ (askers n).serial)
put_keeps e a askers same n = elim (cases_eq n e) [ inl is ↦ rw (is, eq-eqb e e refl) same | inr ne ↦ rw (ne_eqb n e ne) (refl, refl) ]

beat_keeps : (o : Option AskAt) (askers : ℕ → AskerState) (n : ℕ) → ((after_beat o askers n).waiting ≡ (askers n).waiting) × ((after_beat o askers n).serial ≡ (askers n).serial)
beat_keeps None askers n = (refl, refl)
beat_keeps (Some a) askers n = put_keeps a.extender (beaten (askers a.extender)).0 askers (beaten_by (askers a.extender) (askers a.extender).waiting) n

pub steady_beat : (k : ℕ) (o : Option Work) (q : Option AskAt) (askers : ℕ → AskerState) → IsSteady k o askers → IsSteady k o (after_beat q askers)
steady_beat k None q askers may =
    record {
      idle = λ n. (beat_keeps q askers n).0 ∙ may.idle n;
      room = λ n. rw (beat_keeps q askers n).1 (may.room n);
    }
steady_beat k (Some w) q askers waits =
    record {
      others = λ n ne. (beat_keeps q askers n).0 ∙ waits.others n ne;
      room = λ n. rw (beat_keeps q askers n).1 (waits.room n);
      first = waits.first;
      rest = waits.rest;
      later = waits.later;
    }

beats_from : (j : Job) (x : Change) (phase : Phase) (xs : List AskAt) (s : State) (events : List Event) (asks : List Asked) (t : List ℕ) →
    reached (record s { askers = after_beat (first_in xs) s.askers }) (events) (asks ++ messages_at_beat (first_in xs) s.askers) t ≡ reached_by (beats_in (work_from j x phase xs) s) events asks t
beats_from j x phase [] s events asks t = rw (append-nil events, append-nil t) refl
beats_from j x phase (a ∷ rest) s events asks t = rw (append-nil events, append-nil t) refl

pub beats_as : (stage : Stage) (place : ℕ) (s : State) (askers : ℕ → AskerState) (events : List Event) (asks asks' : List Asked) (t : List ℕ) → s.work ≡ work_at stage place →
    askers ≡ after_beat (ask_at stage place) s.askers → asks' ≡ asks ++ messages_at_beat (ask_at stage place) s.askers →
    reached (record s { askers = askers }) events asks' t ≡ reached_by (beats s) events asks t
beats_as stage place s askers events asks asks' t work is told =
    rw (is, told) (by_stage stage ∙ ap (λ (o : Option Work). reached_by (beats_in o s) events asks t) (sym work))
  where
    by_stage : (st : Stage) → reached (record s { askers = after_beat (ask_at st place) s.askers }) events (asks ++ messages_at_beat (ask_at st place) s.askers) t
        ≡ reached_by (beats_in (work_at st place) s) events asks t
    by_stage AtRest = rw (drop-nil {X = AskAt} place, append-nil events, append-nil t) refl
    by_stage (Prepared j x) = beats_from j x Preparing (drop place x.prepare) s events asks t
    by_stage (InForce j x) = beats_from j x Cleaning (drop place x.cleanup) s events asks t

repeats_beat : (q : Option AskAt) (askers : ℕ → AskerState) → ((n : ℕ) → Repeats (askers n)) → (n : ℕ) → Repeats (after_beat q askers n)
repeats_beat None askers all n = all n
repeats_beat (Some a) askers all n = repeats_put a.extender (beaten (askers a.extender)).0 askers (repeats_beaten (askers a.extender) (all a.extender)) all n

spells_beat : (t : Shape) (o : Option Work) (q : Option AskAt) (askers : ℕ → AskerState) → Spells t o askers → Spells t o (after_beat q askers)
spells_beat t o q askers k = record { known = k.known; work = k.work; askers = repeats_beat q askers k.askers }

pub kept_beat : (core core' : ChangeExecutor) (queue : List Job) (given : ℕ) (failed : Bool) → core' ≡ record core { sessions = core'.sessions } →
    askers_of core'.sessions ≡ after_beat (ask_at core.active.stage core.place) (askers_of core.sessions) → IsKept core queue given failed → IsKept core' queue given failed
kept_beat core core' queue given failed rest askers kept =
    subst (λ (x : ChangeExecutor). IsKept x queue given failed) (sym rest)
    (record {
      sound = λ fine.
          let sound = kept.sound fine in
          record {
            fit = sound.fit;
            asks = sound.asks;
            steady = rw askers (steady_beat (to_come queue given) _ (ask_at core.active.stage core.place) (askers_of core.sessions) sound.steady);
            spells = rw askers (spells_beat core.active.shape _ (ask_at core.active.stage core.place) (askers_of core.sessions) sound.spells);
          };
    })

pub beat_moves : (core core' : ChangeExecutor) (queue : List Job) (heard : List Bool) (given : ℕ) (failed : Bool) (events : List Event) (asks asks' : List Asked) (downs : List ℕ) →
    core' ≡ record core { sessions = core'.sessions } →
    askers_of core'.sessions ≡ after_beat (ask_at core.active.stage core.place) (askers_of core.sessions) →
    asks' ≡ asks ++ messages_at_beat (ask_at core.active.stage core.place) (askers_of core.sessions) →
    reached (state_of (parts_of core' queue heard given failed)) events asks' downs
    ≡ reached_by (beats (state_of (parts_of core queue heard given failed))) events asks downs
beat_moves core core' queue heard given failed events asks asks' downs rest askers told =
    ap (λ (x : ChangeExecutor). reached (state_of (parts_of x queue heard given failed)) events asks' downs) rest
    ∙ beats_as core.active.stage core.place (state_of (parts_of core queue heard given failed)) (askers_of core'.sessions) events asks asks' downs refl askers told

-- ---- who was heard
pub heard_it : (decide : Decide) (n : ℕ) (s : State) (heard' : ℕ → Bool) (events : List Event) (asks : List Asked) (downs : List ℕ) → heard' ≡ noted n s.heard →
    reached_by (wakes decide (record s { heard = heard' })) events asks downs ≡ reached_by (heard decide n s) events asks downs
heard_it decide n s heard' events asks downs is = rw is refl

-- ---- numbers
pub room_of : (k : ℕ) (o : Option Work) (askers : ℕ → AskerState) → IsSteady k o askers → k < 2 ^ 40
room_of k None askers may = let room = may.room 0 in omega arith
room_of k (Some w) askers waits = let room = waits.room 0 in omega arith

-- no serial is as large
pub low_serials : (k : ℕ) (o : Option Work) (askers : ℕ → AskerState) → IsSteady k o askers → (n : ℕ) → (askers n).serial < 2 ^ 40
low_serials k None askers may n = let room = may.room n in omega arith
low_serials k (Some w) askers waits n = let room = waits.room n in omega arith
