-- Whose turn it is.
use Rattle.std.proofs.Common.{◌≡◌, ℕ, ◌+◌, ◌*◌, ◌^◌, length, Bool, true, false, List, [], ◌∷◌, Option, Some, None, refl, ap, sym, subst, ◌∙◌}
use Rattle.std.proofs.lemmas.List.{append-nil}
use Rattle.std.specs.Option.{is_none}
use Rattle.exb_model.specs.declared.event.Event.{Event}
use Rattle.exb_control.specs.ActiveConfigs.{ActiveConfig, bridge_in, held_in}
use Rattle.exb_control_spec.specs.JobsOfTree.{AreFit}
use Rattle.exb_control_spec.specs.declared.extender_message.Asked.{Asked}
use Rattle.exb_control_spec.specs.declared.job.Job.{Job}
use Rattle.exb_control_spec.specs.declared.job.Job.TheVariants as job
use Rattle.exb_control.specs.declared.stage.Stage.{Stage}
use Rattle.exb_control.specs.declared.stage.Stage.TheVariants.{AtRest, Prepared, InForce}
use Rattle.exb_control_spec.specs.Decisions.{Decide}
use Rattle.exb_control_spec.specs.Machine.{Work, State, Moved, waits, after_start, starts, goes_on}
use Rattle.exb_control.specs.declared.change_execution.ChangeExecutor.{ChangeExecutor}
use Rattle.exb_control.specs.Queues.{first_in, after_first}
use Rattle.exb_control.specs.Controls.{work_at, decide_of}
use Rattle.exb_control.specs.MachineSteps.{Front, askers_of, Reached, reached, reached_by, rest_of, state_in, with_queue, waits_for, is_at_rest}
use Rattle.exb_csp.specs.Sessions.AskingEnd.{AskerState}
use Rattle.exb_control.specs.Soundness.{MayAsk, IsSteady, AsksOrRests}
use Rattle.exb_control.proofs.MachineSteps.{joined}

-- ---- nothing is started
pub state_at_rest : (f : Front) (c : ChangeExecutor) → c.active.stage ≡ AtRest → state_in f c ≡ rest_of f c
state_at_rest f c rest = rw rest refl

waits_as : (f : Front) (c : ChangeExecutor) (j : Job) → waits (rest_of f c) j ≡ waits_for f.heard j
waits_as f c (job.Opening n) = refl
waits_as f c (job.AutomaticUp p) = refl
waits_as f c (job.Ordered n k) = refl

pub none_waits : (decide : Decide) (q : List Job) (f : Front) (c : ChangeExecutor) (events : List Event) (asks : List Asked) (t : List ℕ) →
    c.active.stage ≡ AtRest → first_in q ≡ None →
    reached (state_in (with_queue q f) c) events asks t ≡ reached_by (goes_on decide q (rest_of f c)) events asks t
unfolding goes_on
none_waits decide [] f c events asks t rest none = rw (rest, append-nil events, append-nil asks, append-nil t) refl
none_waits decide (j ∷ js) f c events asks t rest none = absurd (cc)

pub first_waits : (decide : Decide) (q : List Job) (j : Job) (f : Front) (heard : List Bool) (c : ChangeExecutor) (events : List Event) (asks : List Asked) (t : List ℕ) →
    c.active.stage ≡ AtRest → first_in q ≡ Some j → f.heard ≡ heard → waits_for heard j ≡ true →
    reached (state_in (with_queue q f) c) events asks t ≡ reached_by (goes_on decide q (rest_of f c)) events asks t
unfolding goes_on
first_waits decide [] j f heard c events asks t rest is same wait = absurd (cc)
first_waits decide (i ∷ js) j f heard c events asks t rest is same wait =
    let one : i ≡ j = cc in
    let here : waits (rest_of f c) i ≡ true = waits_as f c i ∙ ap (λ (k : Job). waits_for f.heard k) one ∙ ap (λ (h : List Bool). waits_for h j) same ∙ wait in
    rw (rest, here, append-nil events, append-nil asks, append-nil t) refl

-- ---- the first is started
started_busy : (js : List Job) (m onward : Moved) (s : State) (w : Work) (events events' : List Event) (asks asks' : List Asked) (t t' : List ℕ) →
    reached s events' asks' t' ≡ reached_by m events asks t → s.work ≡ Some w →
    reached (record s { queue = js }) events' asks' t' ≡ reached_by (after_start js m.state.work m onward) events asks t
started_busy js m onward s w events events' asks asks' t t' e busy =
    let there : m.state.work ≡ Some w = sym (ap (λ (r : Reached). r.state.work) e) ∙ busy in
    ap (λ (r : Reached). reached (record r.state { queue = js }) r.events r.asks r.downs) e
    ∙ ap (λ (o : Option Work). reached_by (after_start js o m onward) events asks t) (sym there)

started_rests : (js : List Job) (m : Moved) (onward : State → Moved) (s : State) (events events' : List Event) (asks asks' : List Asked) (t t' : List ℕ) →
    reached s events' asks' t' ≡ reached_by m events asks t → s.work ≡ None →
    reached_by (onward s) events' asks' t' ≡ reached_by (after_start js m.state.work m (onward m.state)) events asks t
started_rests js m onward s events events' asks asks' t t' e rests =
    let there : m.state.work ≡ None = sym (ap (λ (r : Reached). r.state.work) e) ∙ rests in
    ap (λ (r : Reached). reached_by (onward r.state) r.events r.asks r.downs) e
    ∙ joined m (onward m.state) events asks t
    ∙ ap (λ (o : Option Work). reached_by (after_start js o m (onward m.state)) events asks t) (sym there)

-- a request is outstanding
pub record IsBusy (o : Option Work) : Type 0 where
  pub work : Work
  pub is : o ≡ Some work

some_or : (o : Option Work) → (is_none o ≡ true → ⊥) → IsBusy o
some_or None never = absurd (never refl)
some_or (Some w) never = record { work = w; is = refl }

pub busy_of : (c : ChangeExecutor) → AsksOrRests c → is_at_rest c.active.stage ≡ false → IsBusy (work_at c.active.stage c.place)
busy_of c asks busy = some_or (work_at c.active.stage c.place) (λ none. let rest = asks none in at_rest (rw rest at busy))
  where
    at_rest : true ≡ false → ⊥
    at_rest e = cc

pub rests_of : (stage : Stage) → is_at_rest stage ≡ true → stage ≡ AtRest
rests_of AtRest e = refl
rests_of (Prepared j x) e = absurd (cc)
rests_of (InForce j x) e = absurd (cc)

module _ (decide : Decide) (j : Job) (js : List Job) (f : Front) (heard : List Bool) (old new : ChangeExecutor) (events events' : List Event) (asks asks' : List Asked) (t t' : List ℕ)
    (same : f.heard ≡ heard) (goes : waits_for heard j ≡ false)
    (e : reached (state_in f new) events' asks' t' ≡
    reached_by (starts j (decide (bridge_in old.active) (held_in old.active) j) (rest_of f old)) events asks t) where
  here : waits (rest_of f old) j ≡ false
  here = waits_as f old j ∙ ap (λ (h : List Bool). waits_for h j) same ∙ goes

  pub starts_busy : AsksOrRests new → is_at_rest new.active.stage ≡ false →
      reached (state_in (with_queue js f) new) events' asks' t' ≡ reached_by (goes_on decide (j ∷ js) (rest_of f old)) events asks t
  unfolding goes_on
  starts_busy rests busy =
      let work = busy_of new rests busy in
      rw here (started_busy js (starts j (decide (bridge_in old.active) (held_in old.active) j) (rest_of f old)) _ (state_in f new) work.work events events' asks asks' _ _ e work.is)

  pub starts_resting : is_at_rest new.active.stage ≡ true →
      reached_by (goes_on decide js (rest_of f new)) events' asks' t' ≡ reached_by (goes_on decide (j ∷ js) (rest_of f old)) events asks t
  unfolding goes_on
  starts_resting rest =
      let at = rests_of new.active.stage rest in
      let is = state_at_rest f new at in
      rw here (ap (λ (s : State). reached_by (goes_on decide js s) events' asks' t') (sym is)
      ∙ started_rests js (starts j (decide (bridge_in old.active) (held_in old.active) j) (rest_of f old)) (goes_on decide js) (state_in f new) events events' asks asks' _ _ e
      (ap (λ (st : Stage). work_at st new.place) at))

pub first_is : (q : List Job) (j : Job) → first_in q ≡ Some j → q ≡ j ∷ after_first q
first_is [] j e = absurd (cc)
first_is (i ∷ js) j e = let one : i ≡ j = cc in rw one refl

-- ---- the loop over the queue
pub record IsOnWay (heard : List Bool) (q0 q : List Job) (c0 c : ChangeExecutor) (events0 events : List Event) (asks0 asks : List Asked) (downs0 downs : List ℕ) : Type 0 where
  pub stage : c.active.stage ≡ AtRest
  pub shape : c.active.shape ≡ c0.active.shape
  pub limits : c.active.limits ≡ c0.active.limits
  pub fit : AreFit c0.active.shape q
  pub way : (f : Front) → f.heard ≡ heard →
      reached_by (goes_on (decide_of c0.active) q (rest_of f c)) events asks downs
      ≡ reached_by (goes_on (decide_of c0.active) q0 (rest_of f c0)) events0 asks0 downs0
  pub steady : (k : ℕ) → MayAsk (2 ^ 21 * length q0 + k) (askers_of c0.sessions) → MayAsk (2 ^ 21 * length q + k) (askers_of c.sessions)

-- jobs are decided as before
pub same_decide : (c0 c : ActiveConfig) → c.shape ≡ c0.shape → c.limits ≡ c0.limits → decide_of c ≡ decide_of c0
same_decide c0 c shape limits = rw (shape, limits) refl

pub steady_rests : (k : ℕ) (stage : Stage) (place : ℕ) (askers : ℕ → AskerState) → stage ≡ AtRest → IsSteady k (work_at stage place) askers → MayAsk k askers
steady_rests k stage place askers rest steady = rw rest at steady

pub on_way : (decide decide' : Decide) → decide ≡ decide' → (s s' : State) (q q' : List Job) (events events' : List Event) (asks asks' : List Asked) (t t' : List ℕ) →
    reached_by (goes_on decide q s) events asks t ≡ reached_by (goes_on decide q' s') events' asks' t' →
    reached_by (goes_on decide' q s) events asks t ≡ reached_by (goes_on decide' q' s') events' asks' t'
on_way decide decide' same s s' q q' events events' asks asks' t t' e =
    subst (λ (d : Decide). reached_by (goes_on d q s) events asks t ≡ reached_by (goes_on d q' s') events' asks' t') same e
