-- How the parts of the control follow the machine.
use Rattle.std.proofs.Common.{◌≡◌, ℕ, zero, suc, ◌++◌, true, false, List, [], ◌∷◌, drop, refl, ap, sym, ◌∙◌, append_assoc}
use Rattle.std.proofs.lemmas.List.{append-nil}
use Rattle.std.specs.Option.{is_some}
use Rattle.exb_model.specs.declared.event.Event.{Event}
use Rattle.exb_csp.specs.Sessions.AskingEnd.{AskerState}
use Rattle.exb_csp.specs.declared.ask_at.AskAt.{AskAt}
use Rattle.exb_control_spec.specs.declared.plan.change.Change.{Change}
use Rattle.exb_control_spec.specs.Plans.HeldNumbers.{Held}
use Rattle.exb_model.specs.Configuration.{Bridge}
use Rattle.exb_control_spec.specs.declared.extender_message.Asked.{Asked}
use Rattle.exb_control_spec.specs.declared.job.Job.{Job}
use Rattle.exb_control_spec.specs.declared.job.Phase.{Phase}
use Rattle.exb_control_spec.specs.declared.job.Phase.TheVariants.{Preparing, Cleaning}
use Rattle.exb_control.specs.declared.stage.Stage.{Stage}
use Rattle.exb_control.specs.declared.stage.Stage.TheVariants.{AtRest, Prepared, InForce}
use Rattle.exb_control_spec.specs.Decisions.{bridge_after, release}
use Rattle.exb_control.specs.ActiveConfigs.{IsPrepared, IsInForce}
use Rattle.exb_control_spec.specs.Machine.{State, Moved, still, ends, cleans, commits, committed, downs_of, followed_by}
use Rattle.exb_control.specs.Queues.{first_in}
use Rattle.exb_control.specs.Controls.{work_from, work_at}
use Rattle.exb_control.specs.MachineSteps.{reached, reached_by, asks_in, ask_at, after_ask, messages_for, next_of, advances, commits_at}

-- ---- lists
pub drop-nil : {X : Type 0} → (i : ℕ) → drop {A = X} i [] ≡ []
drop-nil zero = refl
drop-nil (suc i) = refl

-- one step after another
pub joined : (m n : Moved) (events : List Event) (asks : List Asked) (t : List ℕ) →
    reached_by n (events ++ m.events) (asks ++ m.asks) (t ++ m.downs) ≡ reached_by (followed_by m n) events asks t
joined m n events asks t = rw (append_assoc events m.events n.events, append_assoc asks m.asks n.asks, append_assoc t m.downs n.downs) refl

-- ---- a request goes out
goes_out : (s : State) (j : Job) (x : Change) (phase : Phase) (ending : State → Moved) (xs : List AskAt) (askers : ℕ → AskerState)
    (events : List Event) (asks asks' : List Asked) (t : List ℕ) → is_some (first_in xs) ≡ true → askers ≡ after_ask (first_in xs) s.askers →
    asks' ≡ asks ++ messages_for (first_in xs) s.askers →
    reached (record s { work = work_from j x phase xs; askers = askers }) events asks' t ≡ reached_by (next_of j x phase ending xs s) events asks t
goes_out s j x phase ending [] askers events asks asks' t some is told = absurd (cc)
goes_out s j x phase ending (a ∷ rest) askers events asks asks' t some is told = rw (is, told, append-nil events, append-nil t) refl

pub asked_on : (s : State) (stage : Stage) (i : ℕ) (askers : ℕ → AskerState) (events : List Event) (asks asks' : List Asked) (t : List ℕ) →
    is_some (ask_at stage i) ≡ true → askers ≡ after_ask (ask_at stage i) s.askers → asks' ≡ asks ++ messages_for (ask_at stage i) s.askers →
    reached (record s { work = work_at stage i; askers = askers }) events asks' t ≡ reached_by (advances stage (drop i (asks_in stage)) s) events asks t
asked_on s AtRest i askers events asks asks' t some is told = absurd (none (rw (drop-nil {X = AskAt} i) at some))
  where
    none : false ≡ true → ⊥
    none e = cc
asked_on s (Prepared j x) i askers events asks asks' t some is told = goes_out s j x Preparing (commits j x) (drop i x.prepare) askers events asks asks' t some is told
asked_on s (InForce j x) i askers events asks asks' t some is told = goes_out s j x Cleaning (λ u. still (ends x u)) (drop i x.cleanup) askers events asks asks' t some is told

-- no request is left, so none was asked
pub record NoneAsked (xs : List AskAt) (old new : ℕ → AskerState) (asks asks' : List Asked) : Type 0 where
  pub none : xs ≡ []
  pub askers : new ≡ old
  pub told : asks' ≡ asks

pub none_asked : (xs : List AskAt) (old new : ℕ → AskerState) (asks asks' : List Asked) → is_some (first_in xs) ≡ false → new ≡ after_ask (first_in xs) old →
    asks' ≡ asks ++ messages_for (first_in xs) old → NoneAsked xs old new asks asks'
none_asked [] old new asks asks' none is told = record { none = refl; askers = is; told = told ∙ append-nil asks }
none_asked (x ∷ xs) old new asks asks' none is told = absurd (cc)

-- ---- a change takes effect
pub next_cleans : (j : Job) (x : Change) (xs : List AskAt) (s : State) → next_of j x Cleaning (λ u. still (ends x u)) xs s ≡ cleans j x xs s
next_cleans j x [] s = refl
next_cleans j x (a ∷ rest) s = refl

pub takes_effect : (s : State) (j : Job) (x : Change) (b : Bridge) (h : Held) (events events' : List Event) (asks : List Asked) (t t' : List ℕ) →
    b ≡ bridge_after j s.bridge → h ≡ s.held → events' ≡ events ++ committed j → t' ≡ t ++ downs_of j →
    reached_by (advances (InForce j x) x.cleanup (record s { bridge = b; held = h })) events' asks t' ≡ reached_by (commits j x s) events asks t
takes_effect s j x b h events events' asks t t' bridge held told forgotten =
    rw (bridge, held, told, forgotten, next_cleans j x x.cleanup (record s { bridge = bridge_after j s.bridge }))
    (ap (λ (a : List Asked). reached_by (cleans j x x.cleanup (record s { bridge = bridge_after j s.bridge })) (events ++ committed j) a (t ++ downs_of j)) (sym (append-nil asks))
    ∙ joined (record { state = s; events = committed j; asks = []; downs = downs_of j }) (cleans j x x.cleanup (record s { bridge = bridge_after j s.bridge })) events asks t)

-- ---- stages
pub record Holds (make : Job → Change → Stage) (stage : Stage) : Type 0 where
  pub job : Job
  pub change : Change
  pub is : stage ≡ make job change

pub prepared_is : (stage : Stage) → IsPrepared stage → Holds Prepared stage
prepared_is AtRest p = absurd p
prepared_is (Prepared j x) p = record { job = j; change = x; is = refl }
prepared_is (InForce j x) p = absurd p

pub in_force_is : (stage : Stage) → IsInForce stage → Holds InForce stage
in_force_is AtRest p = absurd p
in_force_is (Prepared j x) p = absurd p
in_force_is (InForce j x) p = record { job = j; change = x; is = refl }

-- the last request of a change in force is answered
pub finished : (s : State) (j : Job) (x : Change) (stage after : Stage) (i : ℕ) (askers : ℕ → AskerState) (b : Bridge) (h : Held)
    (events : List Event) (asks asks' : List Asked) (t : List ℕ) →
    stage ≡ InForce j x → after ≡ AtRest → askers ≡ s.askers → asks' ≡ asks → b ≡ s.bridge → h ≡ release x s.held →
    reached (record s { work = work_at after i; askers = askers; bridge = b; held = h }) events asks' t ≡ reached_by (advances stage [] s) events asks t
finished s j x stage after i askers b h events asks asks' t stage_is rest same told bridge held =
    rw (stage_is, rest, same, told, bridge, held, append-nil events, append-nil asks, append-nil t) refl

-- a prepared change takes effect, and goes on with its cleanup
pub effect_from : (s : State) (j : Job) (x : Change) (stage after : Stage) (b : Bridge) (h : Held) (events events' : List Event) (asks asks' : List Asked) (t t' : List ℕ) →
    stage ≡ Prepared j x → after ≡ InForce j x →
    b ≡ bridge_after j s.bridge → h ≡ s.held → events' ≡ events ++ committed j → asks' ≡ asks → t' ≡ t ++ downs_of j →
    reached_by (advances after (asks_in after) (record s { bridge = b; held = h })) events' asks' t' ≡ reached_by (commits_at stage s) events asks t
effect_from s j x stage after b h events events' asks asks' t t' ready force bridge held told same forgotten =
    rw (ready, force, same) (takes_effect s j x b h events events' asks t t' bridge held told forgotten)

pub prepared_ends : (stage : Stage) (s : State) → IsPrepared stage → commits_at stage s ≡ advances stage [] s
prepared_ends AtRest s p = absurd p
prepared_ends (Prepared j x) s p = refl
prepared_ends (InForce j x) s p = absurd p

-- where no request is left, the phase ends
pub on_from : (s : State) (stage : Stage) (xs : List AskAt) (askers : ℕ → AskerState) (asks asks' : List Asked) (events : List Event) (t : List ℕ) →
    NoneAsked xs s.askers askers asks asks' →
    reached_by (advances stage [] (record s { askers = askers })) events asks' t ≡ reached_by (advances stage xs s) events asks t
on_from s stage xs askers asks asks' events t n = rw (n.none, n.askers, n.told) refl
