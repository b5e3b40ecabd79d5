-- What a step of the machine of changes asks: nothing, and all askers stay; or one request, under the next serial of its extender.
-- So it keeps what is left to be shown of the bridge's ends.
use Rattle.std.proofs.Common.{◌≡◌, ◌⊎◌, inl, inr, ℕ, ◌+◌, ◌≤◌, ◌==◌, Bool, true, false, cond, List, [], ◌∷◌, ◌++◌, append-nil, Option, Some, None, refl, ap, sym, ◌∙◌, subst, arith}
use Rattle.std.proofs.lemmas.Bool.{cases_eq, eq-eqb, ne_eqb}
use Rattle.exb_model.specs.declared.command.Command.{Command}
use Rattle.exb_model.specs.Tree.{Shape}
use Rattle.exb_csp.specs.declared.message.Message.{Message}
use Rattle.exb_csp.specs.Encoding.{message_bytes}
use Rattle.exb_ecp.specs.StopAndWait.{State as Ecp, submitted, stopped}
use Rattle.exb_csp.specs.Sessions.AskingEnd.{AskerState, asked}
use Rattle.exb_csp.specs.declared.ask_at.AskAt.{AskAt}
use Rattle.exb_control_spec.specs.declared.plan.change.Change.{Change}
use Rattle.exb_control_spec.specs.declared.extender_message.Asked.{Asked}
use Rattle.exb_control_spec.specs.declared.job.Job.{Job}
use Rattle.exb_control_spec.specs.declared.job.Job.TheVariants as job
use Rattle.exb_control_spec.specs.declared.job.Phase.{Phase}
use Rattle.exb_control_spec.specs.declared.job.Phase.TheVariants as phase
use Rattle.exb_control_spec.specs.Decisions.{Outcome, Refused, Ready, Decide, bridge_after}
use Rattle.exb_control_spec.specs.Machine.{State, Work, Moved, still, followed_by, ends, cleans, commits, prepares, starts, waits, after_start, goes_on, wakes_by, wakes, phase_ends, answered_by, answered_in, ordered}
use Rattle.exb_world_spec.specs.Worlds.{World, with_near, with_control, with_table}
use Rattle.exb_model.specs.Tables.{at}
use Rattle.exb_world_spec.specs.BridgeLearning.{forgotten_all}
use Rattle.exb_world_spec.specs.Effects.{each}
use Rattle.exb_world_spec.specs.ControlFrames.{asks, bridge_request, moves}
use Rattle.exb_world_spec.specs.Runs.Sessions.{CanBeSent, AreSent}
use Rattle.exb_world_spec.proofs.LinkFrames.{at_here, at_other}
use Rattle.exb_settling_laws.specs.RemainingFacts.{NearLeft}
use Rattle.exb_settling_laws.proofs.StopAndWaitSteps.{near_asked}
use Rattle.exb_settling_laws.proofs.ControlTurns.{to_extender_ends}

pub record NoAsk (s : State) (m : Moved) : Type 0 where
  pub asks : m.asks ≡ []
  pub askers : m.state.askers ≡ s.askers

-- the askers after a request
abbrev pub askers_after : AskAt → (ℕ → AskerState) → ℕ → AskerState
askers_after a f n = cond (n == a.extender) (asked (f a.extender) a.request).0 (f n)

pub record OneAsk (s : State) (m : Moved) : Type 0 where
  pub work : Work
  pub is : m.state.work ≡ Some work
  pub asks : m.asks ≡ record { extender = work.first.extender; message = (asked (s.askers work.first.extender) work.first.request).1 } ∷ []
  pub askers : m.state.askers ≡ askers_after work.first s.askers

abbrev pub AsksOne : State → Moved → Type 0
AsksOne s m = NoAsk s m ⊎ OneAsk s m

some_none : {A : Type 0} (x : A) → None ≡ Some x → ⊥
some_none x e = cc

-- one thing after another, of which the first asks nothing
then_asks : (s : State) (a b : Moved) → NoAsk s a → AsksOne a.state b → AsksOne s (followed_by a b)
then_asks s a b none (inl k) = inl (record { asks = ap (λ (xs : List Asked). xs ++ b.asks) none.asks ∙ k.asks; askers = k.askers ∙ none.askers })
then_asks s a b none (inr k) =
    inr (
    record {
      work = k.work;
      is = k.is;
      asks = ap (λ (xs : List Asked). xs ++ b.asks) none.asks ∙ k.asks ∙ ap (λ (f : ℕ → AskerState). record { extender = k.work.first.extender; message = (asked (f k.work.first.extender) k.work.first.request).1 } ∷ []) none.askers;
      askers = k.askers ∙ ap (askers_after k.work.first) none.askers;
    })

-- from a state that has these askers
pub asked_alike : (s u : State) (m : Moved) → u.askers ≡ s.askers → AsksOne u m → AsksOne s m
asked_alike s u m e (inl k) = inl (record { asks = k.asks; askers = k.askers ∙ e })
asked_alike s u m e (inr k) =
    inr (
    record {
      work = k.work;
      is = k.is;
      asks = k.asks ∙ ap (λ (g : ℕ → AskerState). record { extender = k.work.first.extender; message = (asked (g k.work.first.extender) k.work.first.request).1 } ∷ []) e;
      askers = k.askers ∙ ap (askers_after k.work.first) e;
    })

-- no serial rises by more than one
pub one_rises : (s : State) (m : Moved) → AsksOne s m → (n : ℕ) → (m.state.askers n).serial ≤ (s.askers n).serial + 1
one_rises s m (inl k) n = (let same : (m.state.askers n).serial ≡ (s.askers n).serial = ap (λ (g : ℕ → AskerState). (g n).serial) k.askers in omega (arith, same))
one_rises s m (inr k) n =
    let same : (m.state.askers n).serial ≡ (askers_after k.work.first s.askers n).serial = ap (λ (g : ℕ → AskerState). (g n).serial) k.askers in
    elim (cases_eq n k.work.first.extender) [
      | inl e ↦ (let P : Bool → Type 0 = λ b. (cond b (asked (s.askers k.work.first.extender) k.work.first.request).0 (s.askers n)).serial ≤ (s.askers n).serial + 1 in
          let at : (s.askers k.work.first.extender).serial + 1 ≤ (s.askers n).serial + 1 = subst (λ (i : ℕ). (s.askers i).serial + 1 ≤ (s.askers n).serial + 1) e (omega arith) in
          let most = subst P (sym (eq-eqb n k.work.first.extender e)) at in omega (arith, same, most))
      | inr e ↦ (let P : Bool → Type 0 = λ b. (cond b (asked (s.askers k.work.first.extender) k.work.first.request).0 (s.askers n)).serial ≤ (s.askers n).serial + 1 in
          let most = subst P (sym (ne_eqb n k.work.first.extender e)) (omega arith) in omega (arith, same, most))
    ]

module _ (decide : Decide) where
  cleans_asks : (j : Job) (x : Change) (xs : List AskAt) (s : State) → AsksOne s (cleans j x xs s)
  cleans_asks j x [] s = inl (record { asks = refl; askers = refl })
  cleans_asks j x (first ∷ rest) s = inr (record { work = record { job = j; change = x; phase = phase.Cleaning; first = first; rest = rest }; is = refl; asks = refl; askers = refl })

  commits_asks : (j : Job) (x : Change) (s : State) → AsksOne s (commits j x s)
  commits_asks j x s = by_rest (cleans_asks j x x.cleanup (record s { bridge = bridge_after j s.bridge }))
    where
      by_rest : AsksOne (record s { bridge = bridge_after j s.bridge }) (cleans j x x.cleanup (record s { bridge = bridge_after j s.bridge })) → AsksOne s (commits j x s)
      by_rest (inl k) = inl (record { asks = k.asks; askers = k.askers })
      by_rest (inr k) = inr (record { work = k.work; is = k.is; asks = k.asks; askers = k.askers })

  prepares_asks : (j : Job) (x : Change) (xs : List AskAt) (s : State) → AsksOne s (prepares j x xs s)
  prepares_asks j x [] s = commits_asks j x s
  prepares_asks j x (first ∷ rest) s = inr (record { work = record { job = j; change = x; phase = phase.Preparing; first = first; rest = rest }; is = refl; asks = refl; askers = refl })

  starts_asks : (j : Job) (o : Outcome) (s : State) → AsksOne s (starts j o s)
  starts_asks j (Refused cause) s = inl (record { asks = refl; askers = refl })
  starts_asks j (Ready x claimed) s = by_rest (prepares_asks j x x.prepare (record s { held = claimed }))
    where
      by_rest : AsksOne (record s { held = claimed }) (prepares j x x.prepare (record s { held = claimed })) → AsksOne s (starts j (Ready x claimed) s)
      by_rest (inl k) = inl (record { asks = k.asks; askers = k.askers })
      by_rest (inr k) = inr (record { work = k.work; is = k.is; asks = k.asks; askers = k.askers })

  -- a head that was started asks, or the queue goes on
  start_asks : (js : List Job) (o : Option Work) (s : State) (a b : Moved) → a.state.work ≡ o → AsksOne s a → AsksOne a.state b → AsksOne s (after_start js o a b)
  start_asks js None s a b e (inl none) more = then_asks s a b none more
  start_asks js None s a b e (inr k) more = absurd (some_none k.work (sym e ∙ k.is))
  start_asks js (Some w) s a b e (inl none) more = inl (record { asks = none.asks; askers = none.askers })
  start_asks js (Some w) s a b e (inr k) more = inr (record { work = k.work; is = k.is; asks = k.asks; askers = k.askers })

  goes_on_asks : (js : List Job) (s : State) → AsksOne s (goes_on decide js s)
  unfolding goes_on
  goes_on_asks [] s = inl (record { asks = refl; askers = refl })
  goes_on_asks (j ∷ js) s = by_waits (waits s j) (goes_on_asks js (starts j (decide s.bridge s.held j) s).state)
    where
      by_waits : (b : Bool) → AsksOne (starts j (decide s.bridge s.held j) s).state (goes_on decide js (starts j (decide s.bridge s.held j) s).state) →
          AsksOne s (cond b (still (record s { queue = j ∷ js })) (after_start js (starts j (decide s.bridge s.held j) s).state.work (starts j (decide s.bridge s.held j) s) (goes_on decide js (starts j (decide s.bridge s.held j) s).state)))
      by_waits true more = inl (record { asks = refl; askers = refl })
      by_waits false more =
          start_asks js (starts j (decide s.bridge s.held j) s).state.work s (starts j (decide s.bridge s.held j) s) (goes_on decide js (starts j (decide s.bridge s.held j) s).state) refl (starts_asks j (decide s.bridge s.held j) s) more

  wakes_by_asks : (o : Option Work) (s : State) → AsksOne s (wakes_by decide o s)
  wakes_by_asks None s = goes_on_asks s.queue s
  wakes_by_asks (Some w) s = inl (record { asks = refl; askers = refl })

  pub wakes_asks : (s : State) → AsksOne s (wakes decide s)
  wakes_asks s = wakes_by_asks s.work s

  pub ordered_asks : (c : Command) (s : State) → AsksOne s (ordered decide c s)
  ordered_asks c s =
      let u : State = record s { queue = s.queue ++ job.Ordered (s.given + 1) c ∷ []; given = s.given + 1 } in
      asked_alike s u (wakes decide u) refl (wakes_asks u)

  phase_asks : (w : Work) (p : Phase) (s : State) → AsksOne s (phase_ends decide w p s)
  phase_asks w phase.Cleaning s = by_rest (wakes_asks (ends w.change s))
    where
      by_rest : AsksOne (ends w.change s) (wakes decide (ends w.change s)) → AsksOne s (wakes decide (ends w.change s))
      by_rest (inl k) = inl (record { asks = k.asks; askers = k.askers })
      by_rest (inr k) = inr (record { work = k.work; is = k.is; asks = k.asks; askers = k.askers })
  phase_asks w phase.Preparing s = by_first (commits_asks w.job w.change (record s { work = None }))
    where
      c : Moved
      c = commits w.job w.change (record s { work = None })

      by_first : AsksOne (record s { work = None }) (commits w.job w.change (record s { work = None })) →
          AsksOne s (followed_by (commits w.job w.change (record s { work = None })) (wakes decide (commits w.job w.change (record s { work = None })).state))
      by_first (inl none) =
          then_asks s (commits w.job w.change (record s { work = None })) (wakes decide (commits w.job w.change (record s { work = None })).state) (record { asks = none.asks; askers = none.askers })
          (wakes_asks (commits w.job w.change (record s { work = None })).state)
      by_first (inr k) =
          let quiet : wakes decide (commits w.job w.change (record s { work = None })).state ≡ still (commits w.job w.change (record s { work = None })).state =
          ap (λ (o : Option Work). wakes_by decide o (commits w.job w.change (record s { work = None })).state) k.is in
          let one : AsksOne s (followed_by (commits w.job w.change (record s { work = None })) (still (commits w.job w.change (record s { work = None })).state)) =
          inr (record { work = k.work; is = k.is; asks = append-nil (commits w.job w.change (record s { work = None })).asks ∙ k.asks; askers = k.askers }) in
          subst (λ (m : Moved). AsksOne s (followed_by (commits w.job w.change (record s { work = None })) m)) (sym quiet) one

  answered_by_asks : (w : Work) (xs : List AskAt) (s : State) → AsksOne s (answered_by decide w xs s)
  answered_by_asks w [] s = phase_asks w w.phase s
  answered_by_asks w (first ∷ rest) s = inr (record { work = record { job = w.job; change = w.change; phase = w.phase; first = first; rest = rest }; is = refl; asks = refl; askers = refl })

  pub answered_in_asks : (o : Option Work) (s : State) → AsksOne s (answered_in decide o s)
  answered_in_asks None s = inl (record { asks = refl; askers = refl })
  answered_in_asks (Some w) s = answered_by_asks w w.rest s

-- ---- the bridge's ends
abbrev begun : Moved → World → World
begun m w = with_table (forgotten_all m.downs w.table) (with_control m.state w)

pub moves_left : (t : Shape) (m : Moved) (s : State) (w : World) → AsksOne s m → AreSent m.asks → ((n : ℕ) → NearLeft (w.near n) (s.askers n)) → (n : ℕ) → NearLeft ((moves t m w).world.near n) (m.state.askers n)
moves_left t m s w (inl none) sent left n =
    let near : (moves t m w).world.near ≡ w.near = ap (λ (xs : List Asked). (each (asks t) xs (begun m w)).world.near) none.asks in
    let P : (ℕ → Ecp) → Type 0 = λ f. NearLeft (f n) (m.state.askers n) in
    let Q : (ℕ → AskerState) → Type 0 = λ f. NearLeft (w.near n) (f n) in
    subst P (sym near) (subst Q (sym none.askers) (left n))
moves_left t m s w (inr k) sent left n =
    let E : ℕ = k.work.first.extender in
    let message : Message = (asked (s.askers k.work.first.extender) k.work.first.request).1 in
    let e : Ecp = submitted (message_bytes message) (stopped (w.near k.work.first.extender)) in
    let near : (moves t m w).world.near ≡ at k.work.first.extender e w.near =
    ap (λ (xs : List Asked). (each (asks t) xs (begun m w)).world.near) k.asks
    ∙ (to_extender_ends t k.work.first.extender (bridge_request (w.near k.work.first.extender).next (message_bytes message)) (with_near k.work.first.extender e (begun m w))).near in
    let can : CanBeSent message = (let C : List Asked → Type 0 = AreSent in subst C k.asks sent).0 in
    let P : (ℕ → Ecp) → Type 0 = λ f. NearLeft (f n) (m.state.askers n) in
    let Q : (ℕ → AskerState) → Type 0 = λ f. NearLeft (at k.work.first.extender e w.near n) (f n) in
    subst P (sym near) (subst Q (sym k.askers) (
    elim (cases_eq n k.work.first.extender) [
      | inl is ↦
          let fresh : NearLeft e (asked (s.askers k.work.first.extender) k.work.first.request).0 = near_asked (w.near k.work.first.extender) ((s.askers k.work.first.extender).serial + 1) k.work.first.request (omega arith) can in
          let R : Bool → Type 0 = λ b. NearLeft e (cond b (asked (s.askers k.work.first.extender) k.work.first.request).0 (s.askers n)) in
          let S : Ecp → Type 0 = λ x. NearLeft x (askers_after k.work.first s.askers n) in
          let T : ℕ → Type 0 = λ z. at k.work.first.extender e w.near z ≡ e in
          subst S (sym (subst T (sym is) (at_here k.work.first.extender e w.near))) (subst R (sym (eq-eqb n k.work.first.extender is)) fresh)
      | inr other ↦
          let R : Bool → Type 0 = λ b. NearLeft (w.near n) (cond b (asked (s.askers k.work.first.extender) k.work.first.request).0 (s.askers n)) in
          let S : Ecp → Type 0 = λ x. NearLeft x (askers_after k.work.first s.askers n) in
          subst S (sym (at_other k.work.first.extender n e w.near other)) (subst R (sym (ne_eqb n k.work.first.extender other)) (left n))
    ]))
