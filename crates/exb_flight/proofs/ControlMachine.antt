-- What the machine of changes does in a step: its events lead the history to the configuration in force, a port is deleted last,
-- and a request that becomes outstanding has a serial that wasn't used before.
use Rattle.std.proofs.Common.{◌≡◌, ℕ, ◌<◌, ◌≤◌, ◌++◌, List, [], ◌∷◌, append-nil, Option, Some, None, refl, sym, ◌∙◌, ap, subst, inl, inr, arith, eq-eqb}
use Rattle.std.proofs.lemmas.Bool.{cases_Bool, cases_eq, ne_eqb}
use Rattle.exb_model.specs.declared.command.Command.{Command}
use Rattle.exb_model.specs.declared.command.Command.TheVariants as command
use Rattle.exb_model.specs.declared.event.Cause.{Cause}
use Rattle.exb_model.specs.declared.event.Event.{Event}
use Rattle.exb_model.specs.Tree.{Shape}
use Rattle.exb_model.specs.Setup.{Limits}
use Rattle.exb_model.specs.Configuration.{Bridge, after}
use Rattle.exb_model.specs.History.{Basis, History, ◌then◌, after_any, bridge_after}
use Rattle.exb_model.specs.FlatBridge.{flat}
use Rattle.exb_csp.specs.declared.ask_at.AskAt.{AskAt}
use Rattle.exb_control_spec.specs.declared.plan.change.Change.{Change}
use Rattle.exb_control_spec.specs.Plans.HeldNumbers.{Held}
use Rattle.exb_control_spec.specs.declared.job.Job.{Job}
use Rattle.exb_control_spec.specs.declared.job.Job.TheVariants as job
use Rattle.exb_control_spec.specs.declared.job.Phase.{Phase}
use Rattle.exb_control_spec.specs.declared.job.Phase.TheVariants.{Preparing, Cleaning}
use Rattle.exb_control_spec.specs.Decisions.{Outcome, Refused, Ready, decide}
use Rattle.exb_control_spec.specs.Decisions as deciding
use Rattle.exb_control_spec.specs.Machine.{Work, State, Moved, still, followed_by, committed, refused, works, ends, cleans, commits, prepares, starts, waits, after_start, goes_on, wakes_by, answered_by, answered_in}
use Rattle.exb_flight.specs.RequestOrder.{DeletesLast, DeletesIn, CreatesLast, CreatesIn}
use Rattle.exb_flight.specs.FlightFacts.{IsOf, AreOf, IsWorkGood, WorkGood}
use Rattle.exb_flight.proofs.RequestOrder.{plans_delete_last, plans_create_last}

pub then_append : (h : History) (xs ys : List Event) → (h then (xs ++ ys)) ≡ ((h then xs) then ys)
then_append h [] ys = refl
then_append h (x ∷ xs) ys = then_append (x ∷ h) xs ys

-- ---- events
told_committed : (i : Basis) (j : Job) (b : Bridge) (h : History) → IsOf i j → bridge_after i h ≡ b → bridge_after i (h then committed j) ≡ deciding.bridge_after j b
unfolding bridge_after
told_committed i (job.Opening n) b h of e = e
told_committed i (job.AutomaticUp p) b h of e = ap (after (command.Up p)) e
told_committed i (job.Ordered n c) b h of e = ap (λ (o : Option Command). after_any o (bridge_after i h)) of ∙ ap (after c) e

told_refused : (i : Basis) (j : Job) (cause : Cause) (h : History) → bridge_after i (h then refused j cause) ≡ bridge_after i h
unfolding bridge_after
told_refused i (job.Opening n) cause h = refl
told_refused i (job.AutomaticUp p) cause h = refl
told_refused i (job.Ordered n c) cause h = refl

-- nothing is relayed
quiet_committed : (i : Basis) (j : Job) (h : History) (q : ℕ) → flat i (h then committed j) q ≡ flat i h q
unfolding flat
quiet_committed i (job.Opening n) h q = refl
quiet_committed i (job.AutomaticUp p) h q = append-nil (flat i h q)
quiet_committed i (job.Ordered n c) h q = append-nil (flat i h q)

quiet_refused : (i : Basis) (j : Job) (cause : Cause) (h : History) (q : ℕ) → flat i (h then refused j cause) q ≡ flat i h q
unfolding flat
quiet_refused i (job.Opening n) cause h q = refl
quiet_refused i (job.AutomaticUp p) cause h q = append-nil (flat i h q)
quiet_refused i (job.Ordered n c) cause h q = append-nil (flat i h q)

-- ---- a step of the machine
pub record Goes (i : Basis) (s : State) (m : Moved) : Type 0 where
  pub work : WorkGood i m.state.work
  pub queue : AreOf i m.state.queue
  pub force : (h : History) → bridge_after i h ≡ s.bridge → bridge_after i (h then m.events) ≡ m.state.bridge
  pub quiet : (h : History) (q : ℕ) → flat i (h then m.events) q ≡ flat i h q
  pub serials : (n : ℕ) → (s.askers n).serial ≤ (m.state.askers n).serial
  pub fresh : (v : Work) → m.state.work ≡ Some v → (s.askers v.first.extender).serial < (m.state.askers v.first.extender).serial

none_some : {A : Type 0} (x : A) → None ≡ Some x → ⊥
none_some x e = cc

same_le : (n : ℕ) → n ≤ n
same_le n = omega arith

le_more : (a b c : ℕ) → a ≤ b → b ≤ c → a ≤ c
le_more a b c x y = omega (arith, x, y)

lt_more : (a b c : ℕ) → a ≤ b → b < c → a < c
lt_more a b c x y = omega (arith, x, y)

module _ (i : Basis) where
  works_goes : (j : Job) (x : Change) (q : Phase) (a : AskAt) (more : List AskAt) (s : State) → AreOf i s.queue → IsOf i j → DeletesIn q (record { job = j; change = x; phase = q; first = a; rest = more }) →
      CreatesIn q (record { job = j; change = x; phase = q; first = a; rest = more }) → Goes i s (works j x q a more s)
  works_goes j x q a more s queue of deletes creates =
      record {
        work = record { deletes = deletes; creates = creates; command = of };
        queue = queue;
        force = λ h e. e;
        quiet = λ h q. refl;
        serials = λ n. elim (cases_eq n a.extender) [ inl e ↦ rw (eq-eqb n a.extender e, e) (omega arith) | inr e ↦ rw (ne_eqb n a.extender e) (same_le (s.askers n).serial) ];
        fresh = λ v e. by_work v (some_same e);
      }
    where
      some_same : {v : Work} → Some (record { job = j; change = x; phase = q; first = a; rest = more }) ≡ Some v → record { job = j; change = x; phase = q; first = a; rest = more } ≡ v
      some_same e = cc

      by_work : (v : Work) → record { job = j; change = x; phase = q; first = a; rest = more } ≡ v → (s.askers v.first.extender).serial < ((works j x q a more s).state.askers v.first.extender).serial
      by_work v e = subst (λ (z : Work). (s.askers z.first.extender).serial < ((works j x q a more s).state.askers z.first.extender).serial) e (rw (eq-eqb a.extender a.extender refl) (omega arith))

  -- nothing is outstanding
  idle_goes : (s : State) (m : Moved) → m.state.work ≡ None → AreOf i m.state.queue → ((h : History) → bridge_after i h ≡ s.bridge → bridge_after i (h then m.events) ≡ m.state.bridge) →
      ((h : History) (q : ℕ) → flat i (h then m.events) q ≡ flat i h q) → ((n : ℕ) → (s.askers n).serial ≤ (m.state.askers n).serial) → Goes i s m
  idle_goes s m none queue force quiet serials =
      record { work = subst (WorkGood i) (sym none) tt; queue = queue; force = force; quiet = quiet; serials = serials; fresh = λ v e. absurd (none_some v (sym none ∙ e)) }

  cleans_goes : (j : Job) (x : Change) (left : List AskAt) (s : State) → AreOf i s.queue → IsOf i j → DeletesLast left → Goes i s (cleans j x left s)
  cleans_goes j x [] s queue of deletes = idle_goes s (cleans j x [] s) refl queue (λ h e. e) (λ h q. refl) (λ n. same_le (s.askers n).serial)
  cleans_goes j x (a ∷ more) s queue of deletes = works_goes j x Cleaning a more s queue of deletes tt

  -- what comes after events
  after_events : (events : List Event) (s c : State) (m : Moved) → ((h : History) → bridge_after i h ≡ s.bridge → bridge_after i (h then events) ≡ c.bridge) →
      ((h : History) (q : ℕ) → flat i (h then events) q ≡ flat i h q) → ((n : ℕ) → (s.askers n).serial ≤ (c.askers n).serial) → Goes i c m → (n : Moved) → n.state ≡ m.state → n.events ≡ events ++ m.events → Goes i s n
  after_events events s c m force quiet serials k n same told =
      record {
        work = subst (λ (z : State). WorkGood i z.work) (sym same) k.work;
        queue = subst (λ (z : State). AreOf i z.queue) (sym same) k.queue;
        force = λ h e. ap (λ (z : List Event). bridge_after i (h then z)) told ∙ (ap (bridge_after i) (then_append h events m.events) ∙ (k.force (h then events) (force h e) ∙ ap (λ (z : State). z.bridge) (sym same)));
        quiet = λ h q. ap (λ (z : List Event). flat i (h then z) q) told ∙ (ap (λ (z : History). flat i z q) (then_append h events m.events) ∙ (k.quiet (h then events) q ∙ quiet h q));
        serials = λ x. subst (λ (z : State). (s.askers x).serial ≤ (z.askers x).serial) (sym same) (le_more (s.askers x).serial (c.askers x).serial (m.state.askers x).serial (serials x) (k.serials x));
        fresh = λ v e. subst (λ (z : State). (s.askers v.first.extender).serial < (z.askers v.first.extender).serial) (sym same)
            (lt_more (s.askers v.first.extender).serial (c.askers v.first.extender).serial (m.state.askers v.first.extender).serial (serials v.first.extender) (k.fresh v (ap (λ (z : State). z.work) (sym same) ∙ e)));
      }

  commits_goes : (j : Job) (x : Change) (s : State) → AreOf i s.queue → IsOf i j → DeletesLast x.cleanup → Goes i s (commits j x s)
  commits_goes j x s queue of deletes =
      let c : State = record s { bridge = deciding.bridge_after j s.bridge } in
      after_events (committed j) s c (cleans j x x.cleanup c) (λ h e. told_committed i j s.bridge h of e) (quiet_committed i j) (λ n. same_le (s.askers n).serial)
      (cleans_goes j x x.cleanup c queue of deletes) (commits j x s) refl refl

  prepares_goes : (j : Job) (x : Change) (left : List AskAt) (s : State) → AreOf i s.queue → IsOf i j → DeletesLast x.cleanup → CreatesLast left → Goes i s (prepares j x left s)
  prepares_goes j x [] s queue of deletes creates = commits_goes j x s queue of deletes
  prepares_goes j x (a ∷ more) s queue of deletes creates = works_goes j x Preparing a more s queue of deletes creates

  starts_goes : (j : Job) (d : Outcome) (s : State) → s.work ≡ None → AreOf i s.queue → IsOf i j → ((x : Change) (held : Held) → d ≡ Ready x held → DeletesLast x.cleanup × CreatesLast x.prepare) → Goes i s (starts j d s)
  starts_goes j (Refused cause) s none queue of deletes = idle_goes s (starts j (Refused cause) s) none queue (λ h e. told_refused i j cause h ∙ e) (quiet_refused i j cause) (λ n. same_le (s.askers n).serial)
  starts_goes j (Ready x held) s none queue of deletes =
      let k = prepares_goes j x x.prepare (record s { held = held }) queue of (deletes x held refl).0 (deletes x held refl).1 in
      record { work = k.work; queue = k.queue; force = k.force; quiet = k.quiet; serials = k.serials; fresh = k.fresh }

  after_start_goes : (s : State) (js : List Job) (m onward : Moved) (o : Option Work) → m.state.work ≡ o → AreOf i js → Goes i s m → (o ≡ None → Goes i m.state onward) → Goes i s (after_start js o m onward)
  after_start_goes s js m onward None e of k f = after_events m.events s m.state onward k.force k.quiet k.serials (f refl) (followed_by m onward) refl refl
  after_start_goes s js m onward (Some v) e of k f = record { work = k.work; queue = of; force = k.force; quiet = k.quiet; serials = k.serials; fresh = k.fresh }

  module _ (t : Shape) (l : Limits) where
    pub goes_on_goes : (js : List Job) (s : State) → s.work ≡ None → AreOf i js → AreOf i s.queue → Goes i s (goes_on (decide t l) js s)
    unfolding goes_on
    goes_on_goes [] s none of queue = idle_goes s (still (record s { queue = [] })) none tt (λ h e. e) (λ h q. refl) (λ n. same_le (s.askers n).serial)
    goes_on_goes (j ∷ js) s none of queue =
        elim (cases_Bool (waits s j)) [
          | inl w ↦ rw w (idle_goes s (still (record s { queue = j ∷ js })) none of (λ h e. e) (λ h q. refl) (λ n. same_le (s.askers n).serial))
          | inr w ↦
              rw w (
              let d = decide t l s.bridge s.held j in
              let m : Moved = starts j d s in
              let k = starts_goes j d s none queue of.0 (λ x held e. (plans_delete_last t l s.bridge s.held j x held e, plans_create_last t l s.bridge s.held j x held e)) in
              after_start_goes s js m (goes_on (decide t l) js m.state) m.state.work refl of.1 k (λ e. goes_on_goes js m.state e of.1 k.queue))
        ]

    -- the queue goes on after a step
    followed_goes : (s : State) (m : Moved) → Goes i s m → (o : Option Work) → m.state.work ≡ o → Goes i s (followed_by m (wakes_by (decide t l) o m.state))
    followed_goes s m k None e = after_events m.events s m.state (goes_on (decide t l) m.state.queue m.state) k.force k.quiet k.serials (goes_on_goes m.state.queue m.state e k.queue k.queue) (followed_by m (goes_on (decide t l) m.state.queue m.state)) refl refl
    followed_goes s m k (Some v) e =
        record { work = k.work; queue = k.queue; force = λ h f. ap (λ (z : List Event). bridge_after i (h then z)) (append-nil m.events) ∙ k.force h f; quiet = λ h q. ap (λ (z : List Event). flat i (h then z) q) (append-nil m.events) ∙ k.quiet h q; serials = k.serials; fresh = k.fresh }

    -- the outstanding request is answered
    pub answered_goes : (v : Work) (s : State) → AreOf i s.queue → IsWorkGood i v → Goes i s (answered_in (decide t l) (Some v) s)
    answered_goes v s queue good = by_phase v.phase v.rest refl refl
      where
        by_phase : (q : Phase) (left : List AskAt) → v.phase ≡ q → v.rest ≡ left → Goes i s (answered_by (decide t l) v left s)
        by_phase Preparing (a ∷ more) e f = (let c : CreatesLast (v.first ∷ v.rest) = rw e at good.creates in works_goes v.job v.change v.phase a more s queue good.command (rw e (rw e at good.deletes)) (rw e (rw f at c.1)))
        by_phase Cleaning (a ∷ more) e f =
            let d : DeletesLast (v.first ∷ v.rest) = rw e at good.deletes in
            works_goes v.job v.change v.phase a more s queue good.command (rw e (rw f at d.1)) (rw e tt)
        by_phase Preparing [] e f =
            let c : State = record s { work = None } in
            let m : Moved = commits v.job v.change c in
            let k = commits_goes v.job v.change c queue good.command (rw e at good.deletes) in
            let n = followed_goes c m k m.state.work refl in
            rw e (record { work = n.work; queue = n.queue; force = n.force; quiet = n.quiet; serials = n.serials; fresh = n.fresh })
        by_phase Cleaning [] e f =
            let c : State = ends v.change s in
            let n = goes_on_goes c.queue c refl queue queue in
            rw e (record { work = n.work; queue = n.queue; force = n.force; quiet = n.quiet; serials = n.serials; fresh = n.fresh })
