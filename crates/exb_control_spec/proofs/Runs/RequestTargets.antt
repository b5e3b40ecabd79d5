-- All that is asked goes to extenders of the tree.
use Rattle.std.proofs.Common.{◌≡◌, ℕ, ◌+◌, ◌==◌, ◌||◌, ◌++◌, Bool, true, false, List, [], ◌∷◌, Option, Some, None, refl, sym, subst, inl, inr}
use Rattle.std.proofs.lemmas.Bool.{cases_Bool}
use Rattle.exb_csp.specs.declared.message.Message.{Message}
use Rattle.exb_csp.specs.declared.message.Response.{Response}
use Rattle.exb_csp.specs.declared.session.asker.Taken.{Taken}
use Rattle.exb_csp.specs.declared.session.asker.Taken.TheVariants as taken
use Rattle.exb_csp.specs.Sessions.AskingEnd.{AskerState, beaten, message_again, took}
use Rattle.exb_model.specs.Tree.{Shape}
use Rattle.exb_model.specs.Setup.{Limits}
use Rattle.exb_csp.specs.declared.ask_at.AskAt.{AskAt}
use Rattle.exb_control_spec.specs.declared.plan.change.Change.{Change}
use Rattle.exb_control_spec.specs.declared.extender_message.Asked.{Asked}
use Rattle.exb_control_spec.specs.declared.job.Job.{Job}
use Rattle.exb_control_spec.specs.declared.job.Job.TheVariants as job
use Rattle.exb_control_spec.specs.declared.job.Phase.{Phase}
use Rattle.exb_control_spec.specs.declared.job.Phase.TheVariants.{Preparing, Cleaning}
use Rattle.exb_control_spec.specs.Decisions.{Outcome, Refused, Ready, decide, bridge_after}
use Rattle.exb_control_spec.specs.JobsOfTree.{AreFit}
use Rattle.exb_control_spec.specs.Machine.{Work, State, Moved, still, works, ends, cleans, commits, prepares, starts, waits, after_start, goes_on, wakes_by, answered_by, answered_in, answered_where, with_asker, messages_due, beats_in}
use Rattle.exb_control_spec.specs.RequestLaws.{AreKnown, IsKnown}
use Rattle.exb_control_spec.proofs.KnownExtenders.{plans_are_known}
use Rattle.exb_control_spec.proofs.FirstJobs.{fit_more, fit_first}
use Rattle.exb_control_spec.specs.Runs.Systems.{Order, Hear, Execute, Answer, Stray, Beat, answer_message, takes_answer}
use Rattle.exb_control_spec.specs.Runs.RequestTargets.{IsWorkKnown, KnowsWork, Knows, AreAddressed, BeginsKnowing, StepsKnow}

addressed_append : (t : Shape) (xs ys : List Asked) → AreAddressed t xs → AreAddressed t ys → AreAddressed t (xs ++ ys)
addressed_append t [] ys a b = b
addressed_append t (x ∷ xs) ys a b = (a.0, addressed_append t xs ys a.1 b)

-- a step of the machine
record Stays (t : Shape) (m : Moved) : Type 0 where
  work : KnowsWork t m.state.work
  queue : AreFit t m.state.queue
  asks : AreAddressed t m.asks

module _ (t : Shape) (l : Limits) where
  works_stays : (j : Job) (x : Change) (q : Phase) (a : AskAt) (more : List AskAt) (s : State) → AreFit t s.queue → AreKnown t (a ∷ more) → AreKnown t x.cleanup → Stays t (works j x q a more s)
  works_stays j x q a more s fit known cleanup =
      record { work = record { first = known.0; rest = known.1; cleanup = cleanup }; queue = fit; asks = (known.0, tt) }

  cleans_stays : (j : Job) (x : Change) (left : List AskAt) (s : State) → AreFit t s.queue → AreKnown t left → AreKnown t x.cleanup → Stays t (cleans j x left s)
  cleans_stays j x [] s fit known cleanup = record { work = tt; queue = fit; asks = tt }
  cleans_stays j x (a ∷ more) s fit known cleanup = works_stays j x Cleaning a more s fit known cleanup

  commits_stays : (j : Job) (x : Change) (s : State) → AreFit t s.queue → AreKnown t x.cleanup → Stays t (commits j x s)
  commits_stays j x s fit cleanup =
      let k = cleans_stays j x x.cleanup (record s { bridge = bridge_after j s.bridge }) fit cleanup cleanup in
      record { work = k.work; queue = k.queue; asks = k.asks }

  prepares_stays : (j : Job) (x : Change) (left : List AskAt) (s : State) → AreFit t s.queue → AreKnown t left → AreKnown t x.cleanup → Stays t (prepares j x left s)
  prepares_stays j x [] s fit known cleanup = commits_stays j x s fit cleanup
  prepares_stays j x (a ∷ more) s fit known cleanup = works_stays j x Preparing a more s fit known cleanup

  starts_stays : (j : Job) (d : Outcome) (s : State) → s.work ≡ None → AreFit t s.queue → ((x : Change) (claimed : _) → d ≡ Ready x claimed → IsKnown t x) → Stays t (starts j d s)
  starts_stays j (Refused cause) s none fit known = record { work = subst (KnowsWork t) (sym none) tt; queue = fit; asks = tt }
  starts_stays j (Ready x claimed) s none fit known = (let k = known x claimed refl in prepares_stays j x x.prepare (record s { held = claimed }) fit k.prepare k.cleanup)

  after_start_stays : (js : List Job) (m onward : Moved) (o : Option Work) → m.state.work ≡ o → AreFit t js → Stays t m → (o ≡ None → Stays t onward) → Stays t (after_start js o m onward)
  after_start_stays js m onward None e fit k f = (let n = f refl in record { work = n.work; queue = n.queue; asks = addressed_append t m.asks onward.asks k.asks n.asks })
  after_start_stays js m onward (Some w) e fit k f = record { work = k.work; queue = fit; asks = k.asks }

  goes_on_stays : (js : List Job) (s : State) → s.work ≡ None → AreFit t js → AreFit t s.queue → Stays t (goes_on (decide t l) js s)
  unfolding goes_on
  goes_on_stays [] s none fit queue = record { work = subst (KnowsWork t) (sym none) tt; queue = tt; asks = tt }
  goes_on_stays (j ∷ js) s none fit queue =
      elim (cases_Bool (waits s j)) [
        | inl w ↦ rw w (record { work = subst (KnowsWork t) (sym none) tt; queue = fit; asks = tt })
        | inr w ↦
            rw w (
            let d = decide t l s.bridge s.held j in
            let m : Moved = starts j d s in
            let k = starts_stays j d s none queue (λ x claimed e. plans_are_known t l s.bridge s.held j x claimed fit.0 e) in
            after_start_stays js m (goes_on (decide t l) js m.state) m.state.work refl fit.1 k (λ e. goes_on_stays js m.state e fit.1 k.queue))
      ]

  still_stays : (s : State) → Knows t s → Stays t (still s)
  still_stays s k = record { work = k.work; queue = k.queue; asks = tt }

  wakes_stays : (o : Option Work) (s : State) → s.work ≡ o → Knows t s → Stays t (wakes_by (decide t l) o s)
  wakes_stays None s e k = goes_on_stays s.queue s e k.queue k.queue
  wakes_stays (Some w) s e k = still_stays s k

  answered_stays : (o : Option Work) (s : State) → s.work ≡ o → Knows t s → Stays t (answered_in (decide t l) o s)
  answered_stays None s e k = still_stays s k
  answered_stays (Some w) s e k = by_phase w.phase w.rest known.rest
    where
      known : IsWorkKnown t w
      known = subst (KnowsWork t) e k.work

      by_phase : (q : Phase) (left : List AskAt) → AreKnown t left → Stays t (answered_by (decide t l) (record w { phase = q }) left s)
      by_phase q (a ∷ more) all = works_stays w.job w.change q a more s k.queue all known.cleanup
      by_phase Preparing [] all =
          let m : Moved = commits w.job w.change (record s { work = None }) in
          let c = commits_stays w.job w.change (record s { work = None }) k.queue known.cleanup in
          let n = wakes_stays m.state.work m.state refl (record { work = c.work; queue = c.queue }) in
          record { work = n.work; queue = n.queue; asks = addressed_append t m.asks _ c.asks n.asks }
      by_phase Cleaning [] all = goes_on_stays s.queue (ends w.change s) refl k.queue k.queue

  message_stays : (n : ℕ) (u : Taken) (a : AskerState) (s : State) → Knows t s → Stays t (answered_where (decide t l) u (with_asker n a s))
  message_stays n (taken.Answer response) a s k = answered_stays s.work (with_asker n a s) refl (record { work = k.work; queue = k.queue })
  message_stays n taken.Stale a s k = record { work = k.work; queue = k.queue; asks = tt }
  message_stays n taken.NotOurs a s k = record { work = k.work; queue = k.queue; asks = tt }

  takes_stays : (o : Option Work) (answer : Option Response) (s : State) → Knows t s → Stays t (takes_answer (decide t l) o answer s)
  takes_stays None answer s k = still_stays s k
  takes_stays (Some w) None s k = still_stays s k
  takes_stays (Some w) (Some response) s k =
      let n = w.first.extender in
      let m : Message = answer_message (s.askers n).serial response in
      message_stays n (took (s.askers n) m).1 (took (s.askers n) m).0 s k

  beats_stays : (o : Option Work) (s : State) → s.work ≡ o → Knows t s → Stays t (beats_in o s)
  beats_stays None s e k = still_stays s k
  beats_stays (Some w) s e k =
      record { work = k.work; queue = k.queue; asks = due (beaten (s.askers w.first.extender)).1 (message_again (s.askers w.first.extender)) }
    where
      known : IsWorkKnown t w
      known = subst (KnowsWork t) e k.work

      due : (b : Bool) (m : Option Message) → AreAddressed t (messages_due w.first.extender b m)
      due true (Some m) = (known.first, tt)
      due true None = tt
      due false m = tt

known_of : (t : Shape) (m : Moved) → Stays t m → Knows t m.state × AreAddressed t m.asks
known_of t m k = (record { work = k.work; queue = k.queue }, k.asks)

pub steps_know : StepsKnow
steps_know t l y (Order c) k names =
    let s : State = record y.state { queue = y.state.queue ++ job.Ordered (y.state.given + 1) c ∷ []; given = y.state.given + 1 } in
    known_of t _ (wakes_stays t l y.state.work s refl (record { work = k.work; queue = fit_more t y.state.queue (job.Ordered (y.state.given + 1) c) k.queue names }))
steps_know t l y (Hear n) k names =
    known_of t _ (wakes_stays t l y.state.work (record y.state { heard = λ m. m == n || y.state.heard m }) refl (record { work = k.work; queue = k.queue }))
steps_know t l y Execute k names = (k, tt)
steps_know t l y Answer k names = known_of t _ (takes_stays t l y.state.work y.answer y.state k)
steps_know t l y (Stray n m) k names = known_of t _ (message_stays t l n (took (y.state.askers n) m).1 (took (y.state.askers n) m).0 y.state k)
steps_know t l y Beat k names = known_of t _ (beats_stays t l y.state.work y.state refl k)

pub begins_knowing : BeginsKnowing
begins_knowing t l b = record { work = tt; queue = fit_first t }
