-- A step of the machine of changes asks at most one request, and changes no other asker.
use Rattle.std.proofs.Common.{◌≡◌, ℕ, ◌+◌, ◌==◌, ◌||◌, ◌++◌, append-nil, List, [], ◌∷◌, Option, Some, None, refl, inl, inr}
use Rattle.std.proofs.lemmas.Bool.{cases_Bool}
use Rattle.exb_csp.specs.declared.message.Request.{Request}
use Rattle.exb_csp.specs.declared.message.Message.{Message}
use Rattle.exb_model.specs.declared.command.Command.{Command}
use Rattle.exb_csp.specs.declared.session.asker.Taken.{Taken}
use Rattle.exb_csp.specs.declared.session.asker.Taken.TheVariants as taken
use Rattle.exb_csp.specs.Sessions.AskingEnd.{AskerState, asked, took}
use Rattle.exb_csp.specs.declared.ask_at.AskAt.{AskAt}
use Rattle.exb_control_spec.specs.declared.plan.change.Change.{Change}
use Rattle.exb_control_spec.specs.declared.extender_message.Asked.{Asked}
use Rattle.exb_control_spec.specs.declared.job.Job.{Job}
use Rattle.exb_control_spec.specs.declared.job.Job.TheVariants as job
use Rattle.exb_control_spec.specs.declared.job.Phase.{Phase}
use Rattle.exb_control_spec.specs.declared.job.Phase.TheVariants.{Preparing, Cleaning}
use Rattle.exb_control_spec.specs.Decisions.{Decide, Outcome, Refused, Ready, bridge_after}
use Rattle.exb_control_spec.specs.Machine.{Work, State, Moved, still, followed_by, works, ends, cleans, commits, prepares, starts, waits, after_start, goes_on, wakes_by, answered_by, answered_in, answered_where, answered, ordered, heard, with_asker}
use Rattle.exb_model.specs.Tables.{at}

-- nothing is asked, or one request of extender n
pub data AtMostOne (askers : ℕ → AskerState) : List Asked → (ℕ → AskerState) → Type 0 where
  none : AtMostOne askers [] askers
  one : (n : ℕ) (request : Request) → AtMostOne askers (record { extender = n; message = (asked (askers n) request).1 } ∷ []) (at n (asked (askers n) request).0 askers)

-- of a step from a state; and where a request is then outstanding it is that one
pub record Asks (s : State) (m : Moved) : Type 0 where
  pub one : AtMostOne s.askers m.asks m.state.askers
  pub none : m.state.work ≡ None → m.asks ≡ []

nils : (xs ys : List Asked) → xs ≡ [] → ys ≡ [] → xs ++ ys ≡ []
nils [] ys a b = b
nils (x ∷ xs) ys a b = absurd (cons_nil a)
  where
    cons_nil : {y : Asked} {zs : List Asked} → y ∷ zs ≡ [] → ⊥
    cons_nil k = cc

module _ (decide : Decide) where
  works_asks : (j : Job) (x : Change) (q : Phase) (a : AskAt) (more : List AskAt) (s : State) → Asks s (works j x q a more s)
  works_asks j x q a more s = record { one = one a.extender a.request; none = λ e. absurd (some_none e) }
    where
      some_none : {w : Work} → Some w ≡ None → ⊥
      some_none e = cc

  cleans_asks : (j : Job) (x : Change) (left : List AskAt) (s : State) → Asks s (cleans j x left s)
  cleans_asks j x [] s = record { one = none; none = λ e. refl }
  cleans_asks j x (a ∷ more) s = works_asks j x Cleaning a more s

  commits_asks : (j : Job) (x : Change) (s : State) → Asks s (commits j x s)
  commits_asks j x s =
      let k = cleans_asks j x x.cleanup (record s { bridge = bridge_after j s.bridge }) in
      record { one = k.one; none = k.none }

  prepares_asks : (j : Job) (x : Change) (left : List AskAt) (s : State) → Asks s (prepares j x left s)
  prepares_asks j x [] s = commits_asks j x s
  prepares_asks j x (a ∷ more) s = works_asks j x Preparing a more s

  starts_asks : (j : Job) (d : Outcome) (s : State) → Asks s (starts j d s)
  starts_asks j (Refused cause) s = record { one = none; none = λ e. refl }
  starts_asks j (Ready x claimed) s = (let k = prepares_asks j x x.prepare (record s { held = claimed }) in record { one = k.one; none = k.none })

  -- what asks nothing, and then a step
  pub after_none : (a b c : ℕ → AskerState) (xs ys : List Asked) → xs ≡ [] → AtMostOne a xs b → AtMostOne b ys c → AtMostOne a (xs ++ ys) c
  after_none a b c xs ys e none second = second
  after_none a b c xs ys e (one n request) second = absurd (cons_nil e)
    where
      cons_nil : {x : Asked} {zs : List Asked} → x ∷ zs ≡ [] → ⊥
      cons_nil k = cc

  after_start_asks : (s : State) (js : List Job) (m onward : Moved) (o : Option Work) → m.state.work ≡ o → Asks s m → Asks m.state onward → Asks s (after_start js o m onward)
  after_start_asks s js m onward None e k f =
      record {
        one = after_none s.askers m.state.askers onward.state.askers m.asks onward.asks (k.none e) k.one f.one;
        none = λ z. nils m.asks onward.asks (k.none e) (f.none z);
      }
  after_start_asks s js m onward (Some w) e k f = record { one = k.one; none = k.none }

  goes_on_asks : (js : List Job) (s : State) → Asks s (goes_on decide js s)
  unfolding goes_on
  goes_on_asks [] s = record { one = none; none = λ e. refl }
  goes_on_asks (j ∷ js) s =
      elim (cases_Bool (waits s j)) [
        | inl w ↦ rw w (record { one = none; none = λ e. refl })
        | inr w ↦
            rw w (
            let m : Moved = starts j (decide s.bridge s.held j) s in
            after_start_asks s js m (goes_on decide js m.state) m.state.work refl (starts_asks j (decide s.bridge s.held j) s) (goes_on_asks js m.state))
      ]

  still_asks : (s : State) → Asks s (still s)
  still_asks s = record { one = none; none = λ e. refl }

  wakes_asks : (o : Option Work) (s : State) → Asks s (wakes_by decide o s)
  wakes_asks None s = goes_on_asks s.queue s
  wakes_asks (Some w) s = still_asks s

  then_wakes : (s : State) (m : Moved) (o : Option Work) → m.state.work ≡ o → Asks s m → Asks s (followed_by m (wakes_by decide o m.state))
  then_wakes s m None e k =
      let f = goes_on_asks m.state.queue m.state in
      record {
        one = after_none s.askers m.state.askers (goes_on decide m.state.queue m.state).state.askers m.asks (goes_on decide m.state.queue m.state).asks (k.none e) k.one f.one;
        none = λ z. nils m.asks (goes_on decide m.state.queue m.state).asks (k.none e) (f.none z);
      }
  then_wakes s m (Some w) e k = rw (append-nil {A = Asked}) (record { one = k.one; none = k.none })

  answered_in_asks : (o : Option Work) (s : State) → Asks s (answered_in decide o s)
  answered_in_asks None s = still_asks s
  answered_in_asks (Some w) s = by_phase w.phase w.rest
    where
      by_phase : (q : Phase) (left : List AskAt) → Asks s (answered_by decide (record w { phase = q }) left s)
      by_phase q (a ∷ more) = works_asks w.job w.change q a more s
      by_phase Preparing [] =
          let m : Moved = commits w.job w.change (record s { work = None }) in
          let k = commits_asks w.job w.change (record s { work = None }) in
          let f = then_wakes (record s { work = None }) m m.state.work refl k in
          record { one = f.one; none = f.none }
      by_phase Cleaning [] = (let k = goes_on_asks s.queue (ends w.change s) in record { one = k.one; none = k.none })

  -- where a message was taken, from the asker that took it
  pub taken_asks : (u : Taken) (s : State) → Asks s (answered_where decide u s)
  taken_asks (taken.Answer response) s = answered_in_asks s.work s
  taken_asks taken.Stale s = still_asks s
  taken_asks taken.NotOurs s = still_asks s

  pub answered_asks : (n : ℕ) (m : Message) (s : State) → Asks (with_asker n (took (s.askers n) m).0 s) (answered decide n m s)
  answered_asks n m s = taken_asks (took (s.askers n) m).1 (with_asker n (took (s.askers n) m).0 s)

  pub heard_asks : (n : ℕ) (s : State) → Asks s (heard decide n s)
  heard_asks n s = (let k = wakes_asks s.work (record s { heard = λ m. m == n || s.heard m }) in record { one = k.one; none = k.none })

  pub ordered_asks : (c : Command) (s : State) → Asks s (ordered decide c s)
  ordered_asks c s =
      let k = wakes_asks s.work (record s { queue = s.queue ++ job.Ordered (s.given + 1) c ∷ []; given = s.given + 1 }) in record { one = k.one; none = k.none }
