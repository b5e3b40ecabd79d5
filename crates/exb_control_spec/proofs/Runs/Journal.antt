-- What the machine tells.
use Rattle.std.proofs.Common.{◌≡◌, ℕ, ◌+◌, ◌==◌, ◌||◌, ◌++◌, List, [], ◌∷◌, Option, Some, None, refl, sym, ◌∙◌, ap, subst, inl, inr, append_assoc}
use Rattle.std.proofs.lemmas.List.{append-nil}
use Rattle.std.proofs.lemmas.Bool.{cases_Bool}
use Rattle.exb_model.specs.declared.command.Command.TheVariants as command
use Rattle.exb_model.specs.declared.event.Cause.{Cause}
use Rattle.exb_model.specs.declared.event.Event.{Event}
use Rattle.exb_model.specs.Tree.{Shape, IsTree}
use Rattle.exb_model.specs.Setup.{Limits}
use Rattle.exb_model.specs.Configuration.{Bridge}
use Rattle.exb_csp.specs.declared.message.Message.{Message}
use Rattle.exb_csp.specs.declared.message.Response.{Response}
use Rattle.exb_csp.specs.declared.session.asker.Taken.{Taken}
use Rattle.exb_csp.specs.declared.session.asker.Taken.TheVariants as taken
use Rattle.exb_csp.specs.Sessions.AskingEnd.{AskerState, took}
use Rattle.exb_csp.specs.declared.ask_at.AskAt.{AskAt}
use Rattle.exb_control_spec.specs.declared.plan.change.Change.{Change}
use Rattle.exb_control_spec.specs.Plans.HeldNumbers.{Held}
use Rattle.exb_control_spec.specs.Plans.Laws.{RefusedAsCommanded}
use Rattle.exb_control_spec.specs.declared.job.Job.{Job}
use Rattle.exb_control_spec.specs.declared.job.Job.TheVariants as job
use Rattle.exb_control_spec.specs.declared.job.Phase.{Phase}
use Rattle.exb_control_spec.specs.declared.job.Phase.TheVariants.{Preparing, Cleaning}
use Rattle.exb_control_spec.specs.Decisions.{Outcome, Refused, Ready, decide, bridge_after, outcome_by}
use Rattle.exb_control_spec.specs.Machine.{Work, State, Moved, still, cleans, commits, prepares, starts, waits, after_start, goes_on, wakes_by, wakes, ends, answered_by, answered_in, answered_where, answered, with_asker, committed, refused, downs_of, beats_in}
use Rattle.exb_control_spec.specs.Runs.Systems.{System, Step, Order, Hear, Execute, Answer, Stray, Beat, moved, stepped, takes_answer, answer_message, run}
use Rattle.exb_control_spec.specs.InitialState.{first_jobs}
use Rattle.exb_control_spec.specs.Runs.InitialSystem.{first_system}
use Rattle.exb_control_spec.specs.Runs.Journal.{cause_of, told_by, kept_by, downs_by, told, kept, downs_in, undecided_of, pending, jobs_with, WillCommit, Tells, StepsTell, jobs_over, events_over, downs_over, DecidedOnce}

-- what a decision says of its job
abbrev cause_in : Outcome → Option Cause
cause_in (Refused cause) = Some cause
cause_in (Ready x claimed) = None

cause_by : (o : Option Cause) (x : Change) (h : Held) → cause_in (outcome_by o x h) ≡ o
cause_by None x h = refl
cause_by (Some cause) x h = refl

module _ (agrees : RefusedAsCommanded) (t : Shape) (l : Limits) (valid : IsTree t) where
  -- A job is refused just where its command is.
  decides : (b : Bridge) (h : Held) (j : Job) → cause_in (decide t l b h j) ≡ cause_of t l b j
  unfolding decide
  decides b h (job.Opening n) = refl
  decides b h (job.AutomaticUp p) = cause_by _ _ _ ∙ agrees t l b (command.Up p) valid
  decides b h (job.Ordered n c) = cause_by _ _ _ ∙ agrees t l b c valid

module _ (t : Shape) (l : Limits) where
  told_more : (b : Bridge) (xs ys : List Job) → told t l b (xs ++ ys) ≡ told t l b xs ++ told t l (kept t l b xs) ys
  told_more b [] ys = refl
  told_more b (x ∷ xs) ys = rw (told_more (kept_by x b (cause_of t l b x)) xs ys) (sym (append_assoc (told_by x (cause_of t l b x)) _ _))

  downs_more : (b : Bridge) (xs ys : List Job) → downs_in t l b (xs ++ ys) ≡ downs_in t l b xs ++ downs_in t l (kept t l b xs) ys
  downs_more b [] ys = refl
  downs_more b (x ∷ xs) ys = rw (downs_more (kept_by x b (cause_of t l b x)) xs ys) (sym (append_assoc (downs_by x (cause_of t l b x)) _ _))

  kept_more : (b : Bridge) (xs ys : List Job) → kept t l b (xs ++ ys) ≡ kept t l (kept t l b xs) ys
  kept_more b [] ys = refl
  kept_more b (x ∷ xs) ys = kept_more (kept_by x b (cause_of t l b x)) xs ys

  -- from a configuration, where these jobs aren't decided yet
  pub record Goes (b : Bridge) (js : List Job) (m : Moved) : Type 0 where
    pub more : List Job
    pub order : more ++ pending m.state ≡ js
    pub lines : m.events ≡ told t l b more
    pub ports : m.downs ≡ downs_in t l b more
    pub bridge : m.state.bridge ≡ kept t l b more
    pub will : WillCommit t l m.state.bridge m.state.work

  -- nothing is decided
  none_goes : (m : Moved) (b : Bridge) (js : List Job) → m.events ≡ [] → m.downs ≡ [] → m.state.bridge ≡ b → pending m.state ≡ js → WillCommit t l b m.state.work → Goes b js m
  none_goes m b js e d same p w = record { more = []; order = p; lines = e; ports = d; bridge = same; will = subst (λ (c : Bridge). WillCommit t l c m.state.work) (sym same) w }

  -- what a started job tells, and what is left to decide
  record Starts (b : Bridge) (j : Job) (m : Moved) : Type 0 where
    more : List Job
    order : more ++ undecided_of m.state.work ≡ j ∷ []
    lines : m.events ≡ told t l b more
    ports : m.downs ≡ downs_in t l b more
    bridge : m.state.bridge ≡ kept t l b more
    will : WillCommit t l m.state.bridge m.state.work

  -- the cleanup decides nothing
  record Cleans (b : Bridge) (m : Moved) : Type 0 where
    lines : m.events ≡ []
    ports : m.downs ≡ []
    bridge : m.state.bridge ≡ b
    none : undecided_of m.state.work ≡ []
    will : WillCommit t l m.state.bridge m.state.work

  cleans_are : (j : Job) (x : Change) (left : List AskAt) (s : State) → Cleans s.bridge (cleans j x left s)
  cleans_are j x [] s = record { lines = refl; ports = refl; bridge = refl; none = refl; will = tt }
  cleans_are j x (a ∷ more) s = record { lines = refl; ports = refl; bridge = refl; none = refl; will = tt }

  -- a commit decides its job
  record Commits (b : Bridge) (j : Job) (m : Moved) : Type 0 where
    lines : m.events ≡ told t l b (j ∷ [])
    ports : m.downs ≡ downs_in t l b (j ∷ [])
    bridge : m.state.bridge ≡ kept t l b (j ∷ [])
    none : undecided_of m.state.work ≡ []
    will : WillCommit t l m.state.bridge m.state.work

  commits_are : (j : Job) (x : Change) (s : State) → cause_of t l s.bridge j ≡ None → Commits s.bridge j (commits j x s)
  commits_are j x s k =
      let q = cleans_are j x x.cleanup (record s { bridge = bridge_after j s.bridge }) in
      record {
        lines = rw k (ap (λ (es : List Event). committed j ++ es) q.lines);
        ports = rw k (ap (λ (es : List ℕ). downs_of j ++ es) q.ports);
        bridge = q.bridge ∙ (rw k refl);
        none = q.none;
        will = q.will;
      }

  prepares_start : (j : Job) (x : Change) (left : List AskAt) (s : State) → cause_of t l s.bridge j ≡ None → Starts s.bridge j (prepares j x left s)
  prepares_start j x (a ∷ more) s k = record { more = []; order = refl; lines = refl; ports = refl; bridge = refl; will = k }
  prepares_start j x [] s k =
      let q = commits_are j x s k in
      record { more = j ∷ []; order = ap (λ (xs : List Job). j ∷ xs) q.none; lines = q.lines; ports = q.ports; bridge = q.bridge; will = q.will }

  starts_start : (j : Job) (d : Outcome) (s : State) → s.work ≡ None → cause_in d ≡ cause_of t l s.bridge j → Starts s.bridge j (starts j d s)
  starts_start j (Ready x claimed) s n k = prepares_start j x x.prepare (record s { held = claimed }) (sym k)
  starts_start j (Refused cause) s n k =
      record {
        more = j ∷ [];
        order = rw n refl;
        lines = rw (sym k) (sym (append-nil (refused j cause)));
        ports = rw (sym k) refl;
        bridge = rw (sym k) refl;
        will = subst (WillCommit t l s.bridge) (sym n) tt;
      }

  goes_joined : (b c : Bridge) (xs js : List Job) (m n : Moved) → m.events ≡ told t l b xs → m.downs ≡ downs_in t l b xs → c ≡ kept t l b xs → Goes c js n →
      Goes b (xs ++ js) (record { state = n.state; events = m.events ++ n.events; asks = m.asks ++ n.asks; downs = m.downs ++ n.downs })
  goes_joined b c xs js m n e d k g =
      record {
        more = xs ++ g.more;
        order = append_assoc xs g.more (pending n.state) ∙ ap (λ (ys : List Job). xs ++ ys) g.order;
        lines = rw (e, told_more b xs g.more, ← k) (ap (λ (ys : List Event). told t l b xs ++ ys) g.lines);
        ports = rw (d, downs_more b xs g.more, ← k) (ap (λ (ys : List ℕ). downs_in t l b xs ++ ys) g.ports);
        bridge = rw (kept_more b xs g.more, ← k) g.bridge;
        will = g.will;
      }

  after_start_goes : (j : Job) (js : List Job) (b : Bridge) (m : Moved) (onward : Moved) (o : Option Work) → m.state.work ≡ o → Starts b j m → (m.state.work ≡ None → Goes m.state.bridge js onward) →
      Goes b (j ∷ js) (after_start js o m onward)
  after_start_goes j js b m onward None e h f =
      let whole : h.more ≡ j ∷ [] = sym (append-nil h.more) ∙ (rw e at h.order) in
      subst (λ (xs : List Job). Goes b (xs ++ js) (after_start js None m onward)) whole (goes_joined b m.state.bridge h.more js m onward h.lines h.ports h.bridge (f e))
  after_start_goes j js b m onward (Some w) e h f =
      record {
        more = h.more;
        order = sym (append_assoc h.more _ js) ∙ ap (λ (xs : List Job). xs ++ js) h.order;
        lines = h.lines;
        ports = h.ports;
        bridge = h.bridge;
        will = h.will;
      }

  module _ (agrees : RefusedAsCommanded) (valid : IsTree t) where
    goes : (js : List Job) (s : State) → s.work ≡ None → Goes s.bridge js (goes_on (decide t l) js s)
    unfolding goes_on
    goes [] s n = none_goes _ s.bridge [] refl refl refl (rw n refl) (subst (WillCommit t l s.bridge) (sym n) tt)
    goes (j ∷ js) s n =
        elim (cases_Bool (waits s j)) [
          | inl w ↦ rw w (none_goes _ s.bridge (j ∷ js) refl refl refl (rw n refl) (subst (WillCommit t l s.bridge) (sym n) tt))
          | inr w ↦
              rw w (
              let m : Moved = starts j (decide t l s.bridge s.held j) s in
              after_start_goes j js s.bridge m (goes_on (decide t l) js m.state) m.state.work refl
              (starts_start j (decide t l s.bridge s.held j) s n (decides agrees t l valid s.bridge s.held j)) (λ e. goes js m.state e))
        ]

    wakes_goes : (o : Option Work) (s : State) → s.work ≡ o → WillCommit t l s.bridge s.work → Goes s.bridge (pending s) (wakes_by (decide t l) o s)
    wakes_goes None s e h = subst (λ (js : List Job). Goes s.bridge js (goes_on (decide t l) s.queue s)) (rw e refl) (goes s.queue s e)
    wakes_goes (Some w) s e h = record { more = []; order = refl; lines = refl; ports = refl; bridge = refl; will = h }

    answered_goes : (o : Option Work) (s : State) → s.work ≡ o → WillCommit t l s.bridge o → Goes s.bridge (undecided_of o ++ s.queue) (answered_in (decide t l) o s)
    answered_goes None s e h = none_goes _ s.bridge s.queue refl refl refl (rw e refl) (subst (WillCommit t l s.bridge) (sym e) h)
    answered_goes (Some w) s e h = by_phase w.phase w.rest refl refl
      where
        by_phase : (f : Phase) (left : List AskAt) → w.phase ≡ f → w.rest ≡ left → Goes s.bridge (undecided_of (Some w) ++ s.queue) (answered_by (decide t l) w left s)
        by_phase f (a ∷ more) d g = record { more = []; order = refl; lines = refl; ports = refl; bridge = refl; will = h }
        by_phase Preparing [] d g =
            let k : cause_of t l s.bridge w.job ≡ None = rw d at h in
            let m : Moved = commits w.job w.change (record s { work = None }) in
            let q = commits_are w.job w.change (record s { work = None }) k in
            let queue : pending m.state ≡ s.queue = rw (q.none) (same_queue w.change.cleanup (record s { work = None; bridge = bridge_after w.job s.bridge })) in
            let onward : Moved = wakes (decide t l) m.state in
            rw d (
            goes_joined s.bridge m.state.bridge (w.job ∷ []) s.queue m onward q.lines q.ports q.bridge
            (subst (λ (js : List Job). Goes m.state.bridge js onward) queue (wakes_goes m.state.work m.state refl q.will)))
          where
            same_queue : (left : List AskAt) (c : State) → (cleans w.job w.change left c).state.queue ≡ c.queue
            same_queue [] c = refl
            same_queue (a ∷ more) c = refl
        by_phase Cleaning [] d g = rw d (goes s.queue (ends w.change s) refl)

    -- after what was told before
    tells_more : (b : Bridge) (all : List Job) (events : List Event) (downs : List ℕ) (s : State) (m : Moved) (js : List Job) → (h : Tells t l b all events downs s) → Goes s.bridge js m →
        Tells t l b (h.decided ++ js) (events ++ m.events) (downs ++ m.downs) m.state
    tells_more b all events downs s m js h g =
        record {
          decided = h.decided ++ g.more;
          order = append_assoc h.decided g.more (pending m.state) ∙ ap (λ (ys : List Job). h.decided ++ ys) g.order;
          lines = rw (h.lines, told_more b h.decided g.more, ← h.bridge) (ap (λ (ys : List Event). told t l b h.decided ++ ys) g.lines);
          ports = rw (h.ports, downs_more b h.decided g.more, ← h.bridge) (ap (λ (ys : List ℕ). downs_in t l b h.decided ++ ys) g.ports);
          bridge = rw (kept_more b h.decided g.more, ← h.bridge) g.bridge;
          will = g.will;
        }

    -- what a call tells that decides none but the jobs that are pending
    pub tells_after : (b : Bridge) (all : List Job) (events : List Event) (downs : List ℕ) (s : State) (m : Moved) → Tells t l b all events downs s → Goes s.bridge (pending s) m →
        Tells t l b all (events ++ m.events) (downs ++ m.downs) m.state
    tells_after b all events downs s m h g =
        subst (λ (js : List Job). Tells t l b js (events ++ m.events) (downs ++ m.downs) m.state) h.order (tells_more b all events downs s m (pending s) h g)

    -- a message of any extender
    message_goes : (n : ℕ) (m : Message) (s : State) → WillCommit t l s.bridge s.work → Goes s.bridge (pending s) (answered (decide t l) n m s)
    message_goes n m s h = by_taken (took (s.askers n) m).1 (took (s.askers n) m).0
      where
        by_taken : (u : Taken) (a : AskerState) → Goes s.bridge (pending s) (answered_where (decide t l) u (with_asker n a s))
        by_taken (taken.Answer response) a = answered_goes s.work (with_asker n a s) refl h
        by_taken taken.Stale a = none_goes _ s.bridge (pending s) refl refl refl refl h
        by_taken taken.NotOurs a = none_goes _ s.bridge (pending s) refl refl refl refl h

    takes_goes : (o : Option Work) (answer : Option Response) (s : State) → WillCommit t l s.bridge s.work → Goes s.bridge (pending s) (takes_answer (decide t l) o answer s)
    takes_goes None answer s h = none_goes _ s.bridge (pending s) refl refl refl refl h
    takes_goes (Some w) None s h = none_goes _ s.bridge (pending s) refl refl refl refl h
    takes_goes (Some w) (Some response) s h = message_goes w.first.extender (answer_message (s.askers w.first.extender).serial response) s h

    beats_goes : (o : Option Work) (s : State) → WillCommit t l s.bridge s.work → Goes s.bridge (pending s) (beats_in o s)
    beats_goes None s h = none_goes _ s.bridge (pending s) refl refl refl refl h
    beats_goes (Some w) s h = none_goes _ s.bridge (pending s) refl refl refl refl h

    pub steps_tell : (b : Bridge) (all : List Job) (events : List Event) (downs : List ℕ) (y : System) (step : Step) → Tells t l b all events downs y.state →
        Tells t l b (jobs_with y all step) (events ++ (moved (decide t l) y step).events) (downs ++ (moved (decide t l) y step).downs) (stepped (decide t l) y step).state
    steps_tell b all events downs y (Order c) h =
        let s : State = y.state in
        let one : List Job = job.Ordered (s.given + 1) c ∷ [] in
        let q : State = record s { queue = s.queue ++ one; given = s.given + 1 } in
        let whole : h.decided ++ pending q ≡ all ++ one =
        ap (λ (js : List Job). h.decided ++ js) (sym (append_assoc (undecided_of s.work) s.queue one)) ∙ (sym (append_assoc h.decided (pending s) one) ∙ ap (λ (js : List Job). js ++ one) h.order) in
        let m : Moved = wakes (decide t l) q in
        subst (λ (js : List Job). Tells t l b js (events ++ m.events) (downs ++ m.downs) m.state) whole
        (tells_more b all events downs s m (pending q) h (wakes_goes s.work q refl h.will))
    steps_tell b all events downs y (Hear n) h =
        let q : State = record y.state { heard = λ m. m == n || y.state.heard m } in
        tells_after b all events downs y.state (wakes (decide t l) q) h (wakes_goes y.state.work q refl h.will)
    steps_tell b all events downs y Execute h = tells_after b all events downs y.state (still y.state) h (none_goes _ y.state.bridge (pending y.state) refl refl refl refl h.will)
    steps_tell b all events downs y Answer h = tells_after b all events downs y.state _ h (takes_goes y.state.work y.answer y.state h.will)
    steps_tell b all events downs y (Stray n m) h = tells_after b all events downs y.state _ h (message_goes n m y.state h.will)
    steps_tell b all events downs y Beat h = tells_after b all events downs y.state _ h (beats_goes y.state.work y.state h.will)

    runs_tell : (b : Bridge) (all : List Job) (events : List Event) (downs : List ℕ) (y : System) (steps : List Step) → Tells t l b all events downs y.state →
        Tells t l b (jobs_over t l y all steps) (events ++ events_over t l y steps) (downs ++ downs_over t l y steps) (run (decide t l) steps y).state
    runs_tell b all events downs y [] h =
        rw (append-nil events, append-nil downs) h
    runs_tell b all events downs y (step ∷ steps) h =
        let z : System = stepped (decide t l) y step in
        let m : Moved = moved (decide t l) y step in
        let k = runs_tell b (jobs_with y all step) (events ++ m.events) (downs ++ m.downs) z steps (steps_tell b all events downs y step h) in
        rw (sym (append_assoc events m.events (events_over t l z steps)), sym (append_assoc downs m.downs (downs_over t l z steps))) k

pub steps_tell_of : RefusedAsCommanded → StepsTell
steps_tell_of agrees t l b all events downs y step valid h = steps_tell t l agrees valid b all events downs y step h

pub decided_once_of : RefusedAsCommanded → DecidedOnce
decided_once_of agrees t l b steps valid =
    runs_tell t l agrees valid b (first_jobs t) [] [] (first_system t l b) steps
    (record { decided = []; order = refl; lines = refl; ports = refl; bridge = refl; will = tt })
