-- What the machine of changes tells takes down, in the table of a history, just the ports that it makes go down.
use Rattle.std.proofs.Common.{◌≡◌, ℕ, ◌+◌, ◌==◌, ◌||◌, ◌++◌, List, [], ◌∷◌, Option, Some, None, refl, sym, ◌∙◌, ap, inl, inr}
use Rattle.std.proofs.lemmas.Bool.{cases_Bool}
use Rattle.exb_model.specs.declared.command.Command.{Command}
use Rattle.exb_model.specs.declared.command.Command.TheVariants as command
use Rattle.exb_model.specs.declared.event.Event.{Event}
use Rattle.exb_model.specs.declared.event.Cause.{Cause}
use Rattle.exb_model.specs.History.{Basis, History, ◌then◌, command_of}
use Rattle.exb_learn.specs.Calls.{Table, Forget, after_call}
use Rattle.exb_learn.specs.Histories.{command_call, after_any, table_after}
use Rattle.exb_csp.specs.declared.message.Response.{Response}
use Rattle.exb_csp.specs.declared.session.asker.Taken.{Taken}
use Rattle.exb_csp.specs.declared.session.asker.Taken.TheVariants as taken
use Rattle.exb_csp.specs.Sessions.AskingEnd.{took}
use Rattle.exb_csp.specs.declared.ask_at.AskAt.{AskAt}
use Rattle.exb_control_spec.specs.declared.plan.change.Change.{Change}
use Rattle.exb_control_spec.specs.declared.job.Job.{Job}
use Rattle.exb_control_spec.specs.declared.job.Job.TheVariants as job
use Rattle.exb_control_spec.specs.declared.job.Phase.{Phase}
use Rattle.exb_control_spec.specs.declared.job.Phase.TheVariants.{Preparing, Cleaning}
use Rattle.exb_control_spec.specs.Decisions.{Outcome, Refused, Ready, Decide, bridge_after}
use Rattle.exb_control_spec.specs.Machine.{Work, State, Moved, with_asker, committed, downs_of, commanded_down, refused, ends, cleans, commits, prepares, starts, waits, after_start, goes_on, wakes_by, answered_by, answered_in, answered_where, beats_in}
use Rattle.exb_control_spec.specs.Runs.Systems.{System, answer_message, takes_answer}
use Rattle.exb_control_spec.specs.Runs.Systems as systems
use Rattle.exb_world_spec.specs.BridgeLearning.{forgotten_all}
use Rattle.exb_flight.specs.FlightFacts.{IsOf, AreOf, WorkGood}
use Rattle.exb_flight.proofs.KeptPromises.{then_append}

forgotten_append : (ps qs : List ℕ) (u : Table) → forgotten_all (ps ++ qs) u ≡ forgotten_all qs (forgotten_all ps u)
forgotten_append [] qs u = refl
forgotten_append (p ∷ ps) qs u = forgotten_append ps qs (after_call (Forget p) u)

module _ (i : Basis) where
  abbrev pub IsTold : List Event → List ℕ → Type 0
  IsTold es downs = (h : History) → table_after i (h then es) ≡ forgotten_all downs (table_after i h)

  told_none : IsTold [] []
  told_none h = refl

  told_append : (xs ys : List Event) (ps qs : List ℕ) → IsTold xs ps → IsTold ys qs → IsTold (xs ++ ys) (ps ++ qs)
  told_append xs ys ps qs a b h =
      ap (table_after i) (then_append h xs ys) ∙ (b (h then xs) ∙ (ap (forgotten_all qs) (a h) ∙ sym (forgotten_append ps qs (table_after i h))))

  told_command : (c : Command) (u : Table) → after_any (command_call (Some c)) u ≡ forgotten_all (commanded_down c) u
  told_command (command.Vlan vid tagged untagged) u = refl
  told_command (command.Member vid port kind) u = refl
  told_command (command.Unmember vid port) u = refl
  told_command (command.Pvid port vid) u = refl
  told_command (command.Accept port accept) u = refl
  told_command (command.Filter port on) u = refl
  told_command (command.Isolate port on) u = refl
  told_command (command.Static vid address ports) u = refl
  told_command (command.Unstatic vid address) u = refl
  told_command (command.Up port) u = refl
  told_command (command.Down port) u = refl

  committed_told : (j : Job) → IsOf i j → IsTold (committed j) (downs_of j)
  unfolding table_after
  committed_told (job.Opening n) k h = refl
  committed_told (job.AutomaticUp p) k h = refl
  committed_told (job.Ordered n c) k h = ap (λ (o : Option Command). after_any (command_call o) (table_after i h)) k ∙ told_command c (table_after i h)

  refused_told : (j : Job) (x : Cause) → IsTold (refused j x) []
  unfolding table_after
  refused_told (job.Opening n) x h = refl
  refused_told (job.AutomaticUp p) x h = refl
  refused_told (job.Ordered n c) x h = refl

  -- of a step from a state: what it tells, and the jobs that still wait
  record IsGood (m : Moved) : Type 0 where
    told : IsTold m.events m.downs
    queue : AreOf i m.state.queue

  cleans_good : (j : Job) (x : Change) (left : List AskAt) (s : State) → AreOf i s.queue → IsGood (cleans j x left s)
  cleans_good j x [] s q = record { told = told_none; queue = q }
  cleans_good j x (a ∷ more) s q = record { told = told_none; queue = q }

  commits_good : (j : Job) (x : Change) (s : State) → IsOf i j → AreOf i s.queue → IsGood (commits j x s)
  commits_good j x s k q =
      let next : Moved = cleans j x x.cleanup (record s { bridge = bridge_after j s.bridge }) in
      let c = cleans_good j x x.cleanup (record s { bridge = bridge_after j s.bridge }) q in
      record { told = told_append (committed j) next.events (downs_of j) next.downs (committed_told j k) c.told; queue = c.queue }

  prepares_good : (j : Job) (x : Change) (left : List AskAt) (s : State) → IsOf i j → AreOf i s.queue → IsGood (prepares j x left s)
  prepares_good j x [] s k q = commits_good j x s k q
  prepares_good j x (a ∷ more) s k q = record { told = told_none; queue = q }

  starts_good : (j : Job) (d : Outcome) (s : State) → IsOf i j → AreOf i s.queue → IsGood (starts j d s)
  starts_good j (Refused cause) s k q = record { told = refused_told j cause; queue = q }
  starts_good j (Ready x claimed) s k q = (let g = prepares_good j x x.prepare (record s { held = claimed }) k q in record { told = g.told; queue = g.queue })

  after_start_told : (js : List Job) (o : Option Work) (m onward : Moved) → IsTold m.events m.downs → IsTold onward.events onward.downs → IsTold (after_start js o m onward).events (after_start js o m onward).downs
  after_start_told js None m onward a b = told_append m.events onward.events m.downs onward.downs a b
  after_start_told js (Some w) m onward a b = a

  module _ (decide : Decide) where
    goes_on_told : (js : List Job) (s : State) → AreOf i js → AreOf i s.queue → IsTold (goes_on decide js s).events (goes_on decide js s).downs
    unfolding goes_on
    goes_on_told [] s k q = told_none
    goes_on_told (j ∷ js) s k q =
        elim (cases_Bool (waits s j)) [
          | inl w ↦ rw w told_none
          | inr w ↦
              rw w (
              let m : Moved = starts j (decide s.bridge s.held j) s in
              let g = starts_good j (decide s.bridge s.held j) s k.0 q in
              after_start_told js m.state.work m (goes_on decide js m.state) g.told (goes_on_told js m.state k.1 g.queue))
        ]

    wakes_told : (o : Option Work) (s : State) → AreOf i s.queue → IsTold (wakes_by decide o s).events (wakes_by decide o s).downs
    wakes_told None s q = goes_on_told s.queue s q q
    wakes_told (Some w) s q = told_none

    answered_told : (o : Option Work) (s : State) → WorkGood i o → AreOf i s.queue → IsTold (answered_in decide o s).events (answered_in decide o s).downs
    answered_told None s good q = told_none
    answered_told (Some w) s good q = by_phase w.phase w.rest
      where
        by_phase : (p : Phase) (left : List AskAt) → IsTold (answered_by decide (record w { phase = p }) left s).events (answered_by decide (record w { phase = p }) left s).downs
        by_phase p (a ∷ more) = told_none
        by_phase Preparing [] =
            let m : Moved = commits w.job w.change (record s { work = None }) in
            let g = commits_good w.job w.change (record s { work = None }) good.command q in
            told_append m.events (wakes_by decide m.state.work m.state).events m.downs (wakes_by decide m.state.work m.state).downs g.told (wakes_told m.state.work m.state g.queue)
        by_phase Cleaning [] = goes_on_told s.queue (ends w.change s) q q

    message_told : (u : Taken) (s : State) → WorkGood i s.work → AreOf i s.queue → IsTold (answered_where decide u s).events (answered_where decide u s).downs
    message_told (taken.Answer response) s good q = answered_told s.work s good q
    message_told taken.Stale s good q = told_none
    message_told taken.NotOurs s good q = told_none

    takes_told : (o : Option Work) (answer : Option Response) (s : State) → WorkGood i s.work → AreOf i s.queue → IsTold (takes_answer decide o answer s).events (takes_answer decide o answer s).downs
    takes_told None answer s good q = told_none
    takes_told (Some w) None s good q = told_none
    takes_told (Some w) (Some response) s good q =
        let n : ℕ = w.first.extender in
        let u = took (s.askers n) (answer_message (s.askers n).serial response) in
        message_told u.1 (with_asker n u.0 s) good q

    beats_told : (o : Option Work) (s : State) → IsTold (beats_in o s).events (beats_in o s).downs
    beats_told None s = told_none
    beats_told (Some w) s = told_none

    queue_more : (js : List Job) (j : Job) → AreOf i js → IsOf i j → AreOf i (js ++ j ∷ [])
    queue_more [] j a k = (k, tt)
    queue_more (x ∷ xs) j a k = (a.0, queue_more xs j a.1 k)

    -- a command is the next one of the basis
    abbrev pub OrdersNext : System → systems.Step → Type 0
    OrdersNext y (systems.Order c) = command_of i (y.state.given + 1) ≡ Some c
    OrdersNext y _ = Unit {0}

    pub moved_told : (y : System) (step : systems.Step) → WorkGood i y.state.work → AreOf i y.state.queue → OrdersNext y step → IsTold (systems.moved decide y step).events (systems.moved decide y step).downs
    moved_told y (systems.Order c) good q next =
        let more = queue_more y.state.queue (job.Ordered (y.state.given + 1) c) q next in
        wakes_told y.state.work (record y.state { queue = y.state.queue ++ job.Ordered (y.state.given + 1) c ∷ []; given = y.state.given + 1 }) more
    moved_told y (systems.Hear n) good q next = wakes_told y.state.work (record y.state { heard = λ m. m == n || y.state.heard m }) q
    moved_told y systems.Execute good q next = told_none
    moved_told y systems.Answer good q next = takes_told y.state.work y.answer y.state good q
    moved_told y (systems.Stray n m) good q next = (let u = took (y.state.askers n) m in message_told u.1 (with_asker n u.0 y.state) good q)
    moved_told y systems.Beat good q next = beats_told y.state.work y.state
