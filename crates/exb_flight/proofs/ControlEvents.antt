-- What the machine of changes tells is of no arrival.
use Rattle.std.proofs.Common.{◌+◌, ◌==◌, ◌||◌, ◌++◌, List, [], ◌∷◌, Option, Some, None, inl, inr}
use Rattle.std.specs.Prelude.{⊤}
use Rattle.std.proofs.lemmas.Bool.{cases_Bool}
use Rattle.exb_model.specs.declared.event.Event.{Event}
use Rattle.exb_model.specs.declared.event.Event.TheVariants as event
use Rattle.exb_csp.specs.declared.message.Response.{Response}
use Rattle.exb_csp.specs.declared.session.asker.Taken.{Taken}
use Rattle.exb_csp.specs.declared.session.asker.Taken.TheVariants as taken
use Rattle.exb_csp.specs.Sessions.AskingEnd.{took}
use Rattle.exb_csp.specs.declared.ask_at.AskAt.{AskAt}
use Rattle.exb_control_spec.specs.declared.plan.change.Change.{Change}
use Rattle.exb_control_spec.specs.declared.job.Job.{Job}
use Rattle.exb_control_spec.specs.declared.job.Job.TheVariants as job
use Rattle.exb_control_spec.specs.declared.job.Phase.{Phase}
use Rattle.exb_control_spec.specs.declared.job.Phase.TheVariants.{Preparing, Cleaning}
use Rattle.exb_control_spec.specs.Decisions.{Outcome, Refused, Ready, Decide, bridge_after}
use Rattle.exb_control_spec.specs.Machine.{Work, State, Moved, with_asker, committed, ends, cleans, commits, prepares, starts, waits, after_start, goes_on, wakes_by, answered_by, answered_in, answered_where, beats_in}
use Rattle.exb_control_spec.specs.Runs.Systems.{System, answer_message, takes_answer}
use Rattle.exb_control_spec.specs.Runs.Systems as systems
use Rattle.exb_flight.specs.Items.{Each}
use Rattle.exb_flight.proofs.ItemLists.{each_append}

-- an event of a change
abbrev pub IsOfChange : Event → Type 0
IsOfChange (event.Relay p n t f) = ⊥
IsOfChange (event.Ignored p n) = ⊥
IsOfChange (event.Tick seconds) = ⊥
IsOfChange (event.Commit n) = ⊤
IsOfChange (event.Refuse n cause) = ⊤
IsOfChange (event.Up p) = ⊤
IsOfChange (event.NoUp p cause) = ⊤
IsOfChange event.Settled = ⊥

abbrev pub AreOfChanges : List Event → Type 0
AreOfChanges es = Each IsOfChange es

committed_are : (j : Job) → AreOfChanges (committed j)
committed_are (job.Opening n) = tt
committed_are (job.AutomaticUp p) = (tt, tt)
committed_are (job.Ordered n c) = (tt, tt)

cleans_are : (j : Job) (x : Change) (left : List AskAt) (s : State) → AreOfChanges (cleans j x left s).events
cleans_are j x [] s = tt
cleans_are j x (a ∷ more) s = tt

commits_are : (j : Job) (x : Change) (s : State) → AreOfChanges (commits j x s).events
commits_are j x s = each_append IsOfChange (committed j) (cleans j x x.cleanup (record s { bridge = bridge_after j s.bridge })).events (committed_are j) (cleans_are j x x.cleanup (record s { bridge = bridge_after j s.bridge }))

prepares_are : (j : Job) (x : Change) (left : List AskAt) (s : State) → AreOfChanges (prepares j x left s).events
prepares_are j x [] s = commits_are j x s
prepares_are j x (a ∷ more) s = tt

starts_are : (j : Job) (d : Outcome) (s : State) → AreOfChanges (starts j d s).events
starts_are (job.Opening n) (Refused cause) s = tt
starts_are (job.AutomaticUp p) (Refused cause) s = (tt, tt)
starts_are (job.Ordered n c) (Refused cause) s = (tt, tt)
starts_are j (Ready x claimed) s = prepares_are j x x.prepare (record s { held = claimed })

after_start_are : (js : List Job) (o : Option Work) (m onward : Moved) → AreOfChanges m.events → AreOfChanges onward.events → AreOfChanges (after_start js o m onward).events
after_start_are js None m onward a b = each_append IsOfChange m.events onward.events a b
after_start_are js (Some w) m onward a b = a

module _ (decide : Decide) where
  goes_on_are : (js : List Job) (s : State) → AreOfChanges (goes_on decide js s).events
  unfolding goes_on
  goes_on_are [] s = tt
  goes_on_are (j ∷ js) s =
      elim (cases_Bool (waits s j)) [
        | inl w ↦ rw w tt
        | inr w ↦
            rw w (
            let m : Moved = starts j (decide s.bridge s.held j) s in
            after_start_are js m.state.work m (goes_on decide js m.state) (starts_are j (decide s.bridge s.held j) s) (goes_on_are js m.state))
      ]

  wakes_are : (o : Option Work) (s : State) → AreOfChanges (wakes_by decide o s).events
  wakes_are None s = goes_on_are s.queue s
  wakes_are (Some w) s = tt

  answered_are : (o : Option Work) (s : State) → AreOfChanges (answered_in decide o s).events
  answered_are None s = tt
  answered_are (Some w) s = by_phase w.phase w.rest
    where
      by_phase : (q : Phase) (left : List AskAt) → AreOfChanges (answered_by decide (record w { phase = q }) left s).events
      by_phase q (a ∷ more) = tt
      by_phase Preparing [] =
          let m : Moved = commits w.job w.change (record s { work = None }) in
          each_append IsOfChange m.events (wakes_by decide m.state.work m.state).events (commits_are w.job w.change (record s { work = None })) (wakes_are m.state.work m.state)
      by_phase Cleaning [] = goes_on_are s.queue (ends w.change s)

  message_are : (t : Taken) (s : State) → AreOfChanges (answered_where decide t s).events
  message_are (taken.Answer response) s = answered_are s.work s
  message_are taken.Stale s = tt
  message_are taken.NotOurs s = tt

  takes_are : (o : Option Work) (answer : Option Response) (s : State) → AreOfChanges (takes_answer decide o answer s).events
  takes_are None answer s = tt
  takes_are (Some w) None s = tt
  takes_are (Some w) (Some response) s =
      let n = w.first.extender in
      let t = took (s.askers n) (answer_message (s.askers n).serial response) in
      message_are t.1 (with_asker n t.0 s)

  beats_are : (o : Option Work) (s : State) → AreOfChanges (beats_in o s).events
  beats_are None s = tt
  beats_are (Some w) s = tt

  pub moved_are : (y : System) (step : systems.Step) → AreOfChanges (systems.moved decide y step).events
  moved_are y (systems.Order c) = wakes_are y.state.work (record y.state { queue = y.state.queue ++ job.Ordered (y.state.given + 1) c ∷ []; given = y.state.given + 1 })
  moved_are y (systems.Hear n) = wakes_are y.state.work (record y.state { heard = λ m. m == n || y.state.heard m })
  moved_are y systems.Execute = tt
  moved_are y systems.Answer = takes_are y.state.work y.answer y.state
  moved_are y (systems.Stray n m) = (let t = took (y.state.askers n) m in message_are t.1 (with_asker n t.0 y.state))
  moved_are y systems.Beat = beats_are y.state.work y.state
