-- The machine of changes tells of jobs alone, and only giving a command counts it.
use Rattle.std.proofs.Common.{◌≡◌, ℕ, ◌+◌, ◌==◌, ◌||◌, ◌++◌, List, [], ◌∷◌, Option, Some, None, refl, ap, ◌∙◌, inl, inr}
use Rattle.std.proofs.lemmas.Bool.{cases_Bool}
use Rattle.std.proofs.lemmas.List.{append-nil}
use Rattle.std.proofs.lemmas.List.Elements.{filter-append}
use Rattle.exb_model.specs.declared.command.Command.{Command}
use Rattle.exb_model.specs.declared.event.Cause.{Cause}
use Rattle.exb_model.specs.declared.event.Event.{Event}
use Rattle.exb_model.specs.Tree.{Shape}
use Rattle.exb_csp.specs.declared.message.Message.{Message}
use Rattle.exb_csp.specs.declared.message.Response.{Response}
use Rattle.exb_csp.specs.declared.session.asker.Taken.{Taken}
use Rattle.exb_csp.specs.declared.session.asker.Taken.TheVariants as taken
use Rattle.exb_csp.specs.Sessions.AskingEnd.{took}
use Rattle.exb_csp.specs.declared.ask_at.AskAt.{AskAt}
use Rattle.exb_control_spec.specs.declared.plan.change.Change.{Change}
use Rattle.exb_control_spec.specs.declared.job.Job.{Job}
use Rattle.exb_control_spec.specs.declared.job.Job.TheVariants as job
use Rattle.exb_control_spec.specs.declared.job.Phase.{Phase}
use Rattle.exb_control_spec.specs.declared.job.Phase.TheVariants.{Preparing, Cleaning}
use Rattle.exb_control_spec.specs.Decisions.{Decide, Outcome, Refused, Ready, bridge_after}
use Rattle.exb_control_spec.specs.Machine.{Work, State, Moved, followed_by, committed, refused, downs_of, with_asker, ends, cleans, commits, prepares, starts, waits, after_start, goes_on, wakes_by, wakes, phase_ends, answered_by, answered_in, answered_where, answered, heard, ordered, beats_in, beats}
use Rattle.exb_control_spec.specs.Runs.Systems.{System, Step, Order, Hear, Execute, Answer, Stray, Beat, answer_message, takes_answer, moved}
use Rattle.exb_world_spec.specs.Worlds.{World, with_control, with_table}
use Rattle.exb_world_spec.specs.BridgeLearning.{forgotten_all}
use Rattle.exb_world_spec.specs.ControlFrames.{asks, moves}
use Rattle.exb_world_spec.specs.Runs.Simulation.{is_of_job, jobs_in, commands_in, given_after}
use Rattle.exb_world_spec.proofs.SilentEffects.{silent_each, asks_silent}

abbrev AreJobs : List Event → Type 0
AreJobs es = jobs_in es ≡ es

both_jobs : (xs ys : List Event) → AreJobs xs → AreJobs ys → AreJobs (xs ++ ys)
both_jobs xs ys e f = filter-append is_of_job xs ys ∙ ap (λ (zs : List Event). zs ++ jobs_in ys) e ∙ ap (λ (zs : List Event). xs ++ zs) f

-- only jobs are told, and so many commands were given
record IsTidy (n : ℕ) (m : Moved) : Type 0 where
  jobs : AreJobs m.events
  given : m.state.given ≡ n

tidy_then : (n : ℕ) (a b : Moved) → AreJobs a.events → IsTidy n b → IsTidy n (followed_by a b)
tidy_then n a b jobs k = record { jobs = both_jobs a.events b.events jobs k.jobs; given = k.given }

committed_jobs : (j : Job) → AreJobs (committed j)
committed_jobs (job.Opening n) = refl
committed_jobs (job.AutomaticUp p) = refl
committed_jobs (job.Ordered n c) = refl

refused_jobs : (j : Job) (x : Cause) → AreJobs (refused j x)
refused_jobs (job.Opening n) x = refl
refused_jobs (job.AutomaticUp p) x = refl
refused_jobs (job.Ordered n c) x = refl

cleans_tidy : (j : Job) (x : Change) (xs : List AskAt) (s : State) → IsTidy s.given (cleans j x xs s)
cleans_tidy j x [] s = record { jobs = refl; given = refl }
cleans_tidy j x (first ∷ rest) s = record { jobs = refl; given = refl }

commits_tidy : (j : Job) (x : Change) (s : State) → IsTidy s.given (commits j x s)
commits_tidy j x s =
    let u : State = record s { bridge = bridge_after j s.bridge } in
    tidy_then s.given (record { state = s; events = committed j; asks = []; downs = downs_of j }) (cleans j x x.cleanup u) (committed_jobs j) (cleans_tidy j x x.cleanup u)

prepares_tidy : (j : Job) (x : Change) (xs : List AskAt) (s : State) → IsTidy s.given (prepares j x xs s)
prepares_tidy j x [] s = commits_tidy j x s
prepares_tidy j x (first ∷ rest) s = record { jobs = refl; given = refl }

starts_tidy : (j : Job) (o : Outcome) (s : State) → IsTidy s.given (starts j o s)
starts_tidy j (Refused cause) s = record { jobs = refused_jobs j cause; given = refl }
starts_tidy j (Ready x claimed) s = prepares_tidy j x x.prepare (record s { held = claimed })

after_tidy : (n : ℕ) (rest : List Job) (o : Option Work) (a b : Moved) → IsTidy n a → IsTidy n b → IsTidy n (after_start rest o a b)
after_tidy n rest None a b k h = tidy_then n a b k.jobs h
after_tidy n rest (Some w) a b k h = record { jobs = k.jobs; given = k.given }

goes_tidy : (d : Decide) (js : List Job) (s : State) → IsTidy s.given (goes_on d js s)
unfolding goes_on
goes_tidy d [] s = record { jobs = refl; given = refl }
goes_tidy d (j ∷ js) s =
    let m : Moved = starts j (d s.bridge s.held j) s in
    let k : IsTidy s.given m = starts_tidy j (d s.bridge s.held j) s in
    let h : IsTidy m.state.given (goes_on d js m.state) = goes_tidy d js m.state in
    elim (cases_Bool (waits s j)) [
      | inl e ↦ rw e (record { jobs = refl; given = refl })
      | inr e ↦ rw e (after_tidy s.given js m.state.work m (goes_on d js m.state) k (record { jobs = h.jobs; given = h.given ∙ k.given }))
    ]

wakes_tidy : (d : Decide) (o : Option Work) (s : State) → IsTidy s.given (wakes_by d o s)
wakes_tidy d None s = goes_tidy d s.queue s
wakes_tidy d (Some w) s = record { jobs = refl; given = refl }

phase_tidy : (d : Decide) (w : Work) (p : Phase) (s : State) → IsTidy s.given (phase_ends d w p s)
phase_tidy d w Preparing s =
    let m : Moved = commits w.job w.change (record s { work = None }) in
    let k : IsTidy s.given m = commits_tidy w.job w.change (record s { work = None }) in
    let h : IsTidy m.state.given (wakes d m.state) = wakes_tidy d m.state.work m.state in
    tidy_then s.given m (wakes d m.state) k.jobs (record { jobs = h.jobs; given = h.given ∙ k.given })
phase_tidy d w Cleaning s = wakes_tidy d (ends w.change s).work (ends w.change s)

by_tidy : (d : Decide) (w : Work) (xs : List AskAt) (s : State) → IsTidy s.given (answered_by d w xs s)
by_tidy d w [] s = phase_tidy d w w.phase s
by_tidy d w (first ∷ rest) s = record { jobs = refl; given = refl }

in_tidy : (d : Decide) (o : Option Work) (s : State) → IsTidy s.given (answered_in d o s)
in_tidy d None s = record { jobs = refl; given = refl }
in_tidy d (Some w) s = by_tidy d w w.rest s

where_tidy : (d : Decide) (x : Taken) (s : State) → IsTidy s.given (answered_where d x s)
where_tidy d (taken.Answer response) s = in_tidy d s.work s
where_tidy d taken.Stale s = record { jobs = refl; given = refl }
where_tidy d taken.NotOurs s = record { jobs = refl; given = refl }

answered_tidy : (d : Decide) (n : ℕ) (m : Message) (s : State) → IsTidy s.given (answered d n m s)
answered_tidy d n m s = where_tidy d (took (s.askers n) m).1 (with_asker n (took (s.askers n) m).0 s)

takes_tidy : (d : Decide) (o : Option Work) (r : Option Response) (s : State) → IsTidy s.given (takes_answer d o r s)
takes_tidy d None r s = record { jobs = refl; given = refl }
takes_tidy d (Some w) None s = record { jobs = refl; given = refl }
takes_tidy d (Some w) (Some response) s = answered_tidy d w.first.extender (answer_message (s.askers w.first.extender).serial response) s

beats_tidy : (o : Option Work) (s : State) → IsTidy s.given (beats_in o s)
beats_tidy None s = record { jobs = refl; given = refl }
beats_tidy (Some w) s = record { jobs = refl; given = refl }

-- ---- a step
step_tidy : (d : Decide) (y : System) (step : Step) → IsTidy (given_after y.state.given (commands_in step)) (moved d y step)
step_tidy d y (Order c) = wakes_tidy d y.state.work (record y.state { queue = y.state.queue ++ job.Ordered (y.state.given + 1) c ∷ []; given = y.state.given + 1 })
step_tidy d y (Hear n) = wakes_tidy d y.state.work (record y.state { heard = λ m. m == n || y.state.heard m })
step_tidy d y Execute = record { jobs = refl; given = refl }
step_tidy d y Answer = takes_tidy d y.state.work y.answer y.state
step_tidy d y (Stray n m) = answered_tidy d n m y.state
step_tidy d y Beat = beats_tidy y.state.work y.state

pub moved_jobs : (d : Decide) (y : System) (step : Step) → jobs_in (moved d y step).events ≡ (moved d y step).events
moved_jobs d y step = (step_tidy d y step).jobs

pub moved_given : (d : Decide) (y : System) (step : Step) → (moved d y step).state.given ≡ given_after y.state.given (commands_in step)
moved_given d y step = (step_tidy d y step).given

-- ---- what a world tells of it
pub moves_events : (t : Shape) (m : Moved) (w : World) → (moves t m w).events ≡ m.events
moves_events t m w =
    let v : World = with_table (forgotten_all m.downs w.table) (with_control m.state w) in
    ap (λ (es : List Event). m.events ++ es) (silent_each (asks t) (asks_silent t) m.asks v).events ∙ append-nil m.events

pub moves_table : (t : Shape) (m : Moved) (w : World) → (moves t m w).world.table ≡ forgotten_all m.downs w.table
moves_table t m w =
    let v : World = with_table (forgotten_all m.downs w.table) (with_control m.state w) in
    (silent_each (asks t) (asks_silent t) m.asks v).table

-- ---- each of its steps
pub answered_jobs : (d : Decide) (n : ℕ) (m : Message) (s : State) → jobs_in (answered d n m s).events ≡ (answered d n m s).events
answered_jobs d n m s = (answered_tidy d n m s).jobs

pub heard_jobs : (d : Decide) (n : ℕ) (s : State) → jobs_in (heard d n s).events ≡ (heard d n s).events
heard_jobs d n s = (wakes_tidy d s.work (record s { heard = λ m. m == n || s.heard m })).jobs

pub ordered_jobs : (d : Decide) (c : Command) (s : State) → jobs_in (ordered d c s).events ≡ (ordered d c s).events
ordered_jobs d c s = (wakes_tidy d s.work (record s { queue = s.queue ++ job.Ordered (s.given + 1) c ∷ []; given = s.given + 1 })).jobs

beats_silent : (o : Option Work) (s : State) → (beats_in o s).events ≡ []
beats_silent None s = refl
beats_silent (Some w) s = refl

pub beats_none : (s : State) → (beats s).events ≡ []
beats_none s = beats_silent s.work s
