-- The machine of changes tells of no record.
use Rattle.std.proofs.Common.{ℕ, ◌+◌, ◌==◌, ◌||◌, ◌++◌, List, [], ◌∷◌, Option, Some, None, inl, inr}
use Rattle.std.proofs.lemmas.Bool.{cases_Bool}
use Rattle.exb_model.specs.declared.command.Command.{Command}
use Rattle.exb_model.specs.declared.event.Cause.{Cause}
use Rattle.exb_model.specs.declared.event.Event.{Event}
use Rattle.exb_model.specs.declared.event.Event.TheVariants as event
use Rattle.exb_csp.specs.declared.message.Message.{Message}
use Rattle.exb_csp.specs.declared.session.asker.Taken.{Taken}
use Rattle.exb_csp.specs.declared.session.asker.Taken.TheVariants as taken
use Rattle.exb_csp.specs.Sessions.AskingEnd.{took}
use Rattle.exb_csp.specs.declared.ask_at.AskAt.{AskAt}
use Rattle.exb_control_spec.specs.declared.plan.change.Change.{Change}
use Rattle.exb_control_spec.specs.declared.job.Job.{Job}
use Rattle.exb_control_spec.specs.declared.job.Job.TheVariants as job
use Rattle.exb_control_spec.specs.declared.job.Phase.{Phase}
use Rattle.exb_control_spec.specs.declared.job.Phase.TheVariants.{Preparing, Cleaning}
use Rattle.exb_control_spec.specs.Decisions.{Outcome, Refused, Ready, Decide, bridge_after}
use Rattle.exb_control_spec.specs.Machine.{Work, State, Moved, committed, refused, cleans, commits, prepares, starts, after_start, waits, goes_on, wakes_by, wakes, phase_ends, answered_by, answered_in, answered_where, with_asker, ordered, heard, answered, beats_in, beats, ends}
use Rattle.exb_world_spec.specs.Runs.Sessions.{Each}
use Rattle.exb_world_spec.proofs.LinkFrames.{each_append}

-- the event is of no record
abbrev pub IsPlain : Event → Type 0
IsPlain (event.Relay p n t f) = ⊥
IsPlain (event.Ignored p n) = ⊥
IsPlain _ = Unit {0}

abbrev pub ArePlain : Moved → Type 0
ArePlain m = Each IsPlain m.events

committed_plain : (j : Job) → Each IsPlain (committed j)
committed_plain (job.Opening n) = tt
committed_plain (job.AutomaticUp p) = (tt, tt)
committed_plain (job.Ordered n c) = (tt, tt)

refused_plain : (j : Job) (x : Cause) → Each IsPlain (refused j x)
refused_plain (job.Opening n) x = tt
refused_plain (job.AutomaticUp p) x = (tt, tt)
refused_plain (job.Ordered n c) x = (tt, tt)

cleans_plain : (j : Job) (x : Change) (asks : List AskAt) (s : State) → ArePlain (cleans j x asks s)
cleans_plain j x [] s = tt
cleans_plain j x (a ∷ asks) s = tt

commits_plain : (j : Job) (x : Change) (s : State) → ArePlain (commits j x s)
commits_plain j x s = each_append IsPlain (committed j) (cleans j x x.cleanup (record s { bridge = bridge_after j s.bridge })).events (committed_plain j) (cleans_plain j x x.cleanup (record s { bridge = bridge_after j s.bridge }))

prepares_plain : (j : Job) (x : Change) (asks : List AskAt) (s : State) → ArePlain (prepares j x asks s)
prepares_plain j x [] s = commits_plain j x s
prepares_plain j x (a ∷ asks) s = tt

starts_plain : (j : Job) (o : Outcome) (s : State) → ArePlain (starts j o s)
starts_plain j (Refused cause) s = refused_plain j cause
starts_plain j (Ready x claimed) s = prepares_plain j x x.prepare (record s { held = claimed })

after_plain : (rest : List Job) (o : Option Work) (a b : Moved) → ArePlain a → ArePlain b → ArePlain (after_start rest o a b)
after_plain rest None a b k l = each_append IsPlain a.events b.events k l
after_plain rest (Some w) a b k l = k

module _ (decide : Decide) where
  goes_on_plain : (js : List Job) (s : State) → ArePlain (goes_on decide js s)
  unfolding goes_on
  goes_on_plain [] s = tt
  goes_on_plain (j ∷ js) s =
      let started : Moved = starts j (decide s.bridge s.held j) s in
      elim (cases_Bool (waits s j)) [
        | inl e ↦ rw e tt
        | inr e ↦ rw e (after_plain js started.state.work started (goes_on decide js started.state) (starts_plain j (decide s.bridge s.held j) s) (goes_on_plain js started.state))
      ]

  wakes_plain : (o : Option Work) (s : State) → ArePlain (wakes_by decide o s)
  wakes_plain None s = goes_on_plain s.queue s
  wakes_plain (Some w) s = tt

  phase_plain : (w : Work) (phase : Phase) (s : State) → ArePlain (phase_ends decide w phase s)
  phase_plain w Preparing s =
      let c : Moved = commits w.job w.change (record s { work = None }) in
      each_append IsPlain c.events (wakes decide c.state).events (commits_plain w.job w.change (record s { work = None })) (wakes_plain c.state.work c.state)
  phase_plain w Cleaning s = wakes_plain (ends w.change s).work (ends w.change s)

  by_plain : (w : Work) (rest : List AskAt) (s : State) → ArePlain (answered_by decide w rest s)
  by_plain w [] s = phase_plain w w.phase s
  by_plain w (first ∷ rest) s = tt

  in_plain : (o : Option Work) (s : State) → ArePlain (answered_in decide o s)
  in_plain None s = tt
  in_plain (Some w) s = by_plain w w.rest s

  where_plain : (x : Taken) (s : State) → ArePlain (answered_where decide x s)
  where_plain (taken.Answer response) s = in_plain s.work s
  where_plain taken.Stale s = tt
  where_plain taken.NotOurs s = tt

  pub answered_plain : (n : ℕ) (m : Message) (s : State) → ArePlain (answered decide n m s)
  answered_plain n m s = where_plain (took (s.askers n) m).1 (with_asker n (took (s.askers n) m).0 s)

  pub heard_plain : (n : ℕ) (s : State) → ArePlain (heard decide n s)
  heard_plain n s = wakes_plain s.work (record s { heard = λ m. m == n || s.heard m })

  pub ordered_plain : (c : Command) (s : State) → ArePlain (ordered decide c s)
  ordered_plain c s = wakes_plain s.work (record s { queue = s.queue ++ job.Ordered (s.given + 1) c ∷ []; given = s.given + 1 })

beats_in_plain : (o : Option Work) (s : State) → ArePlain (beats_in o s)
beats_in_plain None s = tt
beats_in_plain (Some w) s = tt

pub beats_plain : (s : State) → ArePlain (beats s)
beats_plain s = beats_in_plain s.work s
