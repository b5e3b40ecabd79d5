-- Each message that the machine of changes asks can be written.
use Rattle.std.proofs.Common.{◌≡◌, ℕ, ◌+◌, ◌==◌, ◌||◌, ◌++◌, All, cond, not, nat_lt, Bool, true, false, List, [], ◌∷◌, Option, Some, None, refl, sym, subst, inl, inr, eq-eqb}
use Rattle.std.specs.Prelude.{IfSome}
use Rattle.std.specs.List.{AllByRecursion}
use Rattle.std.proofs.lemmas.Bool.{cases_Bool, cases_eq, ne_eqb}
use Rattle.exb_model.specs.declared.command.Command.{Command}
use Rattle.exb_model.specs.Tree.{Shape}
use Rattle.exb_model.specs.Setup.{Limits, NamesExternal}
use Rattle.exb_csp.specs.declared.ask_at.AskAt.{AskAt}
use Rattle.exb_csp.specs.declared.message.Body.{Body}
use Rattle.exb_csp.specs.declared.message.Body.TheVariants as body
use Rattle.exb_csp.specs.declared.message.Message.{Message}
use Rattle.exb_csp.specs.declared.message.Request.{Request}
use Rattle.exb_csp.specs.RequestKinds.{kind_of, same_kind}
use Rattle.exb_csp.specs.Encoding.{IsSpelledRequest, HasSpelling}
use Rattle.exb_csp.specs.declared.session.asker.Taken.{Taken}
use Rattle.exb_csp.specs.declared.session.asker.Taken.TheVariants as taken
use Rattle.exb_csp.specs.Sessions.AskingEnd.{AskerState, asked, took, took_body, beaten, message_again}
use Rattle.exb_csp.proofs.Sessions.AskerLaws.{stays_sound, asks_spelled}
use Rattle.exb_csp.proofs.Sessions.Prefixes.{each_append, all_from}
use Rattle.exb_control_spec.specs.declared.plan.change.Change.{Change}
use Rattle.exb_control_spec.specs.declared.extender_message.Asked.{Asked}
use Rattle.exb_control_spec.specs.declared.job.Job.{Job}
use Rattle.exb_control_spec.specs.declared.job.Job.TheVariants as job
use Rattle.exb_control_spec.specs.declared.job.Phase.{Phase}
use Rattle.exb_control_spec.specs.declared.job.Phase.TheVariants.{Preparing, Cleaning}
use Rattle.exb_control_spec.specs.Decisions.{Outcome, Refused, Ready, decide, bridge_after}
use Rattle.exb_control_spec.specs.Machine.{Work, State, Moved, still, works, ends, cleans, commits, prepares, starts, waits, after_start, goes_on, wakes_by, answered_by, answered_in, answered_where, with_asker, messages_due, beats_in, ordered, heard, answered, beats}
use Rattle.exb_control_spec.specs.JobsOfTree.{AreFit}
use Rattle.exb_control_spec.specs.Runs.Systems.{System, Step, Order, Hear, Stray, Beat, moved}
use Rattle.exb_control_spec.specs.Runs.RequestTargets.{AreAddressed, NamesPorts}
use Rattle.exb_control_spec.proofs.Runs.RequestTargets.{steps_know}
use Rattle.exb_control_spec.proofs.Runs.AskerAnswers.{beat_waits}
use Rattle.exb_control.specs.EncodableRequests.{CanBeSpelled, AreSpelled, IsSpelledWork, SpellsWork, Repeats, Spells}
use Rattle.exb_control.proofs.EncodableRequests.{IsSpelledChange, decided_spelled}

-- ---- askers
pub repeats_put : (n : ℕ) (a : AskerState) (askers : ℕ → AskerState) → Repeats a → ((m : ℕ) → Repeats (askers m)) → (m : ℕ) → Repeats (cond (m == n) a (askers m))
repeats_put n a askers its all m = elim (cases_eq m n) [ inl e ↦ rw (eq-eqb m n e) its | inr e ↦ rw (ne_eqb m n e) (all m) ]

repeats_asked : (a : AskerState) (r : Request) → Repeats a → IsSpelledRequest r → Repeats (asked a r).0
repeats_asked a r k spelled = record { sound = stays_sound.asks a r k.sound; spelled = spelled }

waits_if : (b : Bool) (x y : AskerState × Taken) → IfSome x.0.waiting IsSpelledRequest → IfSome y.0.waiting IsSpelledRequest → IfSome (cond b x y).0.waiting IsSpelledRequest
waits_if true x y h k = h
waits_if false x y h k = k

waits_took : (a : AskerState) (o : Option Request) (serial : ℕ) (content : Body) → IfSome a.waiting IsSpelledRequest → IfSome (took_body a o serial content).0.waiting IsSpelledRequest
waits_took a None serial content h = h
waits_took a (Some request) serial (body.Ask other) h = h
waits_took a (Some request) serial (body.Answer response) h =
    let done : AskerState × Taken = (record { serial = a.serial; waiting = None; beats = 0 }, taken.Answer response) in
    let later : AskerState × Taken = cond (nat_lt a.serial serial || not (same_kind response.to (kind_of request))) (a, taken.NotOurs) done in
    waits_if (nat_lt serial a.serial) (a, taken.Stale) later h
    (waits_if (nat_lt a.serial serial || not (same_kind response.to (kind_of request))) (a, taken.NotOurs) done h tt)

repeats_took : (a : AskerState) (m : Message) → Repeats a → Repeats (took a m).0
repeats_took a m k = record { sound = stays_sound.takes a m k.sound; spelled = waits_took a a.waiting m.serial m.body k.spelled }

pub repeats_beaten : (a : AskerState) → Repeats a → Repeats (beaten a).0
repeats_beaten a k =
    record { sound = stays_sound.beats a k.sound; spelled = subst (λ (o : Option Request). IfSome o IsSpelledRequest) (sym (beat_waits a)) k.spelled }

-- ---- a step of the machine
abbrev Speaks : Asked → Type 0
Speaks a = HasSpelling a.message

record Spoke (m : Moved) : Type 0 where
  work : SpellsWork m.state.work
  askers : (n : ℕ) → Repeats (m.state.askers n)
  asks : AllByRecursion Speaks m.asks

module _ (t : Shape) (l : Limits) where
  works_spoke : (j : Job) (x : Change) (q : Phase) (a : AskAt) (more : List AskAt) (s : State) → ((n : ℕ) → Repeats (s.askers n)) → AreSpelled (a ∷ more) → AreSpelled x.cleanup → Spoke (works j x q a more s)
  works_spoke j x q a more s askers can cleanup =
      record {
        work = record { first = can.0; rest = can.1; cleanup = cleanup };
        askers = repeats_put a.extender (asked (s.askers a.extender) a.request).0 s.askers (repeats_asked (s.askers a.extender) a.request (askers a.extender) can.0) askers;
        asks = (asks_spelled.asks (s.askers a.extender) a.request can.0, tt);
      }

  cleans_spoke : (j : Job) (x : Change) (left : List AskAt) (s : State) → ((n : ℕ) → Repeats (s.askers n)) → AreSpelled left → AreSpelled x.cleanup → Spoke (cleans j x left s)
  cleans_spoke j x [] s askers can cleanup = record { work = tt; askers = askers; asks = tt }
  cleans_spoke j x (a ∷ more) s askers can cleanup = works_spoke j x Cleaning a more s askers can cleanup

  commits_spoke : (j : Job) (x : Change) (s : State) → ((n : ℕ) → Repeats (s.askers n)) → AreSpelled x.cleanup → Spoke (commits j x s)
  commits_spoke j x s askers cleanup =
      let k = cleans_spoke j x x.cleanup (record s { bridge = bridge_after j s.bridge }) askers cleanup cleanup in
      record { work = k.work; askers = k.askers; asks = k.asks }

  prepares_spoke : (j : Job) (x : Change) (left : List AskAt) (s : State) → ((n : ℕ) → Repeats (s.askers n)) → AreSpelled left → AreSpelled x.cleanup → Spoke (prepares j x left s)
  prepares_spoke j x [] s askers can cleanup = commits_spoke j x s askers cleanup
  prepares_spoke j x (a ∷ more) s askers can cleanup = works_spoke j x Preparing a more s askers can cleanup

  starts_spoke : (j : Job) (d : Outcome) (s : State) → s.work ≡ None → ((n : ℕ) → Repeats (s.askers n)) → ((x : Change) (claimed : _) → d ≡ Ready x claimed → IsSpelledChange x) → Spoke (starts j d s)
  starts_spoke j (Refused cause) s none askers can = record { work = subst SpellsWork (sym none) tt; askers = askers; asks = tt }
  starts_spoke j (Ready x claimed) s none askers can = (let k = can x claimed refl in prepares_spoke j x x.prepare (record s { held = claimed }) askers k.prepare k.cleanup)

  after_start_spoke : (js : List Job) (m onward : Moved) (o : Option Work) → m.state.work ≡ o → Spoke m → (o ≡ None → Spoke onward) → Spoke (after_start js o m onward)
  after_start_spoke js m onward None e k f = (let n = f refl in record { work = n.work; askers = n.askers; asks = each_append Speaks m.asks onward.asks k.asks n.asks })
  after_start_spoke js m onward (Some w) e k f = record { work = k.work; askers = k.askers; asks = k.asks }

  goes_on_spoke : (js : List Job) (s : State) → s.work ≡ None → ((n : ℕ) → Repeats (s.askers n)) → Spoke (goes_on (decide t l) js s)
  unfolding goes_on
  goes_on_spoke [] s none askers = record { work = subst SpellsWork (sym none) tt; askers = askers; asks = tt }
  goes_on_spoke (j ∷ js) s none askers =
      elim (cases_Bool (waits s j)) [
        | inl w ↦ rw w (record { work = subst SpellsWork (sym none) tt; askers = askers; asks = tt })
        | inr w ↦
            rw w (
            let d = decide t l s.bridge s.held j in
            let m : Moved = starts j d s in
            let k = starts_spoke j d s none askers (λ x claimed e. decided_spelled t l s.bridge s.held j x claimed e) in
            after_start_spoke js m (goes_on (decide t l) js m.state) m.state.work refl k (λ e. goes_on_spoke js m.state e k.askers))
      ]

  still_spoke : (s : State) → SpellsWork s.work → ((n : ℕ) → Repeats (s.askers n)) → Spoke (still s)
  still_spoke s work askers = record { work = work; askers = askers; asks = tt }

  wakes_spoke : (o : Option Work) (s : State) → s.work ≡ o → SpellsWork s.work → ((n : ℕ) → Repeats (s.askers n)) → Spoke (wakes_by (decide t l) o s)
  wakes_spoke None s e work askers = goes_on_spoke s.queue s e askers
  wakes_spoke (Some w) s e work askers = still_spoke s work askers

  answered_spoke : (o : Option Work) (s : State) → s.work ≡ o → SpellsWork s.work → ((n : ℕ) → Repeats (s.askers n)) → Spoke (answered_in (decide t l) o s)
  answered_spoke None s e work askers = still_spoke s work askers
  answered_spoke (Some w) s e work askers = by_phase w.phase w.rest known.rest
    where
      known : IsSpelledWork w
      known = subst SpellsWork e work

      by_phase : (q : Phase) (left : List AskAt) → AreSpelled left → Spoke (answered_by (decide t l) (record w { phase = q }) left s)
      by_phase q (a ∷ more) all = works_spoke w.job w.change q a more s askers all known.cleanup
      by_phase Preparing [] all =
          let m : Moved = commits w.job w.change (record s { work = None }) in
          let c = commits_spoke w.job w.change (record s { work = None }) askers known.cleanup in
          let n = wakes_spoke m.state.work m.state refl c.work c.askers in
          record { work = n.work; askers = n.askers; asks = each_append Speaks m.asks _ c.asks n.asks }
      by_phase Cleaning [] all = goes_on_spoke s.queue (ends w.change s) refl askers

  message_spoke : (u : Taken) (s : State) → SpellsWork s.work → ((n : ℕ) → Repeats (s.askers n)) → Spoke (answered_where (decide t l) u s)
  message_spoke (taken.Answer response) s work askers = answered_spoke s.work s refl work askers
  message_spoke taken.Stale s work askers = still_spoke s work askers
  message_spoke taken.NotOurs s work askers = still_spoke s work askers

  -- a request that is asked again
  beats_spoke : (o : Option Work) (s : State) → SpellsWork s.work → ((n : ℕ) → Repeats (s.askers n)) → Spoke (beats_in o s)
  beats_spoke None s work askers = still_spoke s work askers
  beats_spoke (Some w) s work askers =
      let n = w.first.extender in
      record {
        work = work;
        askers = repeats_put n (beaten (s.askers n)).0 s.askers (repeats_beaten (s.askers n) (askers n)) askers;
        asks = due (beaten (s.askers n)).1 (message_again (s.askers n)) refl;
      }
    where
      due : (b : Bool) (m : Option Message) → message_again (s.askers w.first.extender) ≡ m → AllByRecursion Speaks (messages_due w.first.extender b m)
      due true (Some m) e = (asks_spelled.again (s.askers w.first.extender) m (askers w.first.extender).sound (askers w.first.extender).spelled e, tt)
      due true None e = tt
      due false m e = tt

-- ---- the calls
both : (t : Shape) (xs : List Asked) → AreAddressed t xs → AllByRecursion Speaks xs → AllByRecursion (CanBeSpelled t) xs
both t [] there speaks = tt
both t (x ∷ xs) there speaks = (record { there = there.0; spelled = speaks.0 }, both t xs there.1 speaks.1)

-- what a call keeps, and that all that it asks can be written
pub record Spelled (t : Shape) (m : Moved) : Type 0 where
  pub kept : Spells t m.state.work m.state.askers
  pub asks : All (CanBeSpelled t) m.asks

abbrev system_of : State → System
system_of s = record { state = s; tables = λ n. record { ports = 0; own = λ p. 0; cascade = λ p. false; pair = λ e p. false }; answer = None }

module _ (t : Shape) (l : Limits) (s : State) (fit : AreFit t s.queue) (spells : Spells t s.work s.askers) where
  spelled_by : (step : Step) → NamesPorts t step → Spoke (moved (decide t l) (system_of s) step) → Spelled t (moved (decide t l) (system_of s) step)
  spelled_by step names k =
      let m : Moved = moved (decide t l) (system_of s) step in
      let known = steps_know t l (system_of s) step (record { work = spells.known; queue = fit }) names in
      record {
        kept = record { known = known.0.work; work = k.work; askers = k.askers };
        asks = all_from (CanBeSpelled t) m.asks (both t m.asks known.1 k.asks);
      }

  pub ordered_spelled : (c : Command) → NamesExternal t c → Spelled t (ordered (decide t l) c s)
  ordered_spelled c names =
      spelled_by (Order c) names
      (wakes_spoke t l s.work (record s { queue = s.queue ++ job.Ordered (s.given + 1) c ∷ []; given = s.given + 1 }) refl spells.work spells.askers)

  pub heard_spelled : (n : ℕ) → Spelled t (heard (decide t l) n s)
  heard_spelled n = spelled_by (Hear n) tt (wakes_spoke t l s.work (record s { heard = λ m. m == n || s.heard m }) refl spells.work spells.askers)

  pub answered_spelled : (n : ℕ) (m : Message) → Spelled t (answered (decide t l) n m s)
  answered_spelled n m =
      let a = (took (s.askers n) m).0 in
      spelled_by (Stray n m) tt
      (message_spoke t l (took (s.askers n) m).1 (with_asker n a s) spells.work (repeats_put n a s.askers (repeats_took (s.askers n) m (spells.askers n)) spells.askers))

  pub beats_spelled : Spelled t (beats s)
  beats_spelled = spelled_by Beat tt (beats_spoke t l s.work s spells.work spells.askers)

pub spells_on : (t u : Shape) (m : Moved) (s : State) → u ≡ t → s ≡ m.state → Spelled t m → Spells u s.work s.askers
spells_on t u m s shape same k = subst (λ (x : Shape). Spells x s.work s.askers) (sym shape) (subst (λ (x : State). Spells t x.work x.askers) (sym same) k.kept)

pub asks_on : (t : Shape) (m : Moved) (asks : List Asked) → asks ≡ m.asks → Spelled t m → All (CanBeSpelled t) asks
asks_on t m asks same k = subst (All (CanBeSpelled t)) (sym same) k.asks
