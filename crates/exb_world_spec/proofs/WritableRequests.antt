-- Whatever the machine of changes asks can be written.
use Rattle.std.proofs.Common.{◌≡◌, ℕ, ◌+◌, ◌<◌, ◌≤◌, ◌==◌, ◌||◌, ◌++◌, ◌^◌, Bool, true, false, List, [], ◌∷◌, length, Option, Some, None, refl, ap, sym, ◌∙◌, subst, arith, inl, inr, length-append}
use Rattle.std.specs.Option.{option_map}
use Rattle.std.specs.Int.{w16, w64, to_be_bytes}
use Rattle.std.proofs.lemmas.Bool.{cases_Bool, eq-eqb}
use Rattle.exb_model.specs.Tree.{Shape}
use Rattle.exb_model.specs.Setup.{Limits}
use Rattle.exb_csp.specs.declared.message.Body.{Body}
use Rattle.exb_csp.specs.declared.message.Body.TheVariants as body
use Rattle.exb_csp.specs.declared.message.Message.{Message}
use Rattle.exb_csp.specs.declared.message.Request.{Request}
use Rattle.exb_csp.specs.declared.message.Response.{Response}
use Rattle.exb_csp.specs.Encoding.{request_bytes, message_bytes}
use Rattle.exb_csp.specs.declared.session.asker.Taken.{Taken}
use Rattle.exb_csp.specs.declared.session.asker.Taken.TheVariants as taken
use Rattle.exb_csp.specs.Sessions.AskingEnd.{AskerState, asked, took, beaten}
use Rattle.exb_csp.specs.declared.ask_at.AskAt.{AskAt}
use Rattle.exb_control_spec.specs.declared.plan.change.Change.{Change}
use Rattle.exb_control_spec.specs.declared.extender_message.Asked.{Asked}
use Rattle.exb_control_spec.specs.declared.job.Job.{Job}
use Rattle.exb_control_spec.specs.declared.job.Job.TheVariants as job
use Rattle.exb_control_spec.specs.declared.job.Phase.{Phase}
use Rattle.exb_control_spec.specs.declared.job.Phase.TheVariants.{Preparing, Cleaning}
use Rattle.exb_control_spec.specs.Decisions.{Outcome, Refused, Ready, decide, bridge_after}
use Rattle.exb_control_spec.specs.Machine.{Work, State, Moved, still, works, ends, cleans, commits, prepares, starts, waits, after_start, goes_on, wakes_by, answered_by, answered_in, answered_where, answered, messages_due, with_asker, beats_in}
use Rattle.exb_control_spec.specs.Runs.PlannedChanges.{IsSetting}
use Rattle.exb_control_spec.specs.Runs.MachineInvariant.{OneWaits, waited_for}
use Rattle.exb_control_spec.specs.Runs.Systems.{System, Step, Order, Hear, Execute, Answer, Stray, Beat, answer_message, takes_answer, moved}
use Rattle.exb_control_spec.proofs.Runs.AskerAnswers.{beat_waits, beat_serial}
use Rattle.exb_model.specs.Tables.{at}
use Rattle.exb_world_spec.specs.Runs.Sessions.{IsAsked, Each, AskedOf, CanAsk, AllCan, WritesWork, WritesIn, AreNumbered, Writes, CanBeSent, AreSent, AreLow}
use Rattle.exb_world_spec.proofs.WritablePlans.{CanChange, decided_can}
use Rattle.exb_world_spec.proofs.TakenAnswers.{took_cases}
use Rattle.exb_world_spec.proofs.LinkFrames.{each_append, at_same}

-- a message that asks such a request
pub record IsWritten (x : Asked) : Type 0 where
  pub request : Request
  pub content : x.message.body ≡ body.Ask request
  pub can : CanAsk request
  pub some : 0 < x.message.serial

-- a step of the machine
pub record Wrote (m : Moved) : Type 0 where
  pub work : WritesIn m.state.work
  pub numbered : AreNumbered m.state.askers
  pub asks : Each IsWritten m.asks

module _ (t : Shape) (l : Limits) (setting : IsSetting t l) where
  works_wrote : (j : Job) (x : Change) (q : Phase) (a : AskAt) (more : List AskAt) (s : State) → AreNumbered s.askers → AllCan (a ∷ more) → AllCan x.cleanup → Wrote (works j x q a more s)
  works_wrote j x q a more s numbered can cleanup =
      record {
        work = record { first = can.0; rest = can.1; cleanup = cleanup };
        numbered = at_same (λ n b. (request : Request) → b.waiting ≡ Some request → 0 < b.serial) a.extender (asked (s.askers a.extender) a.request).0 s.askers (λ request e. omega arith) numbered;
        asks = (record { request = a.request; content = refl; can = can.0; some = omega arith }, tt);
      }

  cleans_wrote : (j : Job) (x : Change) (left : List AskAt) (s : State) → AreNumbered s.askers → AllCan left → AllCan x.cleanup → Wrote (cleans j x left s)
  cleans_wrote j x [] s numbered can cleanup = record { work = tt; numbered = numbered; asks = tt }
  cleans_wrote j x (a ∷ more) s numbered can cleanup = works_wrote j x Cleaning a more s numbered can cleanup

  commits_wrote : (j : Job) (x : Change) (s : State) → AreNumbered s.askers → AllCan x.cleanup → Wrote (commits j x s)
  commits_wrote j x s numbered cleanup =
      let k = cleans_wrote j x x.cleanup (record s { bridge = bridge_after j s.bridge }) numbered cleanup cleanup in
      record { work = k.work; numbered = k.numbered; asks = k.asks }

  prepares_wrote : (j : Job) (x : Change) (left : List AskAt) (s : State) → AreNumbered s.askers → AllCan left → AllCan x.cleanup → Wrote (prepares j x left s)
  prepares_wrote j x [] s numbered can cleanup = commits_wrote j x s numbered cleanup
  prepares_wrote j x (a ∷ more) s numbered can cleanup = works_wrote j x Preparing a more s numbered can cleanup

  starts_wrote : (j : Job) (d : Outcome) (s : State) → s.work ≡ None → AreNumbered s.askers → ((x : Change) (claimed : _) → d ≡ Ready x claimed → CanChange t l setting x) → Wrote (starts j d s)
  starts_wrote j (Refused cause) s none numbered can = record { work = subst WritesIn (sym none) tt; numbered = numbered; asks = tt }
  starts_wrote j (Ready x claimed) s none numbered can = (let k = can x claimed refl in prepares_wrote j x x.prepare (record s { held = claimed }) numbered k.prepare k.cleanup)

  after_start_wrote : (js : List Job) (m onward : Moved) (o : Option Work) → m.state.work ≡ o → Wrote m → (o ≡ None → Wrote onward) → Wrote (after_start js o m onward)
  after_start_wrote js m onward None e k f = (let n = f refl in record { work = n.work; numbered = n.numbered; asks = each_append IsWritten m.asks onward.asks k.asks n.asks })
  after_start_wrote js m onward (Some w) e k f = record { work = k.work; numbered = k.numbered; asks = k.asks }

  goes_on_wrote : (js : List Job) (s : State) → s.work ≡ None → AreNumbered s.askers → Wrote (goes_on (decide t l) js s)
  unfolding goes_on
  goes_on_wrote [] s none numbered = record { work = subst WritesIn (sym none) tt; numbered = numbered; asks = tt }
  goes_on_wrote (j ∷ js) s none numbered =
      elim (cases_Bool (waits s j)) [
        | inl w ↦ rw w (record { work = subst WritesIn (sym none) tt; numbered = numbered; asks = tt })
        | inr w ↦
            rw w (
            let d = decide t l s.bridge s.held j in
            let m : Moved = starts j d s in
            let k = starts_wrote j d s none numbered (λ x claimed e. decided_can t l setting s.bridge s.held j x claimed e) in
            after_start_wrote js m (goes_on (decide t l) js m.state) m.state.work refl k (λ e. goes_on_wrote js m.state e k.numbered))
      ]

  still_wrote : (s : State) → WritesIn s.work → AreNumbered s.askers → Wrote (still s)
  still_wrote s work numbered = record { work = work; numbered = numbered; asks = tt }

  wakes_wrote : (o : Option Work) (s : State) → s.work ≡ o → WritesIn s.work → AreNumbered s.askers → Wrote (wakes_by (decide t l) o s)
  wakes_wrote None s e work numbered = goes_on_wrote s.queue s e numbered
  wakes_wrote (Some w) s e work numbered = still_wrote s work numbered

  answered_in_wrote : (o : Option Work) (s : State) → s.work ≡ o → WritesIn s.work → AreNumbered s.askers → Wrote (answered_in (decide t l) o s)
  answered_in_wrote None s e work numbered = still_wrote s work numbered
  answered_in_wrote (Some w) s e work numbered = by_phase w.phase w.rest known.rest
    where
      known : WritesWork w
      known = subst WritesIn e work

      by_phase : (q : Phase) (left : List AskAt) → AllCan left → Wrote (answered_by (decide t l) (record w { phase = q }) left s)
      by_phase q (a ∷ more) all = works_wrote w.job w.change q a more s numbered all known.cleanup
      by_phase Preparing [] all =
          let m : Moved = commits w.job w.change (record s { work = None }) in
          let c = commits_wrote w.job w.change (record s { work = None }) numbered known.cleanup in
          let n = wakes_wrote m.state.work m.state refl c.work c.numbered in
          record { work = n.work; numbered = n.numbered; asks = each_append IsWritten m.asks _ c.asks n.asks }
      by_phase Cleaning [] all = goes_on_wrote s.queue (ends w.change s) refl numbered

  message_wrote : (n : ℕ) (m : Message) (s : State) → WritesIn s.work → AreNumbered s.askers → Wrote (answered (decide t l) n m s)
  message_wrote n m s work numbered = by_taken (took (s.askers n) m).1
    where
      none_some : {x : Request} → None ≡ Some x → ⊥
      none_some e = cc

      taker : AreNumbered (at n (took (s.askers n) m).0 s.askers)
      taker =
          at_same (λ i b. (request : Request) → b.waiting ≡ Some request → 0 < b.serial) n (took (s.askers n) m).0 s.askers
          (elim (took_cases (s.askers n) m) [
            | inl k ↦ λ request e. absurd (none_some (sym (ap (λ (x : AskerState × Taken). x.0.waiting) k.is) ∙ e))
            | inr f ↦ (let P : AskerState → Type 0 = λ b. (request : Request) → b.waiting ≡ Some request → 0 < b.serial in subst P (sym (Rattle.exb_control_spec.proofs.Runs.AskerAnswers.unchanged (s.askers n) (s.askers n).waiting m.serial m.body f)) (numbered n))
          ]) numbered

      by_taken : (u : Taken) → Wrote (answered_where (decide t l) u (with_asker n (took (s.askers n) m).0 s))
      by_taken (taken.Answer response) = answered_in_wrote s.work (with_asker n (took (s.askers n) m).0 s) refl work taker
      by_taken taken.Stale = still_wrote (with_asker n (took (s.askers n) m).0 s) work taker
      by_taken taken.NotOurs = still_wrote (with_asker n (took (s.askers n) m).0 s) work taker

  takes_wrote : (o : Option Work) (answer : Option Response) (s : State) → WritesIn s.work → AreNumbered s.askers → Wrote (takes_answer (decide t l) o answer s)
  takes_wrote None answer s work numbered = still_wrote s work numbered
  takes_wrote (Some w) None s work numbered = still_wrote s work numbered
  takes_wrote (Some w) (Some response) s work numbered = message_wrote w.first.extender (answer_message (s.askers w.first.extender).serial response) s work numbered

  -- a request that is asked again
  beats_wrote : (o : Option Work) (s : State) → s.work ≡ o → WritesIn s.work → AreNumbered s.askers → OneWaits s → Wrote (beats_in o s)
  beats_wrote None s e work numbered one = still_wrote s work numbered
  beats_wrote (Some w) s e work numbered one =
      record {
        work = work;
        numbered = at_same (λ i b. (request : Request) → b.waiting ≡ Some request → 0 < b.serial) w.first.extender (beaten (s.askers w.first.extender)).0 s.askers (λ request k. (let serial = beat_serial (s.askers w.first.extender) in omega (arith, numbered w.first.extender request (sym (beat_waits (s.askers w.first.extender)) ∙ k), serial))) numbered;
        asks = by_flag (beaten (s.askers w.first.extender)).1 (s.askers w.first.extender).waiting refl;
      }
    where
      known : WritesWork w
      known = subst WritesIn e work

      waited : (s.askers w.first.extender).waiting ≡ Some w.first.request
      waited = one w.first.extender ∙ ap (λ (o : Option Work). waited_for o w.first.extender) e ∙ (rw (eq-eqb w.first.extender w.first.extender refl) refl)

      same_request : {x y : Request} → Some x ≡ Some y → x ≡ y
      same_request z = cc

      by_flag : (b : Bool) (o : Option Request) → (s.askers w.first.extender).waiting ≡ o →
          Each IsWritten (messages_due w.first.extender b (option_map (λ request. record { serial = (s.askers w.first.extender).serial; body = body.Ask request }) o))
      by_flag true (Some request) k =
          let same : w.first.request ≡ request = same_request (sym waited ∙ k) in
          (record { request = request; content = refl; can = subst CanAsk same known.first; some = numbered w.first.extender request k }, tt)
      by_flag true None k = tt
      by_flag false o k = tt

  pub moved_wrote : (y : System) (step : Step) → Writes y.state → OneWaits y.state → Wrote (moved (decide t l) y step)
  moved_wrote y (Order c) w one =
      let k = wakes_wrote y.state.work (record y.state { queue = y.state.queue ++ job.Ordered (y.state.given + 1) c ∷ []; given = y.state.given + 1 }) refl w.work w.numbered in record { work = k.work; numbered = k.numbered; asks = k.asks }
  moved_wrote y (Hear n) w one =
      let k = wakes_wrote y.state.work (record y.state { heard = λ m. m == n || y.state.heard m }) refl w.work w.numbered in record { work = k.work; numbered = k.numbered; asks = k.asks }
  moved_wrote y Execute w one = still_wrote y.state w.work w.numbered
  moved_wrote y Answer w one = takes_wrote y.state.work y.answer y.state w.work w.numbered
  moved_wrote y (Stray n m) w one = message_wrote n m y.state w.work w.numbered
  moved_wrote y Beat w one = beats_wrote y.state.work y.state refl w.work w.numbered one

-- ---- messages
message_short : (serial : ℕ) (r : Request) → length (request_bytes r) ≤ 640 → length (message_bytes (record { serial = serial; body = body.Ask r })) ≤ 1024
unfolding message_bytes
message_short serial r short =
    let head = length-append (to_be_bytes w64 serial) (to_be_bytes w16 (length (request_bytes r)) ++ request_bytes r) in
    let tail = length-append (to_be_bytes w16 (length (request_bytes r))) (request_bytes r) in
    omega (arith, short, head, tail)

can_be_sent : (askers : ℕ → AskerState) (x : Asked) → IsWritten x → AskedOf askers x.extender x.message.serial x.message.body → AreLow askers → CanBeSent x.message
can_be_sent askers x k was low =
    let m : Message = x.message in
    let asked_is : IsAsked (askers x.extender) m.serial k.request = subst (λ (b : Body). AskedOf askers x.extender m.serial b) k.content was in
    let few : m.serial < 2 ^ 64 = omega (arith, asked_is.early, low x.extender) in
    let is : m ≡ record { serial = m.serial; body = body.Ask k.request } = ap (λ (b : Body). record { serial = m.serial; body = b }) k.content in
    let made : CanBeSent (record { serial = m.serial; body = body.Ask k.request }) = record {
      spelled = record { numbered = k.some; spelled = k.can.spelled };
      fits = record { serial = few; content = k.can.fits };
      short = message_short m.serial k.request k.can.short;
    } in
    subst CanBeSent (sym is) made

pub all_be_sent : (askers : ℕ → AskerState) (xs : List Asked) → Each IsWritten xs → Each (λ (x : Asked). AskedOf askers x.extender x.message.serial x.message.body) xs → AreLow askers → AreSent xs
all_be_sent askers [] written was low = tt
all_be_sent askers (x ∷ xs) written was low = (can_be_sent askers x written.0 was.0 low, all_be_sent askers xs written.1 was.1 low)
