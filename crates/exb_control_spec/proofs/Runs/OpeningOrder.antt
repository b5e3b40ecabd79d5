-- Extenders are heard, opened and asked in their turn.
use Rattle.std.proofs.Common.{◌≡◌, ◌≢◌, ◌⊎◌, ℕ, suc, ◌+◌, ◌*◌, ◌<◌, ◌≤◌, ◌==◌, ◌||◌, ◌++◌, not, Bool, true, false, List, [], ◌∷◌, length, length-append, Option, Some, None, refl, sym, ◌∙◌, ap, subst, arith, inl, inr, eq-eqb}
use Rattle.std.specs.Prelude.{flat_map}
use Rattle.std.proofs.lemmas.Bool.{cases_Bool, cases_eq, or_parts, or_cases, or_right, ne_eqb, eqb-true, false≢true}
use Rattle.exb_model.specs.Setup.{Limits}
use Rattle.exb_model.specs.Tree.{Shape, is_extender, by_depth}
use Rattle.exb_csp.specs.declared.ask_at.AskAt.{AskAt}
use Rattle.exb_csp.specs.declared.message.Message.{Message}
use Rattle.exb_csp.specs.declared.message.Request.{Request}
use Rattle.exb_csp.specs.declared.message.Request.TheVariants.{Open}
use Rattle.exb_csp.specs.declared.message.Response.{Response}
use Rattle.exb_csp.specs.declared.session.asker.Taken.{Taken}
use Rattle.exb_csp.specs.declared.session.asker.Taken.TheVariants as taken
use Rattle.exb_csp.specs.Sessions.AskingEnd.{AskerState, took, beaten}
use Rattle.exb_control_spec.specs.Plans.ChangeRequests.{ask}
use Rattle.exb_control_spec.proofs.Plans.Bools.{is_not}
use Rattle.exb_control_spec.specs.declared.plan.change.Change.{Change}
use Rattle.exb_control_spec.specs.declared.extender_message.Asked.{Asked}
use Rattle.exb_control_spec.specs.declared.job.Job.{Job}
use Rattle.exb_control_spec.specs.declared.job.Job.TheVariants as job
use Rattle.exb_control_spec.specs.declared.job.Phase.{Phase}
use Rattle.exb_control_spec.specs.declared.job.Phase.TheVariants.{Preparing, Cleaning}
use Rattle.exb_control_spec.specs.InitialState.{jobs_of, first_jobs}
use Rattle.exb_control_spec.specs.Decisions.{Outcome, Refused, Ready, decide, bridge_after, opening_asks}
use Rattle.exb_control_spec.specs.Machine.{Work, State, Moved, still, works, ends, cleans, prepares, starts, waits, after_start, goes_on, wakes_by, answered, answered_by, answered_in, answered_where, with_asker, beats_in}
use Rattle.exb_control_spec.proofs.FirstJobs.{few_first}
use Rattle.exb_csp.specs.Execution.{ExtenderTables}
use Rattle.exb_control_spec.specs.Runs.OpeningOrder.{Awaits, asks_for, left_in, left_of, InTurn, BeginsInTurn, StepsKeepTurns, SerialsStayLow}
use Rattle.exb_control_spec.specs.Runs.PlannedChanges.{planning}
use Rattle.exb_control_spec.specs.Runs.MachineInvariant.{most_asks, AreFew, opened_by, opens, AllFit, FitsBefore, StandsBy, Stands, waited_for, OneWaits}
use Rattle.exb_control_spec.specs.Runs.Systems.{Order, Hear, Execute, Answer, Stray, Beat, answer_message, takes_answer, stepped}
use Rattle.exb_control_spec.proofs.Runs.InitialMachine.{none_opened}
use Rattle.exb_control_spec.proofs.Runs.MachineInvariant.{opened_more, fits_more}
use Rattle.exb_control_spec.proofs.Runs.PlannedChanges.{planned_steps_stand}
use Rattle.exb_control_spec.proofs.Runs.Serials.{one_if, AsksBy, works_ask, goes_on_asks, took_is, taken_cases, not_taken, with_serial}
use Rattle.exb_control_spec.proofs.Runs.AskerAnswers.{beat_waits, beat_serial, same_asker}

-- ---- how much jobs ask
asks_more : (n : ℕ) → asks_for (suc n) ≡ most_asks + most_asks + asks_for n
unfolding asks_for most_asks
asks_more n = more
  where
    more : 2097152 * suc n ≡ 1048576 + 1048576 + 2097152 * n
    more = omega arith

asks_within : (m n : ℕ) → m ≤ n → asks_for m ≤ asks_for n
unfolding asks_for
asks_within m n le = more
  where
    more : 2097152 * m ≤ 2097152 * n
    more = omega (arith, le)

-- ---- what becomes of the queue
-- the opening of extender m is at work, and asks it to open
abbrev Begins : Option Work → (ℕ → Bool) → ℕ → Type 0
Begins None heard m = ⊥
Begins (Some w) heard m = (w.first ≡ ask m Open) × (heard m ≡ true)

-- from those that were opened to those that are
record Opens (before : ℕ → Bool) (heard : ℕ → Bool) (o : Option Work) (now : ℕ → Bool) : Type 0 where
  less : (m : ℕ) → now m ≡ false → before m ≡ false
  more : (m : ℕ) → now m ≡ true → (before m ≡ true) ⊎ Begins o heard m

same_opened : (before : ℕ → Bool) (heard : ℕ → Bool) (o : Option Work) (now : ℕ → Bool) → before ≡ now → Opens before heard o now
same_opened before heard o now e = record { less = λ m f. ap (λ (g : ℕ → Bool). g m) e ∙ f; more = λ m f. inl (ap (λ (g : ℕ → Bool). g m) e ∙ f) }

then_opened : (before mid now : ℕ → Bool) (heard later : ℕ → Bool) (o : Option Work) → Opens before heard None mid → Opens mid later o now → Opens before later o now
then_opened before mid now heard later o a b =
    record {
      less = λ m e. a.less m (b.less m e);
      more = λ m e. elim (b.more m e) [ inl f ↦ elim (a.more m f) [ inl g ↦ inl g | inr g ↦ absurd g ] | inr f ↦ inr f ];
    }

-- a job less where a request is outstanding
abbrev IsShorter : Option Work → ℕ → ℕ → Type 0
IsShorter None count left = left ≤ count
IsShorter (Some w) count left = left < count

shorter_still : (o : Option Work) (count left : ℕ) → IsShorter o count left → IsShorter o (suc count) left
shorter_still None count left s = omega (arith, s)
shorter_still (Some w) count left s = omega (arith, s)

-- the queue was gone through
record Went (before : ℕ → Bool) (there : ℕ → Bool) (count : ℕ) (s v : State) : Type 0 where
  heard : v.heard ≡ s.heard
  given : v.given ≡ s.given
  opened : Opens before v.heard v.work (opened_by there v.queue)
  shorter : IsShorter v.work count (length v.queue)
  awaits : Awaits v.heard v.work v.queue

-- ---- one job
record IsSame (s v : State) : Type 0 where
  heard : v.heard ≡ s.heard
  given : v.given ≡ s.given

cleans_same : (j : Job) (x : Change) (left : List AskAt) (s : State) → IsSame s (cleans j x left s).state
cleans_same j x [] s = record { heard = refl; given = refl }
cleans_same j x (a ∷ more) s = record { heard = refl; given = refl }

prepares_same : (j : Job) (x : Change) (left : List AskAt) (s : State) → IsSame s (prepares j x left s).state
prepares_same j x [] s = (let k = cleans_same j x x.cleanup (record s { bridge = bridge_after j s.bridge }) in record { heard = k.heard; given = k.given })
prepares_same j x (a ∷ more) s = record { heard = refl; given = refl }

starts_same : (j : Job) (d : Outcome) (s : State) → IsSame s (starts j d s).state
starts_same j (Refused cause) s = record { heard = refl; given = refl }
starts_same j (Ready x claimed) s = (let k = prepares_same j x x.prepare (record s { held = claimed }) in record { heard = k.heard; given = k.given })

not_false : (b : Bool) → not b ≡ false → b ≡ true
not_false true e = refl
not_false false e = sym e

waits_awaits : (s : State) (j : Job) (js : List Job) → waits s j ≡ true → Awaits s.heard None (j ∷ js)
waits_awaits s (job.Opening n) js e = is_not (s.heard n) e
waits_awaits s (job.AutomaticUp p) js e = absurd (false≢true e)
waits_awaits s (job.Ordered n c) js e = absurd (false≢true e)

module _ (t : Shape) (l : Limits) where
  abbrev opened_in : List Job → ℕ → Bool
  opened_in js = opened_by (is_extender t) js

  -- what a job opens that is started
  starts_open : (j : Job) (js : List Job) (s : State) → opens j (opened_in (j ∷ js)) ≡ opened_in js → waits s j ≡ false →
      let m : Moved = starts j (decide t l s.bridge s.held j) s in
      Opens (opened_in (j ∷ js)) m.state.heard m.state.work (opened_in js)
  unfolding decide opening_asks
  starts_open (job.Opening n) js s once w =
      let at : (m : ℕ) → (m == n || opened_in (job.Opening n ∷ js) m) ≡ opened_in js m = λ m. ap (λ (f : ℕ → Bool). f m) once in
      record {
        less = λ m e. (or_parts (m == n) (opened_in (job.Opening n ∷ js) m) (at m ∙ e)).1;
        more = λ m e. elim (or_cases (m == n) (opened_in (job.Opening n ∷ js) m) (at m ∙ e)) [
          | inl f ↦ let same : n ≡ m = sym (eqb-true m n f) in inr (ap (λ (i : ℕ). ask i Open) same, ap s.heard (sym same) ∙ not_false (s.heard n) w)
          | inr f ↦ inl f
        ];
      }
  starts_open (job.AutomaticUp p) js s once w = same_opened _ _ _ _ once
  starts_open (job.Ordered n c) js s once w = same_opened _ _ _ _ once

  after_start_went : (before : ℕ → Bool) (s : State) (m onward : Moved) (js : List Job) (o : Option Work) → m.state.work ≡ o → IsSame s m.state → Opens before m.state.heard o (opened_in js) →
      (o ≡ None → Went (opened_in js) (is_extender t) (length js) m.state onward.state) → Went before (is_extender t) (suc (length js)) s (after_start js o m onward).state
  after_start_went before s m onward js None e same does f =
      let k = f refl in
      record {
        heard = k.heard ∙ same.heard;
        given = k.given ∙ same.given;
        opened = then_opened before (opened_in js) _ m.state.heard onward.state.heard onward.state.work does k.opened;
        shorter = shorter_still onward.state.work (length js) (length onward.state.queue) k.shorter;
        awaits = k.awaits;
      }
  after_start_went before s m onward js (Some w) e same does f =
      record {
        heard = same.heard;
        given = same.given;
        opened = rw e does;
        shorter = rw e (omega arith);
        awaits = rw e tt;
      }

  goes_on_went : (js : List Job) (s : State) → s.work ≡ None → AllFit (planning t) js → Went (opened_in js) (is_extender t) (length js) s (goes_on (decide t l) js s).state
  unfolding goes_on
  goes_on_went [] s none fit = record { heard = refl; given = refl; opened = same_opened _ _ _ _ refl; shorter = rw none (omega arith); awaits = rw none tt }
  goes_on_went (j ∷ js) s none fit =
      elim (cases_Bool (waits s j)) [
        | inl w ↦ rw w (record { heard = refl; given = refl; opened = same_opened _ _ _ _ refl; shorter = rw none (omega arith); awaits = rw none (waits_awaits s j js w) })
        | inr w ↦
            rw w (
            let d = decide t l s.bridge s.held j in
            let m : Moved = starts j d s in
            let one : FitsBefore (planning t) j js = fit.0 in
            after_start_went (opened_in (j ∷ js)) s m (goes_on (decide t l) js m.state) js m.state.work refl (starts_same j d s) (starts_open j js s one.once w)
            (λ e. goes_on_went js m.state e fit.1))
      ]

-- ---- who was heard and asked
record AreTurns (opened heard : ℕ → Bool) (askers : ℕ → AskerState) : Type 0 where
  unasked : (n : ℕ) → opened n ≡ false → (askers n).serial ≡ 0
  asked : (n : ℕ) → opened n ≡ true → 0 < (askers n).serial
  was_heard : (n : ℕ) → opened n ≡ true → heard n ≡ true

-- the outstanding request goes to an opened extender, and those that are left aren't many
abbrev GoesWell : Option Work → (ℕ → Bool) → Type 0
GoesWell None now = Unit {0}
GoesWell (Some w) now = AreFew now (w.first ∷ w.rest) × AreFew now w.change.cleanup

abbrev IsFirst : (ℕ → AskerState) → Type 0
IsFirst askers = (n : ℕ) (request : Request) → (askers n).waiting ≡ Some request → (askers n).serial ≡ 1 → request ≡ Open

abbrev HasFew : (ℕ → AskerState) → ℕ → ℕ → ℕ → Type 0
HasFew askers left count given = (n : ℕ) → (askers n).serial + left + asks_for count ≤ asks_for (4160 + given)

apart : (b : Bool) → b ≡ true → b ≡ false → ⊥
apart b x y = cc

one_same : (n m : ℕ) → n ≡ m → one_if (n == m) ≡ 1
one_same n m e = rw (eq-eqb n m e) refl

one_other : (n m : ℕ) → n ≢ m → one_if (n == m) ≡ 0
one_other n m e = rw (ne_eqb n m e) refl

one_most : (b : Bool) → one_if b ≤ 1
one_most true = omega arith
one_most false = omega arith

some_request : (a b : Request) → Some a ≡ Some b → a ≡ b
some_request a b e = cc

none_request : (a : Request) → None ≡ Some a → ⊥
none_request a e = cc

turns_after : (o : Option Work) (before now heard later : ℕ → Bool) (old new : ℕ → AskerState) (asks : List Asked) → AreTurns before heard old → ((n : ℕ) → heard n ≡ true → later n ≡ true) →
    AsksBy o old asks new → Opens before later o now → GoesWell o now → AreTurns now later new
turns_after None before now heard later old new asks k grows a opened well =
    let was : (n : ℕ) → now n ≡ true → before n ≡ true = λ n e. elim (opened.more n e) [ inl f ↦ f | inr f ↦ absurd f ] in
    record {
      unasked = λ n e. a.1 n ∙ k.unasked n (opened.less n e);
      asked = λ n e. let same = a.1 n in let some = k.asked n (was n e) in omega (arith, same, some);
      was_heard = λ n e. grows n (k.was_heard n (was n e));
    }
turns_after (Some w) before now heard later old new asks k grows a opened well =
    let go : now w.first.extender ≡ true = well.0.go.0 in
    record {
      unasked = λ n e.
          let other : n ≢ w.first.extender = λ f. apart (now n) (ap now f ∙ go) e in
          let same = a.1 n in let none = one_other n w.first.extender other in let was = k.unasked n (opened.less n e) in omega (arith, same, none, was);
      asked = λ n e.
          let same = a.1 n in
          elim (opened.more n e) [
            | inl f ↦ let some = k.asked n f in omega (arith, same, some)
            | inr f ↦ let at : n ≡ w.first.extender = sym (ap (λ (x : AskAt). x.extender) f.0) in let one = one_same n w.first.extender at in omega (arith, same, one)
          ];
      was_heard = λ n e. elim (opened.more n e) [ inl f ↦ grows n (k.was_heard n f) | inr f ↦ f.1 ];
    }

first_after : (o : Option Work) (before now heard later : ℕ → Bool) (old new : ℕ → AskerState) (asks : List Asked) → AreTurns before heard old → ((n : ℕ) → (new n).waiting ≡ waited_for o n) →
    AsksBy o old asks new → Opens before later o now → GoesWell o now → IsFirst new
first_after None before now heard later old new asks k waits a opened well n request is one = absurd (none_request request (sym (waits n) ∙ is))
first_after (Some w) before now heard later old new asks k waits a opened well n request is one =
    elim (cases_eq n w.first.extender) [
      | inl e ↦
          let wait : Some w.first.request ≡ Some request = (let x : (new n).waiting ≡ waited_for (Some w) n = waits n in sym (rw (eq-eqb n w.first.extender e) at x) ∙ is) in
          let now_n : now n ≡ true = ap now e ∙ well.0.go.0 in
          let same = a.1 n in
          let more = one_same n w.first.extender e in
          elim (opened.more n now_n) [
            | inl f ↦ absurd (let some = k.asked n f in omega (arith, same, more, one, some))
            | inr f ↦ sym (some_request w.first.request request wait) ∙ ap (λ (x : AskAt). x.request) f.0
          ]
      | inr e ↦ absurd (none_request request (let x : (new n).waiting ≡ waited_for (Some w) n = waits n in sym (rw (ne_eqb n w.first.extender e) at x) ∙ is))
    ]

left_most : (q : Phase) (rest cleanup : List AskAt) → left_in q rest cleanup ≤ length rest + length cleanup
left_most Preparing rest cleanup = omega arith
left_most Cleaning rest cleanup = omega arith

few_after : (o : Option Work) (now : ℕ → Bool) (old new : ℕ → AskerState) (asks : List Asked) (count left given : ℕ) → AsksBy o old asks new → IsShorter o count left → GoesWell o now →
    HasFew old 0 count given → HasFew new (left_of o) left given
few_after None now old new asks count left given a short well few n =
    let same = a.1 n in
    let bound = few n in
    let less = asks_within left count short in
    omega (arith, same, bound, less)
few_after (Some w) now old new asks count left given a short well few n =
    let same = a.1 n in
    let one = one_most (n == w.first.extender) in
    let bound = few n in
    let more = asks_more left in
    let less = asks_within (suc left) count (omega (arith, short)) in
    let first = well.0.few in
    let last = well.1.few in
    let rest = left_most w.phase w.rest w.change.cleanup in
    omega (arith, same, one, bound, more, less, first, last, rest)

-- ---- the machine
ordered_length : (js : List Job) (j : Job) → length (js ++ j ∷ []) ≡ suc (length js)
ordered_length js j = (let k = length-append js (j ∷ []) in omega (arith, k))

-- the same extenders are opened, and what is outstanding stays so
module _ (t : Shape) (l : Limits) where
  abbrev now_opened : State → ℕ → Bool
  now_opened s = opened_by (is_extender t) s.queue

  -- where the queue goes on
  went_turn : (s v : State) (asks : List Asked) → Went (now_opened s) (is_extender t) (length s.queue) s v → AsksBy v.work s.askers asks v.askers → OneWaits v → GoesWell v.work (now_opened v) →
      AreTurns (now_opened s) s.heard s.askers → HasFew s.askers 0 (length s.queue) s.given → InTurn t v
  went_turn s v asks k a waits well turns few =
      let grows : (n : ℕ) → s.heard n ≡ true → v.heard n ≡ true = λ n e. ap (λ (f : ℕ → Bool). f n) k.heard ∙ e in
      let now : AreTurns (now_opened v) v.heard v.askers = turns_after v.work (now_opened s) (now_opened v) s.heard v.heard s.askers v.askers asks turns grows a k.opened well in
      record {
        unasked = now.unasked;
        asked = now.asked;
        heard = now.was_heard;
        first = first_after v.work (now_opened s) (now_opened v) s.heard v.heard s.askers v.askers asks turns waits a k.opened well;
        awaits = k.awaits;
        few = subst (λ (g : ℕ). HasFew v.askers (left_of v.work) (length v.queue) g) (sym k.given) (few_after v.work (now_opened v) s.askers v.askers asks (length s.queue) (length v.queue) s.given a k.shorter well few);
      }

  goes_on_turn : (s : State) → s.work ≡ None → AllFit (planning t) s.queue → (let v = (goes_on (decide t l) s.queue s).state in OneWaits v → GoesWell v.work (now_opened v) →
      AreTurns (now_opened s) s.heard s.askers → HasFew s.askers 0 (length s.queue) s.given → InTurn t v)
  goes_on_turn s none fit waits well turns few =
      let m : Moved = goes_on (decide t l) s.queue s in
      went_turn s m.state m.asks (goes_on_went t l s.queue s none fit) (goes_on_asks (decide t l) s.queue s none) waits well turns few

  -- where the next request of a change goes out
  works_turn : (j : Job) (x : Change) (q : Phase) (a : AskAt) (more : List AskAt) (s : State) → (let v = (works j x q a more s).state in OneWaits v → GoesWell v.work (now_opened v) →
      AreTurns (now_opened s) s.heard s.askers → HasFew s.askers (suc (left_in q more x.cleanup)) (length s.queue) s.given → InTurn t v)
  works_turn j x q a more s waits well turns few =
      let v : State = (works j x q a more s).state in
      let asks = works_ask j x q a more s in
      let same = same_opened (now_opened s) v.heard v.work (now_opened v) refl in
      let now : AreTurns (now_opened v) v.heard v.askers = turns_after v.work (now_opened s) (now_opened v) s.heard v.heard s.askers v.askers _ turns (λ n e. e) asks same well in
      record {
        unasked = now.unasked;
        asked = now.asked;
        heard = now.was_heard;
        first = first_after v.work (now_opened s) (now_opened v) s.heard v.heard s.askers v.askers _ turns waits asks same well;
        awaits = tt;
        few = λ n. let one = asks.1 n in let most = one_most (n == a.extender) in let bound = few n in omega (arith, one, most, bound);
      }

  -- where its cleanup begins, or there is none
  cleans_turn : (j : Job) (x : Change) (left : List AskAt) (c : State) → c.work ≡ None → AllFit (planning t) c.queue →
      (let m = cleans j x left c in let v = (wakes_by (decide t l) m.state.work m.state).state in OneWaits v → GoesWell v.work (now_opened v) →
      AreTurns (now_opened c) c.heard c.askers → HasFew c.askers (length left) (length c.queue) c.given → InTurn t v)
  cleans_turn j x [] c none fit waits well turns few = goes_on_turn (ends x c) refl fit waits well (record { unasked = turns.unasked; asked = turns.asked; was_heard = turns.was_heard }) few
  cleans_turn j x (a ∷ more) c none fit waits well turns few = works_turn j x Cleaning a more c waits well turns few

  -- the answer to the outstanding request is taken
  answered_turn : (w : Work) (s : State) → AllFit (planning t) s.queue → (let v = (answered_in (decide t l) (Some w) s).state in OneWaits v → GoesWell v.work (now_opened v) →
      AreTurns (now_opened s) s.heard s.askers → HasFew s.askers (left_of (Some w)) (length s.queue) s.given → InTurn t v)
  answered_turn w s fit waits well turns few = by_phase w.phase w.rest refl refl waits well few
    where
      by_phase : (q : Phase) (left : List AskAt) → w.phase ≡ q → w.rest ≡ left → (let v = (answered_by (decide t l) w left s).state in OneWaits v → GoesWell v.work (now_opened v) →
          HasFew s.askers (left_in w.phase w.rest w.change.cleanup) (length s.queue) s.given → InTurn t v)
      by_phase Preparing (a ∷ more) e f free well few =
          let from : HasFew s.askers (suc (length more) + length w.change.cleanup) (length s.queue) s.given = rw (e, f) at few in
          works_turn w.job w.change w.phase a more s free well turns (rw e (λ n. let x = from n in omega (arith, x)))
      by_phase Cleaning (a ∷ more) e f free well few =
          let from : HasFew s.askers (suc (length more)) (length s.queue) s.given = rw (e, f) at few in
          works_turn w.job w.change w.phase a more s free well turns (rw e from)
      by_phase Preparing [] e f free well few =
          let c : State = record s { work = None; bridge = bridge_after w.job s.bridge } in
          let from : HasFew s.askers (0 + length w.change.cleanup) (length s.queue) s.given = rw (e, f) at few in
          let k : HasFew s.askers (length w.change.cleanup) (length s.queue) s.given = λ n. let x = from n in omega (arith, x) in
          rw e (cleans_turn w.job w.change w.change.cleanup c refl fit (rw e at free) (rw e at well) (record { unasked = turns.unasked; asked = turns.asked; was_heard = turns.was_heard }) k)
      by_phase Cleaning [] e f free well few =
          let k : HasFew s.askers 0 (length s.queue) s.given = rw (e, f) at few in
          rw e (goes_on_turn (ends w.change s) refl fit (rw e at free) (rw e at well) (record { unasked = turns.unasked; asked = turns.asked; was_heard = turns.was_heard }) k)

  -- the queue wakes
  wakes_turn : (o : Option Work) (s : State) → s.work ≡ o → AllFit (planning t) s.queue → (let v = (wakes_by (decide t l) o s).state in OneWaits v → GoesWell v.work (now_opened v) →
      AreTurns (now_opened s) s.heard s.askers → IsFirst s.askers → HasFew s.askers (left_of o) (length s.queue) s.given → InTurn t v)
  wakes_turn None s e fit waits well turns first few = goes_on_turn s e fit waits well turns few
  wakes_turn (Some w) s e fit waits well turns first few =
      record { unasked = turns.unasked; asked = turns.asked; heard = turns.was_heard; first = first; awaits = rw e tt; few = rw e few }

  -- ---- a message, a beat
  turns_of : (s : State) → InTurn t s → AreTurns (now_opened s) s.heard s.askers
  turns_of s k = record { unasked = k.unasked; asked = k.asked; was_heard = k.heard }

  -- an asker whose serial stays
  asker_turns : (n : ℕ) (a : AskerState) (s : State) → a.serial ≡ (s.askers n).serial → AreTurns (now_opened s) s.heard s.askers → AreTurns (now_opened s) s.heard (with_asker n a s).askers
  asker_turns n a s e k =
      let same = with_serial (decide t l) n a s e in
      record {
        unasked = λ m f. same m ∙ k.unasked m f;
        asked = λ m f. let is = same m in let some = k.asked m f in omega (arith, is, some);
        was_heard = k.was_heard;
      }

  asker_few : (n : ℕ) (a : AskerState) (s : State) (left count given : ℕ) → a.serial ≡ (s.askers n).serial → HasFew s.askers left count given → HasFew (with_asker n a s).askers left count given
  asker_few n a s left count given e k m = (let is = with_serial (decide t l) n a s e m in let few = k m in omega (arith, is, few))

  message_turn : (n : ℕ) (m : Message) (s : State) → AllFit (planning t) s.queue → OneWaits s → InTurn t s →
      (let v = (answered (decide t l) n m s).state in OneWaits v → GoesWell v.work (now_opened v) → InTurn t v)
  message_turn n m s fit one k waits well =
      let took_this = took_is (s.askers n) m in
      elim (taken_cases (took (s.askers n) m).1) [
        | inl e ↦
            let free = took_this.free e.0 e.1 in
            by_taken (took (s.askers n) m).1 e.0 e.1 (took (s.askers n) m).0 took_this.serial free.1.0 free.1.1 waits well
        | inr f ↦
            let same : with_asker n (took (s.askers n) m).0 s ≡ s = ap (λ (a : AskerState). with_asker n a s) (took_this.same f) ∙ same_asker n s in
            subst (λ (x : Moved). InTurn t x.state) (sym (not_taken (decide t l) (took (s.askers n) m).1 (with_asker n (took (s.askers n) m).0 s) f ∙ ap still same)) k
      ]
    where
      by_work : (o : Option Work) (a : AskerState) → s.work ≡ o → a.serial ≡ (s.askers n).serial → (request : Request) → (s.askers n).waiting ≡ Some request →
          (let v = (answered_in (decide t l) o (with_asker n a s)).state in OneWaits v → GoesWell v.work (now_opened v) → InTurn t v)
      by_work None a e same request asked waits well = absurd (none_request request (let x : (s.askers n).waiting ≡ waited_for s.work n = one n in sym (rw e at x) ∙ asked))
      by_work (Some w) a e same request asked waits well =
          answered_turn w (with_asker n a s) fit waits well (asker_turns n a s same (turns_of s k))
          (asker_few n a s (left_of (Some w)) (length s.queue) s.given same (subst (λ (o : Option Work). HasFew s.askers (left_of o) (length s.queue) s.given) e k.few))

      by_taken : (u : Taken) (response : Response) → u ≡ taken.Answer response → (a : AskerState) → a.serial ≡ (s.askers n).serial → (request : Request) → (s.askers n).waiting ≡ Some request →
          (let v = (answered_where (decide t l) u (with_asker n a s)).state in OneWaits v → GoesWell v.work (now_opened v) → InTurn t v)
      by_taken (taken.Answer other) response e a same request asked waits well = by_work s.work a refl same request asked waits well
      by_taken taken.Stale response e a same request asked waits well = absurd (cc)
      by_taken taken.NotOurs response e a same request asked waits well = absurd (cc)

  takes_turn : (o : Option Work) (answer : Option Response) (s : State) → AllFit (planning t) s.queue → OneWaits s → InTurn t s →
      (let v = (takes_answer (decide t l) o answer s).state in OneWaits v → GoesWell v.work (now_opened v) → InTurn t v)
  takes_turn None answer s fit one k waits well = k
  takes_turn (Some w) None s fit one k waits well = k
  takes_turn (Some w) (Some response) s fit one k waits well = message_turn w.first.extender (answer_message (s.askers w.first.extender).serial response) s fit one k waits well

  beats_turn : (o : Option Work) (s : State) → InTurn t s → InTurn t (beats_in o s).state
  beats_turn None s k = k
  beats_turn (Some w) s k =
      let n : ℕ = w.first.extender in
      let a : AskerState = (beaten (s.askers n)).0 in
      let turns = asker_turns n a s (beat_serial (s.askers n)) (turns_of s k) in
      record {
        unasked = turns.unasked;
        asked = turns.asked;
        heard = turns.was_heard;
        first = λ m request waits one.
            k.first m request (same_waits m ∙ waits) (sym (with_serial (decide t l) n a s (beat_serial (s.askers n)) m) ∙ one);
        awaits = k.awaits;
        few = asker_few n a s (left_of s.work) (length s.queue) s.given (beat_serial (s.askers n)) k.few;
      }
    where
      same_waits : (m : ℕ) → (s.askers m).waiting ≡ ((with_asker w.first.extender (beaten (s.askers w.first.extender)).0 s).askers m).waiting
      same_waits m = elim (cases_eq m w.first.extender) [
        | inl e ↦ rw (eq-eqb m w.first.extender e) (ap (λ (i : ℕ). (s.askers i).waiting) e ∙ sym (beat_waits (s.askers w.first.extender)))
        | inr e ↦ rw (ne_eqb m w.first.extender e) refl
      ]

-- ---- the laws
fit_of : (t : Shape) (o : Option Work) (s : State) (js : List Job) (all : ℕ → ExtenderTables) (answer : Option Response) → StandsBy (planning t) o s js all answer → AllFit (planning t) js
fit_of t None s js all answer h = (h.0).fits
fit_of t (Some w) s js all answer h = h.fits

well_of : (t : Shape) (o : Option Work) (s : State) (js : List Job) (all : ℕ → ExtenderTables) (answer : Option Response) → StandsBy (planning t) o s js all answer → GoesWell o (opened_by (is_extender t) js)
well_of t None s js all answer h = tt
well_of t (Some w) s js all answer h = (h.asks, h.last_asks)

ordered_few : (left count given : ℕ) (a : ℕ) → a + left + asks_for count ≤ asks_for (4160 + given) → a + left + asks_for (suc count) ≤ asks_for (4160 + (given + 1))
ordered_few left count given a k =
    let more = asks_more count in
    let most = asks_more (4160 + given) in
    let same : suc (4160 + given) ≡ 4160 + (given + 1) = omega arith in
    subst (λ (n : ℕ). a + left + asks_for (suc count) ≤ asks_for n) same (omega (arith, k, more, most))

pub steps_keep_turns : StepsKeepTurns
steps_keep_turns t l setting y (Order c) stands may k =
    let next : Stands (planning t) (stepped (decide t l) y (Order c)) = (planned_steps_stand t l setting y (Order c) stands may).0 in
    let js : List Job = y.state.queue ++ job.Ordered (y.state.given + 1) c ∷ [] in
    let s : State = record y.state { queue = js; given = y.state.given + 1 } in
    let same : opened_by (is_extender t) js ≡ opened_by (is_extender t) y.state.queue = opened_more (is_extender t) (y.state.given + 1) c y.state.queue in
    let longer : length js ≡ suc (length y.state.queue) = ordered_length y.state.queue (job.Ordered (y.state.given + 1) c) in
    wakes_turn t l y.state.work s refl (fits_more (planning t) (y.state.given + 1) c y.state.queue may (fit_of t y.state.work y.state y.state.queue y.tables y.answer stands.stands)) next.waits
    (well_of t _ _ _ y.tables y.answer next.stands)
    (subst (λ (o : ℕ → Bool). AreTurns o y.state.heard y.state.askers) (sym same) (turns_of t l y.state k)) k.first
    (λ n. subst (λ (count : ℕ). (y.state.askers n).serial + left_of y.state.work + asks_for count ≤ asks_for (4160 + (y.state.given + 1))) (sym longer)
    (ordered_few (left_of y.state.work) (length y.state.queue) y.state.given (y.state.askers n).serial (k.few n)))
steps_keep_turns t l setting y (Hear n) stands may k =
    let next : Stands (planning t) (stepped (decide t l) y (Hear n)) = (planned_steps_stand t l setting y (Hear n) stands may).0 in
    let s : State = record y.state { heard = λ m. m == n || y.state.heard m } in
    wakes_turn t l y.state.work s refl (fit_of t y.state.work y.state y.state.queue y.tables y.answer stands.stands) next.waits
    (well_of t _ _ _ y.tables y.answer next.stands)
    (record { unasked = k.unasked; asked = k.asked; was_heard = λ m e. or_right (m == n) (y.state.heard m) (k.heard m e) }) k.first k.few
steps_keep_turns t l setting y Execute stands may k = k
steps_keep_turns t l setting y Answer stands may k =
    let next : Stands (planning t) (stepped (decide t l) y Answer) = (planned_steps_stand t l setting y Answer stands may).0 in
    takes_turn t l y.state.work y.answer y.state (fit_of t y.state.work y.state y.state.queue y.tables y.answer stands.stands) stands.waits k next.waits (well_of t _ _ _ y.tables None next.stands)
steps_keep_turns t l setting y (Stray n m) stands may k =
    let next : Stands (planning t) (stepped (decide t l) y (Stray n m)) = (planned_steps_stand t l setting y (Stray n m) stands may).0 in
    message_turn t l n m y.state (fit_of t y.state.work y.state y.state.queue y.tables y.answer stands.stands) stands.waits k next.waits (well_of t _ _ _ y.tables y.answer next.stands)
steps_keep_turns t l setting y Beat stands may k = beats_turn t l y.state.work y.state k

pub begins_in_turn : BeginsInTurn
unfolding first_jobs
begins_in_turn t l b tree =
    record {
      unasked = λ n e. refl;
      asked = λ n e. absurd (false≢true (sym (none_opened t tree n) ∙ e));
      heard = λ n e. absurd (false≢true (sym (none_opened t tree n) ∙ e));
      first = λ n request e one. absurd (none_request request e);
      awaits = by_list (by_depth t);
      few = λ n. let short = asks_within (length (first_jobs t)) 4160 (few_first t) in omega (arith, short);
    }
  where
    by_list : (ns : List ℕ) → Awaits (λ n. false) None (flat_map (jobs_of t) ns)
    by_list [] = tt
    by_list (n ∷ ns) = refl

pub serials_stay_low : SerialsStayLow
unfolding asks_for
serials_stay_low t s k given n = low
  where
    low : (s.askers n).serial < 274877906944
    low =
        let few : (s.askers n).serial + left_of s.work + 2097152 * length s.queue ≤ 2097152 * (4160 + s.given) = k.few n in
        omega (arith, few, given)
