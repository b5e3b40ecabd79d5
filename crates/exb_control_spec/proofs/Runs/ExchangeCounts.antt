-- How many exchanges are still planned.
use Rattle.std.proofs.Common.{◌≡◌, ◌≢◌, ℕ, suc, ◌+◌, ◌≤◌, ◌==◌, ◌&&◌, ◌||◌, not, Bool, true, false, List, [], ◌∷◌, Option, Some, None, length, count_by, cond, zero, ◌<◌, nat_lt, slice_index, refl, sym, ◌∙◌, ap, subst, inl, inr, arith, eq-eqb}
use Rattle.std.proofs.lemmas.Bool.{cases_Bool, cases_eq, ne_eqb, ltb-true, and_parts}
use Rattle.std.proofs.lemmas.List.Sums.{sum_by-cons}
use Rattle.std.specs.List.{range_with_len}
use Rattle.exb_model.specs.Tree.{Shape, is_extender}
use Rattle.exb_csp.specs.declared.message.Request.{Request}
use Rattle.exb_csp.specs.declared.message.Response.{Response}
use Rattle.exb_csp.specs.declared.message.Message.{Message}
use Rattle.exb_csp.specs.declared.session.asker.Taken.{Taken}
use Rattle.exb_csp.specs.declared.session.asker.Taken.TheVariants as taken
use Rattle.exb_csp.specs.Sessions.AskingEnd.{AskerState, took, took_body, beaten}
use Rattle.exb_csp.specs.declared.ask_at.AskAt.{AskAt}
use Rattle.exb_control_spec.specs.declared.plan.change.Change.{Change}
use Rattle.exb_control_spec.specs.declared.job.Job.{Job}
use Rattle.exb_control_spec.specs.declared.job.Phase.{Phase}
use Rattle.exb_control_spec.specs.declared.job.Phase.TheVariants.{Preparing, Cleaning}
use Rattle.exb_control_spec.specs.Decisions.{Outcome, Refused, Ready, Decide, bridge_after, release}
use Rattle.exb_control_spec.specs.Machine.{Work, State, Moved, cleans, prepares, starts, waits, after_start, goes_on, wakes_by, ends, answered_by, answered_in, answered_where, answered, with_asker, beats_in}
use Rattle.exb_control_spec.specs.PlannedExchanges.{requests_of, bridge_left, held_left, requests_in, requests_by, unheard, planned}
use Rattle.exb_control_spec.specs.Runs.MachineInvariant.{waited_for}
use Rattle.exb_control_spec.specs.Runs.ExchangeCounts.{AnswersCount, HearingCounts, OthersLeaveCounts}
use Rattle.exb_control_spec.proofs.Runs.AskerAnswers.{stray_is_still}

module _ (decide : Decide) where
  -- where these jobs are queued
  abbrev with_queue : State → List Job → ℕ
  with_queue s js = requests_by decide s.work (record s { queue = js })

  cleans_count : (j : Job) (x : Change) (left : List AskAt) (s : State) (js : List Job) → with_queue (cleans j x left s).state js ≡ length left + requests_in decide s.bridge (release x s.held) js
  cleans_count j x [] s js = omega arith
  cleans_count j x (a ∷ more) s js = omega arith

  starts_count : (j : Job) (d : Outcome) (s : State) (js : List Job) → s.work ≡ None →
      with_queue (starts j d s).state js ≡ requests_of d + requests_in decide (bridge_left j d s.bridge) (held_left d s.held) js
  starts_count j (Refused cause) s js n = rw n (omega arith)
  starts_count j (Ready x claimed) s js n = by_prepare x.prepare
    where
      by_prepare : (left : List AskAt) → with_queue (prepares j x left (record s { held = claimed })).state js ≡ (length left + length x.cleanup) + requests_in decide (bridge_after j s.bridge) (release x claimed) js
      by_prepare [] = let k = cleans_count j x x.cleanup (record s { held = claimed; bridge = bridge_after j s.bridge }) js in omega (arith, k)
      by_prepare (a ∷ more) = omega arith

  after_start_count : (m : Moved) (js : List Job) (onward : Moved) (o : Option Work) → m.state.work ≡ o →
      (m.state.work ≡ None → requests_by decide onward.state.work onward.state ≡ requests_in decide m.state.bridge m.state.held js) →
      requests_by decide (after_start js o m onward).state.work (after_start js o m onward).state ≡ with_queue m.state js
  after_start_count m js onward None e f = f e ∙ (rw e refl)
  after_start_count m js onward (Some w) e f = rw e refl

  goes_on_count : (js : List Job) (s : State) → s.work ≡ None →
      requests_by decide (goes_on decide js s).state.work (goes_on decide js s).state ≡ requests_in decide s.bridge s.held js
  unfolding goes_on requests_in
  goes_on_count [] s n = rw n refl
  goes_on_count (j ∷ js) s n =
      elim (cases_Bool (waits s j)) [
        | inl w ↦ rw (w, n) refl
        | inr w ↦
            rw w (
            let m : Moved = starts j (decide s.bridge s.held j) s in
            let k = starts_count j (decide s.bridge s.held j) s js n in
            after_start_count m js (goes_on decide js m.state) m.state.work refl (λ e. goes_on_count js m.state e) ∙ k)
      ]

  wakes_count : (o : Option Work) (s : State) → s.work ≡ o → requests_by decide (wakes_by decide o s).state.work (wakes_by decide o s).state ≡ requests_by decide o s
  wakes_count None s e = goes_on_count s.queue s e
  wakes_count (Some w) s e = rw e refl

  answered_count : (w : Work) (s : State) → suc (requests_by decide (answered_in decide (Some w) s).state.work (answered_in decide (Some w) s).state) ≡ requests_by decide (Some w) s
  answered_count w s = by_phase w.phase w.rest refl refl
    where
      by_phase : (f : Phase) (left : List AskAt) → w.phase ≡ f → w.rest ≡ left →
          suc (requests_by decide (answered_by decide w left s).state.work (answered_by decide w left s).state) ≡ requests_by decide (Some w) s
      by_phase Preparing (a ∷ more) d g = rw (d, g) (omega arith)
      by_phase Cleaning (a ∷ more) d g = rw (d, g) (omega arith)
      by_phase Preparing [] d g =
          let x : Change = w.change in
          let c : State = record s { work = None; bridge = bridge_after w.job s.bridge } in
          let m : Moved = cleans w.job x x.cleanup c in
          let a = wakes_count m.state.work m.state refl in
          let b : with_queue m.state m.state.queue ≡ length x.cleanup + requests_in decide (bridge_after w.job s.bridge) (release x s.held) s.queue =
          subst (λ (js : List Job). with_queue m.state js ≡ length x.cleanup + requests_in decide (bridge_after w.job s.bridge) (release x s.held) s.queue) (sym (same_queue x.cleanup c)) (cleans_count w.job x x.cleanup c s.queue) in
          let f = a ∙ b in
          rw (d, g) (omega (arith, f))
        where
          same_queue : (left : List AskAt) (c : State) → (cleans w.job w.change left c).state.queue ≡ c.queue
          same_queue [] c = refl
          same_queue (a ∷ more) c = refl
      by_phase Cleaning [] d g =
          let f = goes_on_count s.queue (ends w.change s) refl in
          rw (d, g) (omega (arith, f))

  -- ---- who was heard stays
  cleans_heard : (j : Job) (x : Change) (left : List AskAt) (s : State) → (cleans j x left s).state.heard ≡ s.heard
  cleans_heard j x [] s = refl
  cleans_heard j x (a ∷ more) s = refl

  prepares_heard : (j : Job) (x : Change) (left : List AskAt) (s : State) → (prepares j x left s).state.heard ≡ s.heard
  prepares_heard j x [] s = cleans_heard j x x.cleanup (record s { bridge = bridge_after j s.bridge })
  prepares_heard j x (a ∷ more) s = refl

  starts_heard : (j : Job) (d : Outcome) (s : State) → (starts j d s).state.heard ≡ s.heard
  starts_heard j (Refused cause) s = refl
  starts_heard j (Ready x claimed) s = prepares_heard j x x.prepare (record s { held = claimed })

  goes_on_heard : (js : List Job) (s : State) → (goes_on decide js s).state.heard ≡ s.heard
  unfolding goes_on
  goes_on_heard [] s = refl
  goes_on_heard (j ∷ js) s =
      elim (cases_Bool (waits s j)) [
        | inl w ↦ rw w refl
        | inr w ↦
            rw w (
            let m : Moved = starts j (decide s.bridge s.held j) s in
            by_work m m.state.work (goes_on_heard js m.state) ∙ starts_heard j (decide s.bridge s.held j) s)
      ]
    where
      by_work : (m : Moved) (o : Option Work) → (goes_on decide js m.state).state.heard ≡ m.state.heard → (after_start js o m (goes_on decide js m.state)).state.heard ≡ m.state.heard
      by_work m None h = h
      by_work m (Some w) h = refl

  wakes_heard : (o : Option Work) (s : State) → (wakes_by decide o s).state.heard ≡ s.heard
  wakes_heard None s = goes_on_heard s.queue s
  wakes_heard (Some w) s = refl

  answered_heard : (w : Work) (s : State) → (answered_in decide (Some w) s).state.heard ≡ s.heard
  answered_heard w s = by_phase w.phase w.rest
    where
      by_phase : (q : Phase) (left : List AskAt) → (answered_by decide (record w { phase = q }) left s).state.heard ≡ s.heard
      by_phase q (a ∷ more) = refl
      by_phase Preparing [] =
          let c : State = record s { work = None; bridge = bridge_after w.job s.bridge } in
          let m : Moved = cleans w.job w.change w.change.cleanup c in
          wakes_heard m.state.work m.state ∙ cleans_heard w.job w.change w.change.cleanup c
      by_phase Cleaning [] = goes_on_heard s.queue (ends w.change s)

-- ---- extenders that weren't heard yet
count_first : (p : ℕ → Bool) (a k : ℕ) → count_by p (range_with_len a (suc k)) ≡ cond (p a) 1 0 + count_by p (range_with_len (a + 1) k)
count_first p a k = sum_by-cons (λ y. cond (p y) 1 0) a (range_with_len (a + 1) k)

count_same : (p q : ℕ → Bool) (a k : ℕ) → ((m : ℕ) → a ≤ m → q m ≡ p m) → count_by q (range_with_len a k) ≡ count_by p (range_with_len a k)
count_same p q a zero h = refl
count_same p q a (suc k) h =
    let rest = count_same p q (a + 1) k (λ m l. h m (omega (arith, l))) in
    let first : ◌≡◌ {A = ℕ} (cond (q a) 1 0) (cond (p a) 1 0) = ap (λ (x : Bool). cond x 1 0) (h a (omega arith)) in
    let x = count_first p a k in
    let y = count_first q a k in
    omega (arith, rest, first, x, y)

-- one fewer where one number less passes
count_less : (p q : ℕ → Bool) (n a k : ℕ) → a ≤ n → n < a + k → p n ≡ true → q n ≡ false → ((m : ℕ) → m ≢ n → q m ≡ p m) →
    suc (count_by q (range_with_len a k)) ≡ count_by p (range_with_len a k)
count_less p q n a zero l u y z h = absurd (omega (arith, l, u))
count_less p q n a (suc k) l u y z h =
    let b = count_first p a k in
    let c = count_first q a k in
    elim (cases_eq a n) [
      | inl e ↦
          let rest = count_same p q (a + 1) k (λ m g. h m (λ f. absurd (omega (arith, g)))) in
          let some : ◌≡◌ {A = ℕ} (cond (p a) 1 0) 1 = rw (e, y) refl in
          let none : ◌≡◌ {A = ℕ} (cond (q a) 1 0) 0 = rw (e, z) refl in
          omega (arith, rest, some, none, b, c)
      | inr f ↦
          let rest = count_less p q n (a + 1) k (omega (arith, l, f)) (omega (arith, u)) y z h in
          let first : ◌≡◌ {A = ℕ} (cond (q a) 1 0) (cond (p a) 1 0) = ap (λ (x : Bool). cond x 1 0) (h a f) in
          omega (arith, rest, first, b, c)
    ]

-- extender n is heard
abbrev hearing : ℕ → State → State
hearing n s = record s { heard = λ m. m == n || s.heard m }

unheard_less : (t : Shape) (s : State) (n : ℕ) → is_extender t n ≡ true → n ≤ 64 → s.heard n ≡ false → suc (unheard t (hearing n s)) ≡ unheard t s
unheard_less t s n i l h =
    count_less (λ m. is_extender t m && not (s.heard m)) (λ m. is_extender t m && not (m == n || s.heard m)) n 1 64 low (omega (arith, l)) (rw (i, h) refl) (rw (i, eq-eqb n n refl) refl)
    (λ m f. rw (ne_eqb m n f) refl)
  where
    low : 1 ≤ n
    low = let k = ltb-true 0 n (and_parts (nat_lt 0 n) (nat_lt 0 (slice_index t.ports n)) i).0 in omega (arith, k)

pub hearing_counts : HearingCounts
unfolding planned
hearing_counts t decide s n i l h =
    let u : suc (unheard t (hearing n s)) ≡ unheard t s = unheard_less t s n i l h in
    let r = wakes_count decide s.work (hearing n s) refl in
    let same = same_requests s.work in
    let k : unheard t (wakes_by decide s.work (hearing n s)).state ≡ unheard t (hearing n s) = ap (λ (f : ℕ → Bool). unheard t (record s { heard = f })) (wakes_heard decide s.work (hearing n s)) in
    omega (arith, u, r, same, k)
  where
    same_requests : (o : Option Work) → requests_by decide o (hearing n s) ≡ requests_by decide o s
    same_requests None = refl
    same_requests (Some w) = refl

-- ---- answers
planned_is : (t : Shape) (decide : Decide) (s : State) → planned t decide s ≡ requests_by decide s.work s + unheard t s
unfolding planned
planned_is t decide s = refl

same_requests : (decide : Decide) (o : Option Work) (n : ℕ) (a : AskerState) (s : State) → requests_by decide o (with_asker n a s) ≡ requests_by decide o s
same_requests decide None n a s = refl
same_requests decide (Some w) n a s = refl

one_less : (t : Shape) (decide : Decide) (w : Work) (s : State) → suc (planned t decide (answered_in decide (Some w) s).state) ≡ requests_by decide (Some w) s + unheard t s
one_less t decide w s =
    let r = answered_count decide w s in
    let k : unheard t (answered_in decide (Some w) s).state ≡ unheard t s = ap (λ (f : ℕ → Bool). unheard t (record s { heard = f })) (answered_heard decide w s) in
    let whole = planned_is t decide (answered_in decide (Some w) s).state in
    omega (arith, r, k, whole)

nobody_takes : (a : AskerState) (o : Option Request) (m : Message) (response : Response) → o ≡ None → (took_body a o m.serial m.body).1 ≡ taken.Answer response → ⊥
nobody_takes a None m response n e = absurd (cc)
nobody_takes a (Some request) m response n e = absurd (cc)

pub answers_count : AnswersCount
answers_count t decide s n m response one e =
    let moved_is : answered decide n m s ≡ answered_in decide s.work (with_asker n (took (s.askers n) m).0 s) = ap (λ (u : Taken). answered_where decide u (with_asker n (took (s.askers n) m).0 s)) e in
    subst (λ (x : Moved). suc (planned t decide x.state) ≡ planned t decide s) (sym moved_is) (by_work s.work (took (s.askers n) m).0 refl)
  where
    by_work : (o : Option Work) (a : AskerState) → s.work ≡ o → suc (planned t decide (answered_in decide o (with_asker n a s)).state) ≡ planned t decide s
    by_work None a w = absurd (nobody_takes (s.askers n) (s.askers n).waiting m response (let k : (s.askers n).waiting ≡ waited_for s.work n = one n in rw w at k) e)
    by_work (Some v) a w =
        let k : requests_by decide (Some v) (with_asker n a s) ≡ requests_by decide s.work s = rw w refl in
        one_less t decide v (with_asker n a s) ∙ (ap (λ (x : ℕ). x + unheard t s) k ∙ sym (planned_is t decide s))

pub others_leave_counts : OthersLeaveCounts
others_leave_counts t decide s = ((λ n m f. ap (λ (x : Moved). planned t decide x.state) (stray_is_still decide n m s f)), by_work s.work)
  where
    by_work : (o : Option Work) → planned t decide (beats_in o s).state ≡ planned t decide s
    by_work None = refl
    by_work (Some w) =
        let n : ℕ = w.first.extender in
        let a : AskerState = (beaten (s.askers n)).0 in
        planned_is t decide (with_asker n a s) ∙ (ap (λ (x : ℕ). x + unheard t s) (same_requests decide s.work n a s) ∙ sym (planned_is t decide s))
