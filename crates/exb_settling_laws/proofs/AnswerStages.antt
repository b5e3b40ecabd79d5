-- How a stage comes nearer its end in a round in which each word passes and nothing is done of what is planned.
use Rattle.std.proofs.Common.{◌≡◌, ◌⊎◌, inl, inr, ⊎_elim, ℕ, suc, ◌+◌, ◌≤◌, ◌<◌, ◌==◌, ◌&&◌, nat_lt, Bool, true, false, cond, List, [], ◌∷◌, ◌++◌, Option, Some, None, refl, ap, sym, ◌∙◌, subst, arith}
use Rattle.std.specs.Prelude.{is_some}
use Rattle.std.proofs.lemmas.Bool.{cases_eq, eqb-true, eq-eqb}
use Rattle.exb_model.specs.Tree.{Shape, IsTree, is_extender}
use Rattle.exb_model.specs.Setup.{Limits}
use Rattle.exb_csp.specs.declared.message.Request.{Request}
use Rattle.exb_control_spec.specs.declared.job.Job.{Job}
use Rattle.exb_control_spec.specs.declared.job.Job.TheVariants as job
use Rattle.exb_control_spec.specs.Machine.{Work}
use Rattle.exb_control_spec.specs.Runs.MachineInvariant.{waited_for}
use Rattle.exb_world_spec.specs.Worlds.{World}
use Rattle.exb_world_spec.specs.Settling.{planned_in}
use Rattle.exb_settling_laws.specs.StopAndWait.{Message as Note, Request as Asks, Answer as Answers, Ack, Hello, is_got, again, counted, hello_words}
use Rattle.exb_settling_laws.specs.SessionPair.{Near, Far, Pair, near_beat, near_beats, beats_while, near_empty, near_up, far_hears, far_gets, far_takes, far_again, far_all, far_empty, far_down, with_got, pass_round}
use Rattle.exb_settling_laws.specs.AnswerStages.{Waiting, AtMost, Idle, IdleAtMost}
use Rattle.exb_settling_laws.specs.Streams.{pair_at}
use Rattle.exb_settling_laws.specs.SettlingFacts.{Facts, QueueFacts, Matters}
use Rattle.exb_settling_laws.specs.SettlingBound.{HasHello, HelloLeft, IsSwept, StageBy, Stage}
use Rattle.exb_settling_laws.proofs.Progress.{falls}
use Rattle.exb_settling_laws.proofs.IdleRounds.{idle_falls}
use Rattle.exb_settling_laws.proofs.FactsBySession.{waiting_at, idle_at}
use Rattle.exb_settling_laws.proofs.VerdictCosts.{pass_round as passed_round}

-- ---- announcements
has_hello_join : (xs ys : List Note) → HasHello ys → HasHello (xs ++ ys)
has_hello_join [] ys h = h
has_hello_join (Asks s k ∷ xs) ys h = has_hello_join xs ys h
has_hello_join (Answers s k ∷ xs) ys h = has_hello_join xs ys h
has_hello_join (Ack s ∷ xs) ys h = has_hello_join xs ys h
has_hello_join (Hello ∷ xs) ys h = tt

has_hello_first : (xs ys : List Note) → HasHello xs → HasHello (xs ++ ys)
has_hello_first [] ys h = absurd h
has_hello_first (Asks s k ∷ xs) ys h = has_hello_first xs ys h
has_hello_first (Answers s k ∷ xs) ys h = has_hello_first xs ys h
has_hello_first (Ack s ∷ xs) ys h = has_hello_first xs ys h
has_hello_first (Hello ∷ xs) ys h = tt

count_hears : (f : Far) (m : Note) → (far_hears f m).count ≡ f.count
count_hears f (Asks s k) =
    elim (is_got f.link.got s) as (λ b. (far_gets b f s k).count ≡ f.count) [
      | true ↦ refl
      | false ↦
          let g : Far = record { link = with_got f.link s; last = f.last; count = f.count; sent = f.sent ++ Ack s ∷ [] } in
          elim (k == f.last + 1) as (λ b. (far_takes b g k).count ≡ f.count) [
            | true ↦ refl
            | false ↦ elim ((k == f.last) && nat_lt 0 f.last) as (λ b. (far_again b g k).count ≡ f.count) [ true ↦ refl | false ↦ refl ]
          ]
    ]
count_hears f (Answers s k) = refl
count_hears f (Ack s) = refl
count_hears f Hello = refl

count_all : (f : Far) (ms : List Note) → (far_all f ms).count ≡ f.count
count_all f [] = refl
count_all f (m ∷ ms) = count_all (far_hears f m) ms ∙ count_hears f m

-- an extender that executed nothing announces itself when its count is 1
pub hello_nearer : (t : ℕ) (p : Pair) → (HasHello p.far.sent → ⊥) → (pass_round p).far.last ≡ 0 → HelloLeft (t + 1) p → HelloLeft t (pass_round p)
hello_nearer t p none last s =
    let same : (far_down p).count ≡ p.far.count = count_all (far_empty p.far) (near_up p).sent in
    let zero_is : ((far_down p).last == 0) ≡ true = eq-eqb (far_down p).last 0 last in
    ⊎_elim
    (λ (h : HasHello p.far.sent × (1 ≤ t + 1)). absurd (none h.0))
    (λ (r : ((p.far.count ≡ 0) × (2 ≤ t + 1)) ⊎ ((0 < p.far.count) × (18 ≤ t + 1 + p.far.count))).
    ⊎_elim
    (λ (h : (p.far.count ≡ 0) × (2 ≤ t + 1)).
    let c : counted ((far_down p).count == 15) (far_down p).count ≡ 1 = ap (λ v. counted (v == 15) v) (same ∙ h.0) in
    let w : hello_words (counted ((far_down p).count == 15) (far_down p).count == 1) ((far_down p).last == 0) ≡ Hello ∷ [] = ap (λ v. hello_words (v == 1) ((far_down p).last == 0)) c ∙ ap (hello_words true) zero_is in
    inl (
      has_hello_join (far_down p).sent (hello_words (counted ((far_down p).count == 15) (far_down p).count == 1) ((far_down p).last == 0) ++ again Answers (far_down p).link.sending)
          (has_hello_first (hello_words (counted ((far_down p).count == 15) (far_down p).count == 1) ((far_down p).last == 0)) (again Answers (far_down p).link.sending) (subst HasHello (sym w) tt)),
      omega arith,
    ))
    (λ (h : (0 < p.far.count) × (18 ≤ t + 1 + p.far.count)).
    let a : 0 < p.far.count = h.0 in
    let b : 18 ≤ t + 1 + p.far.count = h.1 in
    let N : ℕ → Type 0 = λ c. (HasHello (pass_round p).far.sent × (1 ≤ t)) ⊎ (((c ≡ 0) × (2 ≤ t)) ⊎ ((0 < c) × (18 ≤ t + c))) in
    let go : N (counted (p.far.count == 15) p.far.count) =
    elim (p.far.count == 15) as (λ v. (p.far.count == 15) ≡ v → N (counted v p.far.count)) [
      | true ↦ λ e. let d : p.far.count ≡ 15 = eqb-true _ _ e in inr (inl (refl, omega arith))
      | false ↦ λ e. inr (inr (omega arith, omega arith))
    ] refl in
    subst (λ v. N (counted (v == 15) v)) (sym same) go)
    r)
    s

beat_waits : (n : Near) → (near_beat (near_empty n)).waits ≡ n.waits
beat_waits n =
    elim n.waits as (λ b. (beats_while b (near_empty n)).waits ≡ n.waits) [
      | true ↦ elim (n.beats + 1 == 16) as (λ b. (near_beats b (near_empty n)).waits ≡ n.waits) [ true ↦ refl | false ↦ refl ]
      | false ↦ refl
    ]

-- ---- what a round in which each word passes does, where nothing is done of what is planned
pub record Passing (t : Shape) (l : Limits) (I : World → Type 0) : Type 0 where
  pub queue : (w : World) → I w → planned_in t l (passed_round t l w) ≡ planned_in t l w → (passed_round t l w).control.queue ≡ w.control.queue
  -- the request that is outstanding stays so
  pub work : (w : World) → I w → planned_in t l (passed_round t l w) ≡ planned_in t l w → (passed_round t l w).control.work ≡ w.control.work
  pub heard : (w : World) → I w → planned_in t l (passed_round t l w) ≡ planned_in t l w → (passed_round t l w).control.heard ≡ w.control.heard
  -- the round of the world is one of each session
  pub pairs : (w : World) (n : ℕ) → I w → planned_in t l (passed_round t l w) ≡ planned_in t l w → Matters t w.control.work w.control.queue n → pair_at t (passed_round t l w) n ≡ pass_round (pair_at t w n)
  -- an announcement that is on its way would be heard
  pub hello : (w : World) (n : ℕ) → I w → planned_in t l (passed_round t l w) ≡ planned_in t l w → Matters t w.control.work w.control.queue n → w.control.heard n ≡ false → HasHello (pair_at t w n).far.sent → ⊥
  -- nothing goes down where no request is outstanding, and what comes up was sent in this round
  pub swept : (w : World) → I w → planned_in t l (passed_round t l w) ≡ planned_in t l w → w.control.work ≡ None → IsSwept t (passed_round t l w)

module _ (t : Shape) (l : Limits) (tree : IsTree t) (I : World → Type 0) (facts : (w : World) → I w → Facts t l w) (passing : Passing t l I) (keeps : (w : World) → I w → I (passed_round t l w)) where
  pub waits_now : (w : World) (k : Work) → I w → w.control.work ≡ Some k → (w.control.askers k.first.extender).waiting ≡ Some k.first.request
  waits_now w k i e =
      (facts w i).waits k.first.extender ∙ ap (λ (o : Option Work). waited_for o k.first.extender) e ∙ ap (λ (b : Bool). cond b (Some k.first.request) None) (eq-eqb k.first.extender k.first.extender refl)

  none_waits : (w : World) (n : ℕ) → I w → w.control.work ≡ None → (w.control.askers n).waiting ≡ None
  none_waits w n i e = (facts w i).waits n ∙ ap (λ (o : Option Work). waited_for o n) e

  pub queue_facts : (w : World) (o : Option Work) (js : List Job) → I w → w.control.work ≡ o → w.control.queue ≡ js → QueueFacts t w o js
  queue_facts w o js i e f = let A : Option Work → Type 0 = λ a. QueueFacts t w a js in let B : List Job → Type 0 = λ b. QueueFacts t w w.control.work b in subst A e (subst B f (facts w i).queue)

  mattering : (w : World) (n : ℕ) (o : Option Work) (js : List Job) → w.control.work ≡ o → w.control.queue ≡ js → Matters t o js n → Matters t w.control.work w.control.queue n
  mattering w n o js e f m = let A : Option Work → Type 0 = λ a. Matters t a w.control.queue n in let B : List Job → Type 0 = λ b. Matters t o b n in subst A (sym e) (subst B (sym f) m)

  -- ---- no stage is longer than 52 rounds
  rough_hello : (p : Pair) → HelloLeft 52 p
  rough_hello p = elim (cases_eq p.far.count 0) [ inl e ↦ inr (inl (e, omega arith)) | inr e ↦ inr (inr (omega arith, omega arith)) ]

  rough_by : (w : World) (o : Option Work) (js : List Job) → QueueFacts t w o js → StageBy t 52 w o js
  rough_by w (Some k) js q = inl (omega arith)
  rough_by w None [] q = (λ n there. inl (omega arith), inl (omega arith))
  rough_by w None (job.Opening n ∷ js) q = rough_hello (pair_at t w n)
  rough_by w None (job.AutomaticUp p ∷ js) q = absurd q
  rough_by w None (job.Ordered n c ∷ js) q = absurd q

  pub rough : (w : World) → I w → Stage t 52 w
  rough w i = rough_by w w.control.work w.control.queue (facts w i).queue

  -- ---- one round less
  pub idle_now : (w : World) (n : ℕ) → I w → w.control.work ≡ None → w.control.queue ≡ [] → is_extender t n ≡ true → Idle (pair_at t w n)
  idle_now w n i e f there = idle_at t l tree w (facts w i) n there (none_waits w n i e) ((queue_facts w None [] i e f n there).0)

  nearer_by : (s : ℕ) (w : World) (o : Option Work) (js : List Job) → I w → w.control.work ≡ o → w.control.queue ≡ js → planned_in t l (passed_round t l w) ≡ planned_in t l w →
      StageBy t (suc s) w o js → StageBy t s (passed_round t l w) o js
  nearer_by s w (Some k) js i e f same st =
      let q = queue_facts w (Some k) js i e f in
      let v : World = passed_round t l w in
      let n : ℕ = k.first.extender in
      let later : I (passed_round t l w) = keeps w i in
      let pair : pair_at t (passed_round t l w) k.first.extender ≡ pass_round (pair_at t w k.first.extender) = passing.pairs w k.first.extender i same (mattering w k.first.extender (Some k) js e f refl) in
      let now : Waiting (pair_at t w k.first.extender) = waiting_at t l tree w (facts w i) k.first.extender k.first.request q.0 (waits_now w k i e) in
      let then : ((passed_round t l w).control.askers k.first.extender).waiting ≡ Some k.first.request = waits_now (passed_round t l w) k later (passing.work w i same ∙ e) in
      let up : (near_up (pair_at t w k.first.extender)).waits ≡ true = sym (beat_waits (near_up (pair_at t w k.first.extender))) ∙ sym (ap (λ (p : Pair). p.near.waits) pair) ∙ ap is_some then in
      let one : suc s ≡ s + 1 = omega arith in
      let start : AtMost (s + 1) (pair_at t w k.first.extender) = (let A : ℕ → Type 0 = λ a. AtMost a (pair_at t w k.first.extender) in subst A one st) in
      subst (AtMost s) (sym pair) (falls s (pair_at t w k.first.extender) now start up).1
  nearer_by s w None [] i e f same st =
      let one : suc s ≡ s + 1 = omega arith in (
        (λ n there.
            let pair : pair_at t (passed_round t l w) n ≡ pass_round (pair_at t w n) = passing.pairs w n i same (mattering w n None [] e f there) in
            let start : IdleAtMost (s + 1) (pair_at t w n) = (let A : ℕ → Type 0 = λ a. IdleAtMost a (pair_at t w n) in subst A one (st.0 n there)) in
            subst (IdleAtMost s) (sym pair) (idle_falls s (pair_at t w n) (idle_now w n i e f there) start).1),
        inr (passing.swept w i same e),
      )
  nearer_by s w None (job.Opening n ∷ js) i e f same st =
      let q = queue_facts w None (job.Opening n ∷ js) i e f in
      let later : I (passed_round t l w) = keeps w i in
      let after = facts (passed_round t l w) later in
      let pair : pair_at t (passed_round t l w) n ≡ pass_round (pair_at t w n) = passing.pairs w n i same (mattering w n None (job.Opening n ∷ js) e f refl) in
      let quiet : ((passed_round t l w).control.askers n).waiting ≡ None = none_waits (passed_round t l w) n later (passing.work w i same ∙ e) in
      let silent : (passed_round t l w).control.heard n ≡ false = ap (λ (h : ℕ → Bool). h n) (passing.heard w i same) ∙ q.1 in
      let serial : ((passed_round t l w).control.askers n).serial ≡ 0 = after.unheard n q.0 silent in
      let related : ((passed_round t l w).control.askers n).serial ≡ ((passed_round t l w).far n).session.last =
      (let P : Option Request → Type 0 = λ o. Rattle.exb_settling_laws.specs.SettlingFacts.Related o ((passed_round t l w).control.askers n).serial ((passed_round t l w).far n).session.last in subst P quiet (after.related n q.0)) in
      let last : (pass_round (pair_at t w n)).far.last ≡ 0 = sym (ap (λ (p : Pair). p.far.last) pair) ∙ sym related ∙ serial in
      let one : suc s ≡ s + 1 = omega arith in
      let start : HelloLeft (s + 1) (pair_at t w n) = (let A : ℕ → Type 0 = λ a. HelloLeft a (pair_at t w n) in subst A one st) in
      subst (HelloLeft s) (sym pair) (hello_nearer s (pair_at t w n) (passing.hello w n i same (mattering w n None (job.Opening n ∷ js) e f refl) q.1) last start)
  nearer_by s w None (job.AutomaticUp p ∷ js) i e f same st = absurd st
  nearer_by s w None (job.Ordered n c ∷ js) i e f same st = absurd st

  pub nearer : (s : ℕ) (w : World) → I w → planned_in t l (passed_round t l w) ≡ planned_in t l w → Stage t (suc s) w → Stage t s (passed_round t l w)
  nearer s w i same st =
      let by : StageBy t s (passed_round t l w) w.control.work w.control.queue = nearer_by s w w.control.work w.control.queue i refl refl same st in
      let A : Option Work → Type 0 = λ o. StageBy t s (passed_round t l w) o w.control.queue in
      let B : List Job → Type 0 = λ js. StageBy t s (passed_round t l w) (passed_round t l w).control.work js in
      subst B (sym (passing.queue w i same)) (subst A (sym (passing.work w i same)) by)
