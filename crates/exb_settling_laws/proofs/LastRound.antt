-- With no round left the world is settled; and the bound, from what a round does.
use Rattle.std.proofs.Common.{◌≡◌, ◌⊎◌, ⊎_elim, ℕ, ◌+◌, ◌≤◌, ◌<◌, nat_lt, Bool, true, false, cond, List, [], ◌∷◌, ◌++◌, Option, Some, None, refl, ap, sym, ◌∙◌, subst, arith}
use Rattle.std.specs.Prelude.{is_none}
use Rattle.std.proofs.lemmas.Bool.{and_parts, and_from, eqb-true}
use Rattle.exb_model.specs.Tree.{Shape, IsTree, device, on, is_extender}
use Rattle.exb_model.specs.Setup.{Limits}
use Rattle.exb_model.specs.declared.setup.Verdict.{Verdict}
use Rattle.exb_ecp.specs.StopAndWait.{Sending as Sends}
use Rattle.exb_link.specs.declared.link_frame.LinkFrame.{LinkFrame}
use Rattle.exb_link.specs.LinkFrames.{is_control}
use Rattle.exb_control_spec.specs.Plans.HeldNumbers.{Held}
use Rattle.exb_control_spec.specs.declared.job.Job.{Job}
use Rattle.exb_control_spec.specs.declared.job.Job.TheVariants as job
use Rattle.exb_control_spec.specs.Machine.{Work}
use Rattle.exb_world_spec.specs.Worlds.{World}
use Rattle.exb_world_spec.specs.Runs.Sessions.{Each}
use Rattle.exb_world_spec.specs.Steps.{all_extenders}
use Rattle.exb_world_spec.specs.Settling.{is_settled, is_empty, is_idle, is_idle_at, are_all, planned_in, round}
use Rattle.exb_settling_laws.specs.StopAndWait.{Message as Note, Sending}
use Rattle.exb_settling_laws.specs.AnswerStages.{IdleLeft, IsSettled}
use Rattle.exb_settling_laws.specs.Streams.{sending_of, addressee, plain, note_of, is_of, is_the, notes_if, words_of, ups_of, pair_at}
use Rattle.exb_settling_laws.specs.SettlingFacts.{Facts, WordFacts, IsOwned, MayComeUp, ComesUp, IsInvariant}
use Rattle.exb_settling_laws.specs.SettlingBound.{IsSwept, StageBy, Stage, SettleEnds}
use Rattle.exb_settling_laws.proofs.Progress.{never_none}
use Rattle.exb_settling_laws.proofs.IdleRounds.{idle_done}
use Rattle.exb_settling_laws.proofs.FactsBySession.{waiting_at}
use Rattle.exb_settling_laws.proofs.VerdictCosts.{pass_round}
use Rattle.exb_settling_laws.proofs.RoundSteps.{round_keeps}
use Rattle.exb_settling_laws.proofs.AnswerStages.{Passing, waits_now, idle_now, queue_facts, rough, nearer}
use Rattle.exb_settling_laws.proofs.SettlingBound.{settle_ends}

-- ---- lists
append_empty : {A : Type 0} (xs ys : List A) → xs ++ ys ≡ [] → ys ≡ []
append_empty [] ys e = e
append_empty {A = A} (x ∷ xs) ys e = absurd (cons_nil e)
  where
    cons_nil : {y : A} {zs : List A} → y ∷ zs ≡ [] → ⊥
    cons_nil k = cc

nothing_sent : (o : Option Sends) → sending_of o ≡ None → o ≡ None
nothing_sent None e = refl
nothing_sent (Some x) e = absurd (some_none e)
  where
    some_none : {y : Sending} → Some y ≡ None → ⊥
    some_none k = cc

-- a link on which an extender has all words, and has none, is empty
module _ (t : Shape) (h : Held) (P : ℕ → List ℕ → Type 0) (m : ℕ) (none : (f : List ℕ) → note_of f ≡ None → P m f → ⊥) where
  none_there : (ws : List LinkFrame) → Each (λ (x : LinkFrame). is_of t h m m x ≡ true) ws → Each (WordFacts t h P m) ws → words_of t h m m ws ≡ [] → ws ≡ []
  none_there [] all facts e = refl
  none_there (x ∷ xs) all facts e =
      let both = and_parts (is_control x) (is_the m (addressee t h m x.bytes)) all.0 in
      let own : IsOwned t h P m x = facts.0.owned both.0 in
      let same : own.of ≡ m = eqb-true own.of m (ap (is_the m) (sym own.addressed) ∙ both.1) in
      let reads : P m (plain x.bytes) = subst (λ (k : ℕ). P k (plain x.bytes)) same own.reads in
      let f : notes_if true (note_of (plain x.bytes)) ++ words_of t h m m xs ≡ [] = ap (λ (b : Bool). notes_if b (note_of (plain x.bytes)) ++ words_of t h m m xs) (sym all.0) ∙ e in
      absurd (by_note (note_of (plain x.bytes)) refl reads f)
    where
      by_note : (o : Option Note) → note_of (plain x.bytes) ≡ o → P m (plain x.bytes) → notes_if true o ++ words_of t h m m xs ≡ [] → ⊥
      by_note None e p k = none (plain x.bytes) e p
      by_note (Some a) e p k = cons_nil k
        where
          cons_nil : {y : Note} {zs : List Note} → y ∷ zs ≡ [] → ⊥
          cons_nil z = cc

module _ (t : Shape) (l : Limits) (tree : IsTree t) (I : World → Type 0) (facts : (w : World) → I w → Facts t l w) (passing : Passing t l I) (keeps : (w : World) → I w → I (pass_round t l w)) where
  own_up : (w : World) (n : ℕ) → (pair_at t w n).far.sent ≡ [] → words_of t w.control.held n n (w.up n) ≡ []
  unfolding ups_of
  own_up w n e = append_empty (cond (nat_lt (on t n) 64) [] (ups_of t w.control.held w.up n 63 (device (on t n)))) (words_of t w.control.held n n (w.up n)) e

  empty_is : {A : Type 0} (xs : List A) → xs ≡ [] → is_empty xs ≡ true
  empty_is xs e = rw e refl

  none_is : {A : Type 0} (o : Option A) → o ≡ None → is_none o ≡ true
  none_is o e = rw e refl

  idle_there : (w : World) (n : ℕ) → I w → IsSwept t w → is_extender t n ≡ true → IsSettled (pair_at t w n) → is_idle w n ≡ true
  idle_there w n i swept there s =
      let up : w.up n ≡ [] = none_there t w.control.held (ComesUp t w.control w.far) n (λ g e p. let A : Option Note → Type 0 = MayComeUp (w.far n) in subst A e p.0) (w.up n) (swept.ups n there) ((facts w i).ups n there) (own_up w n s.up) in
      and_from _ _ (none_is (w.near n).sending (nothing_sent (w.near n).sending s.near))
      (and_from _ _ (none_is (w.far n).ecp.sending (nothing_sent (w.far n).ecp.sending s.far))
      (and_from _ _ (empty_is (w.down n) (swept.downs n there)) (empty_is (w.up n) up)))

  all_idle : (w : World) (ns : List ℕ) → ((n : ℕ) → is_extender t n ≡ true → is_idle w n ≡ true) → are_all (is_idle_at t w) ns ≡ true
  all_idle w [] f = refl
  all_idle w (n ∷ ns) f = and_from (is_idle_at t w n) (are_all (is_idle_at t w) ns) (by_there (is_extender t n) refl) (all_idle w ns f)
    where
      by_there : (b : Bool) → is_extender t n ≡ b → cond b (is_idle w n) true ≡ true
      by_there true e = f n e
      by_there false e = refl

  settled_by : (w : World) (o : Option Work) (js : List Job) → I w → w.control.work ≡ o → w.control.queue ≡ js → StageBy t 0 w o js → is_settled t w ≡ true
  unfolding is_settled
  settled_by w (Some k) js i e f st =
      let q = queue_facts t l tree I facts passing keeps w (Some k) js i e f in
      absurd (never_none (pair_at t w k.first.extender) (waiting_at t l tree w (facts w i) k.first.extender k.first.request q.0 (waits_now t l tree I facts passing keeps w k i e)) st)
  settled_by w None [] i e f st =
      let swept : IsSwept t w = ⊎_elim (λ (h : 1 ≤ 0). absurd (omega arith)) (λ (h : IsSwept t w). h) st.1 in
      let pair : (n : ℕ) → is_extender t n ≡ true → IsSettled (pair_at t w n) =
      λ n there. ⊎_elim (λ (h : 14 ≤ 0). absurd (omega arith)) (λ (h : IdleLeft 0 (pair_at t w n)). idle_done (pair_at t w n) (idle_now t l tree I facts passing keeps w n i e f there) h) (st.0 n there) in
      and_from (is_empty w.control.queue) _ (empty_is w.control.queue f)
      (and_from (is_none w.control.work) _ (none_is w.control.work e) (all_idle w all_extenders (λ n there. idle_there w n i swept there (pair n there))))
  settled_by w None (job.Opening n ∷ js) i e f st =
      let q = queue_facts t l tree I facts passing keeps w None (job.Opening n ∷ js) i e f in
      let few : (w.far n).beats < 16 = ((facts w i).far n q.0).extender.beats in
      absurd (
      ⊎_elim
      (λ (a : Rattle.exb_settling_laws.specs.SettlingBound.HasHello (pair_at t w n).far.sent × (1 ≤ 0)). let x : 1 ≤ 0 = a.1 in omega arith)
      (λ (a : (((pair_at t w n).far.count ≡ 0) × (2 ≤ 0)) ⊎ ((0 < (pair_at t w n).far.count) × (18 ≤ 0 + (pair_at t w n).far.count))).
      ⊎_elim
      (λ (x : ((pair_at t w n).far.count ≡ 0) × (2 ≤ 0)). let y : 2 ≤ 0 = x.1 in omega arith)
      (λ (x : (0 < (pair_at t w n).far.count) × (18 ≤ 0 + (pair_at t w n).far.count)). let y : 18 ≤ 0 + (w.far n).beats = x.1 in omega arith)
      a)
      st
      )
  settled_by w None (job.AutomaticUp p ∷ js) i e f st = absurd st
  settled_by w None (job.Ordered n c ∷ js) i e f st = absurd st

  pub settled : (w : World) → I w → Stage t 0 w → is_settled t w ≡ true
  settled w i st = settled_by w w.control.work w.control.queue i refl refl st

-- The bound on settling: from what a round in which each word passes does, and that no round plans anything.
module _ (t : Shape) (l : Limits) (tree : IsTree t) (I : World → Type 0) (inv : IsInvariant t l I) where
  pass_keeps : (w : World) → I w → I (pass_round t l w)
  unfolding round
  pass_keeps w i = round_keeps t l I inv w [] i

  pub ends : Passing t l I → ((w : World) (vs : List Verdict) → I w → planned_in t l (round t l w vs).done.world ≤ planned_in t l w) → SettleEnds t l I
  ends passing planned =
      settle_ends t l I (record {
        keeps = λ w vs i. round_keeps t l I inv w vs i;
        planned = planned;
        nearer = λ s w i same st. nearer t l tree I inv.facts passing pass_keeps s w i same st;
        rough = λ w i. rough t l tree I inv.facts passing pass_keeps w i;
        settled = λ w i st. settled t l tree I inv.facts passing pass_keeps w i st;
      })
