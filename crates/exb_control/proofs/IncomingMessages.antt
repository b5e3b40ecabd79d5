-- A message comes from an extender.
use Rattle.std.proofs.Common.{◌≡◌, ◌≢◌, ℕ, zero, suc, ◌+◌, ◌^◌, ◌<◌, ◌||◌, not, nat_lt, Bool, true, false, if◌then◌else◌, List, [], ◌∷◌, Option, Some, None, length, drop, refl, ap, sym, ◌∙◌, arith, inl, inr, add-one, eq-eqb}
use Rattle.std.proofs.lemmas.Bool.{cases_eq, ne_eqb}
use Rattle.std.proofs.lemmas.List.{append-nil}
use mathlib.Core.Path.{fun_ext}
use Rattle.exb_csp.specs.declared.message.Request.{Request}
use Rattle.exb_csp.specs.declared.message.Response.{Response}
use Rattle.exb_csp.specs.declared.message.Body.{Body}
use Rattle.exb_csp.specs.declared.message.Body.TheVariants as body
use Rattle.exb_csp.specs.declared.message.Message.{Message}
use Rattle.exb_csp.specs.RequestKinds.{kind_of, same_kind}
use Rattle.exb_csp.specs.declared.session.asker.Taken.{Taken}
use Rattle.exb_csp.specs.declared.session.asker.Taken.TheVariants as taken
use Rattle.exb_csp.specs.Sessions.AskingEnd.{AskerState, took, took_body}
use Rattle.exb_csp.specs.declared.ask_at.AskAt.{AskAt}
use Rattle.exb_control_spec.specs.declared.plan.change.Change.{Change}
use Rattle.exb_control_spec.specs.declared.job.Job.{Job}
use Rattle.exb_control_spec.specs.declared.job.Phase.{Phase}
use Rattle.exb_control_spec.specs.declared.job.Phase.TheVariants.{Preparing, Cleaning}
use Rattle.exb_control.specs.declared.stage.Stage.{Stage}
use Rattle.exb_control.specs.declared.stage.Stage.TheVariants.{AtRest, Prepared, InForce}
use Rattle.exb_control_spec.specs.Decisions.{Decide}
use Rattle.exb_control_spec.specs.Machine.{Work, State, Moved, wakes, answered_where, answered_in, answered_by, still, followed_by}
use Rattle.exb_control.specs.Controls.{work_from, work_at}
use Rattle.exb_control.specs.MachineSteps.{Reached, reached, reached_by, put, is_at_rest, asks_in, asks_after, advances}
use Rattle.exb_control.specs.Soundness.{AreKnown, HasRoom, MayAsk, IsSteady, later}
use Rattle.exb_model.specs.declared.event.Event.{Event}
use Rattle.exb_control_spec.specs.declared.extender_message.Asked.{Asked}
use Rattle.exb_control.proofs.MachineSteps.{joined}

-- ---- what an answer does to an asker
-- it waited, and waits no more, with the same serial
pub record Answers (s : AskerState) (waiting : Option Request) (new : AskerState) : Type 0 where
  pub waited : waiting ≡ None → ⊥
  pub idle : new.waiting ≡ None
  pub serial : new.serial ≡ s.serial

abbrev taken_by : AskerState → Response → Bool → Bool → AskerState × Taken
taken_by s r late early =
    if late then (s, taken.Stale) else
    (if early then (s, taken.NotOurs) else (record { serial = s.serial; waiting = None; beats = 0 }, taken.Answer r))

by_tests : (s : AskerState) (q : Request) (r r' : Response) (late early : Bool) → (taken_by s r late early).1 ≡ taken.Answer r' →
    Answers s (Some q) (taken_by s r late early).0
by_tests s q r r' true early e = absurd (cc)
by_tests s q r r' false true e = absurd (cc)
by_tests s q r r' false false e = record { waited = some; idle = refl; serial = refl }
  where
    some : Some q ≡ None → ⊥
    some is = cc

same_by_tests : (s : AskerState) (r : Response) (late early : Bool) → ((a : Response) → (taken_by s r late early).1 ≡ taken.Answer a → ⊥) → (taken_by s r late early).0 ≡ s
same_by_tests s r true early never = refl
same_by_tests s r false true never = refl
same_by_tests s r false false never = absurd (never r refl)

by_body : (s : AskerState) (o : Option Request) (serial : ℕ) (content : Body) (r : Response) → (took_body s o serial content).1 ≡ taken.Answer r →
    Answers s o (took_body s o serial content).0
by_body s None serial content r e = absurd (cc)
by_body s (Some q) serial (body.Ask other) r e = absurd (cc)
by_body s (Some q) serial (body.Answer a) r e = by_tests s q a r (nat_lt serial s.serial) (nat_lt s.serial serial || not (same_kind a.to (kind_of q))) e

pub answers : (s : AskerState) (m : Message) (r : Response) → (took s m).1 ≡ taken.Answer r → Answers s s.waiting (took s m).0
answers s m r e = by_body s s.waiting m.serial m.body r e

-- any other message changes nothing
same_by_body : (s : AskerState) (o : Option Request) (serial : ℕ) (content : Body) → ((a : Response) → (took_body s o serial content).1 ≡ taken.Answer a → ⊥) →
    (took_body s o serial content).0 ≡ s
same_by_body s None serial content never = refl
same_by_body s (Some q) serial (body.Ask other) never = refl
same_by_body s (Some q) serial (body.Answer a) never = same_by_tests s a (nat_lt serial s.serial) (nat_lt s.serial serial || not (same_kind a.to (kind_of q))) never

pub no_answer : (s : AskerState) (m : Message) → ((a : Response) → (took s m).1 ≡ taken.Answer a → ⊥) → (took s m).0 ≡ s
no_answer s m never = same_by_body s s.waiting m.serial m.body never

pub put_same : (e : ℕ) (a : AskerState) (askers : ℕ → AskerState) → a ≡ askers e → put e a askers ≡ askers
put_same e a askers same = fun_ext (λ n. by_place n)
  where
    by_place : (n : ℕ) → put e a askers n ≡ askers n
    by_place n = elim (cases_eq n e) [ inl is ↦ rw (is, eq-eqb e e refl) same | inr ne ↦ rw (ne_eqb n e ne) refl ]

-- ---- the change at work
drop_next : (xs : List AskAt) (i : ℕ) (a : AskAt) (rest : List AskAt) → drop i xs ≡ a ∷ rest → drop (suc i) xs ≡ rest
drop_next [] zero a rest e = absurd (cc)
drop_next [] (suc i) a rest e = absurd (cc)
drop_next (x ∷ xs) zero a rest e = cc
drop_next (x ∷ xs) (suc i) a rest e = drop_next xs i a rest e

within_by : (xs : List AskAt) (i : ℕ) (a : AskAt) (rest : List AskAt) → drop i xs ≡ a ∷ rest → i < length xs
within_by [] zero a rest e = absurd (cc)
within_by [] (suc i) a rest e = absurd (cc)
within_by (x ∷ xs) zero a rest e = omega arith
within_by (x ∷ xs) (suc i) a rest e = let h = within_by xs i a rest e in omega arith

some_left : (xs : List AskAt) (i : ℕ) → i < length xs → drop i xs ≡ [] → ⊥
some_left [] i lt e = omega arith
some_left (x ∷ xs) zero lt e = cc
some_left (x ∷ xs) (suc i) lt e = some_left xs i (omega arith) e

-- the outstanding request is answered, and those after it can be asked
pub record CanGoOn (k place : ℕ) (xs later : List AskAt) (askers : ℕ → AskerState) : Type 0 where
  pub within : place < length xs
  pub known : AreKnown (drop (place + 1) xs)
  pub after : AreKnown later
  pub may : MayAsk (length (drop (place + 1) xs) + length later + k) askers

pub record CanProceed (k : ℕ) (stage : Stage) (place : ℕ) (askers : ℕ → AskerState) : Type 0 where
  pub busy : is_at_rest stage ≡ false
  pub on : CanGoOn k place (asks_in stage) (asks_after stage) askers

abbrev stage_in : Job → Change → Phase → Stage
stage_in j x Preparing = Prepared j x
stage_in j x Cleaning = InForce j x

put_answered : (e : ℕ) (s : AskerState) (askers : ℕ → AskerState) (k : ℕ) → s.waiting ≡ None → s.serial ≡ (askers e).serial →
    ((n : ℕ) → n ≢ e → (askers n).waiting ≡ None) → HasRoom k askers → MayAsk k (put e s askers)
put_answered e s askers k idle serial others room = record { idle = by_idle; room = by_room }
  where
    by_idle : (n : ℕ) → (put e s askers n).waiting ≡ None
    by_idle n = elim (cases_eq n e) [ inl is ↦ rw (is, eq-eqb e e refl) idle | inr ne ↦ rw (ne_eqb n e ne) (others n ne) ]

    by_room : (n : ℕ) → (put e s askers n).serial + k < 2 ^ 40
    by_room n = elim (cases_eq n e) [ inl is ↦ rw (is, eq-eqb e e refl, serial) (room e) | inr ne ↦ rw (ne_eqb n e ne) (room n) ]

proceeds : (k : ℕ) (j : Job) (x : Change) (phase : Phase) (place : ℕ) (xs ys : List AskAt) (askers : ℕ → AskerState) (e : ℕ) (s : AskerState) → drop place xs ≡ ys →
    IsSteady k (work_from j x phase ys) askers → Answers (askers e) (askers e).waiting s → CanGoOn k place xs (later phase x) (put e s askers)
proceeds k j x phase place xs [] askers e s from steady ans = absurd (ans.waited (steady.idle e))
proceeds k j x phase place xs (a ∷ rest) askers e s from steady ans =
    let next : drop (place + 1) xs ≡ rest = rw add-one (drop_next xs place a rest from) in
    record {
      within = within_by xs place a rest from;
      known = rw next steady.rest;
      after = steady.later;
      may = rw next (put_answered e s askers (length rest + length (later phase x) + k) ans.idle ans.serial (λ n ne. steady.others n (λ is. ne (is ∙ sym mine))) steady.room);
    }
  where
    mine : e ≡ a.extender
    mine = elim (cases_eq e a.extender) [ inl is ↦ is | inr ne ↦ absurd (ans.waited (steady.others e ne)) ]

pub can_proceed : (k : ℕ) (stage : Stage) (place : ℕ) (askers : ℕ → AskerState) (e : ℕ) (m : Message) (r : Response) → IsSteady k (work_at stage place) askers →
    (took (askers e) m).1 ≡ taken.Answer r → CanProceed k stage place (put e (took (askers e) m).0 askers)
can_proceed k AtRest place askers e m r steady is = absurd ((answers (askers e) m r is).waited (steady.idle e))
can_proceed k (Prepared j x) place askers e m r steady is =
    record { busy = refl; on = proceeds k j x Preparing place x.prepare (drop place x.prepare) askers e _ refl steady (answers (askers e) m r is) }
can_proceed k (InForce j x) place askers e m r steady is =
    record { busy = refl; on = proceeds k j x Cleaning place x.cleanup (drop place x.cleanup) askers e _ refl steady (answers (askers e) m r is) }

-- ---- the machine
pub not_answered : (decide : Decide) (t : Taken) (s : State) → ((r : Response) → t ≡ taken.Answer r → ⊥) → answered_where decide t s ≡ still s
not_answered decide (taken.Answer r) s never = absurd (never r refl)
not_answered decide taken.Stale s never = refl
not_answered decide taken.NotOurs s never = refl

onward : (decide : Decide) (j : Job) (x : Change) (phase : Phase) (first : AskAt) (rest : List AskAt) (s : State) →
    followed_by (advances (stage_in j x phase) rest (record s { work = None })) (wakes decide (advances (stage_in j x phase) rest (record s { work = None })).state)
    ≡ answered_by decide (record { job = j; change = x; phase = phase; first = first; rest = rest }) rest s
onward decide j x Preparing first [] s = refl
onward decide j x Preparing first (a ∷ rest) s = refl
onward decide j x Cleaning first [] s = refl
onward decide j x Cleaning first (a ∷ rest) s = refl

on_with : (decide : Decide) (j : Job) (x : Change) (phase : Phase) (place : ℕ) (xs ys : List AskAt) (s : State) → drop place xs ≡ ys → s.work ≡ work_from j x phase ys →
    (ys ≡ [] → ⊥) →
    followed_by (advances (stage_in j x phase) (drop (place + 1) xs) (record s { work = None })) (wakes decide (advances (stage_in j x phase) (drop (place + 1) xs) (record s { work = None })).state)
    ≡ answered_in decide s.work s
on_with decide j x phase place xs [] s from work some = absurd (some refl)
on_with decide j x phase place xs (a ∷ rest) s from work some =
    let next : drop (place + 1) xs ≡ rest = rw add-one (drop_next xs place a rest from) in
    let m : List AskAt → Moved = λ zs. advances (stage_in j x phase) zs (record s { work = None }) in
    ap (λ (zs : List AskAt). followed_by (m zs) (wakes decide (m zs).state)) next
    ∙ onward decide j x phase a rest s
    ∙ ap (λ (o : Option Work). answered_in decide o s) (sym work)

-- the change goes on, and then the queue
pub answered_on : (decide : Decide) (stage : Stage) (place : ℕ) (s : State) (t : Taken) (r : Response) → s.work ≡ work_at stage place → t ≡ taken.Answer r →
    is_at_rest stage ≡ false → place < length (asks_in stage) →
    followed_by (advances stage (drop (place + 1) (asks_in stage)) (record s { work = None })) (wakes decide (advances stage (drop (place + 1) (asks_in stage)) (record s { work = None })).state)
    ≡ answered_where decide t s
answered_on decide AtRest place s t r work is busy within = absurd (cc)
answered_on decide (Prepared j x) place s t r work is busy within =
    on_with decide j x Preparing place x.prepare (drop place x.prepare) s refl work (some_left x.prepare place within) ∙ ap (λ (u : Taken). answered_where decide u s) (sym is)
answered_on decide (InForce j x) place s t r work is busy within =
    on_with decide j x Cleaning place x.cleanup (drop place x.cleanup) s refl work (some_left x.cleanup place within) ∙ ap (λ (u : Taken). answered_where decide u s) (sym is)

-- a step and then the queue, as one step
pub then_wakes : (decide decide' : Decide) (m : Moved) (s : State) (events events' : List Event) (asks asks' : List Asked) (t t' : List ℕ) → decide' ≡ decide →
    reached s events' asks' t' ≡ reached_by m events asks t →
    reached_by (wakes decide' s) events' asks' t' ≡ reached_by (followed_by m (wakes decide m.state)) events asks t
then_wakes decide decide' m s events events' asks asks' t t' same e =
    ap (λ (d : Decide). reached_by (wakes d s) events' asks' t') same
    ∙ ap (λ (r : Reached). reached_by (wakes decide r.state) r.events r.asks r.downs) e
    ∙ joined m (wakes decide m.state) events asks t

-- any other message changes the session alone
pub stayed : (decide : Decide) (t : Taken) (s s' : State) (events : List Event) (asks : List Asked) (downs : List ℕ) → ((r : Response) → t ≡ taken.Answer r → ⊥) → s' ≡ s →
    reached s' events asks downs ≡ reached_by (answered_where decide t s) events asks downs
stayed decide t s s' events asks downs never same = rw (same, not_answered decide t s never, append-nil events, append-nil asks, append-nil downs) refl
