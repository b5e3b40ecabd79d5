-- How many exchanges are still to come.
use Rattle.std.proofs.Common.{◌≡◌, ℕ, zero, suc, ◌+◌, ◌*◌, ◌^◌, ◌≤◌, ◌&&◌, not, Bool, true, List, [], ◌∷◌, Option, Some, length, drop, refl, ap, sym, ◌∙◌, arith, add-one, add-zero, zero-add, add_assoc}
use Rattle.std.specs.Prelude.{slice_get, is_none, count_by}
use Rattle.std.specs.List.{range_with_len}
use Rattle.exb_control.proofs.MachineSteps.{drop-nil}
use Rattle.exb_model.specs.Tree.{Shape, is_extender}
use Rattle.exb_model.specs.Configuration.{Bridge}
use Rattle.exb_csp.specs.declared.ask_at.AskAt.{AskAt}
use Rattle.exb_control_spec.specs.declared.plan.change.Change.{Change}
use Rattle.exb_control_spec.specs.Plans.HeldNumbers.{Held}
use Rattle.exb_control_spec.specs.declared.job.Job.{Job}
use Rattle.exb_control_spec.specs.declared.job.Phase.TheVariants.{Preparing, Cleaning}
use Rattle.exb_control.specs.declared.stage.Stage.{Stage}
use Rattle.exb_control.specs.declared.stage.Stage.TheVariants.{AtRest, Prepared, InForce}
use Rattle.exb_control_spec.specs.Decisions.{Decide, bridge_after, release}
use Rattle.exb_control.specs.ActiveConfigs.{ActiveConfig, bridge_in, held_in, bridge_at_end, held_at_end}
use Rattle.exb_control_spec.specs.JobsOfTree.{Fits, AreFit}
use Rattle.exb_control_spec.specs.Machine.{Work, State}
use Rattle.exb_control_spec.specs.PlannedExchanges.{requests_of, requests_in, requests_by, bridge_left, held_left, unheard, planned}
use Rattle.exb_control.specs.declared.change_execution.ChangeExecutor.{ChangeExecutor}
use Rattle.exb_control.specs.Queues.{is_empty}
use Rattle.exb_control.specs.Controls.{decide_of, work_from, work_at}
use Rattle.exb_control.specs.MachineSteps.{Front, heard_of, state_in, left_at, unheard_to}
use Rattle.exb_control.specs.Soundness.{AsksOrRests}

pub drop_at : (js : List Job) (i : ℕ) (j : Job) → slice_get js i ≡ Some j → drop i js ≡ j ∷ drop (suc i) js
drop_at [] i j e = absurd (cc)
drop_at (k ∷ js) zero j e = let same : k ≡ j = cc in rw same refl
drop_at (k ∷ js) (suc i) j e = drop_at js i j e

-- ---- the jobs that wait
-- those before a place are run
pub record IsCounting (v0 v : ActiveConfig) (q : List Job) (place count : ℕ) : Type 0 where
  pub stage : v.stage ≡ AtRest
  pub shape : v.shape ≡ v0.shape
  pub limits : v.limits ≡ v0.limits
  pub fit : AreFit v0.shape (drop place q)
  pub rest : count + requests_in (decide_of v0) (bridge_in v) (held_in v) (drop place q) ≡ requests_in (decide_of v0) (bridge_in v0) (held_in v0) q
  pub few : count ≤ 2 ^ 21 * place

pub next_fits : (t : Shape) (q : List Job) (i : ℕ) (j : Job) → slice_get q i ≡ Some j → AreFit t (drop i q) → Fits t j × AreFit t (drop (i + 1) q)
next_fits t q i j e fit = let both = rw (drop_at q i j e) at fit in (both.0, rw add-one both.1)

pub requests_next : (decide : Decide) (b b' : Bridge) (h h' : Held) (q : List Job) (i count more total : ℕ) (j : Job) → slice_get q i ≡ Some j →
    more ≡ requests_of (decide b h j) → b' ≡ bridge_left j (decide b h j) b → h' ≡ held_left (decide b h j) h →
    count + requests_in decide b h (drop i q) ≡ total → count + more + requests_in decide b' h' (drop (i + 1) q) ≡ total
unfolding requests_in
requests_next decide b b' h h' q i count more total j e one bridge held before =
    rw (one, bridge, held, add-one)
    (add_assoc count (requests_of (decide b h j)) (requests_in decide (bridge_left j (decide b h j) b) (held_left (decide b h j) h) (drop (suc i) q))
    ∙ rw (drop_at q i j e) at before)

drop_past : (q : List Job) (i : ℕ) → length q ≤ i → drop i q ≡ []
drop_past [] zero past = refl
drop_past [] (suc i) past = refl
drop_past (j ∷ js) zero past = absurd (omega arith)
drop_past (j ∷ js) (suc i) past = drop_past js i (omega arith)

pub none_left : (decide : Decide) (b : Bridge) (h : Held) (q : List Job) (i count total : ℕ) → length q ≤ i → count + requests_in decide b h (drop i q) ≡ total → count ≡ total
unfolding requests_in
none_left decide b h q i count total past e = sym (add-zero count) ∙ (rw (drop_past q i past) at e)

-- where none waits
pub none_waits : (decide : Decide) (b : Bridge) (h : Held) (q : List Job) → is_empty q ≡ true → 0 ≡ requests_in decide b h q
unfolding requests_in
none_waits decide b h [] e = refl
none_waits decide b h (j ∷ js) e = absurd (cc)

-- ---- all of it
prepared_with : (j : Job) (x : Change) (decide : Decide) (s : State) (ys : List AskAt) → s.work ≡ work_from j x Preparing ys →
    (is_none (work_from j x Preparing ys) ≡ true → Prepared j x ≡ AtRest) →
    length ys + length x.cleanup + requests_in decide (bridge_after j s.bridge) (release x s.held) s.queue ≡ requests_by decide s.work s
prepared_with j x decide s [] work rests = absurd (never (rests refl))
  where
    never : Prepared j x ≡ AtRest → ⊥
    never e = cc
prepared_with j x decide s (a ∷ rest) work rests = ap (λ (o : Option Work). requests_by decide o s) (sym work)

forced_with : (j : Job) (x : Change) (decide : Decide) (s : State) (ys : List AskAt) → s.work ≡ work_from j x Cleaning ys →
    (is_none (work_from j x Cleaning ys) ≡ true → InForce j x ≡ AtRest) →
    length ys + requests_in decide s.bridge (release x s.held) s.queue ≡ requests_by decide s.work s
forced_with j x decide s [] work rests = absurd (never (rests refl))
  where
    never : InForce j x ≡ AtRest → ⊥
    never e = cc
forced_with j x decide s (a ∷ rest) work rests = ap (λ (o : Option Work). requests_by decide o s) (sym work)

requests_with : (stage : Stage) (place : ℕ) (decide : Decide) (s : State) → s.work ≡ work_at stage place → (is_none (work_at stage place) ≡ true → stage ≡ AtRest) →
    left_at stage place + requests_in decide (bridge_at_end stage s.bridge) (held_at_end stage s.held) s.queue ≡ requests_by decide s.work s
requests_with AtRest place decide s work rests =
    ap (λ (xs : List AskAt). length xs + 0 + requests_in decide s.bridge s.held s.queue) (drop-nil {X = AskAt} place)
    ∙ zero-add (requests_in decide s.bridge s.held s.queue)
    ∙ ap (λ (o : Option Work). requests_by decide o s) (sym work)
requests_with (Prepared j x) place decide s work rests = prepared_with j x decide s (drop place x.prepare) work rests
requests_with (InForce j x) place decide s work rests =
    ap (λ k. k + requests_in decide s.bridge (release x s.held) s.queue) (add-zero (length (drop place x.cleanup)))
    ∙ forced_with j x decide s (drop place x.cleanup) work rests

missing_as : (t : Shape) (heard : List Bool) (s : State) → s.heard ≡ heard_of heard → unheard_to t heard 64 ≡ unheard t s
unfolding unheard_to
missing_as t heard s same = ap (λ (hs : ℕ → Bool). count_by (λ n. is_extender t n && not (hs n)) (range_with_len 1 64)) (sym same)

pub all_planned : (t : Shape) (decide : Decide) (f : Front) (c : ChangeExecutor) (heard : List Bool) (b : Bridge) (h : Held) (q : List Job) (asked waiting missing : ℕ) →
    AsksOrRests c → f.heard ≡ heard → f.queue ≡ q → b ≡ bridge_at_end c.active.stage (bridge_in c.active) → h ≡ held_at_end c.active.stage (held_in c.active) →
    asked ≡ left_at c.active.stage c.place → waiting ≡ requests_in decide b h q → missing ≡ unheard_to t heard 64 →
    asked + waiting + missing ≡ planned t decide (state_in f c)
unfolding planned
all_planned t decide f c heard b h q asked waiting missing rests same is bridge held left requests none =
    let s = state_in f c in
    let end : requests_in decide b h q ≡ requests_in decide (bridge_at_end c.active.stage s.bridge) (held_at_end c.active.stage s.held) s.queue =
    ap (λ (x : Bridge). requests_in decide x h q) bridge
    ∙ ap (λ (x : Held). requests_in decide (bridge_at_end c.active.stage s.bridge) x q) held
    ∙ ap (λ (js : List Job). requests_in decide (bridge_at_end c.active.stage s.bridge) (held_at_end c.active.stage s.held) js) (sym is) in
    ap (λ k. k + waiting + missing) left
    ∙ ap (λ k. left_at c.active.stage c.place + k + missing) (requests ∙ end)
    ∙ ap (λ k. k + missing) (requests_with c.active.stage c.place decide s refl rests)
    ∙ ap (λ k. requests_by decide s.work s + k) (none ∙ missing_as t heard s (ap heard_of same))
