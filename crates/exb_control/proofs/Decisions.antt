-- What becomes of a job, and what then holds of the active configuration.
use Rattle.std.proofs.Common.{◌≡◌, ℕ, ◌*◌, ◌≤◌, ◌&&◌, true, List, [], Option, Some, None, filter, refl, sym, ◌∙◌, ap, subst, arith}
use Rattle.std.specs.Prelude.{nat_lt}
use Rattle.std.specs.List.{range_with_len}
use Rattle.std.proofs.lemmas.Bool.{and_parts, ltb-true}
use Rattle.exb_model.specs.declared.command.Command.{Command}
use Rattle.exb_model.specs.declared.command.Command.TheVariants as command
use Rattle.exb_model.specs.declared.event.Cause.{Cause}
use Rattle.exb_model.specs.Tree.{Shape, IsTree, is_port, is_cascade, device, port_number}
use Rattle.exb_model.specs.Setup.{Limits, NamesExternal}
use Rattle.exb_model.specs.Configuration.{Bridge, after}
use Rattle.exb_csp.specs.declared.message.Request.TheVariants.{PortCreate}
use Rattle.exb_csp.specs.declared.ask_at.AskAt.{AskAt}
use Rattle.exb_control_spec.specs.declared.plan.row_action.RowAction.TheVariants.{Lay}
use Rattle.exb_control_spec.specs.declared.plan.change.Change.{Change}
use Rattle.exb_control_spec.specs.declared.plan.change.Decision.{Decision}
use Rattle.exb_control_spec.specs.declared.plan.change.Decision.TheVariants as decision
use Rattle.exb_control_spec.specs.Plans.ChangeRequests.{ask, create_asks}
use Rattle.exb_control_spec.specs.Plans.HeldNumbers.{Held, HoldsNeeded, in_spaces}
use Rattle.exb_control_spec.specs.Plans.Differences.{refusal_between}
use Rattle.exb_control_spec.specs.Plans.Plans.{change_of, claimed, decision as plan_decision, decision_by, held_after as plan_held, held_by_cause}
use Rattle.exb_control_spec.proofs.Plans.EachElement.{few-filter}
use Rattle.exb_control_spec.proofs.Plans.Trunks.{extended_external}
use Rattle.exb_control_spec.specs.declared.job.Job.{Job}
use Rattle.exb_control_spec.specs.declared.job.Job.TheVariants as job
use Rattle.exb_control.specs.declared.stage.Stage.{Stage}
use Rattle.exb_control.specs.declared.stage.Stage.TheVariants.{AtRest, Prepared}
use Rattle.exb_control_spec.specs.Decisions.{Outcome, Refused, Ready, decide, outcome_by, outcome_between, opening_asks, opening_change, cascades_of, channel_of, bridge_after, release}
use Rattle.exb_control_spec.specs.JobsOfTree.{Fits, HasExternals}
use Rattle.exb_control.specs.ActiveConfigs.{HoldsIn, IsShort, stage_of, cause_of, held_after, decision_of}
use Rattle.exb_control_spec.specs.RequestLaws.{IsPlanned}
use Rattle.exb_control_spec.proofs.Plans.PlanLengths.{flat_at_most, few_range}
use Rattle.exb_control_spec.proofs.RequestCounts.{channel_few, changes_are_short}
use Rattle.exb_control_spec.proofs.ReleasedNumbers.{released_is_needed}
use Rattle.exb_control_spec.proofs.Commands.{step_of, external_after}
use Rattle.exb_control_spec.proofs.Claims.{claimed_placed, change_placed, opening_placed}

-- ---- what is said of an outcome
abbrev pub said_cause : Decision → Option Cause
said_cause (decision.Refused x) = Some x
said_cause (decision.Ready x) = None

abbrev pub said_stage : Job → Decision → Stage
said_stage j (decision.Refused x) = AtRest
said_stage j (decision.Ready x) = Prepared j x

pub cause_is : (d : Decision) (o : Outcome) → d ≡ decision_of o → said_cause d ≡ cause_of o
cause_is d o e = ap said_cause e ∙ by_outcome o
  where
    by_outcome : (o : Outcome) → said_cause (decision_of o) ≡ cause_of o
    by_outcome (Refused x) = refl
    by_outcome (Ready x h) = refl

pub stage_is : (j : Job) (d : Decision) (o : Outcome) → d ≡ decision_of o → said_stage j d ≡ stage_of j o
stage_is j d o e = ap (said_stage j) e ∙ by_outcome o
  where
    by_outcome : (o : Outcome) → said_stage j (decision_of o) ≡ stage_of j o
    by_outcome (Refused x) = refl
    by_outcome (Ready x h) = refl

-- ---- at the cascade ports of the bridge
placed : Shape → Outcome → Outcome
placed t (Refused x) = Refused x
placed t (Ready x h) = Ready x (in_spaces t h)

between_placed : (t : Shape) → IsTree t → (l : Limits) (old new : Bridge) (h : Held) → outcome_between t l old new (in_spaces t h) ≡ placed t (outcome_between t l old new h)
unfolding placed
between_placed t valid l old new h =
    ap (λ (x : Change). outcome_by (refusal_between t l old new) x (claimed t l old new (in_spaces t h))) (change_placed t valid l old new h)
    ∙ (ap (outcome_by (refusal_between t l old new) (change_of t l old new h)) (claimed_placed t valid l old new h)
    ∙ by_refusal (refusal_between t l old new))
  where
    by_refusal : (o : Option Cause) → outcome_by o (change_of t l old new h) (in_spaces t (claimed t l old new h)) ≡ placed t (outcome_by o (change_of t l old new h) (claimed t l old new h))
    by_refusal None = refl
    by_refusal (Some x) = refl

decide_placed : (t : Shape) → IsTree t → (l : Limits) (b : Bridge) (h : Held) (j : Job) → Fits t j → decide t l b (in_spaces t h) j ≡ placed t (decide t l b h j)
unfolding decide placed
decide_placed t valid l b h (job.Opening n) fits =
    let some = ltb-true 0 n (and_parts (nat_lt 0 n) _ fits).0 in
    ap (λ (asks : List AskAt). Ready (record { prepare = asks; cleanup = []; channels = []; groups = [] }) (in_spaces t h)) (opening_placed t valid n some h)
decide_placed t valid l b h (job.AutomaticUp p) fits = between_placed t valid l b (after (command.Up p) b) h
decide_placed t valid l b h (job.Ordered n c) fits = between_placed t valid l b (after c b) h

module _ (t : Shape) (valid : IsTree t) (l : Limits) (b : Bridge) (h : Held) (j : Job) (fits : Fits t j) where
  pub cause_placed : cause_of (decide t l b (in_spaces t h) j) ≡ cause_of (decide t l b h j)
  unfolding placed
  cause_placed = ap cause_of (decide_placed t valid l b h j fits) ∙ by_outcome (decide t l b h j)
    where
      by_outcome : (o : Outcome) → cause_of (placed t o) ≡ cause_of o
      by_outcome (Refused x) = refl
      by_outcome (Ready x g) = refl

  pub stage_placed : stage_of j (decide t l b (in_spaces t h) j) ≡ stage_of j (decide t l b h j)
  unfolding placed
  stage_placed = ap (stage_of j) (decide_placed t valid l b h j fits) ∙ by_outcome (decide t l b h j)
    where
      by_outcome : (o : Outcome) → stage_of j (placed t o) ≡ stage_of j o
      by_outcome (Refused x) = refl
      by_outcome (Ready x g) = refl

  pub held_placed : held_after (decide t l b (in_spaces t h) j) (in_spaces t h) ≡ in_spaces t (held_after (decide t l b h j) h)
  unfolding placed
  held_placed = ap (λ (o : Outcome). held_after o (in_spaces t h)) (decide_placed t valid l b h j fits) ∙ by_outcome (decide t l b h j)
    where
      by_outcome : (o : Outcome) → held_after (placed t o) (in_spaces t h) ≡ in_spaces t (held_after o h)
      by_outcome (Refused x) = refl
      by_outcome (Ready x g) = refl

-- ---- a plan is what is decided
module _ (t : Shape) (l : Limits) (old new : Bridge) (h : Held) where
  pub plan_is : plan_decision t l old new h ≡ decision_of (outcome_between t l old new h)
  unfolding plan_decision
  plan_is = by_refusal (refusal_between t l old new)
    where
      by_refusal : (o : Option Cause) → decision_by o (change_of t l old new h) ≡ decision_of (outcome_by o (change_of t l old new h) (claimed t l old new h))
      by_refusal None = refl
      by_refusal (Some x) = refl

  pub plan_held_is : plan_held t l old new h ≡ held_after (outcome_between t l old new h) h
  unfolding plan_held
  plan_held_is = by_refusal (refusal_between t l old new)
    where
      by_refusal : (o : Option Cause) → held_by_cause o h (claimed t l old new h) ≡ held_after (outcome_by o (change_of t l old new h) (claimed t l old new h)) h
      by_refusal None = refl
      by_refusal (Some x) = refl

-- ---- what holds then
opening_short : (t : Shape) (n : ℕ) (h : Held) → IsShort (opening_change t n h)
unfolding opening_asks cascades_of create_asks
opening_short t n h =
    let cascades = few-filter (λ q. is_port t q && is_cascade t q) (range_with_len (64 * n) 64) in
    let range = few_range (64 * n) 64 in
    let asks = flat_at_most (λ q. create_asks t q true (channel_of t h q)) 65 (λ q. channel_few t Lay q (channel_of t h q) (ask (device q) (PortCreate (port_number q) true (channel_of t h q))))
    (filter (λ q. is_port t q && is_cascade t q) (range_with_len (64 * n) 64)) in
    record { prepare = omega (arith, asks, cascades, range); cleanup = omega arith }

module _ (t : Shape) (valid : IsTree t) (l : Limits) (few : l.channels ≤ 4094) (enough : l.groups ≤ 12288) (b : Bridge) (external : HasExternals t b) (h : Held)
    (needed : HoldsNeeded t b h) where
  pub planned : (c : Command) → NamesExternal t c → refusal_between t l b (after c b) ≡ None → IsPlanned t l b (after c b) h
  planned c names fits = record { tree = valid; channels = few; groups = enough; step = step_of t b c names external; needed = needed; fits = fits }

  short_of : (c : Command) → IsPlanned t l b (after c b) h → IsShort (change_of t l b (after c b) h)
  unfolding change_of
  short_of c p = (let s = changes_are_short t l b (after c b) h p in record { prepare = s.0; cleanup = s.1 })

  between_holds : (j : Job) (c : Command) → NamesExternal t c → Fits t j → bridge_after j b ≡ after c b → (o : Option Cause) → refusal_between t l b (after c b) ≡ o →
      HoldsIn t b (held_after (outcome_by o (change_of t l b (after c b) h) (claimed t l b (after c b) h)) h) (stage_of j (outcome_by o (change_of t l b (after c b) h) (claimed t l b (after c b) h)))
  between_holds j c names fits is (Some x) e = needed
  between_holds j c names fits is None e =
      let p = planned c names e in
      (short_of c p, fits, subst (λ (k : Bridge). HoldsNeeded t k (release (change_of t l b (after c b) h) (claimed t l b (after c b) h))) (sym is) (released_is_needed t l b (after c b) h p))

  pub decided_holds : (j : Job) → Fits t j → HoldsIn t b (held_after (decide t l b h j) h) (stage_of j (decide t l b h j))
  unfolding decide
  decided_holds (job.Opening n) fits = (opening_short t n h, fits, needed)
  decided_holds (job.AutomaticUp p) fits = between_holds (job.AutomaticUp p) (command.Up p) (extended_external t p fits) fits refl (refusal_between t l b (after (command.Up p) b)) refl
  decided_holds (job.Ordered n c) fits = between_holds (job.Ordered n c) c fits fits refl (refusal_between t l b (after c b)) refl

-- a job's configuration has external ports alone
pub external_job : (t : Shape) (b : Bridge) (j : Job) → Fits t j → HasExternals t b → HasExternals t (bridge_after j b)
external_job t b (job.Opening n) fits external = external
external_job t b (job.AutomaticUp p) fits external = external_after t b (command.Up p) (extended_external t p fits) external
external_job t b (job.Ordered n c) fits external = external_after t b c fits external
