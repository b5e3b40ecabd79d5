use Rattle.std.proofs.Common.{◌≡◌, ◌∙◌, ap, sym, subst}
use Rattle.std.specs.Prelude.{IfOk, OnOk}
use Rattle.exb_model.specs.declared.command.Command.TheVariants as command
use Rattle.exb_model.specs.Configuration.{after}
use Rattle.exb_config.specs.Tables.{bridge_of}
use Rattle.exb_control_spec.specs.declared.plan.change.Decision.{Decision}
use Rattle.exb_control_spec.specs.declared.plan.change.Decision.TheVariants as decision
use Rattle.exb_control_spec.specs.Plans.HeldNumbers.{Held}
use Rattle.exb_plan.specs.SpaceContents.{held_by}
use Rattle.exb_control_spec.specs.declared.job.Job.{Job}
use Rattle.exb_control_spec.specs.Decisions.{decide}
use Rattle.exb_control.specs.ActiveConfigs.{decision_of, held_after}
use Rattle.exb_control.proofs.Decisions.{plan_is, plan_held_is}
use Rattle.exb_control.proofs.decision.decide.Goals as goal

pub returns-in_ok-change-in-Opening-clause-decision : goal.returns-in_ok-change-in-Opening-clause-decision
unfolding decide
returns-in_ok-change-in-Opening-clause-decision c l has =
    let t = c.args.tree.now in
    let b = bridge_of c.args.config.now in
    let h = held_by c.args.spaces.now in
    ap decision.Ready c.in_ok-change-in-Opening.ensures ∙ ap (λ (j : Job). decision_of (decide t l b h j)) (sym c.in-Opening.is)

pub returns-in_ok-change-in-Opening-clause-claimed : goal.returns-in_ok-change-in-Opening-clause-claimed
unfolding decide
returns-in_ok-change-in-Opening-clause-claimed c l has =
    let t = c.args.tree.now in
    let b = bridge_of c.args.config.now in
    let h = held_by c.args.spaces.now in
    ap (λ (j : Job). held_after (decide t l b h j) h) (sym c.in-Opening.is)

pub returns-in-AutomaticUp-clause-decision : goal.returns-in-AutomaticUp-clause-decision
unfolding decide
returns-in-AutomaticUp-clause-decision c l has =
    let t = c.args.tree.now in
    let b = bridge_of c.args.config.now in
    let h = held_by c.args.spaces.now in
    subst (λ (d : Decision). IfOk c.plan.result (λ made. made ≡ d))
    (plan_is t l b (after (command.Up c.in-AutomaticUp.port) b) h ∙ ap (λ (j : Job). decision_of (decide t l b h j)) (sym c.in-AutomaticUp.is)) (c.plan.ensures.decision l has)

pub returns-in-AutomaticUp-clause-claimed : goal.returns-in-AutomaticUp-clause-claimed
unfolding decide
returns-in-AutomaticUp-clause-claimed c l has =
    let t = c.args.tree.now in
    let b = bridge_of c.args.config.now in
    let h = held_by c.args.spaces.now in
    subst (λ (g : Held). OnOk c.plan.result (held_by c.plan.new.spaces ≡ g))
    (plan_held_is t l b (after (command.Up c.in-AutomaticUp.port) b) h ∙ ap (λ (j : Job). held_after (decide t l b h j) h) (sym c.in-AutomaticUp.is)) (c.plan.ensures.claimed l has)

pub returns-in-Ordered-clause-decision : goal.returns-in-Ordered-clause-decision
unfolding decide
returns-in-Ordered-clause-decision c l has =
    let t = c.args.tree.now in
    let b = bridge_of c.args.config.now in
    let h = held_by c.args.spaces.now in
    subst (λ (d : Decision). IfOk c.plan-in-Ordered.result (λ made. made ≡ d))
    (plan_is t l b (after c.in-Ordered.command b) h ∙ ap (λ (j : Job). decision_of (decide t l b h j)) (sym c.in-Ordered.is)) (c.plan-in-Ordered.ensures.decision l has)

pub returns-in-Ordered-clause-claimed : goal.returns-in-Ordered-clause-claimed
unfolding decide
returns-in-Ordered-clause-claimed c l has =
    let t = c.args.tree.now in
    let b = bridge_of c.args.config.now in
    let h = held_by c.args.spaces.now in
    subst (λ (g : Held). OnOk c.plan-in-Ordered.result (held_by c.plan-in-Ordered.new.spaces ≡ g))
    (plan_held_is t l b (after c.in-Ordered.command b) h ∙ ap (λ (j : Job). held_after (decide t l b h j) h) (sym c.in-Ordered.is)) (c.plan-in-Ordered.ensures.claimed l has)
