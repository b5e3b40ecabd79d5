use Rattle.exb_control.specs.ActiveConfigs.{bridge_in, held_in, bridge_at_end, held_at_end}
use Rattle.exb_control.specs.Controls.{decide_of}
use Rattle.exb_control.proofs.PlannedExchanges.{all_planned}
use Rattle.std.proofs.Common.{refl, ap, ◌∙◌}
use Rattle.exb_model.specs.Tree.{Shape}
use Rattle.exb_control.specs.MachineSteps.{unheard_to}
use Rattle.exb_control.proofs.planned_exchanges.planned.Goals as goal

pub returns-clause-count : goal.returns-clause-count
returns-clause-count c f queue heard =
    let v = c.args.core.now.active in
    all_planned v.shape (decide_of v) f c.args.core.now c.args.heard.now (bridge_at_end v.stage (bridge_in v)) (held_at_end v.stage (held_in v)) c.args.queue.now
    c.left-asked.result c.in_ok-waiting.waiting c.unheard.result
    c.requires.rests heard queue refl refl c.left-asked.ensures.value c.in_ok-waiting.ensures.count (c.unheard.ensures.value ∙ ap (λ (t : Shape). unheard_to t c.args.heard.now 64) c.tree.ensures)
