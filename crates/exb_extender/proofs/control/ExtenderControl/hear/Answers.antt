use Rattle.std.proofs.Common.{ap, ◌∙◌}
use Rattle.exb_extender.specs.ExtenderParts.{state_in}
use Rattle.exb_extender.specs.Machine.{Reaction}
use Rattle.exb_extender.proofs.ControlLemmas.{heard_by}
use Rattle.exb_extender.proofs.control.ExtenderControl.hear.Goals as goal

pub returns-in-Ok-clause-state : goal.returns-in-Ok-clause-state
returns-in-Ok-clause-state c = c.hear_pdu.ensures.state ∙ ap (λ (r : Reaction). r.0) (heard_by c.args.frame.now (state_in c.args.tables.now c.args.self.now) _ c.in-Ok.ensures)

pub returns-in-Ok-clause-sends : goal.returns-in-Ok-clause-sends
returns-in-Ok-clause-sends c = c.hear_pdu.ensures.sends ∙ ap (λ (r : Reaction). r.1) (heard_by c.args.frame.now (state_in c.args.tables.now c.args.self.now) _ c.in-Ok.ensures)

pub returns-in-Err-clause-state : goal.returns-in-Err-clause-state
returns-in-Err-clause-state c = ap (λ (r : Reaction). r.0) (heard_by c.args.frame.now (state_in c.args.tables.now c.args.self.now) _ c.in-Err.ensures)

pub returns-in-Err-clause-sends : goal.returns-in-Err-clause-sends
returns-in-Err-clause-sends c =
    rw (c.requires.first, c.requires.second) (ap (λ (r : Reaction). r.1) (heard_by c.args.frame.now (state_in c.args.tables.now c.args.self.now) _ c.in-Err.ensures))
