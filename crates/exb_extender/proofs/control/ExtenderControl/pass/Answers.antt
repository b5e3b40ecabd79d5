use Rattle.std.proofs.Common.{◌+◌, ◌%◌, sym, ap, ◌∙◌}
use Rattle.exb_extender.specs.ExtenderParts.{state_with}
use Rattle.exb_extender.specs.ControlState.{ControlState}
use Rattle.exb_extender.proofs.IdleLemmas.{rested_is, awake_is}
use Rattle.exb_extender.proofs.control.ExtenderControl.pass.Goals as goal

pub returns-then-rests : goal.returns-then-rests
returns-then-rests c = λ t.
    ap (λ (x : ControlState). record (state_with t x) { beats = (x.beats + c.args.beats) % 16 }) c.self.view_is
    ∙ sym (rested_is (state_with t c.args.self.now) (sym (c.rests.ensures t) ∙ c.if-rests.true) c.args.beats)

pub returns-else-rests : goal.returns-else-rests
returns-else-rests c = λ t. sym (awake_is c.args.beats (state_with t c.args.self.now) (sym (c.rests.ensures t) ∙ c.if-rests.false))
