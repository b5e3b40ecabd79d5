use Rattle.std.proofs.Common.{refl}
use Rattle.exb_timeline.proofs.TimelineNext.{command_soonest, captured_soonest}
use Rattle.exb_timeline.proofs.bridge_timeline.Timeline.next_moment.Goals as goal

pub returns-then-comes_first : goal.returns-then-comes_first
returns-then-comes_first c =
    command_soonest c.args.self.now c.command_moment-command.result c.moment-captured.result c.command_moment-command.result c.comes_first.result c.command_moment-command.ensures.value
    c.moment-captured.ensures c.comes_first.ensures c.if-comes_first.true refl

pub returns-else-comes_first : goal.returns-else-comes_first
returns-else-comes_first c =
    captured_soonest c.args.self.now c.command_moment-command.result c.moment-captured.result c.moment-captured.result c.comes_first.result c.command_moment-command.ensures.value
    c.moment-captured.ensures c.comes_first.ensures c.if-comes_first.false c.moment-captured.ensures
