use Rattle.exb_timeline.proofs.NetSteps.{captured_low, command_low}
use Rattle.exb_timeline.proofs.bridge_timeline.Timeline.turn.Goals as goal

pub turn_by-requires-clause-command : goal.turn_by-requires-clause-command
turn_by-requires-clause-command c = command_low c.args.self.now.start c.command_moment.result c.requires.programme.1.start c.command_moment.ensures.before

pub turn_by-requires-clause-captured : goal.turn_by-requires-clause-captured
turn_by-requires-clause-captured c = captured_low c.requires.programme.0 c.args.self.now.captures c.moment.result c.requires.programme.1.opened c.moment.ensures
