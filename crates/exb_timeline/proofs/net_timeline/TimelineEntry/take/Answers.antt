use Rattle.exb_timeline.proofs.NetSteps.{about_next, none_next}
use Rattle.exb_timeline.proofs.net_timeline.TimelineEntry.take.Goals as goal

pub returns-clause-turn : goal.returns-clause-turn
returns-clause-turn g c = about_next c.args.self.now.turn c.args.self.now.programme c.in_ok-next.next c.requires.seated.turn c.in_ok-next.ensures.soonest

pub returns-clause-end : goal.returns-clause-end
returns-clause-end g c = none_next c.args.self.now.turn c.args.self.now.programme c.in_ok-next.next c.requires.seated.turn c.in_ok-next.ensures.soonest
