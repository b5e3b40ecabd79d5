use Rattle.exb_world_spec.specs.Steps.{words_on}
use Rattle.exb_world.specs.WorldContracts.{world_of}
use Rattle.exb_world.specs.Steps.{way_of}
use Rattle.exb_schedule.proofs.FateVerdicts.{is_there, kept, lost, passed, repeated}
use Rattle.exb_schedule.proofs.delivery.take_control.Goals as goal

pub lose-requires : goal.lose-requires
lose-requires g c = (c.requires.there, is_there c.args.place (words_on c.args.link (way_of c.args.way) (world_of c.args.world.now)) c.requires.free)

pub returns-in_ok-deliver-in-Pass-clause-ok : goal.returns-in_ok-deliver-in-Pass-clause-ok
returns-in_ok-deliver-in-Pass-clause-ok g c = passed _ _ _ _ _ _ _ c.next.ensures.0 c.in_ok-deliver-in-Pass.ensures.ok c.in_ok-deliver-in-Pass.ensures.may

pub returns-in_ok-lose-in-Lose-clause-ok : goal.returns-in_ok-lose-in-Lose-clause-ok
returns-in_ok-lose-in-Lose-clause-ok g c = lost _ _ _ _ _ _ _ c.next.result c.in-Lose.is c.next.ensures.1 c.in_ok-lose-in-Lose.ensures.ok c.in_ok-lose-in-Lose.ensures.may

pub returns-in_ok-deliver-in-Twice-clause-ok : goal.returns-in_ok-deliver-in-Twice-clause-ok
returns-in_ok-deliver-in-Twice-clause-ok g c = repeated _ _ _ _ _ _ _ c.next.result c.in-Twice.is c.next.ensures.1 c.in_ok-deliver-in-Twice.ensures.ok c.in_ok-deliver-in-Twice.ensures.may

pub returns-in-Later-clause-ok : goal.returns-in-Later-clause-ok
returns-in-Later-clause-ok g c = kept _ _ _ _ _ _ c.next.result c.in-Later.is c.next.ensures.1
