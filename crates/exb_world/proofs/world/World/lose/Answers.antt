use Rattle.std.proofs.lemmas.Result.{on_ok_weaker}
use Rattle.exb_world_spec.specs.Worlds.{Lose}
use Rattle.exb_world.specs.Steps.{way_of}
use Rattle.exb_world.proofs.CallResults.{closes, might}
use Rattle.exb_world.proofs.world.World.lose.Goals as goal

pub lose-made-requires-clause-live : goal.lose-made-requires-clause-live
lose-made-requires-clause-live c = c.self.invariant c.if-self.false

pub returns-clause-ok : goal.returns-clause-ok
returns-clause-ok c = on_ok_weaker c.closed.result (closes c.lose-made.result (Lose c.args.link (way_of c.args.way) c.args.at) _ _ _ _ _ _ _ _ c.self.view_is c.lose-made.ensures) c.closed.ensures.made

pub returns-clause-may : goal.returns-clause-may
returns-clause-may c = on_ok_weaker c.closed.result (might c.lose-made.result (Lose c.args.link (way_of c.args.way) c.args.at) _ _ _ _ _ _ _ _ c.self.view_is c.lose-made.ensures) c.closed.ensures.made
