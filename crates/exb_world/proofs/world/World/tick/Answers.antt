use Rattle.std.proofs.lemmas.Result.{on_ok_weaker}
use Rattle.exb_world_spec.specs.Worlds.{Tick}
use Rattle.exb_world.proofs.CallResults.{closes, might}
use Rattle.exb_world.proofs.world.World.tick.Goals as goal

pub tick-made-requires-clause-live : goal.tick-made-requires-clause-live
tick-made-requires-clause-live c = c.self.invariant c.if-self.false

pub returns-clause-ok : goal.returns-clause-ok
returns-clause-ok c = on_ok_weaker c.closed.result (closes c.tick-made.result (Tick c.args.seconds) _ _ _ _ _ _ _ _ c.self.view_is c.tick-made.ensures) c.closed.ensures.made

pub returns-clause-may : goal.returns-clause-may
returns-clause-may c = on_ok_weaker c.closed.result (might c.tick-made.result (Tick c.args.seconds) _ _ _ _ _ _ _ _ c.self.view_is c.tick-made.ensures) c.closed.ensures.made
