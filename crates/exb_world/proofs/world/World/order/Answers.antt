use Rattle.std.proofs.lemmas.Result.{on_ok_weaker}
use Rattle.exb_world_spec.specs.Worlds.{Order}
use Rattle.exb_world.proofs.CallResults.{closes, might}
use Rattle.exb_world.proofs.world.World.order.Goals as goal

pub order-made-requires-clause-live : goal.order-made-requires-clause-live
order-made-requires-clause-live c = c.self.invariant c.if-self.false

pub returns-clause-ok : goal.returns-clause-ok
returns-clause-ok c = on_ok_weaker c.closed.result (closes c.order-made.result (Order c.args.command.now) _ _ _ _ _ _ _ _ c.self.view_is c.order-made.ensures) c.closed.ensures.made

pub returns-clause-may : goal.returns-clause-may
returns-clause-may c = on_ok_weaker c.closed.result (might c.order-made.result (Order c.args.command.now) _ _ _ _ _ _ _ _ c.self.view_is c.order-made.ensures) c.closed.ensures.made
