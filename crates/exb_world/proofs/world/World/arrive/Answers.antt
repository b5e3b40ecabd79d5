use Rattle.std.proofs.lemmas.Result.{on_ok_weaker}
use Rattle.exb_world_spec.specs.Worlds.{Arrive}
use Rattle.exb_world.proofs.CallResults.{closes, might}
use Rattle.exb_world.proofs.world.World.arrive.Goals as goal

pub arrive-made-requires-clause-live : goal.arrive-made-requires-clause-live
arrive-made-requires-clause-live c = c.self.invariant c.if-self.false

pub returns-clause-ok : goal.returns-clause-ok
returns-clause-ok c = on_ok_weaker c.closed.result (closes c.arrive-made.result (Arrive c.args.arrival.now) _ _ _ _ _ _ _ _ c.self.view_is c.arrive-made.ensures) c.closed.ensures.made

pub returns-clause-may : goal.returns-clause-may
returns-clause-may c = on_ok_weaker c.closed.result (might c.arrive-made.result (Arrive c.args.arrival.now) _ _ _ _ _ _ _ _ c.self.view_is c.arrive-made.ensures) c.closed.ensures.made
