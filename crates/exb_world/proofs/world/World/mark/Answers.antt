use Rattle.std.proofs.lemmas.Result.{on_ok_weaker}
use Rattle.exb_world_spec.specs.Worlds.{Mark}
use Rattle.exb_world.proofs.CallResults.{closes, might}
use Rattle.exb_world.proofs.world.World.mark.Goals as goal

pub mark-made-requires-clause-live : goal.mark-made-requires-clause-live
mark-made-requires-clause-live c = c.self.invariant c.if-self.false

pub returns-clause-ok : goal.returns-clause-ok
returns-clause-ok c = on_ok_weaker c.closed.result (closes c.mark-made.result Mark _ _ _ _ _ _ _ _ c.self.view_is c.mark-made.ensures) c.closed.ensures.made

pub returns-clause-may : goal.returns-clause-may
returns-clause-may c = on_ok_weaker c.closed.result (might c.mark-made.result Mark _ _ _ _ _ _ _ _ c.self.view_is c.mark-made.ensures) c.closed.ensures.made
