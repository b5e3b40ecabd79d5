use Rattle.std.proofs.lemmas.Result.{on_ok_weaker}
use Rattle.exb_world_spec.specs.Worlds.{Carry}
use Rattle.exb_world.specs.Steps.{way_of}
use Rattle.exb_world.proofs.CallResults.{closes, might}
use Rattle.exb_world.proofs.world.World.carry.Goals as goal

pub carry-made-requires-clause-live : goal.carry-made-requires-clause-live
carry-made-requires-clause-live c = c.self.invariant c.if-self.false

pub returns-clause-ok : goal.returns-clause-ok
returns-clause-ok c = on_ok_weaker c.closed.result (closes c.carry-made.result (Carry c.args.link (way_of c.args.way)) _ _ _ _ _ _ _ _ c.self.view_is c.carry-made.ensures) c.closed.ensures.made

pub returns-clause-may : goal.returns-clause-may
returns-clause-may c = on_ok_weaker c.closed.result (might c.carry-made.result (Carry c.args.link (way_of c.args.way)) _ _ _ _ _ _ _ _ c.self.view_is c.carry-made.ensures) c.closed.ensures.made
