use Rattle.std.proofs.lemmas.Result.{on_ok_weaker}
use Rattle.exb_world_spec.specs.Worlds.{Tick}
use Rattle.exb_world.proofs.StepLines.{enough, makes}
use Rattle.exb_world.proofs.live_steps.tick.Goals as goal

pub tell_rest-requires : goal.tell_rest-requires
tell_rest-requires c = enough c.args.site.now c.args.core.now c.tick.new.core _ _ _ c.args.room.now.post.log _ _ c.tell_nothing-from.ensures c.in_ok-tick.ensures

pub returns : goal.returns
returns c =
    on_ok_weaker c.tell_rest.result (λ told.
    makes c.args.site.now c.args.core.now c.tick.new.core (Tick c.args.seconds) c.args.room.now.post.log _ _ _ _ c.stays_live.ensures.stays c.requires.can tt tt c.has_low_serials.ensures c.tell_nothing-from.ensures c.in_ok-tick.ensures told) c.tell_rest.ensures
