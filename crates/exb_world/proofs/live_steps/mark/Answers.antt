use Rattle.std.proofs.lemmas.Result.{on_ok_weaker}
use Rattle.exb_world_spec.specs.Worlds.{Mark}
use Rattle.exb_world.proofs.StepLines.{enough, makes}
use Rattle.exb_world.proofs.live_steps.mark.Goals as goal

pub tell_rest-requires : goal.tell_rest-requires
tell_rest-requires c = enough c.args.site.now c.args.core.now c.args.core.now _ _ _ c.args.room.now.post.log _ _ c.tell_nothing-from.ensures c.in_ok-mark.ensures

pub returns : goal.returns
returns c =
    on_ok_weaker c.tell_rest.result (λ told.
    makes c.args.site.now c.args.core.now c.args.core.now Mark c.args.room.now.post.log _ _ _ _ c.stays_live.ensures.stays c.requires.can tt tt c.has_low_serials.ensures c.tell_nothing-from.ensures c.in_ok-mark.ensures told) c.tell_rest.ensures
