use Rattle.std.proofs.lemmas.Result.{on_ok_weaker}
use Rattle.exb_world_spec.specs.Worlds.{Lose}
use Rattle.exb_bridge.specs.TreeIndexes.{limits_in}
use Rattle.exb_world.specs.Steps.{way_of}
use Rattle.exb_world.specs.MachineWorlds.{whole_of}
use Rattle.exb_world.proofs.StepLines.{enough, makes}
use Rattle.exb_world.proofs.StepBeginnings.{lost}
use Rattle.exb_world.proofs.live_steps.lose.Goals as goal

pub tell_rest-requires : goal.tell_rest-requires
tell_rest-requires c =
    let s = c.args.site.now in
    let effect = lost s (limits_in s) (whole_of c.args.core.now) (whole_of c.lose.new.core) c.args.link (way_of c.args.way) c.args.at c.tell_nothing-from.new.log c.lose.ensures.world c.lose.ensures.at in
    enough s c.args.core.now c.lose.new.core _ _ _ c.args.room.now.post.log _ _ c.tell_nothing-from.ensures effect

pub returns : goal.returns
returns c =
    let s = c.args.site.now in
    let effect = lost s (limits_in s) (whole_of c.args.core.now) (whole_of c.lose.new.core) c.args.link (way_of c.args.way) c.args.at c.tell_nothing-from.new.log c.lose.ensures.world c.lose.ensures.at in
    on_ok_weaker c.tell_rest.result (λ told.
    makes s c.args.core.now c.lose.new.core (Lose c.args.link (way_of c.args.way) c.args.at) c.args.room.now.post.log _ _ _ _ c.stays_live.ensures.stays c.requires.can tt tt c.has_low_serials.ensures c.tell_nothing-from.ensures effect told) c.tell_rest.ensures
