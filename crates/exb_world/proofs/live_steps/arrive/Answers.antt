use Rattle.std.proofs.Common.{subst}
use Rattle.std.proofs.lemmas.Result.{on_ok_weaker}
use Rattle.exb_model.specs.Frames.{IsBytes}
use Rattle.exb_world_spec.specs.Worlds.{Arrive}
use Rattle.exb_world.proofs.StepLines.{enough, makes}
use Rattle.exb_world.proofs.live_steps.arrive.Goals as goal

pub tell_rest-requires : goal.tell_rest-requires
tell_rest-requires c = enough c.args.site.now c.args.core.now c.arrive.new.core _ _ _ c.args.room.now.post.log _ _ c.in_ok-from.ensures c.in_ok-arrive.ensures

pub returns : goal.returns
returns c =
    on_ok_weaker c.tell_rest.result (λ told.
    makes c.args.site.now c.args.core.now c.arrive.new.core (Arrive c.args.arrival.now) c.args.room.now.post.log _ _ _ _ c.stays_live.ensures.stays c.requires.can (subst IsBytes c.as_slice.ensures c.are_bytes.ensures) tt c.has_low_serials.ensures c.in_ok-from.ensures c.in_ok-arrive.ensures told) c.tell_rest.ensures
