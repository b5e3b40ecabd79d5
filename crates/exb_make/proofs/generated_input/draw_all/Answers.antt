use Rattle.std.proofs.Common.{◌∙◌, ap, map}
use Rattle.exb_make.specs.Draws.{generator_of}
use Rattle.exb_make.specs.GeneratedInputs.{all_drawn}
use Rattle.exb_make.specs.GeneratedParts.{frame_of}
use Rattle.exb_make.proofs.AllDraws.{drawn-whole}
use Rattle.exb_make.proofs.generated_input.draw_all.Goals as goal

pub returns : goal.returns
unfolding generator_of
returns c =
    let joined = rw c.new-start.ensures at c.in_ok-add_memberships.ensures in
    let ordered = rw c.new-commands.ensures at c.in_ok-add_orders.ensures in
    let arrived = rw c.new-arrived.ensures.items at c.in_ok-add_frames.ensures in
    drawn-whole c.seed_from_u64-rng.result c.add_memberships.new.rng c.add_pvids.new.rng c.add_orders.new.rng c.add_frames.new.rng c.add_memberships.new.start c.add_pvids.new.start
    c.add_orders.new.timed (map frame_of c.add_frames.new.arrived.items) joined c.in_ok-add_pvids.ensures ordered arrived
    ∙ ap all_drawn c.seed_from_u64-rng.ensures
