use Rattle.std.proofs.Common.{subst}
use Rattle.std.specs.Prelude.{All}
use Rattle.exb_world_spec.specs.Runs.ReachedWorlds.{HasVid}
use Rattle.exb_world.proofs.WorldInvariant.{live_first}
use Rattle.exb_world.proofs.world.World.new.Goals as goal

pub invariant_of-result : goal.invariant_of-result
invariant_of-result c = λ awake.
    let site = c.in_ok-site.ensures in
    let core = c.in_ok-core.ensures in
    live_first c.setups_begin_sound.ensures c.begins_written.ensures c.args.setup.now c.in_ok-site.site c.in_ok-core.core c.requires (subst (All HasVid) c.as_slice.ensures c.name_vlans.ensures) site.tree site.limits core.world (core.at c.in_ok-site.site site.tree site.limits)

pub returns-clause-vids : goal.returns-clause-vids
returns-clause-vids c = subst (All HasVid) c.as_slice.ensures c.name_vlans.ensures
