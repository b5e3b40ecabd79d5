use Rattle.std.proofs.Common.{refl}
use Rattle.std.proofs.lemmas.Result.{on_ok_weaker}
use Rattle.exb_world_spec.specs.Steps.{all_extenders}
use Rattle.exb_bridge.specs.TreeIndexes.{limits_in}
use Rattle.exb_world.specs.MachineWorlds.{whole_of}
use Rattle.exb_world.proofs.Beats.{near_asks, beat_is, all_beaten}
use Rattle.exb_world.proofs.world_beat.beat.Goals as goal

pub beat_control-requires : goal.beat_control-requires
beat_control-requires c =
    let s = c.args.site.now in
    let sent = c.in_ok-beat_ends.ensures in
    let asks =
    near_asks s.tree (limits_in s) all_extenders s (record (whole_of c.args.core.now) { beats = c.saturating_add-core.result }) (whole_of c.beat_ends.new.core) c.args.room.now.post.log c.beat_ends.new.room.post.log
    sent c.requires.asks in
    (refl, (sent.at, asks))

pub returns : goal.returns
returns c =
    let s = c.args.site.now in
    let core = (whole_of c.args.core.now) in
    on_ok_weaker c.beat_all_far.result (λ far.
    all_beaten s.tree s core (whole_of c.beat_ends.new.core) (whole_of c.beat_control.new.core) (whole_of c.beat_all_far.new.core) c.saturating_add-core.result c.args.room.now.post.log c.beat_ends.new.room.post.log c.beat_control.new.room.post.log c.beat_all_far.new.room.post.log
    (beat_is core.beats c.saturating_add-core.result c.saturating_add-core.ensures) c.in_ok-beat_ends.ensures c.in_ok-beat_control.ensures far) c.beat_all_far.ensures
