use Rattle.std.proofs.Common.{[]}
use Rattle.std.specs.Prelude.{None}
use Rattle.std.proofs.lemmas.Result.{on_ok_weaker}
use Rattle.exb_extender.specs.Machine.{Beats}
use Rattle.exb_world.specs.MachineWorlds.{whole_of}
use Rattle.exb_world.proofs.ExtenderReactions.{reacted, none_go}
use Rattle.exb_world.proofs.extender_steps.beat.Goals as goal

pub send_all-requires-clause-can : goal.send_all-requires-clause-can
send_all-requires-clause-can c = none_go [] c.beat.new.sends.frames.items c.beat.ensures.none

pub returns : goal.returns
returns c =
    let s = c.args.site.now in
    on_ok_weaker c.send_all.result
    (λ done. reacted s.tree s (whole_of c.args.core.now) (whole_of c.send_all.new.core) c.beat.new.self c.args.number None Beats [] c.beat.new.sends c.args.room.now.post.log c.send_all.new.post.log c.beat.ensures.state c.beat.ensures.sends done)
    c.send_all.ensures
