use Rattle.std.proofs.lemmas.Result.{on_ok_weaker}
use Rattle.exb_world.specs.MachineWorlds.{whole_of}
use Rattle.exb_world.proofs.ExtenderSends.{all_sent}
use Rattle.exb_world.proofs.extender_sends.send_all.Goals as goal

pub returns : goal.returns
returns c =
    let t = c.args.site.now.tree in
    let n = c.args.number in
    let stamp = c.args.came.now.stamp in
    let f = c.args.came.now.frame.now in
    let x = c.args.reaction.now in
    let s = c.args.site.now in
    let frames = rw c.as_slice-outs.ensures.value at c.in_ok-send_frames.ensures in
    let first = rw c.as_slice-first.ensures.value at c.in_ok-send_own.ensures in
    on_ok_weaker c.send_own-2.result
    (λ second.
    all_sent t n stamp f x s (whole_of c.args.core.now) (whole_of c.send_frames.new.core) (whole_of c.send_own.new.core) (whole_of c.send_own-2.new.core) c.args.post.now.log c.send_frames.new.post.log c.send_own.new.post.log c.send_own-2.new.post.log
    frames first (rw c.as_slice-second.ensures.value at second))
    c.send_own-2.ensures
