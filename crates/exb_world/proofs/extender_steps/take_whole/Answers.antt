use Rattle.exb_extender.specs.Machine.{Arrives}
use Rattle.exb_world.specs.MachineWorlds.{whole_of}
use Rattle.exb_world.proofs.ExtenderReactions.{reacted}
use Rattle.exb_world.proofs.extender_steps.take_whole.Goals as goal

pub returns : goal.returns
returns c =
    let s = c.args.site.now in
    let core = (whole_of c.args.core.now) in
    let n = c.args.number in
    let word = c.args.word in
    reacted s.tree s core (whole_of c.send_all.new.core) c.take.new.self n word.stamp (Arrives c.args.from word.bytes) word.bytes c.take.new.sends c.args.room.now.post.log c.send_all.new.post.log
    (rw c.bytes-frame.ensures at c.take.ensures.state) (rw c.bytes-frame.ensures at c.take.ensures.sends) (rw (c.bytes-frame.ensures, c.stamp.ensures) at c.in_ok-send_all.ensures)
