use Rattle.std.proofs.lemmas.Result.{on_ok_weaker}
use Rattle.exb_extender.specs.Extenders.{far_of}
use Rattle.exb_world.specs.MachineWorlds.{whole_of}
use Rattle.exb_world.proofs.ExtenderReactions.{reacted_only}
use Rattle.exb_extender.proofs.SidesSent.{only_goes}
use Rattle.exb_world.proofs.extender_steps.take.Goals as goal

pub pass_on-requires-clause-can : goal.pass_on-requires-clause-can
pass_on-requires-clause-can c =
    only_goes (far_of c.args.core.now.far c.args.number).tables c.args.from c.args.word.bytes c.in-Some.out (rw c.bytes.ensures at c.in-Some.ensures)

pub returns-in-Some : goal.returns-in-Some
returns-in-Some c =
    let s = c.args.site.now in
    on_ok_weaker c.pass_on.result
    (reacted_only s.tree s (whole_of c.args.core.now) (whole_of c.pass_on.new.core) c.args.number c.args.word c.args.from c.in-Some.out c.args.room.now.post.log c.pass_on.new.post.log
    (rw c.bytes.ensures at c.in-Some.ensures))
    c.pass_on.ensures
