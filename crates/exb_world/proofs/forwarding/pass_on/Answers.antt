use Rattle.std.proofs.Common.{subst}
use Rattle.std.proofs.lemmas.Result.{on_ok_weaker}
use Rattle.exb_extender.specs.declared.sends.Form.{Form}
use Rattle.exb_extender.specs.SentFrames.{CanBeGiven}
use Rattle.exb_world.specs.MachineWorlds.{whole_of}
use Rattle.exb_world.proofs.ExtenderSends.{as_it_is, without_tag}
use Rattle.exb_world.proofs.forwarding.pass_on.Goals as goal

pub returns-in-AsIs : goal.returns-in-AsIs
returns-in-AsIs c =
    let word = c.args.word in
    let s = c.args.site.now in
    on_ok_weaker c.send_to.result
    (as_it_is s.tree c.args.number word.stamp word.bytes c.args.out.now s (whole_of c.args.core.now) (whole_of c.send_to.new.core) c.args.post.now.log c.send_to.new.post.log c.in-AsIs.is)
    c.send_to.ensures

pub strip-requires-clause-long : goal.strip-requires-clause-long
strip-requires-clause-long c = subst (λ (form : Form). CanBeGiven c.args.word.bytes form) c.in-Stripped.is c.requires.can.form

pub returns-in-Stripped : goal.returns-in-Stripped
returns-in-Stripped c =
    let word = c.args.word in
    let s = c.args.site.now in
    on_ok_weaker c.strip.result
    (without_tag s.tree c.args.number word.stamp word.bytes c.args.out.now s (whole_of c.args.core.now) (whole_of c.strip.new.core) c.args.post.now.log c.strip.new.post.log c.in-Stripped.is)
    c.strip.ensures
