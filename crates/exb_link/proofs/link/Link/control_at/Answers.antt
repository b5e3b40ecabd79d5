use Rattle.exb_link.proofs.Calls.{control_of}
use Rattle.exb_link.proofs.link.Link.control_at.Goals as goal

pub returns : goal.returns
returns c =
    let e = control_of c.self.inside.ahead c.self.inside.frames.items c.self.inside.control.items c.args.self.now c.self.invariant c.self.view_is in
    rw e c.word_at.ensures
