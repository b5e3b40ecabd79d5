use Rattle.exb_link.proofs.Calls.{data_of}
use Rattle.exb_link.proofs.link.Link.first_data.Goals as goal

pub returns : goal.returns
returns c =
    let e = data_of c.self.inside.ahead c.self.inside.frames.items c.self.inside.control.items c.args.self.now c.self.invariant c.self.view_is in
    rw e c.first_of.ensures
