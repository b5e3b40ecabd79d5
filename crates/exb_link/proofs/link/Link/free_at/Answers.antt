use Rattle.std.proofs.lemmas.Bool.{ltb-true, lt-ltb}
use Rattle.exb_link.proofs.Calls.{leading_of}
use Rattle.exb_link.proofs.link.Link.free_at.Goals as goal

pub returns : goal.returns
returns c =
    let e = leading_of c.self.inside.ahead c.self.inside.frames.items c.self.inside.control.items c.args.self.now c.self.invariant c.self.view_is in
    rw e (ltb-true c.args.at c.self.inside.ahead, lt-ltb c.args.at c.self.inside.ahead)
