use Rattle.std.proofs.Common.{sym, ◌∙◌}
use Rattle.std.proofs.lemmas.List.{length-map}
use Rattle.exb_link.proofs.Calls.{control_of, data_of}
use Rattle.exb_link.proofs.link.Link.counts.Goals as goal

pub returns-clause-frames : goal.returns-clause-frames
returns-clause-frames c =
    let e = data_of c.self.inside.ahead c.self.inside.frames.items c.self.inside.control.items c.args.self.now c.self.invariant c.self.view_is in
    rw e (c.len.ensures ∙ c.self.inside.frames.ok.0 ∙ sym (length-map c.self.inside.frames.items _))

pub returns-clause-control : goal.returns-clause-control
returns-clause-control c =
    let e = control_of c.self.inside.ahead c.self.inside.frames.items c.self.inside.control.items c.args.self.now c.self.invariant c.self.view_is in
    rw e (c.len-2.ensures ∙ c.self.inside.control.ok.0)
