use Rattle.std.proofs.Common.{◌<◌, Bool, List, length, ap, ◌∙◌, arith}
use Rattle.exb_control.specs.MachineSteps.{heard_of, noted}
use Rattle.exb_control.proofs.HeardExtenders.{note_set}
use Rattle.exb_control.proofs.announcements.Heard.note.Goals as goal

pub returns : goal.returns
returns c =
    let hs = c.self.inside.heard in
    let long = c.self.told in
    let within : c.args.extender < length hs = omega arith in
    note_set hs c.args.extender within ∙ ap (λ (h : List Bool). noted c.args.extender (heard_of h)) c.self.view_is
