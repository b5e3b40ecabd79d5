use Rattle.std.proofs.Common.{◌≡◌, ◌==◌, true, ap, ◌∙◌}
use Rattle.std.proofs.lemmas.Bool.{eq-eqb}
use Rattle.exb_model.specs.declared.address.Mac.{Mac}
use Rattle.exb_lldp.specs.Encoding.{spelling as announcement}
use Rattle.exb_extender.specs.SentFrames.{own_sent}
use Rattle.exb_extender.proofs.ControlLemmas.{own_announcement}
use Rattle.exb_extender.proofs.control.announce.Goals as goal

pub returns : goal.returns
returns c =
    let due : (c.args.count == 1) ≡ true = eq-eqb _ _ c.if-count-ne1.false in
    rw (c.if-opened.false, due)
    (ap own_sent (c.write.ensures.spelled ∙ ap (λ (m : Mac). announcement (record { chassis = m; ports = c.args.ports })) c.address_of.ensures)
    ∙ own_announcement c.args.number c.args.ports)
