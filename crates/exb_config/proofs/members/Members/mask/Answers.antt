use Rattle.std.proofs.Common.{◌∙◌, ◌+◌, ◌*◌, sym, ap}
use Rattle.exb_model.specs.declared.vlan.Kind.{Kind}
use Rattle.exb_model.specs.Masks.{bits_of}
use Rattle.exb_model.specs.Configuration.{kind_in}
use Rattle.exb_model.specs.Refusals.{is_kind}
use Rattle.exb_config.proofs.PortMasks.{tagged_mask, untagged_mask}
use Rattle.exb_config.proofs.members.Members.mask.Goals as goal

pub returns-in-Tagged : goal.returns-in-Tagged
returns-in-Tagged c =
    let m = c.args.self.now in
    let d = c.args.device in
    rw (c.mask.ensures, c.mask-untagged.ensures)
    (tagged_mask m d ∙ ap (λ (kind : Kind). bits_of (λ j. is_kind kind (kind_in m.tagged m.untagged (64 * d + j))) 64) (sym c.in-Tagged.is))

pub returns-in-Untagged : goal.returns-in-Untagged
returns-in-Untagged c =
    let m = c.args.self.now in
    let d = c.args.device in
    c.mask-untagged.ensures ∙ (untagged_mask m d ∙ ap (λ (kind : Kind). bits_of (λ j. is_kind kind (kind_in m.tagged m.untagged (64 * d + j))) 64) (sym c.in-Untagged.is))
