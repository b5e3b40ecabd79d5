use Rattle.std.proofs.Common.{◌∙◌, ◌+◌, ◌*◌, List, ap}
use Rattle.exb_model.specs.declared.rules.PortRule.{PortRule}
use Rattle.exb_model.specs.Masks.{bits_of}
use Rattle.exb_model.proofs.MaskLemmas.{bits_of-same}
use Rattle.exb_config.specs.Rows.{rule_of}
use Rattle.exb_config.proofs.port_rules.PortRules.isolated_mask.Goals as goal

pub returns : goal.returns
returns c =
    c.mask.ensures ∙ bits_of-same _ _ 64 (λ j. c.self.invariant.1 (64 * c.args.device + j))
    ∙ ap (λ (rules : List PortRule). bits_of (λ j. (rule_of rules (64 * c.args.device + j)).isolated) 64) c.self.view_is
