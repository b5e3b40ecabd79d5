use Rattle.std.proofs.Common.{◌∙◌, ℕ, List, ap, replicate, false}
use Rattle.exb_model.specs.declared.rules.PortRule.{PortRule}
use Rattle.exb_model.specs.declared.rules.Accept.TheVariants as accept
use Rattle.exb_model.specs.Configuration.{default_rule}
use Rattle.exb_model.proofs.PortBits.{get_or-same}
use Rattle.exb_config.specs.Rows.{rule_of}
use Rattle.exb_config.proofs.port_rules.first_rules.Goals as goal

pub returns-clause-rules : goal.returns-clause-rules
returns-clause-rules c q =
    let rule : ℕ → PortRule = λ v. record { pvid = v; accept = accept.All; filter = false; isolated = false } in
    ap (λ (rs : List PortRule). rule_of rs q) (c.in_ok-from_elem.ensures.items_if_clones_equal (λ y e. e))
    ∙ ap (λ (v : ℕ). rule_of (replicate c.args.count (rule v)) q) c.default.ensures
    ∙ get_or-same {X = PortRule} c.args.count q default_rule
