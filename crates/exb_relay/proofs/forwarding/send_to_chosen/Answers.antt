use Rattle.std.proofs.Common.{◌∙◌, ap}
use Rattle.exb_model.specs.declared.rules.PortRule.{PortRule}
use Rattle.exb_model.specs.declared.vlan.Kind.TheVariants.{Tagged, Untagged}
use Rattle.exb_relay.specs.declared.hearers.Hearers.{Hearers}
use Rattle.exb_relay.specs.Spaces.{numbers_of}
use Rattle.exb_relay.proofs.PassedHearers.{hearers_are, hearer_external}
use Rattle.exb_relay.proofs.forwarding.send_to_chosen.Goals as goal

pub send_to_hearers-requires-clause-tagged : goal.send_to_hearers-requires-clause-tagged
send_to_hearers-requires-clause-tagged c =
    let h : Hearers = record { config = c.args.config; members = c.args.passed.now.members; chosen = c.args.chosen; isolated = c.rule.result.isolated } in
    hearer_external c.args.tree.now h c.requires.external Tagged

pub send_to_hearers-requires-clause-untagged : goal.send_to_hearers-requires-clause-untagged
send_to_hearers-requires-clause-untagged c =
    let h : Hearers = record { config = c.args.config; members = c.args.passed.now.members; chosen = c.args.chosen; isolated = c.rule.result.isolated } in
    hearer_external c.args.tree.now h c.requires.external Untagged

pub returns : goal.returns
returns c =
    let h : Hearers = record { config = c.args.config; members = c.args.passed.now.members; chosen = c.args.chosen; isolated = c.rule.result.isolated } in
    let source = c.args.passed.now.source in
    c.send_to_hearers.ensures
    ∙ hearers_are h source.port c.args.passed.now.vid c.requires.members (ap (λ (r : PortRule). r.isolated) c.rule.ensures) c.args.tree.now (numbers_of c.args.spaces.now) source
