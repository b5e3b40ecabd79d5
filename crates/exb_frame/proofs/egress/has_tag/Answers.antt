use Rattle.std.proofs.Common.{sym, ◌∙◌}
use Rattle.exb_frame.proofs.EgressLemmas.{leaves_long, plain_body, tag_body, tag_long}
use Rattle.exb_frame.proofs.egress.has_tag.Goals as goal

pub has_vlan_type-requires : goal.has_vlan_type-requires
has_vlan_type-requires c = leaves_long c.args.frame.now c.requires

pub returns-clause-long : goal.returns-clause-long
returns-clause-long c = leaves_long c.args.frame.now c.requires

pub returns-clause-tagged : goal.returns-clause-tagged
returns-clause-tagged c is =
    (tag_long c.args.frame.now c.requires (sym c.has_vlan_type.ensures ∙ is), tag_body c.args.frame.now c.requires (sym c.has_vlan_type.ensures ∙ is))

pub returns-clause-plain : goal.returns-clause-plain
returns-clause-plain c none = plain_body c.args.frame.now c.requires (sym c.has_vlan_type.ensures ∙ none)
