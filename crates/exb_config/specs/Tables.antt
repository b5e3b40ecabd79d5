-- The configuration that the tables stand for.
use Rattle.std.specs.Prelude.{List, Option}
use Rattle.exb_model.specs.declared.port_set.PortSet.{PortSet}
use Rattle.exb_model.specs.declared.rules.PortRule.{PortRule}
use Rattle.exb_model.specs.declared.rules.StaticAt.{StaticAt}
use Rattle.exb_model.specs.Ports.{port_in}
use Rattle.exb_model.specs.Configuration.{Bridge}
use Rattle.exb_config.specs.declared.members.Members.{Members}
use Rattle.exb_config.specs.Rows.{member_of, rule_of}

-- the present ports, the members of each VLAN that has any at the place of its number, a rule for each port, and the
-- static entries
pub record Tables : Type 0 where
  pub present : PortSet
  pub vlans : List (Option Members)
  pub rules : List PortRule
  pub statics : List StaticAt

unfoldable pub bridge_of : Tables → Bridge
bridge_of t = record {
  present = port_in t.present;
  member = member_of t.vlans;
  rule = rule_of t.rules;
  statics = t.statics;
}
