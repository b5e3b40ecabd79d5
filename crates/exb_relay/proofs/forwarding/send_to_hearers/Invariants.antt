use Rattle.std.proofs.Common.{◌≡◌, ◌++◌}
use Rattle.std.specs.List.{flat_map}
use Rattle.exb_model.specs.declared.vlan.Kind.TheVariants.{Tagged, Untagged}
use Rattle.exb_model.specs.Ports.{below}
use Rattle.exb_relay.specs.Spaces.{numbers_of}
use Rattle.exb_relay.specs.SendsBySource.{is_hearer, member_sends, member_list}
use Rattle.exb_relay.proofs.BridgePortBits.{at_bits}
use Rattle.exb_relay.proofs.forwarding.send_to_hearers.Given as goal

-- what was sent so far, and then what is sent at the ports that are left, are all
abbrev pub invariant-ports : goal.invariant-ports
invariant-ports l =
    l.sends.items ++ flat_map (at_bits l.left (member_sends l.tree (numbers_of l.spaces) l.source (is_hearer l.hearers Tagged) (is_hearer l.hearers Untagged))) (below 64)
    ≡ member_list l.tree (numbers_of l.spaces) l.source (is_hearer l.hearers Tagged) (is_hearer l.hearers Untagged)

abbrev pub decreases-ports : goal.decreases-ports
decreases-ports l = l.left
