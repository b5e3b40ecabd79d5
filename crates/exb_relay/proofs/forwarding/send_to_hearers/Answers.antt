use Rattle.std.proofs.Common.{arith}
use Rattle.exb_model.specs.declared.vlan.Kind.TheVariants.{Tagged, Untagged}
use Rattle.exb_relay.specs.Spaces.{numbers_of}
use Rattle.exb_relay.specs.SendsBySource.{is_hearer, member_sends, member_list}
use Rattle.exb_relay.proofs.BridgePortBits.{begins, goes_on, ends, has_room, lowest, cleared_lower, nothing_at}
use Rattle.exb_relay.proofs.forwarding.send_to_hearers.Goals as goal

pub ports-init : goal.ports-init
unfolding member_list
ports-init c =
    let t = c.args.tree.now in
    let tagged = is_hearer c.args.hearers.now Tagged in
    let untagged = is_hearer c.args.hearers.now Untagged in
    begins (member_sends t (numbers_of c.args.spaces.now) c.args.source.now tagged untagged) c.ways-left.result c.args.sends.now.items c.requires.empty
    (λ k low none. nothing_at t (numbers_of c.args.spaces.now) c.args.source.now tagged untagged k
    (c.ways-left.ensures.local Tagged k low none) (c.ways-left.ensures.local Untagged k low none) (λ q. c.ways-left.ensures.deep k q none))

pub send_at-requires-clause-room : goal.send_at-requires-clause-room
send_at-requires-clause-room c =
    has_room c.args.tree.now (numbers_of c.args.spaces.now) c.args.source.now (is_hearer c.args.hearers.now Tagged) (is_hearer c.args.hearers.now Untagged) c.ports.left c.ports.sends.items c.ports.invariant

pub ports-smaller : goal.ports-smaller
ports-smaller c = let low = lowest c.ports.left c.ports-test.true (omega (arith, c.ports.auto.left-fits)) in cleared_lower c.ports.left _ low.few low.bit

pub ports-preserved : goal.ports-preserved
ports-preserved c =
    let low = lowest c.ports.left c.ports-test.true (omega (arith, c.ports.auto.left-fits)) in
    goes_on (member_sends c.args.tree.now (numbers_of c.args.spaces.now) c.args.source.now (is_hearer c.args.hearers.now Tagged) (is_hearer c.args.hearers.now Untagged))
    c.ports.left _ c.ports.sends.items _ _ low c.ports.invariant c.send_at.ensures.items

pub returns : goal.returns
returns c =
    ends (member_sends c.args.tree.now (numbers_of c.args.spaces.now) c.args.source.now (is_hearer c.args.hearers.now Tagged) (is_hearer c.args.hearers.now Untagged))
    c.ports.left c.ports.sends.items _ c.ports-test.false c.ports.invariant
