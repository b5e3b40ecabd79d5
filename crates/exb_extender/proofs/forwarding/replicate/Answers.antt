use Rattle.std.proofs.Common.{arith}
use Rattle.exb_frame.specs.TagValues.{tag_of}
use Rattle.exb_extender.specs.Tables.{tables_of}
use Rattle.exb_extender.proofs.ForwardingLemmas.{lowest, cleared_lower, begins, goes_on, has_room, ends}
use Rattle.exb_extender.proofs.forwarding.replicate.Goals as goal

pub ports-init : goal.ports-init
ports-init c = begins (tables_of c.args.tables.now) (tag_of c.args.tag.now) c.row-left.result _ c.args.frames.now.items c.requires.empty c.row-left.ensures

pub send_at-requires-clause-room : goal.send_at-requires-clause-room
send_at-requires-clause-room c = has_room (tables_of c.args.tables.now) (tag_of c.args.tag.now) c.ports.left _ c.ports.frames.items c.ports.invariant

pub ports-smaller : goal.ports-smaller
ports-smaller c = let low = lowest c.ports.left c.ports-test.true (omega (arith, c.ports.auto.left-fits)) in cleared_lower c.ports.left _ low.few low.bit

pub ports-preserved : goal.ports-preserved
ports-preserved c =
    let low = lowest c.ports.left c.ports-test.true (omega (arith, c.ports.auto.left-fits)) in
    goes_on (tables_of c.args.tables.now) (tag_of c.args.tag.now) c.ports.left _ _ c.ports.frames.items _ low c.ports.invariant c.send_at.ensures

pub returns : goal.returns
returns c = ends (tables_of c.args.tables.now) (tag_of c.args.tag.now) c.ports.left _ c.ports.frames.items c.ports-test.false c.ports.invariant
