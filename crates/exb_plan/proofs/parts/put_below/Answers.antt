use Rattle.std.proofs.Common.{map}
use Rattle.exb_control_spec.specs.Plans.Sets.{seen}
use Rattle.exb_plan.proofs.PartLists.{parts_put, parts_left_out}
use Rattle.exb_plan.proofs.parts.put_below.Goals as goal

pub returns-then-not-is_reached : goal.returns-then-not-is_reached
returns-then-not-is_reached c t b here x ground is_part =
    parts_left_out t b x c.args.branches.now c.args.members.now c.args.bridge_port (map seen c.args.parts.now.items) ground is_part c.requires.from1 (c.requires.reached c.if-not-is_reached.true)

pub returns : goal.returns
returns c t b here x ground is_part =
    parts_put t b x c.args.branches.now c.args.members.now c.under-set.result c.except-set.result c.args.bridge_port
    (map seen c.args.parts.now.items) (map seen c.put.new.parts.items) (map seen c.put-2.new.parts.items)
    ground is_part c.requires.from1 c.under-set.ensures c.except-set.ensures c.in_ok-put.ensures c.in_ok-put-2.ensures
