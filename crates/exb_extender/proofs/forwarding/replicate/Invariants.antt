use Rattle.std.proofs.Common.{◌≡◌, ◌++◌}
use Rattle.exb_frame.specs.TagValues.{tag_of}
use Rattle.exb_csp.specs.Execution.{in_mask}
use Rattle.exb_extender.specs.SentFrames.{outs_where}
use Rattle.exb_extender.specs.Tables.{tables_of}
use Rattle.exb_extender.proofs.forwarding.replicate.Given as goal

-- what was added so far, and then the ports that are left, are all
abbrev pub invariant-ports : goal.invariant-ports
invariant-ports l =
    l.frames.items ++ outs_where (in_mask l.left) (tables_of l.tables) (tag_of l.tag)
    ≡ outs_where ((tables_of l.tables).pair l.tag.ecid) (tables_of l.tables) (tag_of l.tag)

abbrev pub decreases-ports : goal.decreases-ports
decreases-ports l = l.left
