use Rattle.exb_link.proofs.Calls.{new_kept, new_woven}
use Rattle.exb_link.proofs.link.Link.new.Goals as goal

pub invariant_of-result : goal.invariant_of-result
invariant_of-result c = new_kept c.new.result.items c.new-2.result.items c.new.ensures.items c.new-2.ensures.items

pub returns : goal.returns
returns c = new_woven 0 c.new.result.items c.new-2.result.items c.new.ensures.items c.new-2.ensures.items
