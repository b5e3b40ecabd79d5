use Rattle.exb_plan.proofs.UseRows.{AreRows}
use Rattle.exb_plan.proofs.group_uses.GroupUses.new.Given as goal

abbrev pub invariant-loop-number : goal.invariant-loop-number
invariant-loop-number l = AreRows l.tree l.groups l.rows.items l.number
