use Rattle.std.proofs.Common.{map, take}
use Rattle.exb_control_spec.specs.Plans.Sets.{seen}
use Rattle.exb_plan.specs.Recount.{AreLowered, HaveRowsOf}
use Rattle.exb_plan.proofs.recount.lower_all.Given as goal

-- the parts so far are counted
abbrev pub invariant-loop-part : goal.invariant-loop-part
invariant-loop-part l = record {
  counts : AreLowered l.spaces (map seen (take l.part-index l.parts)) l.fn.uses l.uses;
  rows : HaveRowsOf l.fn.uses l.uses;
}
