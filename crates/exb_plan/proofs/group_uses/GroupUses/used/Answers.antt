use Rattle.std.proofs.Common.{◌≡◌, ◌-◌, [], ap, sym, ◌∙◌, rules}
use Rattle.std.specs.Prelude.{slice_index_or}
use Rattle.exb_plan.specs.UseCounts.{used_in}
use Rattle.exb_plan.proofs.UseRows.{used_none}
use Rattle.exb_plan.proofs.group_uses.GroupUses.used.Goals as goal

pub returns-in-None : goal.returns-in-None
returns-in-None c =
    let past : slice_index_or c.args.self.now (c.args.bridge_port - 1) [] ≡ [] = search rules in
    sym (ap used_in past ∙ used_none)
