use Rattle.exb_numbers.proofs.Uniqueness.{group_range, group_set, group_used}
use Rattle.exb_numbers.proofs.laws.groups_are_apart.Goals as goal

pub returns : goal.returns
returns c = record { range = group_range; set = group_set; used = group_used }
