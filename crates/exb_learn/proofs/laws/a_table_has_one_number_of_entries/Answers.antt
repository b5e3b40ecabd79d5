use Rattle.exb_learn.proofs.EntryCounts.{one_number}
use Rattle.exb_learn.proofs.laws.a_table_has_one_number_of_entries.Goals as goal

pub returns : goal.returns
returns c = one_number
