use Rattle.exb_capture.proofs.WorkedCaseLemmas.{the_row, another_interface, last_byte_cut, nothing_is_empty, the_table}
use Rattle.exb_capture.proofs.laws.rows_are_read.Goals as goal

pub returns : goal.returns
returns c = record { row = the_row; interface = another_interface; cut = last_byte_cut; empty = nothing_is_empty; table = the_table }
