use Rattle.exb_model_laws.proofs.FileOrder.{commands_in_file_order}
use Rattle.exb_model_laws.proofs.history_laws.commands_in_file_order.Goals as goal

pub returns : goal.returns
returns c = commands_in_file_order
