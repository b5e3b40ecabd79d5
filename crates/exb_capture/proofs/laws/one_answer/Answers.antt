use Rattle.exb_capture.proofs.OneAnswer.{one_of_all}
use Rattle.exb_capture.proofs.laws.one_answer.Goals as goal

pub returns : goal.returns
returns c = one_of_all
