use Rattle.exb_settling_laws.proofs.OrderFacts.{orderly}
use Rattle.exb_settling_laws.proofs.laws.turns_are_orderly.Goals as goal

pub returns : goal.returns
returns c t l w setting sound turn bytes room = orderly t l setting w sound turn bytes room
