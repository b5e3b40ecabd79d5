use Rattle.exb_settling_laws.proofs.SettlingLaws.{setups_have_facts}
use Rattle.exb_settling_laws.proofs.laws.setups_have_facts.Goals as goal

pub returns : goal.returns
returns c = setups_have_facts
