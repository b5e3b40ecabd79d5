use Rattle.exb_extender.specs.Fields.{state_of}
use Rattle.exb_extender.proofs.IdleLemmas.{all_round}
use Rattle.exb_extender.proofs.extenders.put_back.Goals as goal

pub returns : goal.returns
returns c = all_round c.args.passed (state_of c.args.extender.now) (state_of c.pass.new.self) c.requires c.idle.ensures.sound.beats c.pass.ensures
