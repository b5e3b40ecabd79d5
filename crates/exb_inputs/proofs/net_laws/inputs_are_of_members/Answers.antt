use Rattle.exb_inputs.proofs.MemberInputs.{input_is_of}
use Rattle.exb_inputs.proofs.net_laws.inputs_are_of_members.Goals as goal

pub returns : goal.returns
returns c = input_is_of
