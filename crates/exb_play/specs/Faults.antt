-- Why playing ended, as a fault of the whole.
use Rattle.exb_inputs.specs.Answers.{fault_again, fault_of}
use Rattle.exb_inputs.specs.declared.fault.Fault.{Fault}
use Rattle.exb_play.specs.declared.fault.PlayFault.{PlayFault}
use Rattle.exb_play.specs.declared.fault.PlayFault.TheVariants.{Reading, Writing}

abbrev pub fault_of_play : PlayFault → Fault
fault_of_play (Reading failure) = fault_again failure
fault_of_play (Writing failure) = fault_of failure
