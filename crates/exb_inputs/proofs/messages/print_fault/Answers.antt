use Rattle.exb_inputs.specs.Answers.{fault_line}
use Rattle.exb_inputs.proofs.FaultLines.{none_printed, some_line}
use Rattle.exb_inputs.proofs.messages.print_fault.Goals as goal

pub returns-in-Err-clause-short : goal.returns-in-Err-clause-short
returns-in-Err-clause-short g c = λ t. (0, some_line c.args.fault.now, none_printed (g.O.Sink.text c.args.out.now) (fault_line c.args.fault.now))
