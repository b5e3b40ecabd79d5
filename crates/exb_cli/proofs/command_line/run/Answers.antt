use Rattle.std.proofs.Common.{◌∙◌, ap, map, option_map, option_and_then, string_bytes, Some, None}
use Rattle.exb_cli.specs.ParserSteps.{run_from, ask_of}
use Rattle.exb_cli.proofs.InvocationLemmas.{run-is, run-said}
use Rattle.exb_cli.proofs.command_line.run.Goals as goal

pub returns-in_err-said : goal.returns-in_err-said
returns-in_err-said c =
    ap (option_map ask_of) c.from_residual.ensures ∙ (ap (option_and_then run_from) c.in_err-said.ensures ∙ run-is (map string_bytes c.args.words.now))

pub returns-in_err-topology : goal.returns-in_err-topology
returns-in_err-topology c =
    ap (option_map ask_of) c.from_residual-in_err-topology.ensures
    ∙ (run-said c.in_ok-said.said None c.in_err-topology.was ∙ (ap (option_and_then run_from) c.in_ok-said.ensures ∙ run-is (map string_bytes c.args.words.now)))

pub returns : goal.returns
returns c =
    run-said c.in_ok-said.said (Some c.in_ok-topology.topology) c.in_ok-topology.was
    ∙ (ap (option_and_then run_from) c.in_ok-said.ensures ∙ run-is (map string_bytes c.args.words.now))
