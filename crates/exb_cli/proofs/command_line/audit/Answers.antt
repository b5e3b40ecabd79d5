use Rattle.std.proofs.Common.{◌∙◌, ap, map, option_map, string_bytes}
use Rattle.exb_cli.specs.CommandLines.{Audit, items_of}
use Rattle.exb_cli.specs.ParserSteps.{ask_of}
use Rattle.exb_cli.proofs.InvocationLemmas.{audit-is}
use Rattle.exb_cli.proofs.command_line.audit.Goals as goal

pub returns-in_err-topology : goal.returns-in_err-topology
returns-in_err-topology c =
    ap (option_map ask_of) c.from_residual.ensures ∙ (ap (option_map Audit) c.in_err-topology.ensures ∙ audit-is (items_of (map string_bytes c.args.words.now)))

pub returns : goal.returns
returns c = ap (option_map Audit) c.in_ok-topology.ensures ∙ audit-is (items_of (map string_bytes c.args.words.now))
