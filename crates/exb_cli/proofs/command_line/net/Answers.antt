use Rattle.std.proofs.Common.{◌∙◌, ap, map, option_map, option_and_then, string_bytes}
use Rattle.exb_cli.specs.ParserSteps.{ask_of, net_from}
use Rattle.exb_cli.proofs.InvocationLemmas.{net-is}
use Rattle.exb_cli.proofs.command_line.net.Goals as goal

pub returns-in_err-read : goal.returns-in_err-read
returns-in_err-read c = ap (option_map ask_of) c.from_residual.ensures ∙ (ap (option_and_then net_from) c.in_err-read.ensures ∙ net-is (map string_bytes c.args.words.now))

pub returns : goal.returns
returns c = c.named_net.ensures ∙ (ap (option_and_then net_from) c.in_ok-read.ensures ∙ net-is (map string_bytes c.args.words.now))
