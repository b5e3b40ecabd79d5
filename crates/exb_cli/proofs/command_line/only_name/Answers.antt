use Rattle.std.proofs.Common.{◌∙◌, ap, map, option_map, option_and_then, string_bytes}
use Rattle.exb_cli.specs.ParserSteps.{name_from}
use Rattle.exb_cli.proofs.InvocationLemmas.{name-is}
use Rattle.exb_cli.proofs.command_line.only_name.Goals as goal

pub returns-in_err-read : goal.returns-in_err-read
returns-in_err-read c = ap (option_map (λ w. w.now)) c.from_residual.ensures ∙ (ap (option_and_then name_from) c.in_err-read.ensures ∙ name-is (map string_bytes c.args.words.now))

pub returns : goal.returns
returns c = c.name_alone.ensures ∙ (ap (option_and_then name_from) c.in_ok-read.ensures ∙ name-is (map string_bytes c.args.words.now))
