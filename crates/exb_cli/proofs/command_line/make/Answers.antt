use Rattle.std.proofs.Common.{◌∙◌, ap, map, option_map, option_and_then, string_bytes}
use Rattle.exb_cli.specs.CommandLines.{Make, items_of, number_in}
use Rattle.exb_cli.specs.ParserSteps.{ask_of}
use Rattle.exb_cli.proofs.InvocationLemmas.{make-is}
use Rattle.exb_cli.proofs.command_line.make.Goals as goal

pub returns-in_err-only_name : goal.returns-in_err-only_name
returns-in_err-only_name c =
    ap (option_map ask_of) c.from_residual.ensures
    ∙ (ap (λ o. option_map Make (option_and_then number_in o)) c.in_err-only_name.ensures ∙ make-is (items_of (map string_bytes c.args.words.now)))

pub returns-in_err-number : goal.returns-in_err-number
returns-in_err-number c =
    ap (option_map ask_of) c.from_residual-in_err-number.ensures
    ∙ (ap (option_map Make) c.in_err-number.ensures
    ∙ (ap (λ b. option_map Make (number_in b)) c.as_bytes.ensures.value
    ∙ (ap (λ o. option_map Make (option_and_then number_in o)) c.in_ok-only_name.ensures ∙ make-is (items_of (map string_bytes c.args.words.now)))))

pub returns : goal.returns
returns c =
    ap (option_map Make) c.in_ok-number.ensures
    ∙ (ap (λ b. option_map Make (number_in b)) c.as_bytes.ensures.value
    ∙ (ap (λ o. option_map Make (option_and_then number_in o)) c.in_ok-only_name.ensures ∙ make-is (items_of (map string_bytes c.args.words.now))))
