use Rattle.std.proofs.Common.{◌∙◌, sym, ap, option_map, string_bytes}
use Rattle.exb_cli.specs.ParserSteps.{gathered_of}
use Rattle.exb_cli.proofs.ParserSteps.{names-stop, names-go, names-end}
use Rattle.exb_cli.proofs.parser.with_names.Goals as goal

pub returns-in_err-said : goal.returns-in_err-said
returns-in_err-said c =
    ap (option_map gathered_of) c.from_residual.ensures
    ∙ names-stop string_bytes c.args.words.now c.loop-word.word-index c.word-item.result (gathered_of c.loop-word.said) c.as_str.result.now _
    c.loop-word-test.true c.word-item.is c.as_str.ensures.value c.in_err-said.ensures c.loop-word.invariant

pub loop-word-preserved : goal.loop-word-preserved
loop-word-preserved c =
    names-go string_bytes c.args.words.now c.loop-word.word-index c.word-item.result (gathered_of c.loop-word.said) (gathered_of c.in_ok-said.said) c.as_str.result.now _
    c.loop-word-test.true c.word-item.is c.as_str.ensures.value c.in_ok-said.ensures c.loop-word.invariant

pub returns : goal.returns
returns c =
    sym (names-end string_bytes c.args.words.now c.loop-word.word-index (gathered_of c.loop-word.said) c.loop-word-test.false) ∙ c.loop-word.invariant
