use Rattle.std.proofs.Common.{map, string_bytes}
use Rattle.exb_cli.proofs.ParserSteps.{texts-first, texts-none}
use Rattle.exb_cli.proofs.InvocationLemmas.{words-none, words-run, words-check, words-make, words-audit, words-net, words-other}
use Rattle.exb_cli.proofs.command_line.accept.Goals as goal

pub returns-in_default : goal.returns-in_default
returns-in_default c = words-none (map string_bytes c.args.words.now) (texts-none string_bytes c.args.words.now c.in_default.ensures.cases)

pub returns-in-run : goal.returns-in-run
returns-in-run c =
    words-run (map string_bytes c.args.words.now) (map string_bytes c.in-Some.rest.now) c.as_str.result.now _
    (texts-first string_bytes c.args.words.now c.in-Some.rest.now c.in-Some.word.now c.as_str.result.now c.in-Some.ensures.cases.0 c.as_str.ensures.value) c.in-run.is c.run.ensures

pub returns-in-check : goal.returns-in-check
returns-in-check c =
    words-check (map string_bytes c.args.words.now) (map string_bytes c.in-Some.rest.now) c.as_str.result.now _
    (texts-first string_bytes c.args.words.now c.in-Some.rest.now c.in-Some.word.now c.as_str.result.now c.in-Some.ensures.cases.0 c.as_str.ensures.value) c.in-check.is c.check.ensures

pub returns-in-make : goal.returns-in-make
returns-in-make c =
    words-make (map string_bytes c.args.words.now) (map string_bytes c.in-Some.rest.now) c.as_str.result.now _
    (texts-first string_bytes c.args.words.now c.in-Some.rest.now c.in-Some.word.now c.as_str.result.now c.in-Some.ensures.cases.0 c.as_str.ensures.value) c.in-make.is c.make.ensures

pub returns-in-audit : goal.returns-in-audit
returns-in-audit c =
    words-audit (map string_bytes c.args.words.now) (map string_bytes c.in-Some.rest.now) c.as_str.result.now _
    (texts-first string_bytes c.args.words.now c.in-Some.rest.now c.in-Some.word.now c.as_str.result.now c.in-Some.ensures.cases.0 c.as_str.ensures.value) c.in-audit.is c.audit.ensures

pub returns-in-net : goal.returns-in-net
returns-in-net c =
    words-net (map string_bytes c.args.words.now) (map string_bytes c.in-Some.rest.now) c.as_str.result.now _
    (texts-first string_bytes c.args.words.now c.in-Some.rest.now c.in-Some.word.now c.as_str.result.now c.in-Some.ensures.cases.0 c.as_str.ensures.value) c.in-net.is c.net.ensures

pub returns-in_default-as_str : goal.returns-in_default-as_str
returns-in_default-as_str c =
    words-other (map string_bytes c.args.words.now) (map string_bytes c.in-Some.rest.now) c.as_str.result.now
    (texts-first string_bytes c.args.words.now c.in-Some.rest.now c.in-Some.word.now c.as_str.result.now c.in-Some.ensures.cases.0 c.as_str.ensures.value)
    c.in_default-as_str.not-run c.in_default-as_str.not-check c.in_default-as_str.not-make c.in_default-as_str.not-audit c.in_default-as_str.not-net
