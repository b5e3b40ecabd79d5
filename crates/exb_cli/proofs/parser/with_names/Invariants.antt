use Rattle.std.proofs.Common.{◌≡◌, drop, map, string_bytes}
use Rattle.exb_cli.specs.CommandLines.{Name}
use Rattle.exb_cli.specs.ParserSteps.{with_all, gathered_of}
use Rattle.exb_cli.proofs.parser.with_names.Given as goal

-- the names that are left lead from what is said so far to the whole
abbrev pub invariant-loop-word : goal.invariant-loop-word
invariant-loop-word l =
    with_all (map Name (map string_bytes (drop l.word-index l.words))) (gathered_of l.said) ≡ with_all (map Name (map string_bytes l.words)) (gathered_of l.fn.said)
