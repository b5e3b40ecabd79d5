use Rattle.std.proofs.Common.{◌≡◌, map, string_bytes, length}
use Rattle.exb_cli.specs.ParserSteps.{gathered, gathered_of, nothing_said}
use Rattle.exb_cli.proofs.parser.read.Given as goal

-- the words that are left lead from what is said so far to the whole
abbrev pub invariant-loop-word : goal.invariant-loop-word
invariant-loop-word l = gathered (map string_bytes l.rest) (gathered_of l.said) ≡ gathered (map string_bytes l.words) nothing_said

abbrev pub decreases-loop-word : goal.decreases-loop-word
decreases-loop-word l = length l.rest
