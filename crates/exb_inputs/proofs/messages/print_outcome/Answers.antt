use Rattle.std.proofs.Common.{rules, ◌≡◌, List, ℕ, subst}
use Rattle.std.specs.Prelude.{OnErr}
use Rattle.exb_shelf.specs.Files.{AppendsFront, BreaksOff}
use Rattle.exb_inputs.specs.Answers.{line_of, fault_line}
use Rattle.exb_inputs.proofs.messages.print_outcome.Goals as goal

pub returns-in-Err-Usage-clause-err : goal.returns-in-Err-Usage-clause-err
unfolding fault_line
returns-in-Err-Usage-clause-err g c = λ tells.
    let same : c.as_bytes-in-Err-Usage.result.now ≡ line_of c.args.outcome.now = search rules in
    subst (λ (xs : List ℕ). OnErr c.print_text-in-Err-Usage.result (AppendsFront (g.O.Sink.text c.args.out.now) (g.O.Sink.text c.print_text-in-Err-Usage.new.out) xs)) same
    (c.print_text-in-Err-Usage.ensures.err tells)

pub returns-in-Err-Usage-clause-short : goal.returns-in-Err-Usage-clause-short
unfolding fault_line
returns-in-Err-Usage-clause-short g c = λ tells.
    let same : c.as_bytes-in-Err-Usage.result.now ≡ line_of c.args.outcome.now = search rules in
    subst (λ (xs : List ℕ). OnErr c.print_text-in-Err-Usage.result (BreaksOff (g.O.Sink.text c.args.out.now) (g.O.Sink.text c.print_text-in-Err-Usage.new.out) xs)) same
    (c.print_text-in-Err-Usage.ensures.short tells)
