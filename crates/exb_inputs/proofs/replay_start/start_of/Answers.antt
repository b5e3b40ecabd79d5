use Rattle.std.proofs.Common.{rules, ◌≡◌, ◌∙◌, ap}
use Rattle.std.specs.Prelude.{Option, unwrap_or}
use Rattle.exb_inputs.proofs.FirstRecords.{earliest-start}
use Rattle.exb_inputs.proofs.replay_start.start_of.Goals as goal

pub returns : goal.returns
returns c =
    let value : c.unwrap_or.result ≡ unwrap_or c.earliest_in.result 0 = search rules in
    value ∙ ap (λ (o : Option _). unwrap_or o 0) c.earliest_in.ensures ∙ earliest-start c.args.checked.now
