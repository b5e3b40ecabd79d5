use Rattle.std.proofs.Common.{refl}
use Rattle.std.proofs.lemmas.Result.{err_from_is_err_and}
use Rattle.exb_run.proofs.generated_run.make_input.Goals as goal

pub returns-in_err-input : goal.returns-in_err-input
returns-in_err-input g c =
    let e = err_from_is_err_and c.from_residual.result c.from_residual.ensures.1 in
    rw (e.1, e.2) (record { line = tt; memory = refl })

pub play_made-played-requires-clause-made : goal.play_made-played-requires-clause-made
play_made-played-requires-clause-made g c =
    let i = c.in_ok-input.ensures in
    record {
      valid = i.valid;
      setup = i.setup;
      commands = i.commands;
      no_fate = i.no_fate;
      named = i.named;
      few = i.few;
      rising = i.rising;
      captures = i.captures;
      small = i.small;
    }
