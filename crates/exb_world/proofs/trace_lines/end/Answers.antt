use Rattle.std.proofs.Common.{◌≡◌, ◌++◌, List, map, drop, refl, ap, ◌∙◌}
use Rattle.std.proofs.lemmas.List.{append_assoc}
use Rattle.std.proofs.lemmas.Result.{on_ok_weaker}
use Rattle.exb_model.specs.Traces.{TraceLine}
use Rattle.exb_model.specs.declared.event.Event.{Event}
use Rattle.exb_world_spec.specs.TraceLines.{all_told}
use Rattle.exb_world_spec.specs.Worlds.{Journal}
use Rattle.exb_world.proofs.StepLines.{kept_on}
use Rattle.exb_world.proofs.trace_lines.end.Goals as goal

pub returns : goal.returns
returns c =
    let log = c.args.post.now.log in
    let outs = c.replace.result.items in
    let journal = all_told (map Journal c.split_at.result.1.now) in
    let behind : c.split_at.result.1.now ≡ drop c.args.from log.events = c.split_at.ensures.back ∙ ap (λ (es : List Event). drop c.args.from es) c.as_slice.ensures in
    on_ok_weaker c.put_outs.result (λ moved.
    record {
      events = refl;
      passed = refl;
      left = refl;
      lines = kept_on log.tracing _ log.lines (all_told (map Journal (drop c.args.from log.events)) ++ log.outs.items) c.requires.tracing
          (moved
          ∙ ap (λ (xs : List TraceLine). xs ++ outs) c.in_ok-put_events.ensures
          ∙ append_assoc log.lines journal outs
          ∙ ap (λ (v : _). log.lines ++ (journal ++ v.items)) c.replace.ensures.value
          ∙ ap (λ (es : List Event). log.lines ++ (all_told (map Journal es) ++ log.outs.items)) behind);
      tracing = refl;
    }) c.put_outs.ensures
