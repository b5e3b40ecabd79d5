use Rattle.std.proofs.Common.{◌+◌, ◌∷◌, refl, ap, sym, ◌∙◌, arith, rules}
use Rattle.std.proofs.lemmas.Grind.{common_steps}
use Rattle.exb_model.specs.Input.{Ordered}
use Rattle.exb_timeline.specs.MergeOrder.{still_to_come}
use Rattle.exb_timeline.specs.Timelines.{played_with}
use Rattle.exb_timeline.proofs.CommandsAmongRecords.{command-next}
use Rattle.exb_timeline.proofs.TimelineNext.{command_coming}
use Rattle.exb_timeline.proofs.bridge_timeline.Timeline.take_command.Goals as goal

pub returns : goal.returns
returns c =
    record {
      programme = first_of (search rules, grind (arith, common_steps));
      captures = first_of (search rules, grind (arith, common_steps));
      coming = (
          let p = c.args.self.now in
          let all = c.requires.programme in
          command_coming all.0 p c.index-commands-self.result (p.taken + 1) c.moment_after.result all.1 c.requires.left c.index-commands-self.is refl c.moment_after.ensures.value c.moment_after.ensures.before
          c.requires.first);
      moment = first_of (search rules, grind (arith, common_steps));
      order = (
          λ streams first.
          (let p = c.args.self.now in
          command-next (played_with streams p) c.index-commands-self.result c.requires.programme.1.rising c.requires.left c.index-commands-self.is first
          ∙ ap (λ m. Ordered m (p.taken + 1) ∷ still_to_come (played_with streams (record p { taken = p.taken + 1 }))) (sym c.moment_after.ensures.value)));
    }
