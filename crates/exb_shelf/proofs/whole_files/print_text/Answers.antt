use Rattle.std.proofs.Common.{◌++◌, take, drop, length, ◌-◌, arith, append_assoc, ap, ◌∙◌}
use Rattle.exb_shelf.proofs.PieceLemmas.{take_on}
use Rattle.exb_shelf.proofs.whole_files.print_text.Goals as goal

pub loop-at-preserved : goal.loop-at-preserved
loop-at-preserved g c = record {
  place = omega (arith, c.in-Ok.ensures.bound);
  text = λ t. c.in-Ok.ensures.appended t
      ∙ ap (λ xs. xs ++ take c.in-Ok.n (take (length c.args.text.now - c.loop-at.at) (drop c.loop-at.at c.args.text.now))) (c.loop-at.invariant.text t)
      ∙ append_assoc _ (take c.loop-at.at c.args.text.now) _
      ∙ ap (λ xs. g.O.Sink.text c.args.out.now ++ xs) (take_on c.args.text.now c.loop-at.at c.in-Ok.n);
  counted = c.in-Ok.ensures.counts ∙ c.loop-at.invariant.counted;
  faults = omega (arith, c.in-Ok.ensures.faults);
}
