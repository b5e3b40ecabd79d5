use Rattle.std.proofs.Common.{refl, arith, sym, ◌∙◌}
use Rattle.std.proofs.lemmas.Bool.{false≢true}
use Rattle.exb_model.specs.Setup.{IsStart}
use Rattle.exb_model.proofs.Validity.{all_more}
use Rattle.exb_model.proofs.setup.are_start.Goals as goal

pub returns-then-not-is_start : goal.returns-then-not-is_start
returns-then-not-is_start c t same =
    let i = c.loop-command.command-index in
    let x = c.command-item.result in (
      λ f. absurd (false≢true f),
      λ all. absurd (false≢true (sym c.if-not-is_start.true ∙ (c.is_start.ensures t same).1 (rw (sym c.command-item.is) at (all i x c.loop-command-test.true)))),
    )

pub loop-command-preserved : goal.loop-command-preserved
loop-command-preserved c t same =
    all_more (IsStart t) c.args.commands.now c.loop-command.command-index c.command-item.result c.loop-command-test.true c.command-item.is ((c.is_start.ensures t same).0 c.if-not-is_start.false) (c.loop-command.invariant t same)

pub returns : goal.returns
returns c t same = (λ _ k d lt. c.loop-command.invariant t same k d (omega (arith, c.loop-command-test.false)), λ _. refl)
