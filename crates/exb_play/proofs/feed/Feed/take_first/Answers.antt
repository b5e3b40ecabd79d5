use Rattle.std.proofs.Common.{rules}
use Rattle.exb_inputs.proofs.Outcomes.{some_at}
use Rattle.exb_play.specs.Disks.{disk}
use Rattle.exb_play.proofs.GatheredSeconds.{takes-one}
use Rattle.exb_play.proofs.feed.Feed.take_first.Goals as goal

pub returns-in_ok-put-in-Some-Record-clause-taken : goal.returns-in_ok-put-in-Some-Record-clause-taken
returns-in_ok-put-in-Some-Record-clause-taken g c =
    let S = g.S.Shelf in
    let is = c.in-Some-Record.is in record {
      d = c.in-Some-Record.field-0;
      has =
          takes-one S.tells (disk S c.args.shelf.now) (disk S c.next.new.shelf) _ _ c.in-Some-Record.field-0 (some_at _ c.in_ok-came.field-0 c.in-Some-Record.field-0 is c.in_ok-came.ensures.coming)
          (λ t. some_at _ c.in_ok-came.field-0 c.in-Some-Record.field-0 is (c.in_ok-came.ensures.order t)) (search rules);
      within = search rules;
    }

pub returns-in-Some-Command-clause-taken : goal.returns-in-Some-Command-clause-taken
returns-in-Some-Command-clause-taken g c =
    let S = g.S.Shelf in
    let is = c.in-Some-Command.is in record {
      d = c.in-Some-Command.field-0;
      has =
          takes-one S.tells (disk S c.args.shelf.now) (disk S c.next.new.shelf) _ _ c.in-Some-Command.field-0 (some_at _ c.in_ok-came.field-0 c.in-Some-Command.field-0 is c.in_ok-came.ensures.coming)
          (λ t. some_at _ c.in_ok-came.field-0 c.in-Some-Command.field-0 is (c.in_ok-came.ensures.order t)) (search rules);
      within = search rules;
    }
