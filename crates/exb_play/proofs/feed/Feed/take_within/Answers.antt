use Rattle.std.proofs.Common.{◌≡◌, false, rules, sym, subst}
use Rattle.std.specs.Prelude.{Option, IfNone}
use Rattle.exb_inputs.proofs.Outcomes.{some_at}
use Rattle.exb_timeline.specs.MergeOrder.{begins_in, still_to_come}
use Rattle.exb_timeline.specs.declared.bridge_timeline.Next.{Next}
use Rattle.exb_timeline.specs.declared.bridge_timeline.Timeline.{Timeline}
use Rattle.exb_timeline.specs.Timelines.{played_with}
use Rattle.exb_timeline.specs.CaptureMerges.{ids_in}
use Rattle.exb_outputs.proofs.UntouchedInputs.{replays-unread}
use Rattle.exb_play.specs.Disks.{disk}
use Rattle.exb_play.specs.RunInvariants.{HasStreams, NoMoreIn}
use Rattle.exb_play.proofs.GatheredSeconds.{takes-one}
use Rattle.exb_play.proofs.feed.Feed.take_within.Goals as goal

pub returns-in_ok-put-in-Some-Record-clause-taken : goal.returns-in_ok-put-in-Some-Record-clause-taken
returns-in_ok-put-in-Some-Record-clause-taken g c came =
    let S = g.S.Shelf in
    let is = c.in-Some-Record.is in record {
      d = c.in-Some-Record.field-0;
      has =
          takes-one S.tells (disk S c.args.shelf.now) (disk S c.next_within.new.shelf) _ _ c.in-Some-Record.field-0 (some_at _ c.in_ok-came.field-0 c.in-Some-Record.field-0 is c.in_ok-came.ensures.coming)
          (λ t. some_at _ c.in_ok-came.field-0 c.in-Some-Record.field-0 is (c.in_ok-came.ensures.order t)) (search rules);
      within = some_at _ c.in_ok-came.field-0 c.in-Some-Record.field-0 is c.in_ok-came.ensures.within;
    }

pub returns-in-Some-Command-clause-taken : goal.returns-in-Some-Command-clause-taken
returns-in-Some-Command-clause-taken g c came =
    let S = g.S.Shelf in
    let is = c.in-Some-Command.is in record {
      d = c.in-Some-Command.field-0;
      has =
          takes-one S.tells (disk S c.args.shelf.now) (disk S c.next_within.new.shelf) _ _ c.in-Some-Command.field-0 (some_at _ c.in_ok-came.field-0 c.in-Some-Command.field-0 is c.in_ok-came.ensures.coming)
          (λ t. some_at _ c.in_ok-came.field-0 c.in-Some-Command.field-0 is (c.in_ok-came.ensures.order t)) (search rules);
      within = some_at _ c.in_ok-came.field-0 c.in-Some-Command.field-0 is c.in_ok-came.ensures.within;
    }

pub returns-in-None-clause-end : goal.returns-in-None-clause-end
returns-in-None-clause-end g c t is streams replays =
    let S = g.S.Shelf in
    let p = c.args.self.now.programme in
    let q = c.next_within.new.self in
    let same : q ≡ p = subst (λ (o : Option Next). IfNone o (q ≡ p)) c.in-None.is c.in_ok-came.ensures.same in
    let none : NoMoreIn c.args.second (disk S c.args.shelf.now) p = subst (λ (o : Option Next). IfNone o (NoMoreIn c.args.second (disk S c.args.shelf.now) p)) c.in-None.is (c.in_ok-came.ensures.other t) in
    let before = subst (λ (x : Timeline). HasStreams (disk S c.next_within.new.shelf) x streams) same replays in
    subst (λ (x : Timeline). begins_in c.args.second (still_to_come (played_with streams x)) ≡ false) (sym same)
    (none streams
    (replays-unread (S.file c.args.shelf.now) (S.file c.next_within.new.shelf) (S.ids c.args.shelf.now) (S.ids c.next_within.new.shelf) (ids_in p.captures) p.captures.sources.items streams
    c.requires.feed.programme.opened.each (record { files = c.next_within.ensures.files; reads = c.next_within.ensures.reads }) before))
