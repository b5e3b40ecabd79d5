use Rattle.std.proofs.Common.{true, false, Some, None, Err, refl, ap, arith, rules}
use Rattle.std.proofs.lemmas.Grind.{common_steps}
use Rattle.std.proofs.lemmas.Result.{err_from_is_err_and}
use Rattle.exb_model.specs.Input.{Captured}
use Rattle.exb_timeline.specs.declared.capture_merge.CaptureFault.TheVariants.{Read, Changed}
use Rattle.exb_timeline.specs.Timelines.{played_with}
use Rattle.exb_timeline.specs.Streams.{to_come}
use Rattle.exb_timeline.proofs.FaultCounts.{ok_not}
use Rattle.exb_timeline.proofs.CommandsAmongRecords.{record-next, none-left}
use Rattle.exb_timeline.proofs.SourcesOnShelf.{no_fewer, own_fault, reads_none}
use Rattle.exb_timeline.proofs.TimelineNext.{captured_soonest, record_coming, record_kept, first_told, told_still, all_taken}
use Rattle.exb_timeline.proofs.bridge_timeline.Timeline.next.Goals as goal

pub returns-then-comes_first : goal.returns-then-comes_first
returns-then-comes_first g c =
    record {
      programme = c.take_command.ensures.programme _ c.requires.programme;
      coming = c.take_command.ensures.coming;
      soonest = first_of (search rules, grind (arith, common_steps));
      end = tt;
      order = (
          λ tells streams told.
          (let S = g.S.Shelf in
          let files = S.file c.args.shelf.now in
          let ids = S.ids c.args.shelf.now in
          let p = c.args.self.now in
          let first = first_told files ids p streams c.command_moment.result c.moment.result c.comes_first.result true c.requires.programme told c.command_moment.ensures.value c.moment.ensures c.comes_first.ensures
          c.if-comes_first.true in
          (streams, c.take_command.ensures.order streams first, told_still files ids p.captures c.take_command.new.self.captures streams c.take_command.ensures.captures told)));
      nothing = λ tells. tt;
      never = λ tells p at e. absurd (ok_not _ (Changed p at) e);
      reads = reads_none _ _;
      files = λ name. refl;
      port = λ p at e. absurd (ok_not _ (Changed p at) e);
      place = λ p at e. absurd (ok_not _ (Changed p at) e);
      counts = refl;
      faults = no_fewer (g.S.Shelf.faults c.args.shelf.now);
      failed = λ e. absurd (ok_not _ Read e);
    }

pub returns-in-Some : goal.returns-in-Some
returns-in-Some g c =
    record {
      programme = (
          let S = g.S.Shelf in
          let p = c.args.self.now in
          record_kept (S.ids c.args.shelf.now) (S.ids c.next.new.shelf) p c.next.new.self c.requires.programme c.in_ok-came.ensures.opened (c.in_ok-came.ensures.told p.start c.requires.programme.since));
      coming = (
          let S = g.S.Shelf in
          let p = c.args.self.now in
          let come = rw c.in-Some.is at c.in_ok-came.ensures.come in
          let first = rw c.in-Some.is at c.in_ok-came.ensures.earliest in
          let rises = rw c.in-Some.is at c.in_ok-came.ensures.rises in
          let since_all = c.in_ok-came.ensures.since p.start c.requires.programme.since in
          let since = rw c.in-Some.is at since_all in
          let left = rw c.in-Some.is at c.in_ok-came.ensures.left in
          record_coming (S.ids c.args.shelf.now) p c.next.new.self c.in-Some.came c.command_moment.result c.moment.result c.comes_first.result c.requires.programme c.command_moment.ensures.value c.moment.ensures
          c.comes_first.ensures c.if-comes_first.false come first rises since left c.in_ok-came.ensures.ids);
      soonest = (
          let first = rw c.in-Some.is at c.in_ok-came.ensures.earliest in
          captured_soonest c.args.self.now c.command_moment.result c.moment.result (Some c.in-Some.came.moment) c.comes_first.result c.command_moment.ensures.value c.moment.ensures c.comes_first.ensures
          c.if-comes_first.false first);
      end = tt;
      order = (
          λ tells streams told.
          (let S = g.S.Shelf in
          let p = c.args.self.now in
          let first_of = c.in_ok-came.ensures.order tells streams told in
          let first = rw c.in-Some.is at first_of in
          let behind = first_told (S.file c.args.shelf.now) (S.ids c.args.shelf.now) p streams c.command_moment.result c.moment.result c.comes_first.result false c.requires.programme told
          c.command_moment.ensures.value c.moment.ensures c.comes_first.ensures c.if-comes_first.false in
          (first.0, record-next (played_with streams p) (Captured c.in-Some.came) (to_come first.0) c.requires.programme.rising first.1 behind, first.2)));
      nothing = λ tells. tt;
      never = λ tells p at e. absurd (ok_not _ (Changed p at) e);
      reads = c.in_ok-came.ensures.reads;
      files = c.in_ok-came.ensures.files;
      port = λ p at e. absurd (ok_not _ (Changed p at) e);
      place = λ p at e. absurd (ok_not _ (Changed p at) e);
      counts = c.in_ok-came.ensures.counts;
      faults = c.in_ok-came.ensures.faults;
      failed = λ e. absurd (ok_not _ Read e);
    }

pub returns-in-None : goal.returns-in-None
returns-in-None g c =
    record {
      programme = (
          let S = g.S.Shelf in
          let p = c.args.self.now in
          record_kept (S.ids c.args.shelf.now) (S.ids c.next.new.shelf) p c.next.new.self c.requires.programme c.in_ok-came.ensures.opened (c.in_ok-came.ensures.told p.start c.requires.programme.since));
      coming = tt;
      soonest = (
          let end = rw c.in-None.is at c.in_ok-came.ensures.end in
          captured_soonest c.args.self.now c.command_moment.result c.moment.result None c.comes_first.result c.command_moment.ensures.value c.moment.ensures c.comes_first.ensures c.if-comes_first.false end);
      end = (
          let S = g.S.Shelf in
          let p = c.args.self.now in
          let end = rw c.in-None.is at c.in_ok-came.ensures.end in (
            all_taken (S.ids c.args.shelf.now) p c.command_moment.result c.moment.result c.comes_first.result c.requires.programme c.command_moment.ensures.value c.moment.ensures c.comes_first.ensures
                c.if-comes_first.false end,
            end,
          ));
      order = λ tells. tt;
      nothing = (
          λ tells streams told.
          (let S = g.S.Shelf in
          let p = c.args.self.now in
          let first_of = c.in_ok-came.ensures.order tells streams told in
          let none = rw c.in-None.is at first_of in
          let behind = first_told (S.file c.args.shelf.now) (S.ids c.args.shelf.now) p streams c.command_moment.result c.moment.result c.comes_first.result false c.requires.programme told
          c.command_moment.ensures.value c.moment.ensures c.comes_first.ensures c.if-comes_first.false in
          none-left (played_with streams p) none behind));
      never = λ tells p at e. absurd (ok_not _ (Changed p at) e);
      reads = c.in_ok-came.ensures.reads;
      files = c.in_ok-came.ensures.files;
      port = λ p at e. absurd (ok_not _ (Changed p at) e);
      place = λ p at e. absurd (ok_not _ (Changed p at) e);
      counts = c.in_ok-came.ensures.counts;
      faults = c.in_ok-came.ensures.faults;
      failed = λ e. absurd (ok_not _ Read e);
    }

pub returns-in_err-came : goal.returns-in_err-came
returns-in_err-came g c =
    let e = err_from_is_err_and c.from_residual.result c.from_residual.ensures.1 in
    let fault = c.in_err-came.field-0.0 in
    let next = c.in_err-came.ensures in
    rw (e.1, e.2) (record {
      programme = tt;
      coming = tt;
      soonest = tt;
      end = tt;
      order = λ tells. tt;
      nothing = λ tells. tt;
      never = λ tells p at is. next.never tells p at (ap Err (own_fault fault (Changed p at) is));
      reads = next.reads;
      files = next.files;
      port = λ p at is. next.port p at (ap Err (own_fault fault (Changed p at) is));
      place = λ p at is. next.place p at (ap Err (own_fault fault (Changed p at) is));
      counts = next.counts;
      faults = next.faults;
      failed = λ is. next.failed (ap Err (own_fault fault Read is));
    })
