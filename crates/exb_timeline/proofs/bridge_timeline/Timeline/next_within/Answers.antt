use Rattle.std.proofs.Common.{refl, ap, sym, ◌∙◌}
use Rattle.exb_timeline.specs.MergeOrder.{is_of}
use Rattle.exb_timeline.proofs.FaultCounts.{ok_not}
use Rattle.exb_timeline.proofs.SourcesOnShelf.{no_fewer, reads_none}
use Rattle.exb_timeline.proofs.TimelineNext.{within_second, some_within, soonest_told}
use Rattle.exb_timeline.proofs.bridge_timeline.Timeline.next_within.Goals as goal

pub returns-then-is_of : goal.returns-then-is_of
returns-then-is_of g c =
    record {
      programme = c.next.ensures.programme;
      coming = c.next.ensures.coming;
      within = within_second c.args.self.now c.next_moment.result c.next.result c.args.second c.is_of.result c.next_moment.ensures c.is_of.ensures c.if-is_of.true c.next.ensures.soonest;
      same = some_within _ c.args.self.now c.next_moment.result c.next.result c.args.second c.is_of.result c.next_moment.ensures c.is_of.ensures c.if-is_of.true c.next.ensures.soonest;
      order = c.next.ensures.order;
      other = (
          λ tells.
          some_within _ c.args.self.now c.next_moment.result c.next.result c.args.second c.is_of.result c.next_moment.ensures c.is_of.ensures c.if-is_of.true c.next.ensures.soonest);
      never = c.next.ensures.never;
      reads = c.next.ensures.reads;
      files = c.next.ensures.files;
      port = c.next.ensures.port;
      place = c.next.ensures.place;
      counts = c.next.ensures.counts;
      faults = c.next.ensures.faults;
      failed = c.next.ensures.failed;
    }

pub returns-else-is_of : goal.returns-else-is_of
returns-else-is_of g c =
    record {
      programme = c.requires.programme;
      coming = tt;
      within = tt;
      same = refl;
      order = λ tells. tt;
      other = (
          λ tells streams told.
          (let S = g.S.Shelf in
          let moment = soonest_told (S.file c.args.shelf.now) (S.ids c.args.shelf.now) c.args.self.now streams c.next_moment.result c.requires.programme told c.next_moment.ensures in
          ap (λ o. is_of o c.args.second) (sym moment) ∙ sym c.is_of.ensures ∙ c.if-is_of.false));
      never = λ tells p at e. absurd (ok_not _ _ e);
      reads = reads_none _ _;
      files = λ name. refl;
      port = λ p at e. absurd (ok_not _ _ e);
      place = λ p at e. absurd (ok_not _ _ e);
      counts = refl;
      faults = no_fewer (g.S.Shelf.faults c.args.shelf.now);
      failed = λ e. absurd (ok_not _ _ e);
    }
