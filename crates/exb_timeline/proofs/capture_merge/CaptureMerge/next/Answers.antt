use Rattle.std.proofs.Common.{◌≡◌, ◌+◌, Err, map, refl, sym, ap, ◌∙◌, arith, rules}
use Rattle.std.proofs.lemmas.Grind.{common_steps}
use Rattle.exb_shelf.specs.Files.{bytes_of}
use Rattle.exb_capture.proofs.ReplayLemmas.{never_replayed}
use Rattle.exb_timeline.specs.declared.capture_merge.CaptureSource.{CaptureSource}
use Rattle.exb_model.specs.declared.arrival.Arrival.{Arrival}
use Rattle.exb_timeline.specs.CaptureMerges.{IsOpened, next_in}
use Rattle.exb_timeline.specs.declared.capture_merge.CaptureFault.TheVariants.{Read, Changed}
use Rattle.exb_timeline.proofs.FaultCounts.{memory_not_changed, memory_not_read, not_read, ok_not, port_at, turn_port, turn_within}
use Rattle.exb_timeline.proofs.SourcesOnShelf.{changed_at, no_fewer, opened_next, own_fault, read_is, reads_none, rises_next}
use Rattle.exb_timeline.proofs.NextRecord.{at_taken, has_rest, moves_taken, next_apart, next_come, next_each, next_earliest, next_ids, next_left, next_reads, next_rises, next_since, order_next}
use Rattle.exb_timeline.proofs.SourceTurns.{own_comes, own_of, small_next, whose_turn}
use Rattle.exb_timeline.proofs.ToldSources.{none_told}
use Rattle.exb_timeline.proofs.ListTurns.{all_from, is_there, none_left, turns_next}
use Rattle.exb_timeline.proofs.capture_merge.CaptureMerge.next.Goals as goal

pub first-requires : goal.first-requires
first-requires g c = record { turns = (map next_in c.args.self.now.sources.items, c.requires.opened.turns) }

pub returns-in_default : goal.returns-in_default
returns-in_default g c =
    let S = g.S.Shelf in
    let xs = c.args.self.now.sources.items in
    let none = none_left next_in xs (c.in_default.ensures.none (map next_in xs) c.requires.opened.turns) in
    record {
      opened = c.requires.opened;
      come = tt;
      earliest = tt;
      rises = tt;
      since = λ second told. tt;
      told = λ second told. told;
      left = tt;
      end = none;
      same = refl;
      order = λ tells streams told. none_told (S.file c.args.shelf.now) (S.ids c.args.shelf.now) xs streams c.requires.opened.each told none;
      never = λ tells p at e. absurd (ok_not _ (Changed p at) e);
      ids = refl;
      reads = reads_none _ _;
      files = λ name. refl;
      port = λ p at e. absurd (ok_not _ (Changed p at) e);
      place = λ p at e. absurd (ok_not _ (Changed p at) e);
      counts = refl;
      faults = no_fewer (g.S.Shelf.faults c.args.shelf.now);
      failed = λ e. absurd (ok_not _ Read e);
    }

pub index_mut-source-requires : goal.index_mut-source-requires
index_mut-source-requires g c =
    let r = c.args.self.now in
    let there = is_there next_in r.sources.items c.in-Some.moment c.in-Some.place (c.in-Some.ensures.some (map next_in r.sources.items) c.requires.opened.turns) in
    omega (arith, there)

pub take-requires-clause-found : goal.take-requires-clause-found
take-requires-clause-found g c =
    let S = g.S.Shelf in
    let ids = S.ids c.args.shelf.now in
    let r = c.args.self.now in
    let s = c.index_mut-source.result.now in
    let h = whose_turn r.sources.items c.in-Some.moment c.in-Some.place (c.in-Some.ensures.some (map next_in r.sources.items) c.requires.opened.turns) s c.index_mut-source.ensures.value in
    own_comes ids c.in-Some.moment s h.next (own_of (IsOpened ids) r.sources.items c.in-Some.place s h.at c.requires.opened.each)

pub take-requires-clause-kept : goal.take-requires-clause-kept
take-requires-clause-kept g c =
    let S = g.S.Shelf in
    let r = c.args.self.now in
    let s = c.index_mut-source.result.now in
    let h = whose_turn r.sources.items c.in-Some.moment c.in-Some.place (c.in-Some.ensures.some (map next_in r.sources.items) c.requires.opened.turns) s c.index_mut-source.ensures.value in
    (own_of (IsOpened (S.ids c.args.shelf.now)) r.sources.items c.in-Some.place s h.at c.requires.opened.each).kept

pub overflow_add-source : goal.overflow_add-source
overflow_add-source g c =
    let S = g.S.Shelf in
    let r = c.args.self.now in
    let s = c.index_mut-source.result.now in
    let h = whose_turn r.sources.items c.in-Some.moment c.in-Some.place (c.in-Some.ensures.some (map next_in r.sources.items) c.requires.opened.turns) s c.index_mut-source.ensures.value in
    let o = own_of (IsOpened (S.ids c.args.shelf.now)) r.sources.items c.in-Some.place s h.at c.requires.opened.each in
    omega (arith, o.numbers, o.small)

pub ahead-requires-clause-at : goal.ahead-requires-clause-at
ahead-requires-clause-at g c =
    let S = g.S.Shelf in
    let given = S.ids c.args.shelf.now in
    let r = c.args.self.now in
    let xs = r.sources.items in
    let m = c.in-Some.moment in
    let place = c.in-Some.place in
    let s = c.index_mut-source.result.now in
    let h = whose_turn xs m place (c.in-Some.ensures.some (map next_in xs) c.requires.opened.turns) s c.index_mut-source.ensures.value in
    let taken = c.take.new.self in
    let own = own_of (IsOpened given) xs place s h.at c.requires.opened.each in
    at_taken given s taken c.take.ensures.same c.take.ensures.got own.at

-- memory ran out, and nothing was read
pub returns-in-Err : goal.returns-in-Err
returns-in-Err g c =
    record {
      opened = tt;
      come = tt;
      earliest = tt;
      rises = tt;
      since = λ second told. tt;
      told = λ second told. tt;
      left = tt;
      end = tt;
      same = tt;
      order = λ tells. tt;
      never = λ tells p at e. absurd (memory_not_changed p at e);
      ids = tt;
      reads = reads_none _ _;
      files = λ name. refl;
      port = λ p at e. absurd (memory_not_changed p at e);
      place = λ p at e. absurd (memory_not_changed p at e);
      counts = refl;
      faults = no_fewer (g.S.Shelf.faults c.args.shelf.now);
      failed = λ e. absurd (memory_not_read e);
    }

pub returns-in-Err-ahead : goal.returns-in-Err-ahead
returns-in-Err-ahead g c =
    let S = g.S.Shelf in
    let given = S.ids c.args.shelf.now in
    let file = S.file c.args.shelf.now in
    let ids = S.ids c.ahead.new.shelf in
    let r = c.args.self.now in
    let xs = r.sources.items in
    let m = c.in-Some.moment in
    let place = c.in-Some.place in
    let s = c.index_mut-source.result.now in
    let h = whose_turn xs m place (c.in-Some.ensures.some (map next_in xs) c.requires.opened.turns) s c.index_mut-source.ensures.value in
    let taken = c.take.new.self in
    record {
      opened = tt;
      come = tt;
      earliest = tt;
      rises = tt;
      since = λ second told. tt;
      told = λ second told. tt;
      left = tt;
      end = tt;
      same = tt;
      order = λ tells. tt;
      never = (
          λ tells p at e streams told.
          let t = has_rest file given xs m place s h c.requires.opened.each taken c.take.ensures.same c.in-Ok.ensures.given streams c.in-Ok.bytes c.in-Ok.ensures.bytes told in
          let fault = changed_at s.port p at c.in-Err-ahead.fault (sym c.fault_at.ensures ∙ own_fault c.fault_at.result (Changed p at) e) in
          never_replayed (bytes_of (file (given taken.file.id).name)) t.rest taken at t.left
          (c.in-Err-ahead.ensures.changed tells at (ap Err fault) t.left.given t.left.has));
      ids = tt;
      reads = next_reads xs m place s h given ids (moves_taken given s taken c.take.ensures.same ids c.ahead.ensures.moves);
      files = c.ahead.ensures.files;
      port = (
          λ p at e.
          turn_port xs m place s h p (port_at s.port p at c.in-Err-ahead.fault (sym c.fault_at.ensures ∙ own_fault c.fault_at.result (Changed p at) e)));
      place = (
          λ p at e.
          let told_at = sym c.fault_at.ensures ∙ own_fault c.fault_at.result (Changed p at) e in
          let low = c.in-Err-ahead.ensures.place at (ap Err (changed_at s.port p at c.in-Err-ahead.fault told_at)) in
          let told : taken.told.bytes ≡ s.replay.told.bytes = ap (λ t. t.bytes) c.take.ensures.same.told in
          turn_within xs m place s h p at (port_at s.port p at c.in-Err-ahead.fault told_at) (omega (arith, low, told)));
      counts = not_read s.port c.in-Err-ahead.fault c.fault_at.result _ _ c.fault_at.ensures c.in-Err-ahead.ensures.counts;
      faults = c.ahead.ensures.faults;
      failed = λ e. c.in-Err-ahead.ensures.failed (ap Err (read_is s.port c.in-Err-ahead.fault (sym c.fault_at.ensures ∙ own_fault c.fault_at.result Read e)));
    }

pub put-requires-clause-turn : goal.put-requires-clause-turn
put-requires-clause-turn g c =
    let moments = map next_in c.args.self.now.sources.items in
    let turns = c.requires.opened.turns in
    (moments, turns, (c.in-Some.moment, (c.in-Some.ensures.some moments turns).own))

pub put-requires-clause-small : goal.put-requires-clause-small
put-requires-clause-small g c = small_next c.in-Ok-ahead.next c.ahead.new.self c.in-Ok-ahead.ensures.found

pub returns : goal.returns
returns g c =
    let S = g.S.Shelf in
    let given = S.ids c.args.shelf.now in
    let file = S.file c.args.shelf.now in
    let ids = S.ids c.ahead.new.shelf in
    let r = c.args.self.now in
    let xs = r.sources.items in
    let m = c.in-Some.moment in
    let place = c.in-Some.place in
    let s = c.index_mut-source.result.now in
    let first = c.in-Some.ensures.some (map next_in xs) c.requires.opened.turns in
    let h = whose_turn xs m place first s c.index_mut-source.ensures.value in
    let own = own_of (IsOpened given) xs place s h.at c.requires.opened.each in
    let comes = own_comes given m s h.next own in
    let taken = c.take.new.self in
    let looked = c.ahead.new.self in
    let s' : CaptureSource = record { port = s.port; index = s.index + 1; next = c.in-Ok-ahead.next; replay = looked } in
    let came : Arrival = record { port = s.port; index = s.index; moment = m; bytes = c.in-Ok.bytes } in
    let least = c.ahead.ensures.before.least ∙ c.in-Ok.ensures.least in
    let id = c.ahead.ensures.same.file.id ∙ c.take.ensures.same.file.id in
    let moves = moves_taken given s taken c.take.ensures.same ids c.ahead.ensures.moves in
    let kept = opened_next ids given s s.port taken looked (s.index + 1) c.in-Ok-ahead.next own (omega (arith)) c.take.ensures.same c.ahead.ensures.same c.ahead.ensures.kept
    c.in-Ok-ahead.ensures.at c.take.ensures.left c.in-Ok-ahead.ensures.left c.in-Ok-ahead.ensures.found in
    record {
      opened = record {
        each = next_each xs m place s s' h given ids moves c.requires.opened.apart kept c.requires.opened.each;
        apart = next_apart xs m place s s' h refl id c.requires.opened.apart;
        turns = turns_next next_in xs place s' c.put.new.self (c.put.ensures (map next_in xs) c.requires.opened.turns);
      };
      come = (
          next_come xs m place s s' h came c.requires.opened.apart refl (omega (arith)) least refl refl refl own.first (omega (arith, own.numbers, own.small)) comes.in_time c.in-Ok.ensures.short);
      earliest = next_earliest xs m place s h m refl first;
      rises = next_rises xs m place s s' h m refl (all_from next_in xs m place first) (rises_next c.in-Ok-ahead.next m looked least c.in-Ok-ahead.ensures.found);
      since = λ second told. next_since xs m place s h second m refl comes.since told;
      told = first_of (search rules, grind (arith, common_steps));
      left = next_left xs m place s s' h (omega (arith, c.take.ensures.left, c.in-Ok-ahead.ensures.left));
      end = tt;
      same = tt;
      order = (
          λ tells streams told.
          let t = has_rest file given xs m place s h c.requires.opened.each taken c.take.ensures.same c.in-Ok.ensures.given streams c.in-Ok.bytes c.in-Ok.ensures.bytes told in
          order_next file given xs m place s h c.requires.opened.each taken c.take.ensures.same c.in-Ok.ensures.given (S.file c.ahead.new.shelf) ids looked s.port (s.index + 1)
          c.in-Ok-ahead.next came streams c.requires.opened.apart first refl refl refl refl (omega (arith)) least
          (at_taken given s taken c.take.ensures.same c.take.ensures.got own.at) c.ahead.ensures.moves c.ahead.ensures.files c.ahead.ensures.same (c.in-Ok-ahead.ensures.given tells)
          (c.in-Ok-ahead.ensures.end tells) told t);
      never = λ tells p at e. absurd (ok_not _ (Changed p at) e);
      ids = next_ids xs m place s s' h id;
      reads = next_reads xs m place s h given ids moves;
      files = c.ahead.ensures.files;
      port = λ p at e. absurd (ok_not _ (Changed p at) e);
      place = λ p at e. absurd (ok_not _ (Changed p at) e);
      counts = c.in-Ok-ahead.ensures.counts;
      faults = c.ahead.ensures.faults;
      failed = λ e. absurd (ok_not _ Read e);
    }
