use Rattle.std.proofs.Common.{Err, map, refl, ap, sym, arith}
use Rattle.std.proofs.lemmas.List.{length-set}
use Rattle.exb_timeline.specs.declared.net_timeline.NetNext.{NetNext}
use Rattle.exb_timeline.specs.declared.capture_merge.CaptureFault.TheVariants.{Read, Changed}
use Rattle.exb_timeline.specs.NetMergeOrder.{turn_in}
use Rattle.exb_timeline.proofs.FaultCounts.{ok_not}
use Rattle.exb_timeline.proofs.SourcesOnShelf.{no_fewer, reads_none}
use Rattle.exb_timeline.proofs.NetSteps.{apart_next, comes_next, each_next, fault_is, ids_next, no_turn, none_told, order_next, own_seated, own_told, reads_all, there}
use Rattle.exb_timeline.proofs.ListTurns.{ahead_of, behind_of, is_there, none_left, turns_next, whose_turn}
use Rattle.exb_timeline.proofs.net_timeline.NetTimeline.next.Goals as goal

pub first-requires : goal.first-requires
first-requires g c = record { turns = (map turn_in c.args.self.now.seats.items, c.requires.agenda.turns) }

-- nothing is left
pub returns-in_default : goal.returns-in_default
returns-in_default g c =
    let S = g.S.Shelf in
    let a = c.args.self.now in
    let all = c.requires.agenda in
    record {
      agenda = all;
      coming = tt;
      same = refl;
      order = λ tells streams told.
          none_told (S.file c.args.shelf.now) (S.ids c.args.shelf.now) a.seats.items streams all.each told (none_left turn_in a.seats.items (c.in_default.ensures.none (map turn_in a.seats.items) all.turns));
      never = λ tells b p at e. absurd (ok_not _ _ e);
      ids = refl;
      reads = reads_none _ _;
      files = λ name. refl;
      port = λ b p at e. absurd (ok_not _ _ e);
      place = λ b p at e. absurd (ok_not _ _ e);
      counts = refl;
      faults = no_fewer (S.faults c.args.shelf.now);
      failed = λ b e. absurd (ok_not _ _ e);
    }

pub overflow_cast-bridge : goal.overflow_cast-bridge
overflow_cast-bridge g c =
    let a = c.args.self.now in
    let low = is_there turn_in a.seats.items c.in-Some.field-0-0 c.in-Some.place (c.in-Some.ensures.some (map turn_in a.seats.items) c.requires.agenda.turns) in
    omega (arith, low, c.requires.agenda.few)

pub index_mut-seat-requires : goal.index_mut-seat-requires
index_mut-seat-requires g c =
    let a = c.args.self.now in
    let low = is_there turn_in a.seats.items c.in-Some.field-0-0 c.in-Some.place (c.in-Some.ensures.some (map turn_in a.seats.items) c.requires.agenda.turns) in
    omega (arith, low)

pub take-requires : goal.take-requires
take-requires g c =
    let S = g.S.Shelf in
    let given = S.ids c.args.shelf.now in
    let a = c.args.self.now in
    let ss = a.seats.items in
    let all = c.requires.agenda in
    let place = c.in-Some.place in
    let s = c.index_mut-seat.result.now in
    let h = whose_turn turn_in ss c.in-Some.field-0-0 place (c.in-Some.ensures.some (map turn_in ss) all.turns) s c.index_mut-seat.ensures.value in
    record { seated = own_seated ss place s h.at given all.each }

-- the captures of a bridge can't be read on
pub returns-in-Err : goal.returns-in-Err
returns-in-Err g c =
    let S = g.S.Shelf in
    let given = S.ids c.args.shelf.now in
    let ss = c.args.self.now.seats.items in
    let all = c.requires.agenda in
    let place = c.in-Some.place in
    let s = c.index_mut-seat.result.now in
    let h = whose_turn turn_in ss c.in-Some.field-0-0 place (c.in-Some.ensures.some (map turn_in ss) all.turns) s c.index_mut-seat.ensures.value in
    let taken = c.in-Err.ensures in
    record {
      agenda = tt;
      coming = tt;
      same = tt;
      order = λ tells. tt;
      never = (
          λ tells b p at e streams told.
          let q = own_told ss place s h.at (S.file c.args.shelf.now) given streams told in
          taken.never tells p at (ap Err (fault_is place b c.in-Err.fault (Changed p at) e).1) q.0 q.1);
      ids = tt;
      reads = reads_all ss place s h.at given (S.ids c.take.new.shelf) taken.reads;
      files = taken.files;
      port = (
          λ b p at e.
          let both = fault_is place b c.in-Err.fault (Changed p at) e in
          (s.programme, there ss place s h.at b (sym both.0), taken.port p at (ap Err both.1)));
      place = (
          λ b p at e.
          let both = fault_is place b c.in-Err.fault (Changed p at) e in
          (s.programme, there ss place s h.at b (sym both.0), taken.place p at (ap Err both.1)));
      counts = taken.counts;
      faults = taken.faults;
      failed = λ b e. taken.failed (ap Err (fault_is place b c.in-Err.fault Read e).1);
    }

pub put-requires-clause-turn : goal.put-requires-clause-turn
put-requires-clause-turn g c =
    let moments = map turn_in c.args.self.now.seats.items in
    let turns = c.requires.agenda.turns in
    (moments, turns, (c.in-Some.field-0-0, (c.in-Some.ensures.some moments turns).own))

pub put-requires-clause-small : goal.put-requires-clause-small
put-requires-clause-small g c = c.in-Ok.ensures.seated.small

-- one of them has its turn
pub returns-in-Some-next : goal.returns-in-Some-next
returns-in-Some-next g c =
    let S = g.S.Shelf in
    let given = S.ids c.args.shelf.now in
    let ss = c.args.self.now.seats.items in
    let all = c.requires.agenda in
    let place = c.in-Some.place in
    let s = c.index_mut-seat.result.now in
    let h = whose_turn turn_in ss c.in-Some.field-0-0 place (c.in-Some.ensures.some (map turn_in ss) all.turns) s c.index_mut-seat.ensures.value in
    let s' = c.take.new.self in
    let ids = S.ids c.take.new.shelf in
    let took = c.in-Ok.ensures in
    let coming = rw c.in-Some-next.is at took.coming in
    let first = c.in-Some.ensures.some (map turn_in ss) all.turns in
    let ahead = ahead_of turn_in ss c.in-Some.field-0-0 place first s h.at in
    let behind = behind_of turn_in ss c.in-Some.field-0-0 place first s h.at in
    let d : NetNext = record { bridge = place; next = c.in-Some-next.next } in
    record {
      agenda = record {
        each = each_next ss place s h.at s' given ids coming.ids all.apart took.reads all.each took.seated;
        apart = apart_next ss place s h.at s' given ids coming.ids all.apart;
        turns = turns_next turn_in ss place s' c.put.new.self (c.put.ensures (map turn_in ss) all.turns);
        few = omega (arith, all.few, length-set ss place s');
      };
      coming = (
          let about = rw c.in-Some-next.is at took.turn in
          comes_next ss place s h.at s' given ids coming.ids c.in-Some.field-0-0 d h.next_is all.each ahead behind refl about coming);
      same = tt;
      order = (
          λ tells streams told.
          let order = took.order tells in
          let taken = rw c.in-Some-next.is at order in
          order_next ss place s h.at s' given ids coming.ids all.apart took.reads (S.file c.args.shelf.now) (S.file c.take.new.shelf) c.in-Some.field-0-0 d took.files h.next_is all.each ahead behind refl
          taken streams told);
      never = λ tells b p at e. absurd (ok_not _ _ e);
      ids = ids_next ss place s h.at s' given ids coming.ids;
      reads = reads_all ss place s h.at given (S.ids c.take.new.shelf) took.reads;
      files = took.files;
      port = λ b p at e. absurd (ok_not _ _ e);
      place = λ b p at e. absurd (ok_not _ _ e);
      counts = took.counts;
      faults = took.faults;
      failed = λ b e. absurd (ok_not _ _ e);
    }

-- what has its turn has something left
pub returns-in-None : goal.returns-in-None
returns-in-None g c =
    let ss = c.args.self.now.seats.items in
    let h = whose_turn turn_in ss c.in-Some.field-0-0 c.in-Some.place (c.in-Some.ensures.some (map turn_in ss) c.requires.agenda.turns) c.index_mut-seat.result.now c.index_mut-seat.ensures.value in
    let end = rw c.in-None.is at c.in-Ok.ensures.end in
    absurd (no_turn c.in-Some.field-0-0 c.index_mut-seat.result.now h.next_is end)
