use Rattle.std.proofs.Common.{◌≡◌, ℕ, List, [], ◌∷◌, ◌++◌, map, Err, sym, ap, subst, ◌∙◌, arith}
use Rattle.std.specs.List.{AllByRecursion}
use Rattle.std.specs.Prelude.{Option, Some, None}
use Rattle.exb_shelf.specs.Files.{bytes_of}
use Rattle.exb_capture.specs.FaultCounts.{after_fault}
use Rattle.exb_capture.proofs.LookAhead.{fewer_then}
use Rattle.exb_capture.proofs.ReplayLemmas.{never_replayed}
use Rattle.exb_capture.proofs.ScanAnswers.{opens_on, rose_later}
use Rattle.exb_timeline.specs.declared.capture_merge.CaptureSource.{CaptureSource}
use Rattle.exb_timeline.specs.declared.capture_merge.CaptureFault.TheVariants.{Read, Changed}
use Rattle.exb_timeline.specs.CaptureMerges.{Apart, AreReplays, IsOpened, next_in}
use Rattle.exb_timeline.specs.Streams.{stream_of}
use Rattle.exb_timeline.specs.Tournaments.{AreTurns}
use Rattle.exb_timeline.proofs.AddedSource.{apart_new, each_more, fine, ids_more, left_first, left_most, one_more, opened_first, replay_first, replays_more, since_more, standings_more, when_ok}
use Rattle.exb_timeline.proofs.FaultCounts.{not_opened, not_read, ok_not, port_at}
use Rattle.exb_timeline.proofs.SourcesOnShelf.{changed_at, files_then, own_fault, read_is}
use Rattle.exb_timeline.proofs.SourceTurns.{small_next}
use Rattle.exb_timeline.proofs.ToldSources.{replaying_opened}
use Rattle.exb_timeline.proofs.ListTurns.{turns_more}
use Rattle.exb_timeline.proofs.capture_merge.CaptureMerge.add.Goals as goal

pub returns-in-Err-ahead : goal.returns-in-Err-ahead
returns-in-Err-ahead g c =
    record {
      opened = tt;
      standings = tt;
      left = tt;
      since = λ second first told. tt;
      streams = λ tells. tt;
      never = (
          λ tells p at e bytes records there whole told.
          let S = g.S.Shelf in
          let opened = c.in-Ok.replay in
          let file = S.file c.open.new.shelf in
          let ids = S.ids c.open.new.shelf in
          let k = replaying_opened (S.file c.args.shelf.now) file ids c.args.name.now bytes records c.args.told opened there whole told c.open.ensures.files c.in-Ok.ensures.id c.in-Ok.ensures.told.0
          (c.in-Ok.ensures.given tells) in
          let fault = changed_at c.args.port p at c.in-Err-ahead.fault (sym c.fault_at-in-Err-ahead.ensures ∙ own_fault c.fault_at-in-Err-ahead.result (Changed p at) e) in
          never_replayed (bytes_of (file (ids opened.file.id).name)) records opened at k (c.in-Err-ahead.ensures.changed tells at (ap Err fault) k.given k.has));
      id = tt;
      opens = opens_on c.args.name.now (g.S.Shelf.ids c.args.shelf.now) (g.S.Shelf.ids c.open.new.shelf) (g.S.Shelf.ids c.ahead.new.shelf) c.in-Ok.replay.file.id c.in-Ok.ensures.new c.in-Ok.ensures.id
          c.open.ensures.opened c.ahead.ensures.moves;
      files = files_then (g.S.Shelf.file c.args.shelf.now) (g.S.Shelf.file c.open.new.shelf) (g.S.Shelf.file c.ahead.new.shelf) c.open.ensures.files c.ahead.ensures.files;
      port_is = (
          λ p at e.
          port_at c.args.port p at c.in-Err-ahead.fault (sym c.fault_at-in-Err-ahead.ensures ∙ own_fault c.fault_at-in-Err-ahead.result (Changed p at) e));
      place = (
          λ p at e.
          let fault = changed_at c.args.port p at c.in-Err-ahead.fault (sym c.fault_at-in-Err-ahead.ensures ∙ own_fault c.fault_at-in-Err-ahead.result (Changed p at) e) in
          let low = c.in-Err-ahead.ensures.place at (ap Err fault) in
          let told : c.in-Ok.replay.told.bytes ≡ c.args.told.bytes = ap (λ t. t.bytes) c.in-Ok.ensures.told.0 in
          omega (arith, low, told));
      counts = (
          not_read c.args.port c.in-Err-ahead.fault c.fault_at-in-Err-ahead.result _ _ c.fault_at-in-Err-ahead.ensures
          (c.in-Err-ahead.ensures.counts ∙ ap (after_fault c.in-Err-ahead.fault) c.in-Ok.ensures.counts));
      faults = fewer_then (g.S.Shelf.faults c.args.shelf.now) (g.S.Shelf.faults c.open.new.shelf) (g.S.Shelf.faults c.ahead.new.shelf) c.open.ensures.faults c.ahead.ensures.faults;
      failed = (
          λ e.
          let fault = read_is c.args.port c.in-Err-ahead.fault (sym c.fault_at-in-Err-ahead.ensures ∙ own_fault c.fault_at-in-Err-ahead.result Read e) in
          rose_later (g.S.Shelf.faults c.args.shelf.now).reads (g.S.Shelf.faults c.open.new.shelf).reads (g.S.Shelf.faults c.ahead.new.shelf).reads c.open.ensures.faults.reads
          c.ahead.ensures.faults.reads (c.in-Err-ahead.ensures.failed (ap Err fault)));
    }

pub add-requires-clause-turns : goal.add-requires-clause-turns
add-requires-clause-turns g c = (map next_in c.args.self.now.sources.items, c.requires.opened.turns)

pub add-requires-clause-small : goal.add-requires-clause-small
add-requires-clause-small g c = small_next c.in-Ok-ahead.next c.ahead.new.self c.in-Ok-ahead.ensures.found

pub returns : goal.returns
returns g c =
    record {
      opened = (
          let S = g.S.Shelf in
          let given = S.ids c.args.shelf.now in
          let r = c.args.self.now in
          let xs = r.sources.items in
          let opened = c.in-Ok.replay in
          let looked = c.ahead.new.self in
          let s : CaptureSource = one_more c.args.port c.args.told opened looked c.in-Ok-ahead.next c.in-Ok.ensures.told.0 c.in-Ok.ensures.begun c.ahead.ensures.same in
          let ids = S.ids c.ahead.new.shelf in
          let items : c.push.new.self.items ≡ xs ++ s ∷ [] = when_ok c.push.result c.push.new.self.items (xs ++ s ∷ []) xs (sym c.is_err.ensures.value ∙ c.if-is_err.false) c.push.ensures.items in
          let own = opened_first c.args.port c.args.told opened looked c.in-Ok-ahead.next c.in-Ok.ensures.told.0 c.in-Ok.ensures.begun c.ahead.ensures.same ids c.requires.room c.ahead.ensures.kept
          c.in-Ok-ahead.ensures.at c.in-Ok-ahead.ensures.left c.in-Ok-ahead.ensures.found in
          let added : (moments : List (Option ℕ)) → AreTurns moments r.turns → AreTurns (moments ++ c.in-Ok-ahead.next ∷ []) c.add.new.self =
          fine c.add.result (sym c.is_err-2.ensures.value ∙ c.if-is_err-2.false) c.add.ensures in
          record {
            each = subst (AllByRecursion (IsOpened ids)) (sym items)
                (each_more given (S.ids c.open.new.shelf) ids xs s c.args.name.now opened.file.id c.in-Ok.ensures.new c.open.ensures.opened c.ahead.ensures.moves c.requires.opened.each own);
            apart = subst Apart (sym items) (apart_new given xs s opened.file.id c.ahead.ensures.same.file.id c.in-Ok.ensures.new c.requires.port c.requires.opened.each c.requires.opened.apart);
            turns = subst (λ ys. AreTurns (map next_in ys) c.add.new.self) (sym items)
                (turns_more next_in xs s c.add.new.self (added (map next_in xs) c.requires.opened.turns));
          });
      standings = (
          let xs = c.args.self.now.sources.items in
          let s : CaptureSource = one_more c.args.port c.args.told c.in-Ok.replay c.ahead.new.self c.in-Ok-ahead.next c.in-Ok.ensures.told.0 c.in-Ok.ensures.begun c.ahead.ensures.same in
          let items : c.push.new.self.items ≡ xs ++ s ∷ [] = when_ok c.push.result c.push.new.self.items (xs ++ s ∷ []) xs (sym c.is_err.ensures.value ∙ c.if-is_err.false) c.push.ensures.items in
          standings_more xs s c.push.new.self.items items (c.ahead.ensures.before.least ∙ c.in-Ok.ensures.told.1));
      left = (
          let xs = c.args.self.now.sources.items in
          let s : CaptureSource = one_more c.args.port c.args.told c.in-Ok.replay c.ahead.new.self c.in-Ok-ahead.next c.in-Ok.ensures.told.0 c.in-Ok.ensures.begun c.ahead.ensures.same in
          let items : c.push.new.self.items ≡ xs ++ s ∷ [] = when_ok c.push.result c.push.new.self.items (xs ++ s ∷ []) xs (sym c.is_err.ensures.value ∙ c.if-is_err.false) c.push.ensures.items in
          left_most xs s c.push.new.self.items items c.args.told.bytes (left_first c.args.port c.args.told c.in-Ok.replay c.ahead.new.self c.in-Ok-ahead.next c.in-Ok.ensures.told.0 c.in-Ok.ensures.begun c.ahead.ensures.same c.in-Ok-ahead.ensures.left));
      since = (
          λ second first told.
          let xs = c.args.self.now.sources.items in
          let s : CaptureSource = one_more c.args.port c.args.told c.in-Ok.replay c.ahead.new.self c.in-Ok-ahead.next c.in-Ok.ensures.told.0 c.in-Ok.ensures.begun c.ahead.ensures.same in
          let items : c.push.new.self.items ≡ xs ++ s ∷ [] = when_ok c.push.result c.push.new.self.items (xs ++ s ∷ []) xs (sym c.is_err.ensures.value ∙ c.if-is_err.false) c.push.ensures.items in
          since_more xs s c.push.new.self.items items second c.args.told (c.ahead.ensures.same.told ∙ c.in-Ok.ensures.told.0) first told);
      streams = (
          λ tells bytes records streams there whole told t.
          let S = g.S.Shelf in
          let given = S.ids c.args.shelf.now in
          let r = c.args.self.now in
          let xs = r.sources.items in
          let opened = c.in-Ok.replay in
          let looked = c.ahead.new.self in
          let s : CaptureSource = one_more c.args.port c.args.told opened looked c.in-Ok-ahead.next c.in-Ok.ensures.told.0 c.in-Ok.ensures.begun c.ahead.ensures.same in
          let ids = S.ids c.ahead.new.shelf in
          let items : c.push.new.self.items ≡ xs ++ s ∷ [] = when_ok c.push.result c.push.new.self.items (xs ++ s ∷ []) xs (sym c.is_err.ensures.value ∙ c.if-is_err.false) c.push.ensures.items in
          let own = replay_first c.args.port c.args.told opened looked c.in-Ok-ahead.next c.in-Ok.ensures.told.0 c.in-Ok.ensures.begun c.ahead.ensures.same (S.file c.args.shelf.now) (S.file c.open.new.shelf)
          (S.file c.ahead.new.shelf) given (S.ids c.open.new.shelf) ids c.args.name.now c.open.ensures.files c.ahead.ensures.files c.ahead.ensures.moves c.in-Ok.ensures.id c.ahead.ensures.before
          c.in-Ok.ensures.told.1 bytes records there whole told (c.in-Ok.ensures.given tells) (c.in-Ok-ahead.ensures.given tells) (c.in-Ok-ahead.ensures.end tells) in
          let all = replays_more given (S.ids c.open.new.shelf) ids xs s c.args.name.now opened.file.id c.in-Ok.ensures.new c.open.ensures.opened c.ahead.ensures.moves c.requires.opened.each
          (S.file c.args.shelf.now) (S.file c.open.new.shelf) (S.file c.ahead.new.shelf) streams (stream_of c.args.port records) c.open.ensures.files c.ahead.ensures.files own t in
          subst (λ ss. AreReplays (S.file c.ahead.new.shelf) ids ss (streams ++ stream_of c.args.port records ∷ [])) (sym items) all);
      never = λ tells p at e bytes records there whole told. absurd (ok_not _ _ e);
      id = (
          let xs = c.args.self.now.sources.items in
          let s : CaptureSource = one_more c.args.port c.args.told c.in-Ok.replay c.ahead.new.self c.in-Ok-ahead.next c.in-Ok.ensures.told.0 c.in-Ok.ensures.begun c.ahead.ensures.same in
          let items : c.push.new.self.items ≡ xs ++ s ∷ [] = when_ok c.push.result c.push.new.self.items (xs ++ s ∷ []) xs (sym c.is_err.ensures.value ∙ c.if-is_err.false) c.push.ensures.items in
          (c.in-Ok.replay.file.id, ids_more xs s c.push.new.self.items items c.in-Ok.replay.file.id c.ahead.ensures.same.file.id, c.in-Ok.ensures.new));
      opens = opens_on c.args.name.now (g.S.Shelf.ids c.args.shelf.now) (g.S.Shelf.ids c.open.new.shelf) (g.S.Shelf.ids c.ahead.new.shelf) c.in-Ok.replay.file.id c.in-Ok.ensures.new c.in-Ok.ensures.id
          c.open.ensures.opened c.ahead.ensures.moves;
      files = files_then (g.S.Shelf.file c.args.shelf.now) (g.S.Shelf.file c.open.new.shelf) (g.S.Shelf.file c.ahead.new.shelf) c.open.ensures.files c.ahead.ensures.files;
      port_is = λ p at e. absurd (ok_not _ _ e);
      place = λ p at e. absurd (ok_not _ _ e);
      counts = c.in-Ok-ahead.ensures.counts ∙ c.in-Ok.ensures.counts;
      faults = fewer_then (g.S.Shelf.faults c.args.shelf.now) (g.S.Shelf.faults c.open.new.shelf) (g.S.Shelf.faults c.ahead.new.shelf) c.open.ensures.faults c.ahead.ensures.faults;
      failed = λ e. absurd (ok_not _ _ e);
    }

pub returns-in-Err : goal.returns-in-Err
returns-in-Err g c =
    record {
      opened = tt;
      standings = tt;
      left = tt;
      since = λ second first told. tt;
      streams = λ tells. tt;
      never = (
          λ tells p at e bytes records there whole told.
          let fault = changed_at c.args.port p at c.in-Err.fault (sym c.fault_at.ensures ∙ own_fault c.fault_at.result (Changed p at) e) in
          let none = (c.in-Err.ensures.changed at (ap Err fault)).2 tells in
          absurd (let no : None ≡ Some bytes = sym none ∙ there in cc));
      id = tt;
      opens = c.open.ensures.opened;
      files = c.open.ensures.files;
      port_is = (
          λ p at e.
          port_at c.args.port p at c.in-Err.fault (sym c.fault_at.ensures ∙ own_fault c.fault_at.result (Changed p at) e));
      place = (
          λ p at e.
          let fault = changed_at c.args.port p at c.in-Err.fault (sym c.fault_at.ensures ∙ own_fault c.fault_at.result (Changed p at) e) in
          let first = (c.in-Err.ensures.changed at (ap Err fault)).0 in
          omega (arith, first));
      counts = not_opened c.args.port c.in-Err.fault c.fault_at.result _ _ c.fault_at.ensures c.in-Err.ensures.counts;
      faults = c.open.ensures.faults;
      failed = λ e. c.in-Err.ensures.failed (ap Err (read_is c.args.port c.in-Err.fault (sym c.fault_at.ensures ∙ own_fault c.fault_at.result Read e)));
    }
