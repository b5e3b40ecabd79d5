use Rattle.std.proofs.Common.{◌≡◌, ℕ, List, length, inr, refl, subst, sym, arith}
use Rattle.exb_shelf.specs.Files.{bytes_of}
use Rattle.exb_shelf.specs.Shelf.{IsReadingOf}
use Rattle.exb_audit_files.specs.LineFeeds.{CutsOn}
use Rattle.exb_audit_files.specs.declared.texts.LinesFault.TheVariants.{Memory, Read}
use Rattle.exb_audit_files.proofs.FileCounts.{unread_counts}
use Rattle.exb_audit_files.proofs.TextFiles.{fault_not_read, memory_not_read, read_once, reads_moved, some_there, unread_cause, unread_failed}
use Rattle.exb_audit_files.proofs.lines.read_on.Goals as goal

-- the shelf failed, or memory ran out
pub returns-in-Err : goal.returns-in-Err
returns-in-Err g c =
    let e = c.in-Err.ensures in
    rw c.unread.ensures (record {
      piece = c.read.auto.into;
      bound = tt;
      cut = λ t. tt;
      end = λ t is. absurd (fault_not_read _ 0 is);
      some = λ t. tt;
      cause = unread_cause c.in-Err.fault;
      id = tt;
      file = λ name reads. subst (IsReadingOf name) (sym e.id_err) reads;
      others = e.others;
      files = e.files;
      counts = unread_counts c.in-Err.fault _ _ e.counts;
      faults = e.faults;
      failed = λ is. e.failed (unread_failed c.in-Err.fault is);
    })

-- there is no memory for what was read
pub returns-in-Err-feed : goal.returns-in-Err-feed
returns-in-Err-feed g c =
    let e = c.in-Ok.ensures in
    let i = g.S.Shelf.ids c.args.shelf.now c.args.id in
    record {
      piece = c.read.auto.into;
      bound = tt;
      cut = λ t. tt;
      end = λ t is. absurd (fault_not_read Memory 0 is);
      some = λ t. tt;
      cause = inr refl;
      id = tt;
      file = λ name reads. reads_moved name i _ c.in-Ok.n e.id reads;
      others = e.others;
      files = e.files;
      counts = e.counts;
      faults = e.faults;
      failed = λ is. absurd (memory_not_read is);
    }

-- it was read and taken in
pub returns-in-Ok-feed : goal.returns-in-Ok-feed
returns-in-Ok-feed g c =
    let S = g.S.Shelf in
    let e = c.in-Ok.ensures in
    let n = c.in-Ok.n in
    let into = c.read.new.into in
    let i = S.ids c.args.shelf.now c.args.id in
    let bytes = bytes_of (S.file c.args.shelf.now i.name) in
    let same : length into ≡ length c.args.piece.now = c.read.auto.into in
    record {
      piece = same;
      bound = e.bound;
      cut = λ t. subst (λ (xs : List ℕ). CutsOn g.L.Line.reads c.args.to.now c.feed.new.to xs) (e.bytes t) c.in-Ok-feed.ensures.cut;
      end = λ t is. (e.end t c.requires.piece).0 (read_once n 0 is);
      some = λ t. some_there into bytes i.place n (omega (arith, e.bound, same)) (e.bytes t);
      cause = tt;
      id = e.id;
      file = λ name reads. reads_moved name i _ n e.id reads;
      others = e.others;
      files = e.files;
      counts = e.counts;
      faults = e.faults;
      failed = λ is. absurd (fault_not_read Read n (sym is));
    }
