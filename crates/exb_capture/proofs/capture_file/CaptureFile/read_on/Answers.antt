use Rattle.std.proofs.Common.{◌<◌, ◌≤◌, ◌-◌, Err, length, take, drop, refl, ap, sym, subst, inl, inr, ◌∙◌, arith, length-drop, rules}
use Rattle.std.proofs.lemmas.Grind.{common_steps}
use Rattle.std.proofs.lemmas.Result.{err_from_is_err_and}
use Rattle.exb_shelf.specs.Files.{bytes_of}
use Rattle.exb_capture.specs.declared.format.AnyFormat.{AnyFormat as State}
use Rattle.exb_capture.specs.ReaderMachine.{Reading}
use Rattle.exb_capture.specs.CaptureFiles.{IsSound, left_to_read}
use Rattle.exb_capture.proofs.CaptureFileLemmas.{ended_read, fed_on}
use Rattle.exb_capture.proofs.LookAhead.{below_by, moves_by, moves_not}
use Rattle.exb_capture.proofs.ScanAnswers.{halted_counts, halted_fits, halted_reads, halted_unbroken}
use Rattle.exb_capture.proofs.capture_file.CaptureFile.read_on.Goals as goal

pub returns-then-n-eq0 : goal.returns-then-n-eq0
returns-then-n-eq0 g c =
    record {
      sound = first_of (search rules, grind (arith, common_steps));
      unseen = c.requires.unseen;
      same = record { id = refl; limit_is = refl };
      at = first_of (search rules, grind (arith, common_steps));
      rises = omega arith;
      on = inl refl;
      left = first_of (search rules, grind (arith, common_steps));
      read = (
          λ tells xs h.
          let S = g.S.Shelf in
          let f = c.args.self.now in
          let i = S.ids c.args.shelf.now f.id in
          let bytes = bytes_of (S.file c.args.shelf.now i.name) in
          let n = c.in_ok-n.n in
          let filled = c.in_ok-n.ensures.filled in
          let read = fed_on bytes xs f n n filled.piece c.fill.new.self filled.has_fed refl c.requires.unseen c.requires.open filled.there
          (filled.told tells ∙ ap (λ k. take n (drop k bytes)) c.requires.at.place) h in
          let left : 0 < f.limit - f.got = below_by f.got f.limit c.requires.sound.most c.if-self.false in
          let some : 0 < c.min-most.result = omega (arith, c.min-most.ensures, c.min-left.ensures, c.requires.room, c.room.ensures, left) in
          let none = ap length (c.in_ok-n.ensures.end tells some c.if-n-eq0.true) in
          ended_read bytes xs _ (omega (arith, none, length-drop i.place bytes, c.requires.at.place, read.within, c.if-n-eq0.true)) read);
      large = λ tells large. absurd (cc);
      unbroken = λ broke is. cc;
      moves = moves_by c.args.self.now.id c.in_ok-n.n _ _ c.in_ok-n.ensures.id c.in_ok-n.ensures.others;
      files = c.in_ok-n.ensures.files;
      counts = c.in_ok-n.ensures.counts;
      faults = c.in_ok-n.ensures.faults;
      failed = λ is. absurd (cc);
    }

pub returns-else-n-eq0 : goal.returns-else-n-eq0
returns-else-n-eq0 g c =
    record {
      sound = first_of (search rules, grind (arith, common_steps));
      unseen = c.requires.unseen;
      same = record { id = refl; limit_is = refl };
      at = first_of (search rules, grind (arith, common_steps));
      rises = omega arith;
      on = inr (omega (arith, c.if-n-eq0.false));
      left = first_of (search rules, grind (arith, common_steps));
      read = (
          λ tells xs h.
          let S = g.S.Shelf in
          let f = c.args.self.now in
          let i = S.ids c.args.shelf.now f.id in
          let bytes = bytes_of (S.file c.args.shelf.now i.name) in
          let n = c.in_ok-n.n in
          let filled = c.in_ok-n.ensures.filled in
          fed_on bytes xs f n n filled.piece c.fill.new.self filled.has_fed refl c.requires.unseen c.requires.open filled.there
          (filled.told tells ∙ ap (λ k. take n (drop k bytes)) c.requires.at.place) h);
      large = λ tells large. absurd (cc);
      unbroken = λ broke is. cc;
      moves = moves_by c.args.self.now.id c.in_ok-n.n _ _ c.in_ok-n.ensures.id c.in_ok-n.ensures.others;
      files = c.in_ok-n.ensures.files;
      counts = c.in_ok-n.ensures.counts;
      faults = c.in_ok-n.ensures.faults;
      failed = λ is. absurd (cc);
    }

-- the shelf failed, or memory ran out
pub returns-in_err-more : goal.returns-in_err-more
returns-in_err-more g c =
    let e = err_from_is_err_and c.from_residual.result c.from_residual.ensures.1 in
    let fault = c.in_err-more.field-0.0 in
    let read = c.in_err-more.ensures in
    rw (e.1, e.2) (record {
      sound = c.requires.sound;
      unseen = tt;
      same = record { id = refl; limit_is = refl };
      at = tt;
      rises = tt;
      on = tt;
      left = omega arith;
      read = λ tells. tt;
      large = λ tells large. absurd (halted_fits fault large);
      unbroken = λ broke is. halted_unbroken fault broke is;
      moves = moves_not c.args.self.now.id _ _ read.id_err read.others;
      files = read.files;
      counts = read.counts ∙ halted_counts fault _;
      faults = read.faults;
      failed = λ is. read.failed (ap Err (halted_reads fault is));
    })

pub returns-in_err-n : goal.returns-in_err-n
returns-in_err-n g c =
    let e = err_from_is_err_and c.from_residual-in_err-n.result c.from_residual-in_err-n.ensures.1 in
    let f = c.args.self.now in
    let fault = c.in_err-n.field-0.0 in
    let fill = c.in_err-n.ensures in
    rw (e.1, e.2) (record {
      sound = subst (λ (r : Reading State). IsSound (record f { reader = r })) (sym fill.same) c.requires.sound;
      unseen = tt;
      same = record { id = refl; limit_is = refl };
      at = tt;
      rises = tt;
      on = tt;
      left = subst (λ (r : Reading State). left_to_read (record f { reader = r }) ≤ left_to_read f) (sym fill.same) (omega arith);
      read = λ tells. tt;
      large = λ tells large. absurd (halted_fits fault large);
      unbroken = λ broke is. halted_unbroken fault broke is;
      moves = moves_not f.id _ _ fill.id_err fill.others;
      files = fill.files;
      counts = fill.counts ∙ halted_counts fault _;
      faults = fill.faults;
      failed = λ is. fill.failed (ap Err (halted_reads fault is));
    })

-- the limit is reached, and the file goes on
pub returns-then-more-gt0 : goal.returns-then-more-gt0
returns-then-more-gt0 g c =
    let read = c.in_ok-more.ensures in
    record {
      sound = c.requires.sound;
      unseen = tt;
      same = record { id = refl; limit_is = refl };
      at = tt;
      rises = tt;
      on = tt;
      left = omega arith;
      read = λ tells. tt;
      large = first_of (search rules, grind (arith, common_steps));
      unbroken = λ broke is. cc;
      moves = moves_by c.args.self.now.id c.in_ok-more.more _ _ read.id read.others;
      files = read.files;
      counts = read.counts;
      faults = read.faults;
      failed = λ is. absurd (cc);
    }
