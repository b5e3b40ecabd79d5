use Rattle.std.proofs.Common.{◌≡◌, ◌<◌, ◌≤◌, ℕ, List, length, Ok, Err, refl, sym, ap, subst, ◌∙◌, arith, rules}
use Rattle.std.proofs.lemmas.Grind.{common_steps}
use Rattle.std.proofs.lemmas.Result.{err_from_is_err_and}
use Rattle.exb_capture.specs.declared.fault.FormatFault.{FormatFault}
use Rattle.exb_capture.specs.ReaderAnswers.{IsAhead}
use Rattle.exb_shelf.specs.Files.{bytes_of}
use Rattle.exb_capture.specs.declared.capture_file.Halt.TheVariants.{Broken}
use Rattle.exb_capture.specs.FaultCounts.{after_halt}
use Rattle.exb_capture.specs.CaptureFiles.{HasRead, HaltsBy}
use Rattle.exb_capture.proofs.CaptureFileLemmas.{none_seen, seen_next, seen_held}
use Rattle.exb_capture.proofs.LookAhead.{looked, looked_sound, looked_left, looked_more, looked_end, ended_whole, found_sound, found_left, found_read, found_next, looked_fault, looked_place, halts_on, halt_is, more_open, more_room, smaller, kept_bytes, moves_then, fewer_then}
use Rattle.exb_capture.proofs.capture_file.CaptureFile.ahead.Goals as goal

pub returns-in-Some : goal.returns-in-Some
returns-in-Some g c =
    record {
      sound = first_of (search rules, grind (arith, common_steps));
      same = first_of (search rules, grind (arith, common_steps));
      at = first_of (search rules, grind (arith, common_steps));
      left = first_of (search rules, grind (arith, common_steps));
      found = (
          seen_next c.args.self.now c.in-Some.seen c.in-Some.is);
      moment = (
          (seen_held c.args.self.now c.in-Some.seen c.in-Some.is c.requires.sound).in_time);
      read = first_of (search rules, grind (arith, common_steps));
      end = first_of (search rules, grind (arith, common_steps));
      halts = first_of (search rules, grind (arith, common_steps));
      place = first_of (search rules, grind (arith, common_steps));
      moves = first_of (search rules, grind (arith, common_steps));
      files = first_of (search rules, grind (arith, common_steps));
      counts = first_of (search rules, grind (arith, common_steps));
      faults = first_of (search rules, grind (arith, common_steps));
      failed = first_of (search rules, grind (arith, common_steps));
    }

pub returns-in-Ok-Record : goal.returns-in-Ok-Record
returns-in-Ok-Record g c =
    record {
      sound = (
          found_sound c.looking.self c.advance.new.self (Ok c.in-Ok-Record.field-0) c.looking.invariant.unseen c.in-Ok-Record.ensures.answer c.advance.ensures.left _ (ap Ok c.in-Ok-Record.field-0-is) c.looking.invariant.sound (subst (IsAhead c.advance.new.self.held) c.in-Ok-Record.field-0-is c.in-Ok-Record.ensures.frame));
      same = first_of (search rules, grind (arith, common_steps));
      at = first_of (search rules, grind (arith, common_steps));
      left = (
          omega (arith, found_left c.looking.self c.advance.new.self (Ok c.in-Ok-Record.field-0) c.looking.invariant.unseen c.in-Ok-Record.ensures.answer c.advance.ensures.left _ (ap Ok c.in-Ok-Record.field-0-is), c.looking.invariant.left));
      found = (
          found_next c.looking.self c.advance.new.self (Ok c.in-Ok-Record.field-0) c.looking.invariant.unseen c.in-Ok-Record.ensures.answer c.advance.ensures.left _ (ap Ok c.in-Ok-Record.field-0-is));
      moment = (
          (subst (IsAhead c.advance.new.self.held) c.in-Ok-Record.field-0-is c.in-Ok-Record.ensures.frame).in_time);
      read = (
          λ tells xs h. found_read c.looking.self c.advance.new.self (Ok c.in-Ok-Record.field-0) c.looking.invariant.unseen c.in-Ok-Record.ensures.answer c.advance.ensures.left _ (ap Ok c.in-Ok-Record.field-0-is) _ xs (c.looking.invariant.read tells xs h));
      end = first_of (search rules, grind (arith, common_steps));
      halts = first_of (search rules, grind (arith, common_steps));
      place = first_of (search rules, grind (arith, common_steps));
      moves = first_of (search rules, grind (arith, common_steps));
      files = first_of (search rules, grind (arith, common_steps));
      counts = first_of (search rules, grind (arith, common_steps));
      faults = first_of (search rules, grind (arith, common_steps));
      failed = first_of (search rules, grind (arith, common_steps));
    }

pub returns-in-Ok-End : goal.returns-in-Ok-End
returns-in-Ok-End g c =
    record {
      sound = (
          looked_sound c.looking.self c.advance.new.self (Ok c.in-Ok-End.field-0) c.looking.invariant.unseen c.in-Ok-End.ensures.answer c.advance.ensures.left c.looking.invariant.sound);
      same = first_of (search rules, grind (arith, common_steps));
      at = first_of (search rules, grind (arith, common_steps));
      left = (
          omega (arith, looked_left c.looking.self c.advance.new.self (Ok c.in-Ok-End.field-0) c.looking.invariant.unseen c.in-Ok-End.ensures.answer c.advance.ensures.left, c.looking.invariant.left));
      found = first_of (search rules, grind (arith, common_steps));
      moment = first_of (search rules, grind (arith, common_steps));
      read = (
          λ tells xs h. looked_end c.looking.self c.advance.new.self (Ok c.in-Ok-End.field-0) c.looking.invariant.unseen c.in-Ok-End.ensures.answer c.advance.ensures.left _ xs (ap Ok c.in-Ok-End.field-0-is) (c.looking.invariant.read tells xs h));
      end = (
          λ tells xs h. ended_whole c.looking.self c.advance.new.self (Ok c.in-Ok-End.field-0) c.looking.invariant.unseen c.in-Ok-End.ensures.answer c.advance.ensures.left _ xs (ap Ok c.in-Ok-End.field-0-is) c.looking.invariant.sound (c.looking.invariant.read tells xs h));
      halts = first_of (search rules, grind (arith, common_steps));
      place = first_of (search rules, grind (arith, common_steps));
      moves = first_of (search rules, grind (arith, common_steps));
      files = first_of (search rules, grind (arith, common_steps));
      counts = first_of (search rules, grind (arith, common_steps));
      faults = first_of (search rules, grind (arith, common_steps));
      failed = first_of (search rules, grind (arith, common_steps));
    }

pub returns-in_err-read_on-in-Ok-More : goal.returns-in_err-read_on-in-Ok-More
returns-in_err-read_on-in-Ok-More g c =
    record {
      sound = first_of (search rules, grind (arith, common_steps));
      same = first_of (search rules, grind (arith, common_steps));
      at = first_of (search rules, grind (arith, common_steps));
      left = (
          omega (arith, c.read_on.ensures.left, looked_left c.looking.self c.advance.new.self (Ok c.in-Ok-More.field-0) c.looking.invariant.unseen c.in-Ok-More.ensures.answer c.advance.ensures.left, c.looking.invariant.left));
      found = first_of (search rules, grind (arith, common_steps));
      moment = first_of (search rules, grind (arith, common_steps));
      read = first_of (search rules, grind (arith, common_steps));
      end = first_of (search rules, grind (arith, common_steps));
      halts = (
          let p = err_from_is_err_and c.from_residual.result c.from_residual.ensures.1 in
          let S = g.S.Shelf in
          let inv = c.looking.invariant in
          let f = c.looking.self in
          let halt = c.in_err-read_on-in-Ok-More.field-0.0 in
          let found = c.in_err-read_on-in-Ok-More.ensures in
          let bytes = bytes_of (S.file c.args.shelf.now (S.ids c.args.shelf.now c.args.self.now.id).name) in
          let same = kept_bytes (S.file c.args.shelf.now) (S.file c.looking.shelf) (S.ids c.args.shelf.now) (S.ids c.looking.shelf) c.args.self.now.id f.id c.args.self.now.got c.requires.at inv.moves inv.files inv.same.id in
          rw (p.1, p.2)
          (λ tells xs h.
          let read = looked_more c.looking.self c.advance.new.self (Ok c.in-Ok-More.field-0) c.looking.invariant.unseen c.in-Ok-More.ensures.answer c.advance.ensures.left bytes xs (ap Ok c.in-Ok-More.field-0-is) (inv.read tells xs h) in
          subst (λ (n : ℕ). HaltsBy bytes n halt) inv.same.limit_is
          (halts_on c.looking.self c.advance.new.self (Ok c.in-Ok-More.field-0) c.looking.invariant.unseen c.in-Ok-More.ensures.answer c.advance.ensures.left bytes xs halt (ap Ok c.in-Ok-More.field-0-is) inv.sound (inv.read tells xs h)
          (λ fault is. found.unbroken fault (ap Err is))
          (λ is.
          let full = found.large tells (ap Err is) xs (subst (λ (b : List ℕ). HasRead b xs (looked c.looking.self c.advance.new.self (Ok c.in-Ok-More.field-0) c.looking.invariant.unseen c.in-Ok-More.ensures.answer c.advance.ensures.left)) (sym same) read) in
          (full.0, subst (λ (b : List ℕ). f.limit < length b) same full.1)))));
      place = (
          let p = err_from_is_err_and c.from_residual.result c.from_residual.ensures.1 in
          rw (p.1, p.2) (λ fault e. absurd (c.in_err-read_on-in-Ok-More.ensures.unbroken fault (ap Err (halt_is c.in_err-read_on-in-Ok-More.field-0.0 (Broken fault) e)))));
      moves = first_of (search rules, grind (arith, common_steps));
      files = first_of (search rules, grind (arith, common_steps));
      counts = (
          let p = err_from_is_err_and c.from_residual.result c.from_residual.ensures.1 in
          rw (p.1, p.2) (c.in_err-read_on-in-Ok-More.ensures.counts ∙ ap (after_halt c.in_err-read_on-in-Ok-More.field-0.0) c.looking.invariant.counted));
      faults = first_of (search rules, grind (arith, common_steps));
      failed = first_of (search rules, grind (arith, common_steps));
    }

pub returns-in-Err : goal.returns-in-Err
returns-in-Err g c =
    record {
      sound = (
          looked_sound c.looking.self c.advance.new.self (Err c.in-Err.fault) c.looking.invariant.unseen c.in-Err.ensures.answer c.advance.ensures.left c.looking.invariant.sound);
      same = first_of (search rules, grind (arith, common_steps));
      at = first_of (search rules, grind (arith, common_steps));
      left = (
          omega (arith, looked_left c.looking.self c.advance.new.self (Err c.in-Err.fault) c.looking.invariant.unseen c.in-Err.ensures.answer c.advance.ensures.left, c.looking.invariant.left));
      found = first_of (search rules, grind (arith, common_steps));
      moment = first_of (search rules, grind (arith, common_steps));
      read = first_of (search rules, grind (arith, common_steps));
      end = first_of (search rules, grind (arith, common_steps));
      halts = (
          λ tells xs h.
          let S = g.S.Shelf in
          let inv = c.looking.invariant in
          let bytes = bytes_of (S.file c.args.shelf.now (S.ids c.args.shelf.now c.args.self.now.id).name) in
          subst (λ (n : ℕ). HaltsBy bytes n (Broken c.in-Err.fault)) inv.same.limit_is
          (looked_fault c.looking.self c.advance.new.self (Err c.in-Err.fault) c.looking.invariant.unseen c.in-Err.ensures.answer c.advance.ensures.left bytes xs c.in-Err.fault refl inv.sound (inv.read tells xs h)));
      place = (
          λ fault e.
          let same : c.in-Err.fault ≡ fault = cc in
          subst (λ (x : FormatFault). x.at ≤ c.looking.self.got) same
          (looked_place c.looking.self c.advance.new.self (Err c.in-Err.fault) c.looking.invariant.unseen c.in-Err.ensures.answer c.advance.ensures.left c.in-Err.fault refl c.looking.invariant.sound));
      moves = first_of (search rules, grind (arith, common_steps));
      files = first_of (search rules, grind (arith, common_steps));
      counts = first_of (search rules, grind (arith, common_steps));
      faults = first_of (search rules, grind (arith, common_steps));
      failed = first_of (search rules, grind (arith, common_steps));
    }

pub looking-init : goal.looking-init
looking-init g c =
    record {
      at = c.requires.at;
      unseen = none_seen c.args.self.now.next c.in_default.not-Some;
      sound = c.requires.sound;
      same = record { id = refl; limit_is = refl };
      left = omega arith;
      read = λ tells xs h. h;
      moves = record { others = λ j other. refl; same = λ name reads. reads };
      files = λ n. refl;
      counted = refl;
      faults = record { missing = omega arith; reads = omega arith; writes = omega arith };
    }

pub read_on-requires-clause-room : goal.read_on-requires-clause-room
read_on-requires-clause-room g c =
    more_room c.looking.self c.advance.new.self (Ok c.in-Ok-More.field-0) c.looking.invariant.unseen c.in-Ok-More.ensures.answer c.advance.ensures.left (ap Ok c.in-Ok-More.field-0-is)

pub read_on-requires-clause-open : goal.read_on-requires-clause-open
read_on-requires-clause-open g c =
    more_open c.looking.self c.advance.new.self (Ok c.in-Ok-More.field-0) c.looking.invariant.unseen c.in-Ok-More.ensures.answer c.advance.ensures.left (ap Ok c.in-Ok-More.field-0-is)

pub read_on-requires-clause-sound : goal.read_on-requires-clause-sound
read_on-requires-clause-sound g c =
    looked_sound c.looking.self c.advance.new.self (Ok c.in-Ok-More.field-0) c.looking.invariant.unseen c.in-Ok-More.ensures.answer c.advance.ensures.left c.looking.invariant.sound

pub looking-smaller : goal.looking-smaller
looking-smaller g c =
    let f = c.looking.self in
    let next = c.read_on.new.self in
    let found = c.in_ok-read_on-in-Ok-More.ensures in
    smaller f.limit f.got next.limit next.got f.ended next.ended (more_open c.looking.self c.advance.new.self (Ok c.in-Ok-More.field-0) c.looking.invariant.unseen c.in-Ok-More.ensures.answer c.advance.ensures.left (ap Ok c.in-Ok-More.field-0-is)) c.read_on.ensures.same.limit_is found.rises c.read_on.ensures.sound.most found.on

pub looking-preserved : goal.looking-preserved
looking-preserved g c =
    let S = g.S.Shelf in
    let inv = c.looking.invariant in
    let f = c.looking.self in
    let next = c.read_on.new.self in
    let found = c.in_ok-read_on-in-Ok-More.ensures in
    let bytes = bytes_of (S.file c.args.shelf.now (S.ids c.args.shelf.now c.args.self.now.id).name) in
    let same = kept_bytes (S.file c.args.shelf.now) (S.file c.looking.shelf) (S.ids c.args.shelf.now) (S.ids c.looking.shelf) c.args.self.now.id f.id c.args.self.now.got c.requires.at inv.moves inv.files inv.same.id in
    record {
      at = found.at;
      unseen = found.unseen;
      sound = c.read_on.ensures.sound;
      same = record { id = c.read_on.ensures.same.id ∙ inv.same.id; limit_is = c.read_on.ensures.same.limit_is ∙ inv.same.limit_is };
      left = omega (arith, c.read_on.ensures.left, looked_left c.looking.self c.advance.new.self (Ok c.in-Ok-More.field-0) c.looking.invariant.unseen c.in-Ok-More.ensures.answer c.advance.ensures.left, inv.left);
      read = λ tells xs h.
          subst (λ (b : List ℕ). HasRead b xs next) same
          (found.read tells xs
          (subst (λ (b : List ℕ). HasRead b xs (looked c.looking.self c.advance.new.self (Ok c.in-Ok-More.field-0) c.looking.invariant.unseen c.in-Ok-More.ensures.answer c.advance.ensures.left)) (sym same)
          (looked_more c.looking.self c.advance.new.self (Ok c.in-Ok-More.field-0) c.looking.invariant.unseen c.in-Ok-More.ensures.answer c.advance.ensures.left bytes xs (ap Ok c.in-Ok-More.field-0-is) (inv.read tells xs h))));
      moves = moves_then c.args.self.now.id f.id (S.ids c.args.shelf.now) (S.ids c.looking.shelf) (S.ids c.read_on.new.shelf) inv.moves c.read_on.ensures.moves inv.same.id;
      files = λ n. c.read_on.ensures.files n ∙ inv.files n;
      counted = found.counts ∙ inv.counted;
      faults = fewer_then (S.faults c.args.shelf.now) (S.faults c.looking.shelf) (S.faults c.read_on.new.shelf) inv.faults c.read_on.ensures.faults;
    }
