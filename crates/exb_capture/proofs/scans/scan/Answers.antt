use Rattle.std.proofs.Common.{[], Err, sym, ap, subst, ◌∙◌, arith}
use Rattle.exb_shelf.specs.Files.{bytes_of}
use Rattle.exb_shelf.specs.FaultCounts.{after_open}
use Rattle.exb_shelf.specs.declared.shelf.OpenFault.{OpenFault}
use Rattle.exb_shelf.specs.Shelf.{Id}
use Rattle.exb_capture.specs.declared.capture_file.CaptureFile.{CaptureFile}
use Rattle.exb_capture.specs.FaultCounts.{after_halt}
use Rattle.exb_capture.specs.declared.scans.ScanFault.{ScanFault}
use Rattle.exb_capture.specs.declared.scans.ScanFault.TheVariants.{Missing, Read}
use Rattle.exb_capture.specs.CaptureFiles.{HasRead, HaltsBy}
use Rattle.exb_capture.specs.Scans.{IsScan, IsScanned}
use Rattle.exb_capture.proofs.LookAhead.{fewer_then}
use Rattle.exb_capture.proofs.ScanAnswers.{fault_is, halt_counts, halt_reads, halt_there, halt_told, failed_told, is_reading, missing_told, no_memory_told, opens_on, rose_later, whole_told}
use Rattle.exb_capture.proofs.scans.scan.Goals as goal

-- it wasn't opened
pub returns-in-Err-Missing : goal.returns-in-Err-Missing
returns-in-Err-Missing g c =
    let e = c.in-Err-Missing.ensures in
    let is = c.in-Err-Missing.field-0-is in
    record {
      says = λ tells. missing_told c.args.limit (g.S.Shelf.file c.args.shelf.now c.args.name.now) (e.not_there tells (ap Err is));
      bytes = tt;
      first = tt;
      id = tt;
      opened = e.opened;
      files = e.files;
      counts = e.counts ∙ ap (λ (why : OpenFault). after_open {X = CaptureFile} (Err why) (g.S.Shelf.faults c.args.shelf.now)) is;
      faults = e.faults;
      missing = λ same. e.missing (ap Err is);
      failed = λ other. absurd (cc);
    }

pub returns-in-Err-Failed : goal.returns-in-Err-Failed
returns-in-Err-Failed g c =
    let e = c.in-Err-Failed.ensures in
    let is = c.in-Err-Failed.field-0-is in
    record {
      says = λ tells. failed_told c.args.limit (g.S.Shelf.file c.args.shelf.now c.args.name.now);
      bytes = tt;
      first = tt;
      id = tt;
      opened = e.opened;
      files = e.files;
      counts = e.counts ∙ ap (λ (why : OpenFault). after_open {X = CaptureFile} (Err why) (g.S.Shelf.faults c.args.shelf.now)) is;
      faults = e.faults;
      missing = λ other. absurd (cc);
      failed = λ same. e.failed (ap Err is);
    }

pub returns-in-Err-Memory : goal.returns-in-Err-Memory
returns-in-Err-Memory g c =
    let e = c.in-Err-Memory.ensures in
    let is = c.in-Err-Memory.field-0-is in
    record {
      says = λ tells. no_memory_told c.args.limit (g.S.Shelf.file c.args.shelf.now c.args.name.now);
      bytes = tt;
      first = tt;
      id = tt;
      opened = e.opened;
      files = e.files;
      counts = e.counts ∙ ap (λ (why : OpenFault). after_open {X = CaptureFile} (Err why) (g.S.Shelf.faults c.args.shelf.now)) is;
      faults = e.faults;
      missing = λ other. absurd (cc);
      failed = λ other. absurd (cc);
    }

-- it was read to its end
pub returns-in-Ok-scan_on : goal.returns-in-Ok-scan_on
returns-in-Ok-scan_on g c =
    let S = g.S.Shelf in
    let f = c.in-Ok.file in
    let scan = c.in-Ok-scan_on.ensures in
    let scanned = c.in-Ok-scan_on.scanned in
    record {
      says = (
          λ tells.
          let file = S.file c.args.shelf.now c.args.name.now in
          let bytes = bytes_of (S.file c.open.new.shelf (S.ids c.open.new.shelf f.id).name) in
          let same = ap (λ (i : Id). bytes_of (S.file c.open.new.shelf i.name)) c.in-Ok.ensures.id ∙ ap bytes_of (c.in-Ok.ensures.files c.args.name.now) in
          let whole = scan.whole tells (subst (λ b. HasRead b [] f) (sym same) (c.in-Ok.ensures.read tells)) in
          whole_told c.args.limit file bytes scanned (c.in-Ok.ensures.there tells) same (subst (λ n. IsScanned n bytes scanned) c.in-Ok.ensures.begun.limit_is whole));
      bytes = omega (arith, scan.bytes, c.in-Ok.ensures.begun.limit_is);
      first = scan.first;
      id = (f.id, c.in-Ok.ensures.fresh, scan.moves.same c.args.name.now (is_reading c.args.name.now (S.ids c.open.new.shelf f.id) c.in-Ok.ensures.id));
      opened = opens_on c.args.name.now (S.ids c.args.shelf.now) (S.ids c.open.new.shelf) (S.ids c.scan_on.new.shelf) f.id c.in-Ok.ensures.fresh c.in-Ok.ensures.id c.in-Ok.ensures.opened scan.moves;
      files = λ name. scan.files name ∙ c.in-Ok.ensures.files name;
      counts = scan.counts ∙ c.in-Ok.ensures.counts;
      faults = fewer_then (S.faults c.args.shelf.now) (S.faults c.open.new.shelf) (S.faults c.scan_on.new.shelf) c.in-Ok.ensures.faults scan.faults;
      missing = λ other. absurd (cc);
      failed = λ other. absurd (cc);
    }

-- it wasn't read to its end
pub returns : goal.returns
returns g c =
    record {
      says = (
          λ tells.
          let S = g.S.Shelf in
          let f = c.in-Ok.file in
          let file = S.file c.args.shelf.now c.args.name.now in
          let bytes = bytes_of (S.file c.open.new.shelf (S.ids c.open.new.shelf f.id).name) in
          let same = ap (λ (i : Id). bytes_of (S.file c.open.new.shelf i.name)) c.in-Ok.ensures.id ∙ ap bytes_of (c.in-Ok.ensures.files c.args.name.now) in
          let halts = c.in-Err.ensures.halts tells (subst (λ b. HasRead b [] f) (sym same) (c.in-Ok.ensures.read tells)) in
          subst (λ (e : ScanFault). IsScan c.args.limit file (Err e)) (sym c.refused.ensures)
          (halt_told c.args.limit file bytes c.in-Err.halt (c.in-Ok.ensures.there tells) same
          (subst (λ n. HaltsBy bytes n c.in-Err.halt) c.in-Ok.ensures.begun.limit_is halts)));
      bytes = tt;
      first = tt;
      id = tt;
      opened = opens_on c.args.name.now (g.S.Shelf.ids c.args.shelf.now) (g.S.Shelf.ids c.open.new.shelf) (g.S.Shelf.ids c.scan_on.new.shelf) c.in-Ok.file.id c.in-Ok.ensures.fresh c.in-Ok.ensures.id
          c.in-Ok.ensures.opened c.in-Err.ensures.moves;
      files = λ name. c.in-Err.ensures.files name ∙ c.in-Ok.ensures.files name;
      counts = (
          c.in-Err.ensures.counts ∙ ap (after_halt c.in-Err.halt) c.in-Ok.ensures.counts
          ∙ sym (halt_counts c.args.limit c.in-Err.halt c.refused.result (g.S.Shelf.faults c.args.shelf.now) c.refused.ensures));
      faults = fewer_then (g.S.Shelf.faults c.args.shelf.now) (g.S.Shelf.faults c.open.new.shelf) (g.S.Shelf.faults c.scan_on.new.shelf) c.in-Ok.ensures.faults c.in-Err.ensures.faults;
      missing = λ e. absurd (halt_there c.args.limit c.in-Err.halt (sym c.refused.ensures ∙ fault_is c.refused.result Missing e));
      failed = (
          λ e.
          let rose = c.in-Err.ensures.failed (ap Err (halt_reads c.args.limit c.in-Err.halt (sym c.refused.ensures ∙ fault_is c.refused.result Read e))) in
          rose_later (g.S.Shelf.faults c.args.shelf.now).reads (g.S.Shelf.faults c.open.new.shelf).reads (g.S.Shelf.faults c.scan_on.new.shelf).reads
          c.in-Ok.ensures.faults.reads c.in-Err.ensures.faults.reads rose);
    }
