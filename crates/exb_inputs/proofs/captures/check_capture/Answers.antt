use Rattle.std.proofs.Common.{◌≡◌, ◌∙◌, Err, inl, inr, ap, refl, subst}
use Rattle.exb_capture.specs.FaultCounts.{after_scan}
use Rattle.exb_capture.specs.Scans.{IsScan}
use Rattle.exb_capture.specs.declared.scans.Scanned.{Scanned}
use Rattle.exb_capture.specs.declared.scans.ScanFault.{ScanFault}
use Rattle.exb_capture.specs.declared.scans.ScanFault.TheVariants as scan
use Rattle.exb_inputs.specs.CaptureChecks.{most_bytes}
use Rattle.exb_inputs.specs.declared.fault.Fault.TheVariants.{Capture, Memory, Read}
use Rattle.exb_inputs.specs.declared.fault.InputFlaw.TheVariants.{Broken, Large}
use Rattle.exb_inputs.proofs.CheckAnswers.{fault_told, flaw_port, memory_flawless, missing_counted, missing_flawless, missing_of, missing_told, read_flawless}
use Rattle.exb_inputs.proofs.ShelfEffects.{counted_once, counts_ok}
use Rattle.exb_inputs.proofs.captures.check_capture.Goals as goal

-- it is good
pub returns-in-Ok : goal.returns-in-Ok
returns-in-Ok g c =
    let S = g.S.Shelf in
    let e = c.in-Ok.ensures in
    record {
      port = refl;
      small = e.bytes;
      in_time = e.first;
      good = e.says;
      flaw = λ tells. tt;
      causes = tt;
      own = tt;
      scanned = e.id;
      opened = e.opened;
      files = e.files;
      faults = counts_ok _ _ _ e.counts;
    }

-- it is not there
pub returns-in-Err-Missing : goal.returns-in-Err-Missing
returns-in-Err-Missing g c =
    let S = g.S.Shelf in
    let e = c.in-Err-Missing.ensures in
    let is : c.in-Err-Missing.field-0 ≡ scan.Missing = c.in-Err-Missing.field-0-is in
    let counts = e.counts ∙ ap (λ (y : ScanFault). after_scan {X = Scanned} (Err y) (S.faults c.args.shelf.now)) is in
    record {
      port = tt;
      small = tt;
      in_time = tt;
      good = λ tells. tt;
      flaw = λ tells. missing_told c.args.name.now c.missing.result c.args.port (S.file c.args.shelf.now c.args.name.now) c.missing.ensures (subst (λ (y : ScanFault). IsScan most_bytes (S.file c.args.shelf.now c.args.name.now) (Err y)) is (e.says tells));
      causes = missing_of c.args.name.now c.missing.result c.missing.ensures;
      own = λ q flaw same. absurd (missing_flawless c.args.name.now c.missing.result c.missing.ensures q flaw same);
      scanned = tt;
      opened = e.opened;
      files = e.files;
      faults = missing_counted c.args.name.now c.missing.result _ _ c.missing.ensures e.faults counts;
    }

-- the shelf failed
pub returns-in-Err-Read : goal.returns-in-Err-Read
returns-in-Err-Read g c =
    let S = g.S.Shelf in
    let e = c.in-Err-Read.ensures in
    let is : c.in-Err-Read.field-0 ≡ scan.Read = c.in-Err-Read.field-0-is in
    let counts = e.counts ∙ ap (λ (y : ScanFault). after_scan {X = Scanned} (Err y) (S.faults c.args.shelf.now)) is in
    record {
      port = tt;
      small = tt;
      in_time = tt;
      good = λ tells. tt;
      flaw = λ tells. inr (inl refl);
      causes = tt;
      own = λ q flaw same. absurd (read_flawless q flaw same);
      scanned = tt;
      opened = e.opened;
      files = e.files;
      faults = counted_once (Err Read) _ _ e.faults counts;
    }

-- memory ran out
pub returns-in-Err-Memory : goal.returns-in-Err-Memory
returns-in-Err-Memory g c =
    let S = g.S.Shelf in
    let e = c.in-Err-Memory.ensures in
    let is : c.in-Err-Memory.field-0 ≡ scan.Memory = c.in-Err-Memory.field-0-is in
    let counts = e.counts ∙ ap (λ (y : ScanFault). after_scan {X = Scanned} (Err y) (S.faults c.args.shelf.now)) is in
    record {
      port = tt;
      small = tt;
      in_time = tt;
      good = λ tells. tt;
      flaw = λ tells. inr (inr refl);
      causes = tt;
      own = λ q flaw same. absurd (memory_flawless q flaw same);
      scanned = tt;
      opened = e.opened;
      files = e.files;
      faults = counted_once (Err Memory) _ _ e.faults (inl counts);
    }

-- it breaks its grammar
pub returns-in-Err-Fault : goal.returns-in-Err-Fault
returns-in-Err-Fault g c =
    let S = g.S.Shelf in
    let e = c.in-Err-Fault.ensures in
    let is : c.in-Err-Fault.field-0 ≡ scan.Fault c.in-Err-Fault.fault = c.in-Err-Fault.field-0-is in
    let counts = e.counts ∙ ap (λ (y : ScanFault). after_scan {X = Scanned} (Err y) (S.faults c.args.shelf.now)) is in
    record {
      port = tt;
      small = tt;
      in_time = tt;
      good = λ tells. tt;
      flaw = λ tells. fault_told c.args.port c.args.name.now (S.file c.args.shelf.now c.args.name.now) (scan.Fault c.in-Err-Fault.fault) (Capture c.args.port (Broken c.in-Err-Fault.fault)) refl tt (subst (λ (y : ScanFault). IsScan most_bytes (S.file c.args.shelf.now c.args.name.now) (Err y)) is (e.says tells));
      causes = c.requires.port;
      own = λ q flaw same. flaw_port _ _ q flaw same;
      scanned = tt;
      opened = e.opened;
      files = e.files;
      faults = counted_once (Err (Capture c.args.port (Broken c.in-Err-Fault.fault))) _ _ e.faults counts;
    }

-- it is too large
pub returns-in-Err-Large : goal.returns-in-Err-Large
returns-in-Err-Large g c =
    let S = g.S.Shelf in
    let e = c.in-Err-Large.ensures in
    let is : c.in-Err-Large.field-0 ≡ scan.Large c.in-Err-Large.limit = c.in-Err-Large.field-0-is in
    let counts = e.counts ∙ ap (λ (y : ScanFault). after_scan {X = Scanned} (Err y) (S.faults c.args.shelf.now)) is in
    record {
      port = tt;
      small = tt;
      in_time = tt;
      good = λ tells. tt;
      flaw = λ tells. fault_told c.args.port c.args.name.now (S.file c.args.shelf.now c.args.name.now) (scan.Large c.in-Err-Large.limit) (Capture c.args.port (Large c.in-Err-Large.limit)) refl tt (subst (λ (y : ScanFault). IsScan most_bytes (S.file c.args.shelf.now c.args.name.now) (Err y)) is (e.says tells));
      causes = c.requires.port;
      own = λ q flaw same. flaw_port _ _ q flaw same;
      scanned = tt;
      opened = e.opened;
      files = e.files;
      faults = counted_once (Err (Capture c.args.port (Large c.in-Err-Large.limit))) _ _ e.faults counts;
    }
