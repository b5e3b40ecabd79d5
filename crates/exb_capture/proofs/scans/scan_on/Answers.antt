use Rattle.std.proofs.Common.{◌<◌, ◌*◌, ◌^◌, ℕ, List, Option, ap, sym, subst, ◌∙◌, arith, rules}
use Rattle.std.proofs.lemmas.Grind.{common_steps}
use Rattle.std.specs.Prelude.{IfSome, IfNone}
use Rattle.std.proofs.lemmas.Result.{err_from_is_err_and}
use Rattle.exb_model.specs.Input.{Record}
use Rattle.exb_shelf.specs.Files.{bytes_of}
use Rattle.exb_capture.specs.FaultCounts.{after_halt}
use Rattle.exb_capture.specs.CaptureFiles.{IsAt, IsWhole, HasRead, HaltsBy, ComesNext}
use Rattle.exb_capture.proofs.ScanCounts.{one_counted, all_counted, first_in_time, or_is}
use Rattle.exb_capture.proofs.LookAhead.{kept_bytes, moves_then, fewer_then}
use Rattle.exb_capture.proofs.scans.scan_on.Goals as goal

pub returns-in_err-moment : goal.returns-in_err-moment
returns-in_err-moment g c =
    record {
      whole = first_of (search rules, grind (arith, common_steps));
      halts = (
          let p = err_from_is_err_and c.from_residual.result c.from_residual.ensures.1 in
          let S = g.S.Shelf in
          let inv = c.records.invariant in
          let f = c.records.file in
          let halt = c.in_err-moment.field-0.0 in
          let bytes = bytes_of (S.file c.args.shelf.now (S.ids c.args.shelf.now c.args.file.now.id).name) in
          let same = kept_bytes (S.file c.args.shelf.now) (S.file c.records.shelf) (S.ids c.args.shelf.now) (S.ids c.records.shelf) c.args.file.now.id f.id c.args.file.now.got c.requires.at inv.moves inv.files inv.same.id in
          rw (p.1, p.2)
          (λ tells h.
          let counted = inv.counted tells h in
          subst (λ (n : ℕ). HaltsBy bytes n halt) inv.same.limit_is
          (subst (λ (b : List ℕ). HaltsBy b f.limit halt) same
          (c.in_err-moment.ensures.halts tells counted.taken (subst (λ (b : List ℕ). HasRead b counted.taken f) (sym same) counted.read)))));
      bytes = first_of (search rules, grind (arith, common_steps));
      first = first_of (search rules, grind (arith, common_steps));
      moves = first_of (search rules, grind (arith, common_steps));
      files = first_of (search rules, grind (arith, common_steps));
      counts = (
          let p = err_from_is_err_and c.from_residual.result c.from_residual.ensures.1 in
          rw (p.1, p.2) (c.in_err-moment.ensures.counts ∙ ap (after_halt c.in_err-moment.field-0.0) c.records.invariant.faulted));
      faults = first_of (search rules, grind (arith, common_steps));
      failed = first_of (search rules, grind (arith, common_steps));
    }

pub returns : goal.returns
returns g c =
    record {
      whole = (
          λ tells h.
          let S = g.S.Shelf in
          let inv = c.records.invariant in
          let f = c.records.file in
          let seen = c.ahead.new.self in
          let bytes = bytes_of (S.file c.args.shelf.now (S.ids c.args.shelf.now c.args.file.now.id).name) in
          let there = bytes_of (S.file c.records.shelf (S.ids c.records.shelf f.id).name) in
          let same = kept_bytes (S.file c.args.shelf.now) (S.file c.records.shelf) (S.ids c.args.shelf.now) (S.ids c.records.shelf) c.args.file.now.id f.id c.args.file.now.got c.requires.at inv.moves inv.files inv.same.id in
          let counted = inv.counted tells h in
          let ends =
          subst (λ (o : Option ℕ). IfNone o ((xs : List Record) → HasRead there xs f → IsWhole there xs seen)) c.in_default.is (c.in_ok-moment.ensures.end tells) in
          all_counted bytes f seen (record { bytes = 0; records = c.records.count; first = c.records.first }) c.got.result c.args.file.now.limit counted
          (subst (λ (b : List ℕ). IsWhole b counted.taken seen) same (ends counted.taken (subst (λ (b : List ℕ). HasRead b counted.taken f) (sym same) counted.read)))
          c.got.ensures (c.ahead.ensures.same.limit_is ∙ inv.same.limit_is));
      halts = first_of (search rules, grind (arith, common_steps));
      bytes = first_of (search rules, grind (arith, common_steps));
      first = first_of (search rules, grind (arith, common_steps));
      moves = first_of (search rules, grind (arith, common_steps));
      files = first_of (search rules, grind (arith, common_steps));
      counts = first_of (search rules, grind (arith, common_steps));
      faults = first_of (search rules, grind (arith, common_steps));
      failed = first_of (search rules, grind (arith, common_steps));
    }

pub records-preserved : goal.records-preserved
records-preserved g c =
    let S = g.S.Shelf in
    let inv = c.records.invariant in
    let f = c.records.file in
    let seen = c.ahead.new.self in
    let next = c.pass.new.self in
    let found = c.in_ok-moment.ensures in
    let bytes = bytes_of (S.file c.args.shelf.now (S.ids c.args.shelf.now c.args.file.now.id).name) in
    let same = kept_bytes (S.file c.args.shelf.now) (S.file c.records.shelf) (S.ids c.args.shelf.now) (S.ids c.records.shelf) c.args.file.now.id f.id c.args.file.now.got c.requires.at inv.moves inv.files inv.same.id in
    record {
      at =
          subst (λ (n : ℕ). IsAt (S.ids c.ahead.new.shelf next.id) n) (sym c.pass.ensures.got)
          (subst (λ (k : ℕ). IsAt (S.ids c.ahead.new.shelf k) seen.got) (sym c.pass.ensures.same.id) found.at);
      sound = c.pass.ensures.sound;
      same = record {
        id = c.pass.ensures.same.id ∙ (c.ahead.ensures.same.id ∙ inv.same.id);
        limit_is = c.pass.ensures.same.limit_is ∙ (c.ahead.ensures.same.limit_is ∙ inv.same.limit_is);
      };
      counted = λ tells h.
          let counted = inv.counted tells h in
          one_counted bytes seen next (record { bytes = 0; records = c.records.count; first = c.records.first }) _ c.in-Some.moment
          (record {
            taken = counted.taken;
            read =
                subst (λ (b : List ℕ). HasRead b counted.taken seen) same
                (found.read tells counted.taken (subst (λ (b : List ℕ). HasRead b counted.taken f) (sym same) counted.read));
            records = counted.records;
            first = counted.first;
          })
          (subst (λ (o : Option ℕ). IfSome o (λ m. ComesNext m seen)) c.in-Some.is found.found)
          (λ xs x. c.pass.ensures.read bytes xs x) c.pass.ensures.sound c.saturating_add-count.ensures (c.or-first.ensures ∙ or_is c.records.first c.in-Some.moment);
      first =
          subst (λ (o : Option ℕ). IfSome o (λ k. k < 2 ^ 32 * 1_000_000_000)) (sym (c.or-first.ensures ∙ or_is c.records.first c.in-Some.moment))
          (first_in_time c.records.first c.in-Some.moment inv.first (subst (λ (o : Option ℕ). IfSome o (λ k. k < 2 ^ 32 * 1_000_000_000)) c.in-Some.is found.moment));
      moves = moves_then c.args.file.now.id f.id (S.ids c.args.shelf.now) (S.ids c.records.shelf) (S.ids c.ahead.new.shelf) inv.moves c.ahead.ensures.moves inv.same.id;
      files = λ n. c.ahead.ensures.files n ∙ inv.files n;
      faulted = found.counts ∙ inv.faulted;
      faults = fewer_then (S.faults c.args.shelf.now) (S.faults c.records.shelf) (S.faults c.ahead.new.shelf) inv.faults c.ahead.ensures.faults;
    }
