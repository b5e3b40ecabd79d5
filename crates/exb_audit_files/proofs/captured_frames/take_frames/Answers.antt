use Rattle.std.proofs.Common.{rules, ◌≡◌, ◌++◌, ◌∷◌, [], ℕ, List, Option, sym, subst, ap, ◌∙◌, arith}
use Rattle.std.specs.Prelude.{IfSome, IfNone}
use Rattle.std.proofs.lemmas.Result.{err_from_is_err_and}
use Rattle.exb_model.specs.Input.{Record}
use Rattle.exb_shelf.specs.Files.{bytes_of}
use Rattle.exb_shelf.specs.Shelf.{Faults, Rose}
use Rattle.exb_capture.specs.FaultCounts.{after_halt}
use Rattle.exb_capture.specs.CaptureFiles.{IsAt, IsWhole, HasRead, HaltsBy, ComesNext}
use Rattle.exb_capture.proofs.LookAhead.{kept_bytes, moves_then, fewer_then}
use Rattle.exb_audit_files.proofs.CaptureFrames.{all_taken, memory_not_failed, one_taken, same_halt, taken_not_failed}
use Rattle.exb_audit_files.proofs.captured_frames.take_frames.Goals as goal

-- the file isn't read on
pub returns-in_err-ahead : goal.returns-in_err-ahead
returns-in_err-ahead g c =
    let p = err_from_is_err_and c.from_residual.result c.from_residual.ensures.1 in
    let S = g.S.Shelf in
    let inv = c.records.invariant in
    let f = c.records.file in
    let halt = c.in_err-ahead.field-0.0 in
    let on = c.in_err-ahead.ensures in
    let bytes = bytes_of (S.file c.args.shelf.now (S.ids c.args.shelf.now c.args.file.now.id).name) in
    let same = kept_bytes (S.file c.args.shelf.now) (S.file c.records.shelf) (S.ids c.args.shelf.now) (S.ids c.records.shelf) c.args.file.now.id f.id c.args.file.now.got c.requires.at inv.moves inv.files inv.same.id in
    rw (p.1, p.2) (record {
      whole = λ tells. tt;
      halts = λ tells h.
          let taken = inv.taken tells h in
          subst (λ (n : ℕ). HaltsBy bytes n halt) inv.same.limit_is
          (subst (λ (b : List ℕ). HaltsBy b f.limit halt) same
          (on.halts tells taken.taken (subst (λ (b : List ℕ). HasRead b taken.taken f) (sym same) taken.read)));
      bytes = tt;
      moves = moves_then c.args.file.now.id f.id (S.ids c.args.shelf.now) (S.ids c.records.shelf) (S.ids c.ahead.new.shelf) inv.moves on.moves inv.same.id;
      files = λ n. on.files n ∙ inv.files n;
      counts = on.counts ∙ ap (after_halt halt) inv.counted;
      faults = fewer_then (S.faults c.args.shelf.now) (S.faults c.records.shelf) (S.faults c.ahead.new.shelf) inv.faults on.faults;
      failed = λ why. subst (λ (k : Faults). Rose k.reads (S.faults c.ahead.new.shelf).reads) inv.counted (on.failed (same_halt halt why));
    })

-- there is no memory for a frame
pub returns-in_default-take : goal.returns-in_default-take
returns-in_default-take g c =
    let S = g.S.Shelf in
    let inv = c.records.invariant in
    let f = c.records.file in
    let on = c.in_ok-ahead.ensures in
    record {
      whole = λ tells. tt;
      halts = λ tells h. tt;
      bytes = tt;
      moves = moves_then c.args.file.now.id f.id (S.ids c.args.shelf.now) (S.ids c.records.shelf) (S.ids c.ahead.new.shelf) inv.moves on.moves inv.same.id;
      files = λ n. on.files n ∙ inv.files n;
      counts = on.counts ∙ inv.counted;
      faults = fewer_then (S.faults c.args.shelf.now) (S.faults c.records.shelf) (S.faults c.ahead.new.shelf) inv.faults on.faults;
      failed = λ other. absurd (memory_not_failed other);
    }

-- there is none to keep it
pub returns-then-is_err : goal.returns-then-is_err
returns-then-is_err g c =
    let S = g.S.Shelf in
    let inv = c.records.invariant in
    let f = c.records.file in
    let on = c.in_ok-ahead.ensures in
    record {
      whole = λ tells. tt;
      halts = λ tells h. tt;
      bytes = tt;
      moves = moves_then c.args.file.now.id f.id (S.ids c.args.shelf.now) (S.ids c.records.shelf) (S.ids c.ahead.new.shelf) inv.moves on.moves inv.same.id;
      files = λ n. on.files n ∙ inv.files n;
      counts = on.counts ∙ inv.counted;
      faults = fewer_then (S.faults c.args.shelf.now) (S.faults c.records.shelf) (S.faults c.ahead.new.shelf) inv.faults on.faults;
      failed = λ other. absurd (memory_not_failed other);
    }

pub records-preserved : goal.records-preserved
records-preserved g c =
    let S = g.S.Shelf in
    let inv = c.records.invariant in
    let f = c.records.file in
    let seen = c.ahead.new.self in
    let next = c.take.new.self in
    let found = c.in_ok-ahead.ensures in
    let took = c.take.ensures in
    let bytes = bytes_of (S.file c.args.shelf.now (S.ids c.args.shelf.now c.args.file.now.id).name) in
    let same = kept_bytes (S.file c.args.shelf.now) (S.file c.records.shelf) (S.ids c.args.shelf.now) (S.ids c.records.shelf) c.args.file.now.id f.id c.args.file.now.got c.requires.at inv.moves inv.files inv.same.id in
    let pushed : c.push.new.self.items ≡ c.records.frames.items ++ c.in-Ok.frame ∷ [] = search rules in
    record {
      at =
          subst (λ (n : ℕ). IsAt (S.ids c.ahead.new.shelf next.id) n) (sym took.got)
          (subst (λ (k : ℕ). IsAt (S.ids c.ahead.new.shelf k) seen.got) (sym took.same.id) found.at);
      sound = took.sound;
      same = record {
        id = took.same.id ∙ (c.ahead.ensures.same.id ∙ inv.same.id);
        limit_is = took.same.limit_is ∙ (c.ahead.ensures.same.limit_is ∙ inv.same.limit_is);
      };
      taken = λ tells h.
          let taken = inv.taken tells h in
          one_taken bytes seen next c.records.frames.items c.push.new.self.items c.in-Some.field-0 c.in-Ok.frame
          (record {
            taken = taken.taken;
            read =
                subst (λ (b : List ℕ). HasRead b taken.taken seen) same
                (found.read tells taken.taken (subst (λ (b : List ℕ). HasRead b taken.taken f) (sym same) taken.read));
            are = taken.are;
          })
          (subst (λ (o : Option ℕ). IfSome o (λ m. ComesNext m seen)) c.in-Some.is found.found)
          c.in-Ok.ensures.bytes (λ xs x. took.read bytes xs x) pushed;
      moves = moves_then c.args.file.now.id f.id (S.ids c.args.shelf.now) (S.ids c.records.shelf) (S.ids c.ahead.new.shelf) inv.moves c.ahead.ensures.moves inv.same.id;
      files = λ n. c.ahead.ensures.files n ∙ inv.files n;
      faults = fewer_then (S.faults c.args.shelf.now) (S.faults c.records.shelf) (S.faults c.ahead.new.shelf) inv.faults c.ahead.ensures.faults;
      counted = found.counts ∙ inv.counted;
    }

-- all frames were taken
pub returns : goal.returns
returns g c =
    let S = g.S.Shelf in
    let inv = c.records.invariant in
    let f = c.records.file in
    let seen = c.ahead.new.self in
    let on = c.in_ok-ahead.ensures in
    let bytes = bytes_of (S.file c.args.shelf.now (S.ids c.args.shelf.now c.args.file.now.id).name) in
    let there = bytes_of (S.file c.records.shelf (S.ids c.records.shelf f.id).name) in
    let same = kept_bytes (S.file c.args.shelf.now) (S.file c.records.shelf) (S.ids c.args.shelf.now) (S.ids c.records.shelf) c.args.file.now.id f.id c.args.file.now.got c.requires.at inv.moves inv.files inv.same.id in
    let limit = on.same.limit_is ∙ inv.same.limit_is in
    record {
      whole = λ tells h.
          let taken = inv.taken tells h in
          let ends =
          subst (λ (o : Option ℕ). IfNone o ((xs : List Record) → HasRead there xs f → IsWhole there xs seen)) c.in_default.is (on.end tells) in
          all_taken bytes f seen (record { frames = c.records.frames; bytes = c.got.result }) c.args.file.now.limit taken
          (subst (λ (b : List ℕ). IsWhole b taken.taken seen) same (ends taken.taken (subst (λ (b : List ℕ). HasRead b taken.taken f) (sym same) taken.read)))
          c.got.ensures limit;
      halts = λ tells. tt;
      bytes = omega (arith, c.got.ensures, limit, on.sound.fits);
      moves = moves_then c.args.file.now.id f.id (S.ids c.args.shelf.now) (S.ids c.records.shelf) (S.ids c.ahead.new.shelf) inv.moves on.moves inv.same.id;
      files = λ n. on.files n ∙ inv.files n;
      counts = on.counts ∙ inv.counted;
      faults = fewer_then (S.faults c.args.shelf.now) (S.faults c.records.shelf) (S.faults c.ahead.new.shelf) inv.faults on.faults;
      failed = λ other. absurd (taken_not_failed _ other);
    }
