use Rattle.std.proofs.Common.{◌≡◌, ℕ, List, Option, Err, ap, sym, subst, ◌∙◌, arith, rules}
use Rattle.std.proofs.lemmas.Grind.{common_steps}
use Rattle.std.specs.Prelude.{IfNone}
use Rattle.exb_model.specs.Input.{Record}
use Rattle.exb_shelf.specs.Files.{bytes_of}
use Rattle.exb_capture.specs.FaultCounts.{after_fault, after_halt}
use Rattle.exb_capture.specs.declared.capture_file.Halt.{Halt}
use Rattle.exb_capture.specs.declared.capture_file.Halt.TheVariants as stop
use Rattle.exb_capture.specs.declared.replay.ReplayFault.TheVariants.{Changed}
use Rattle.exb_capture.specs.CaptureFiles.{HasRead, HaltsBy, IsWhole}
use Rattle.exb_capture.specs.Replays.{Disagrees}
use Rattle.exb_capture.proofs.LookAhead.{kept_bytes}
use Rattle.exb_capture.proofs.ReplayLemmas.{fault_is, halted_disagrees, halted_place, ended_disagrees, played_whole}
use Rattle.exb_capture.proofs.replay.Replay.ahead.Goals as goal

pub returns-then-comes_early : goal.returns-then-comes_early
returns-then-comes_early g c =
    record {
      kept = first_of (search rules, grind (arith, common_steps));
      same = first_of (search rules, grind (arith, common_steps));
      before = first_of (search rules, grind (arith, common_steps));
      at = first_of (search rules, grind (arith, common_steps));
      left = first_of (search rules, grind (arith, common_steps));
      found = first_of (search rules, grind (arith, common_steps));
      given = first_of (search rules, grind (arith, common_steps));
      end = first_of (search rules, grind (arith, common_steps));
      changed = (
          λ tells at e xs h.
          let S = g.S.Shelf in
          let r = c.args.self.now in
          let seen = c.ahead.new.self in
          let same =
          kept_bytes (S.file c.args.shelf.now) (S.file c.ahead.new.shelf) (S.ids c.args.shelf.now) (S.ids c.ahead.new.shelf) r.file.id seen.id r.file.got c.requires.at
          c.ahead.ensures.moves c.ahead.ensures.files c.ahead.ensures.same.id in
          let read = subst (λ (b : List ℕ). HasRead b xs seen) (sym same) (c.in-Ok-Some.ensures.read tells xs h.read) in
          subst (λ (b : List ℕ). Disagrees r.told b at) same
          (c.early.ensures.changed tells at (fault_is c.early.result at e) xs (record { read = read; fresh = h.fresh })));
      place = (
          λ at e. c.early.ensures.place at (fault_is c.early.result at e));
      moves = first_of (search rules, grind (arith, common_steps));
      files = first_of (search rules, grind (arith, common_steps));
      counts = (
          c.early.ensures.counts ∙ ap (after_fault c.early.result) c.in-Ok-Some.ensures.counts);
      faults = first_of (search rules, grind (arith, common_steps));
      failed = first_of (search rules, grind (arith, common_steps));
    }

pub returns-then-got-bytes : goal.returns-then-got-bytes
returns-then-got-bytes g c =
    record {
      kept = first_of (search rules, grind (arith, common_steps));
      same = first_of (search rules, grind (arith, common_steps));
      before = first_of (search rules, grind (arith, common_steps));
      at = first_of (search rules, grind (arith, common_steps));
      left = first_of (search rules, grind (arith, common_steps));
      found = first_of (search rules, grind (arith, common_steps));
      given = first_of (search rules, grind (arith, common_steps));
      end = first_of (search rules, grind (arith, common_steps));
      changed = (
          λ tells at e xs h.
          let S = g.S.Shelf in
          let r = c.args.self.now in
          let seen = c.ahead.new.self in
          let bytes = bytes_of (S.file c.args.shelf.now (S.ids c.args.shelf.now r.file.id).name) in
          let ends =
          subst (λ (o : Option ℕ). IfNone o ((ys : List Record) → HasRead bytes ys r.file → IsWhole bytes ys seen)) c.in-Ok-None.field-0-is (c.in-Ok-None.ensures.end tells) in
          let there = fault_is (Changed c.min.result) at e in
          let place : c.min.result ≡ at = cc in
          ended_disagrees r.told bytes xs seen c.got-got.result at (ends xs h.read) c.got-got.ensures c.if-got-bytes.true (sym place ∙ c.min.ensures));
      place = (
          λ at e.
          let there = fault_is (Changed c.min.result) at e in
          let place : c.min.result ≡ at = cc in
          omega (arith, place, c.min.ensures));
      moves = first_of (search rules, grind (arith, common_steps));
      files = first_of (search rules, grind (arith, common_steps));
      counts = c.in-Ok-None.ensures.counts;
      faults = first_of (search rules, grind (arith, common_steps));
      failed = first_of (search rules, grind (arith, common_steps));
    }

pub returns-else-got-bytes : goal.returns-else-got-bytes
returns-else-got-bytes g c =
    record {
      kept = first_of (search rules, grind (arith, common_steps));
      same = first_of (search rules, grind (arith, common_steps));
      before = first_of (search rules, grind (arith, common_steps));
      at = first_of (search rules, grind (arith, common_steps));
      left = first_of (search rules, grind (arith, common_steps));
      found = first_of (search rules, grind (arith, common_steps));
      given = first_of (search rules, grind (arith, common_steps));
      end = (
          λ tells xs h.
          let S = g.S.Shelf in
          let r = c.args.self.now in
          let seen = c.ahead.new.self in
          let bytes = bytes_of (S.file c.args.shelf.now (S.ids c.args.shelf.now r.file.id).name) in
          let ends =
          subst (λ (o : Option ℕ). IfNone o ((ys : List Record) → HasRead bytes ys r.file → IsWhole bytes ys seen)) c.in-Ok-None.field-0-is (c.in-Ok-None.ensures.end tells) in
          played_whole r.told bytes xs seen c.got-got.result (ends xs h.read) c.got-got.ensures (omega (arith, c.if-got-bytes.false)));
      changed = first_of (search rules, grind (arith, common_steps));
      place = first_of (search rules, grind (arith, common_steps));
      moves = first_of (search rules, grind (arith, common_steps));
      files = first_of (search rules, grind (arith, common_steps));
      counts = c.in-Ok-None.ensures.counts;
      faults = first_of (search rules, grind (arith, common_steps));
      failed = first_of (search rules, grind (arith, common_steps));
    }

pub returns-in-Err-Broken : goal.returns-in-Err-Broken
returns-in-Err-Broken g c =
    record {
      kept = first_of (search rules, grind (arith, common_steps));
      same = first_of (search rules, grind (arith, common_steps));
      before = first_of (search rules, grind (arith, common_steps));
      at = first_of (search rules, grind (arith, common_steps));
      left = first_of (search rules, grind (arith, common_steps));
      found = first_of (search rules, grind (arith, common_steps));
      given = first_of (search rules, grind (arith, common_steps));
      end = first_of (search rules, grind (arith, common_steps));
      changed = (
          λ tells at e xs h.
          let S = g.S.Shelf in
          let r = c.args.self.now in
          let bytes = bytes_of (S.file c.args.shelf.now (S.ids c.args.shelf.now r.file.id).name) in
          halted_disagrees r.told bytes r.file.limit (stop.Broken c.in-Err-Broken.fault) at c.requires.kept.limit (subst (λ (why : Halt). HaltsBy bytes r.file.limit why) c.in-Err-Broken.field-0-is (c.in-Err-Broken.ensures.halts tells xs h.read)) (fault_is (Changed c.in-Err-Broken.fault.at) at e));
      place = (
          λ at e.
          let seen = c.ahead.new.self in
          halted_place c.args.self.now.told.bytes seen.got (stop.Broken c.in-Err-Broken.fault) at (λ fault is. c.in-Err-Broken.ensures.place fault (ap Err (c.in-Err-Broken.field-0-is ∙ is)))
          (omega (arith, c.ahead.ensures.sound.most, c.ahead.ensures.same.limit_is, c.requires.kept.limit)) (fault_is (Changed c.in-Err-Broken.fault.at) at e));
      moves = first_of (search rules, grind (arith, common_steps));
      files = first_of (search rules, grind (arith, common_steps));
      counts = c.in-Err-Broken.ensures.counts ∙ ap (λ (why : Halt). after_halt why (g.S.Shelf.faults c.args.shelf.now)) c.in-Err-Broken.field-0-is;
      faults = first_of (search rules, grind (arith, common_steps));
      failed = first_of (search rules, grind (arith, common_steps));
    }

pub returns-in-Err-Large : goal.returns-in-Err-Large
returns-in-Err-Large g c =
    record {
      kept = first_of (search rules, grind (arith, common_steps));
      same = first_of (search rules, grind (arith, common_steps));
      before = first_of (search rules, grind (arith, common_steps));
      at = first_of (search rules, grind (arith, common_steps));
      left = first_of (search rules, grind (arith, common_steps));
      found = first_of (search rules, grind (arith, common_steps));
      given = first_of (search rules, grind (arith, common_steps));
      end = first_of (search rules, grind (arith, common_steps));
      changed = (
          λ tells at e xs h.
          let S = g.S.Shelf in
          let r = c.args.self.now in
          let bytes = bytes_of (S.file c.args.shelf.now (S.ids c.args.shelf.now r.file.id).name) in
          halted_disagrees r.told bytes r.file.limit stop.Large at c.requires.kept.limit (subst (λ (why : Halt). HaltsBy bytes r.file.limit why) c.in-Err-Large.field-0-is (c.in-Err-Large.ensures.halts tells xs h.read)) (fault_is (Changed c.args.self.now.told.bytes) at e));
      place = (
          λ at e.
          let seen = c.ahead.new.self in
          halted_place c.args.self.now.told.bytes seen.got stop.Large at (λ fault is. absurd (cc))
          (omega (arith, c.ahead.ensures.sound.most, c.ahead.ensures.same.limit_is, c.requires.kept.limit)) (fault_is (Changed c.args.self.now.told.bytes) at e));
      moves = first_of (search rules, grind (arith, common_steps));
      files = first_of (search rules, grind (arith, common_steps));
      counts = c.in-Err-Large.ensures.counts ∙ ap (λ (why : Halt). after_halt why (g.S.Shelf.faults c.args.shelf.now)) c.in-Err-Large.field-0-is;
      faults = first_of (search rules, grind (arith, common_steps));
      failed = first_of (search rules, grind (arith, common_steps));
    }
