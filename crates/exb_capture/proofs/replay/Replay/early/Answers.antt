use Rattle.std.proofs.Common.{◌+◌, ℕ, List, [], ◌∷◌, Option, sym, ap, subst, ◌∙◌, arith, rules}
use Rattle.std.proofs.lemmas.Grind.{common_steps}
use Rattle.std.specs.Prelude.{IfNone}
use Rattle.exb_model.specs.Input.{Record}
use Rattle.exb_shelf.specs.Files.{bytes_of}
use Rattle.exb_capture.specs.FaultCounts.{after_halt}
use Rattle.exb_capture.specs.declared.capture_file.Halt.{Halt}
use Rattle.exb_capture.specs.CaptureFiles.{HasRead, IsWhole}
use Rattle.exb_capture.proofs.ReplayLemmas.{begins, early_goes_on, early_ends, early_comes, place_of}
use Rattle.exb_capture.proofs.replay.Replay.early.Goals as goal

pub returns-then-bytes-end : goal.returns-then-bytes-end
returns-then-bytes-end g c =
    record {
      kept = first_of (search rules, grind (arith, common_steps));
      same = first_of (search rules, grind (arith, common_steps));
      changed = (
          λ tells at e xs h.
          let S = g.S.Shelf in
          let r = c.args.self.now in
          let bytes = bytes_of (S.file c.args.shelf.now (S.ids c.args.shelf.now r.file.id).name) in
          let x = c.requires.found.1.0 in
          early_goes_on r.told bytes xs x r.file c.place-end.result at c.requires.kept.sound h.read c.requires.found.1.1 c.place-end.ensures c.if-bytes-end.true e);
      place = (
          λ at e. place_of c.args.self.now.told.bytes at (c.args.self.now.told.bytes + 1) e (omega arith));
      before = first_of (search rules, grind (arith, common_steps));
      moves = first_of (search rules, grind (arith, common_steps));
      files = first_of (search rules, grind (arith, common_steps));
      counts = first_of (search rules, grind (arith, common_steps));
      faults = first_of (search rules, grind (arith, common_steps));
      failed = first_of (search rules, grind (arith, common_steps));
    }

pub returns-in-Ok-Some : goal.returns-in-Ok-Some
returns-in-Ok-Some g c =
    record {
      kept = first_of (search rules, grind (arith, common_steps));
      same = first_of (search rules, grind (arith, common_steps));
      changed = (
          λ tells at e xs h.
          let S = g.S.Shelf in
          let r = c.args.self.now in
          let bytes = bytes_of (S.file c.args.shelf.now (S.ids c.args.shelf.now r.file.id).name) in
          let x = c.requires.found.1.0 in
          early_comes r.told bytes x c.requires.found.0 r.file.reader.begun c.begun-begin.result at (begins bytes xs x r c.requires.fresh h c.requires.found.1.1) c.requires.found.1.2 c.requires.found.2 c.begun-begin.ensures e);
      place = (
          λ at e.
          let kept = c.requires.kept in
          place_of c.begun-begin.result at (c.args.self.now.told.bytes + 1) e (omega (arith, kept.sound.begun, kept.sound.most, kept.limit, c.begun-begin.ensures)));
      before = first_of (search rules, grind (arith, common_steps));
      moves = first_of (search rules, grind (arith, common_steps));
      files = first_of (search rules, grind (arith, common_steps));
      counts = first_of (search rules, grind (arith, common_steps));
      faults = first_of (search rules, grind (arith, common_steps));
      failed = first_of (search rules, grind (arith, common_steps));
    }

pub returns-then-got-bytes : goal.returns-then-got-bytes
returns-then-got-bytes g c =
    record {
      kept = first_of (search rules, grind (arith, common_steps));
      same = first_of (search rules, grind (arith, common_steps));
      changed = (
          λ tells at e xs h.
          let S = g.S.Shelf in
          let r = c.args.self.now in
          let shelf = c.args.shelf.now in
          let bytes = bytes_of (S.file shelf (S.ids shelf r.file.id).name) in
          let taken = c.pass.new.self in
          let there = bytes_of (S.file shelf (S.ids shelf taken.id).name) in
          let seen = c.ahead.new.self in
          let x = c.requires.found.1.0 in
          let read = subst (λ (ys : List Record). HasRead bytes ys r.file) (h.fresh c.requires.fresh) h.read in
          let one = c.pass.ensures.read bytes [] x c.requires.found.1.1 read in
          let same = ap (λ (k : ℕ). bytes_of (S.file shelf (S.ids shelf k).name)) c.pass.ensures.same.id in
          let ends =
          subst (λ (o : Option ℕ). IfNone o ((ys : List Record) → HasRead there ys taken → IsWhole there ys seen)) c.in-Ok-None.field-0-is (c.in-Ok-None.ensures.end tells) in
          early_ends r.told bytes there (x ∷ []) seen c.got-got.result at same (ends (x ∷ []) (subst (λ (b : List ℕ). HasRead b (x ∷ []) taken) (sym same) one)) c.got-got.ensures
          (omega (arith, c.if-got-bytes.true)) e);
      place = (λ at e. place_of c.got-got.result at (c.args.self.now.told.bytes + 1) e (omega (arith, c.if-got-bytes.true)));
      before = first_of (search rules, grind (arith, common_steps));
      moves = first_of (search rules, grind (arith, common_steps));
      files = first_of (search rules, grind (arith, common_steps));
      counts = c.in-Ok-None.ensures.counts;
      faults = first_of (search rules, grind (arith, common_steps));
      failed = first_of (search rules, grind (arith, common_steps));
    }

pub returns-else-got-end : goal.returns-else-got-end
returns-else-got-end g c =
    record {
      kept = first_of (search rules, grind (arith, common_steps));
      same = first_of (search rules, grind (arith, common_steps));
      changed = (
          λ tells at e xs h.
          let S = g.S.Shelf in
          let r = c.args.self.now in
          let bytes = bytes_of (S.file c.args.shelf.now (S.ids c.args.shelf.now r.file.id).name) in
          let x = c.requires.found.1.0 in
          early_comes r.told bytes x c.requires.found.0 r.file.reader.begun c.begun-begin.result at (begins bytes xs x r c.requires.fresh h c.requires.found.1.1) c.requires.found.1.2 c.requires.found.2 c.begun-begin.ensures e);
      place = (
          λ at e.
          let kept = c.requires.kept in
          place_of c.begun-begin.result at (c.args.self.now.told.bytes + 1) e (omega (arith, kept.sound.begun, kept.sound.most, kept.limit, c.begun-begin.ensures)));
      before = first_of (search rules, grind (arith, common_steps));
      moves = first_of (search rules, grind (arith, common_steps));
      files = first_of (search rules, grind (arith, common_steps));
      counts = c.in-Ok-None.ensures.counts;
      faults = first_of (search rules, grind (arith, common_steps));
      failed = first_of (search rules, grind (arith, common_steps));
    }

pub returns-in-Err-Broken : goal.returns-in-Err-Broken
returns-in-Err-Broken g c =
    record {
      kept = first_of (search rules, grind (arith, common_steps));
      same = first_of (search rules, grind (arith, common_steps));
      changed = (
          λ tells at e xs h.
          let S = g.S.Shelf in
          let r = c.args.self.now in
          let bytes = bytes_of (S.file c.args.shelf.now (S.ids c.args.shelf.now r.file.id).name) in
          let x = c.requires.found.1.0 in
          early_comes r.told bytes x c.requires.found.0 r.file.reader.begun c.begun-begin.result at (begins bytes xs x r c.requires.fresh h c.requires.found.1.1) c.requires.found.1.2 c.requires.found.2 c.begun-begin.ensures e);
      place = (
          λ at e.
          let kept = c.requires.kept in
          place_of c.begun-begin.result at (c.args.self.now.told.bytes + 1) e (omega (arith, kept.sound.begun, kept.sound.most, kept.limit, c.begun-begin.ensures)));
      before = first_of (search rules, grind (arith, common_steps));
      moves = first_of (search rules, grind (arith, common_steps));
      files = first_of (search rules, grind (arith, common_steps));
      counts = c.in-Err-Broken.ensures.counts ∙ ap (λ (why : Halt). after_halt why (g.S.Shelf.faults c.args.shelf.now)) c.in-Err-Broken.field-0-is;
      faults = first_of (search rules, grind (arith, common_steps));
      failed = first_of (search rules, grind (arith, common_steps));
    }

pub returns-in-Err-Large : goal.returns-in-Err-Large
returns-in-Err-Large g c =
    record {
      kept = first_of (search rules, grind (arith, common_steps));
      same = first_of (search rules, grind (arith, common_steps));
      changed = (
          λ tells at e xs h.
          let S = g.S.Shelf in
          let r = c.args.self.now in
          let bytes = bytes_of (S.file c.args.shelf.now (S.ids c.args.shelf.now r.file.id).name) in
          let x = c.requires.found.1.0 in
          early_comes r.told bytes x c.requires.found.0 r.file.reader.begun c.begun-begin.result at (begins bytes xs x r c.requires.fresh h c.requires.found.1.1) c.requires.found.1.2 c.requires.found.2 c.begun-begin.ensures e);
      place = (
          λ at e.
          let kept = c.requires.kept in
          place_of c.begun-begin.result at (c.args.self.now.told.bytes + 1) e (omega (arith, kept.sound.begun, kept.sound.most, kept.limit, c.begun-begin.ensures)));
      before = first_of (search rules, grind (arith, common_steps));
      moves = first_of (search rules, grind (arith, common_steps));
      files = first_of (search rules, grind (arith, common_steps));
      counts = c.in-Err-Large.ensures.counts ∙ ap (λ (why : Halt). after_halt why (g.S.Shelf.faults c.args.shelf.now)) c.in-Err-Large.field-0-is;
      faults = first_of (search rules, grind (arith, common_steps));
      failed = first_of (search rules, grind (arith, common_steps));
    }
