use Rattle.std.proofs.Common.{false, None, [], refl, sym, subst, arith, rules}
use Rattle.std.proofs.lemmas.Grind.{common_steps}
use Rattle.exb_shelf.specs.Files.{bytes_of}
use Rattle.exb_shelf.specs.Shelf.{Id, IsReadingOf}
use Rattle.exb_shelf.proofs.IdLemmas.{opens_one}
use Rattle.exb_capture.specs.declared.format.AnyFormat.{AnyFormat as State}
use Rattle.exb_capture.specs.ReaderMachine.{Reading}
use Rattle.exb_capture.specs.CaptureFiles.{IsSound, HasRead}
use Rattle.exb_capture.proofs.CaptureFileLemmas.{begun_read, begun_sound}
use Rattle.exb_capture.proofs.capture_file.CaptureFile.open.Goals as goal

pub returns : goal.returns
returns g c =
    let bytes = bytes_of (g.S.Shelf.file c.args.shelf.now c.args.name.now) in
    record {
      begun = record { reader = c.in-Ok.ensures; next = refl; got = refl; limit_is = refl; ended = refl };
      sound = subst (λ (r : Reading State). IsSound (record { id = c.in_ok-id.id; reader = r; next = None; got = 0; limit = c.args.limit; ended = false })) (sym c.in-Ok.ensures) (begun_sound c.in_ok-id.id c.args.limit (omega (arith, c.ranges.limit.fits)));
      read = λ tells. subst (λ (r : Reading State). HasRead bytes [] (record { id = c.in_ok-id.id; reader = r; next = None; got = 0; limit = c.args.limit; ended = false })) (sym c.in-Ok.ensures) (begun_read bytes c.in_ok-id.id c.args.limit);
      there = first_of (search rules, grind (arith, common_steps));
      not_there = first_of (search rules, grind (arith, common_steps));
      id = first_of (search rules, grind (arith, common_steps));
      fresh = first_of (search rules, grind (arith, common_steps));
      others = first_of (search rules, grind (arith, common_steps));
      opened =
          opens_one (IsReadingOf c.args.name.now) (g.S.Shelf.ids c.args.shelf.now) (g.S.Shelf.ids c.open.new.self) c.in_ok-id.id c.in_ok-id.ensures.others c.open.ensures.kept c.in_ok-id.ensures.rises
          (subst (λ (i : Id). IsReadingOf c.args.name.now i) (sym c.in_ok-id.ensures.id) (record { given = refl; reads = refl; named = refl }));
      files = first_of (search rules, grind (arith, common_steps));
      counts = first_of (search rules, grind (arith, common_steps));
      faults = first_of (search rules, grind (arith, common_steps));
      missing = first_of (search rules, grind (arith, common_steps));
      failed = first_of (search rules, grind (arith, common_steps));
    }
