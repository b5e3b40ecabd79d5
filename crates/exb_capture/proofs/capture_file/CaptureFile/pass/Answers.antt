use Rattle.std.proofs.Common.{arith, rules}
use Rattle.std.proofs.lemmas.Grind.{common_steps}
use Rattle.exb_capture.proofs.CaptureFileLemmas.{taken_sound, taken_less, taken_read}
use Rattle.exb_capture.proofs.capture_file.CaptureFile.pass.Goals as goal

pub returns : goal.returns
returns c =
    record {
      sound = (
          taken_sound c.args.self.now c.requires.sound);
      same = first_of (search rules, grind (arith, common_steps));
      got = first_of (search rules, grind (arith, common_steps));
      left = (
          let less = taken_less c.args.self.now c.requires.found.1.0 c.requires.found.1.1 in omega (arith, less));
      read = (
          λ bytes xs x e h. taken_read bytes xs x c.args.self.now e h);
    }
