use Rattle.std.proofs.Common.{arith, rules}
use Rattle.std.proofs.lemmas.Grind.{common_steps}
use Rattle.exb_capture.proofs.CaptureFileLemmas.{taken_sound, taken_less, taken_read}
use Rattle.exb_capture.proofs.capture_file.CaptureFile.take.Goals as goal

pub returns : goal.returns
returns c =
    record {
      sound = (
          taken_sound c.args.self.now c.requires.sound);
      same = first_of (search rules, grind (arith, common_steps));
      got = first_of (search rules, grind (arith, common_steps));
      left = (
          taken_less c.args.self.now c.requires.found.1.0 c.requires.found.1.1);
      bytes = first_of (search rules, grind (arith, common_steps));
      short = first_of (search rules, grind (arith, common_steps));
      read = (
          λ bytes xs x e h. taken_read bytes xs x c.args.self.now e h);
    }

pub returns-in_err-extend_from_slice-in-Some : goal.returns-in_err-extend_from_slice-in-Some
returns-in_err-extend_from_slice-in-Some c =
    record {
      sound = taken_sound c.args.self.now c.requires.sound;
      same = first_of (search rules, grind (arith, common_steps));
      got = first_of (search rules, grind (arith, common_steps));
      left = taken_less c.args.self.now c.requires.found.1.0 c.requires.found.1.1;
      bytes = first_of (search rules, grind (arith, common_steps));
      short = first_of (search rules, grind (arith, common_steps));
      read = λ bytes xs x e h. taken_read bytes xs x c.args.self.now e h;
    }
