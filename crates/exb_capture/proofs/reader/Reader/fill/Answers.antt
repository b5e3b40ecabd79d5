use Rattle.std.proofs.Common.{◌≤◌, ◌+◌, length, ap, ◌∙◌, arith, rules}
use Rattle.std.proofs.lemmas.Grind.{common_steps}
use Rattle.std.proofs.lemmas.List.{with_items_is, places}
use Rattle.exb_capture.specs.ReaderAnswers.{stage_of}
use Rattle.exb_capture.specs.ReaderMachine.{fed}
use Rattle.exb_capture.proofs.BufferLemmas.{view_of, filled_view, kept_view, on_err}
use Rattle.exb_capture.proofs.reader.Reader.fill.Goals as goal

pub returns-in_err-n : goal.returns-in_err-n
returns-in_err-n g c =
    record {
      bound = first_of (search rules, grind (arith, common_steps));
      filled = first_of (search rules, grind (arith, common_steps));
      end = first_of (search rules, grind (arith, common_steps));
      same = (
          let i = c.self.inside in
          let s = stage_of i.failed i.format in
          let bytes = c.as_mut_slice.result.now in
          let within : i.end ≤ length bytes = omega (arith, ap length c.as_mut_slice.ensures.value) in
          on_err c.from_residual.result
          (ap (λ b. view_of s i.place b i.start i.end i.owing i.begun) (with_items_is i.buffer _ (search (rules, places)))
          ∙ kept_view s i.place bytes _ i.start i.end i.owing i.begun (omega arith) within
          ∙ ap (λ b. view_of s i.place b i.start i.end i.owing i.begun) c.as_mut_slice.ensures.value
          ∙ c.self.view_is));
      id = first_of (search rules, grind (arith, common_steps));
      others = first_of (search rules, grind (arith, common_steps));
      id_err = first_of (search rules, grind (arith, common_steps));
      files = first_of (search rules, grind (arith, common_steps));
      counts = first_of (search rules, grind (arith, common_steps));
      faults = first_of (search rules, grind (arith, common_steps));
      failed = first_of (search rules, grind (arith, common_steps));
    }

pub returns : goal.returns
returns g c =
    record {
      bound = first_of (search rules, grind (arith, common_steps));
      filled = (
          let i = c.self.inside in
          let n = c.in_ok-n.n in
          let s = stage_of i.failed i.format in
          let bytes = c.as_mut_slice.result.now in
          let into = c.read.new.into in
          let few : n ≤ length into = omega (arith, c.in_ok-n.ensures.bound) in
          let within : i.end ≤ length bytes = omega (arith, ap length c.as_mut_slice.ensures.value) in
          record {
            piece = into;
            there = few;
            has_fed = ap (λ b. view_of s i.place b i.start (i.end + n) i.owing i.begun) (with_items_is i.buffer _ (search (rules, places)))
                ∙ filled_view s i.place bytes into _ i.start i.end i.owing i.begun n (omega arith) within few
                ∙ ap (λ b. fed n into (view_of s i.place b i.start i.end i.owing i.begun)) c.as_mut_slice.ensures.value
                ∙ ap (fed n into) c.self.view_is;
            told = λ tells. c.in_ok-n.ensures.bytes tells;
          });
      end = first_of (search rules, grind (arith, common_steps));
      same = first_of (search rules, grind (arith, common_steps));
      id = first_of (search rules, grind (arith, common_steps));
      others = first_of (search rules, grind (arith, common_steps));
      id_err = first_of (search rules, grind (arith, common_steps));
      files = first_of (search rules, grind (arith, common_steps));
      counts = first_of (search rules, grind (arith, common_steps));
      faults = first_of (search rules, grind (arith, common_steps));
      failed = first_of (search rules, grind (arith, common_steps));
    }
