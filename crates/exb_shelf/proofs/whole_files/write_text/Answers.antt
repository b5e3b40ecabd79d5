use Rattle.std.proofs.Common.{◌++◌, ℕ, List, take, drop, length, ◌-◌, arith, subst, ◌∙◌}
use Rattle.exb_shelf.specs.Files.{Puts, bytes_of, Adds}
use Rattle.exb_shelf.proofs.PieceLemmas.{take_on, adds_more}
use Rattle.exb_shelf.proofs.whole_files.write_text.Goals as goal

pub loop-at-preserved : goal.loop-at-preserved
loop-at-preserved g c =
    let S = g.S.Shelf in
    let same = c.loop-at.invariant.kept c.args.id in
    record {
      place = omega (arith, c.in-Ok.ensures.bound);
      file = λ t.
          let name : List ℕ = (S.ids c.args.shelf.now c.args.id).name in
          let put : Puts (S.file c.loop-at.shelf) (S.file c.write_on.new.shelf) name (bytes_of (S.file c.loop-at.shelf name) ++ take c.in-Ok.n (take (length c.args.text.now - c.loop-at.at) (drop c.loop-at.at c.args.text.now))) =
          subst (λ i. Puts (S.file c.loop-at.shelf) (S.file c.write_on.new.shelf) i.name (bytes_of (S.file c.loop-at.shelf i.name) ++ take c.in-Ok.n (take (length c.args.text.now - c.loop-at.at) (drop c.loop-at.at c.args.text.now)))) same (c.in-Ok.ensures.appended t) in
          subst (λ (xs : List ℕ). Adds (S.file c.args.shelf.now) (S.file c.write_on.new.shelf) name xs) (take_on c.args.text.now c.loop-at.at c.in-Ok.n)
          (adds_more _ _ _ _ _ _ (c.loop-at.invariant.file t) put);
      kept = λ j. c.in-Ok.ensures.kept j ∙ c.loop-at.invariant.kept j;
      counted = c.in-Ok.ensures.counts ∙ c.loop-at.invariant.counted;
      faults = search (arith, c.in-Ok.ensures.faults, c.loop-at.invariant.faults);
    }
