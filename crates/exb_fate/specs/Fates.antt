-- What fates give and keep.
use Rattle.std.specs.Prelude.{ℕ, ◌-◌, ◌==◌, ◌%◌, if◌then◌else◌, List, [], ◌∷◌}
use Rattle.exb_model.specs.declared.setup.Verdict.{Verdict}
use Rattle.exb_model.specs.declared.setup.Verdict.TheVariants as verdict
use Rattle.rand_pcg.specs.Lcg.{Lcg}
use Rattle.rand_pcg.specs.Pcg.{pcg32}

-- ---- a script
-- the first of the armed verdicts; Pass where there is none
abbrev pub first_of : List Verdict → Verdict
first_of [] = verdict.Pass
first_of (v ∷ vs) = v

abbrev pub rest_of : List Verdict → List Verdict
rest_of [] = []
rest_of (v ∷ vs) = vs

-- ---- a budget
-- a generator of random numbers, and how many verdicts other than Pass it may still give
pub record Budget : Type 0 where
  pub generator : Lcg
  pub left : ℕ

-- the verdict that a number means: Pass, Lose, Twice and Later in turn
abbrev pub verdict_of : ℕ → Verdict
verdict_of n = if n % 4 == 0 then verdict.Pass else (if n % 4 == 1 then verdict.Lose
    else (if n % 4 == 2 then verdict.Twice else verdict.Later))

abbrev pub cost_of : Verdict → ℕ
cost_of verdict.Pass = 0
cost_of verdict.Lose = 1
cost_of verdict.Twice = 1
cost_of verdict.Later = 1

-- with nothing left nothing is drawn
abbrev pub drawn : Budget → Verdict
drawn b = if b.left == 0 then verdict.Pass else verdict_of (pcg32 b.generator).0

abbrev pub after_draw : Budget → Budget
after_draw b = if b.left == 0 then b else record {
  generator = (pcg32 b.generator).1;
  left = b.left - cost_of (drawn b);
}
