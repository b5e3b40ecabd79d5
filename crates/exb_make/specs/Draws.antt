-- Random draws, one after another.
use Rattle.std.specs.Prelude.{◌≡◌, ℕ, ◌%◌, List, [], ◌∷◌, ◌++◌}
use Rattle.rand_core.specs.Pcg32Seed.{pcg32_seed}
use Rattle.rand_pcg.specs.Lcg.{Lcg}
use Rattle.rand_pcg.specs.Pcg.{pcg32, pcg32_of_seed}

-- the generator of a number, as its seed
unfoldable pub generator_of : ℕ → Lcg
generator_of number = pcg32_of_seed (pcg32_seed 16 number)

-- the next word modulo n, and the generator after it
unfoldable pub drawn : ℕ → Lcg → ℕ × Lcg
drawn n g = ((pcg32 g).0 % n, (pcg32 g).1)

-- what is drawn of a generator, and the generator after it
abbrev pub Drawing : Type 0 → Type 0
Drawing A = Lcg → List A × Lcg

-- what is drawn for each of a list in order
unfoldable pub for_each : {A B : Type 0} → (A → Drawing B) → List A → Drawing B
for_each f [] g = ([], g)
for_each f (x ∷ xs) g = ((f x g).0 ++ (for_each f xs (f x g).1).0, (for_each f xs (f x g).1).1)

-- what is drawn stands behind what was there, and the generator has gone on
pub record Adds {A : Type 0} (drawing : Drawing A) (old new : List A) (before after : Lcg) : Type 0 where
  pub more : new ≡ old ++ (drawing before).0
  pub gone_on : after ≡ (drawing before).1
