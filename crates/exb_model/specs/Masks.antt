-- Numbers by their bits.
use Rattle.std.specs.Prelude.{ℕ, zero, suc, ◌+◌, ◌^◌, Bool, if◌then◌else◌}

-- the number whose bits below n are 1 where the test passes
unfoldable pub bits_of : (ℕ → Bool) → ℕ → ℕ
bits_of test zero = 0
bits_of test (suc n) = bits_of test n + (if test n then 2 ^ n else 0)
