-- Sets of the numbers of extenders, by their bits.
use Rattle.std.specs.Prelude.{◌≡◌, ℕ, ◌-◌, ◌<◌, ◌≤◌, ◌==◌, if◌then◌else◌}
use Rattle.std.specs.Int.{bit_at}

-- the number of an extender is 1 to 64
abbrev pub IsNumber : ℕ → Type 0
IsNumber n = (0 < n) × (n < 65)

-- 1 where a number is in a set: number n has bit n - 1
unfoldable pub number_in : ℕ → ℕ → ℕ
number_in bits n = if n == 0 then 0 else bit_at bits (n - 1)

-- n is the first number of the set that isn't below `from`
pub record IsFirstIn (bits from n : ℕ) : Type 0 where
  pub low : n < 65
  pub start : from ≤ n
  pub here : number_in bits n ≡ 1
  pub before : (k : ℕ) → from ≤ k → k < n → number_in bits k ≡ 0
