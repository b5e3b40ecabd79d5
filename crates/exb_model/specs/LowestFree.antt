-- Numbers that are given to ports and to sets of ports: the lowest free one, and whose one is.
use Rattle.std.specs.Prelude.{ℕ, ◌==◌, Bool, false, not, Option, Some, None, find}
use Rattle.std.specs.List.{range_with_len}

-- the lowest of so many numbers from the first on that isn't used, if there is one
unfoldable pub lowest_free : (ℕ → Bool) → ℕ → ℕ → Option ℕ
lowest_free used first count = find (λ n. not (used n)) (range_with_len first count)

-- a number is of the port
abbrev pub is_port : ℕ → Option ℕ → Bool
is_port p None = false
is_port p (Some q) = q == p
