-- Bits in a list of words.
use Rattle.std.specs.Prelude.{ℕ, ◌/◌, ◌%◌, Bool, ◌==◌, List, slice_index}
use Rattle.std.specs.Int.{bit_at}

-- bit q modulo 64 of word q / 64 is 1
unfoldable pub has_port : List ℕ → ℕ → Bool
has_port words q = bit_at (slice_index words (q / 64)) (q % 64) == 1
