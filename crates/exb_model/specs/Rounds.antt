-- How many rounds of delivery settling takes at most.
use Rattle.std.specs.Prelude.{ℕ, ◌+◌, ◌*◌}

-- With b verdicts left that lose, repeat or keep a word, and e exchanges planned. A window of 64 rounds without such a
-- verdict ends an exchange, and one with nothing queued ends settled.
abbrev pub rounds : ℕ → ℕ → ℕ
rounds b e = 64 * (b + e + 1)
