-- How a line was printed.
use Rattle.std.specs.Prelude.{◌≡◌, ◌++◌, ◌⊎◌, ℕ, List}
use Rattle.exb_shelf.specs.FaultCounts.{one_more}
use Rattle.exb_shelf.specs.Files.{BreaksOff}

-- The sink was told this line once, piece after piece, until all of it was printed, which ends with its own status; or
-- until the sink wanted memory, which ends with 1; or until the sink failed, which counts once and ends with 7. Of a
-- line that isn't whole a front was printed.
abbrev pub PrintsLine : Type 0 → ℕ → ℕ → ℕ → ℕ → List ℕ → List ℕ → List ℕ → Type 0
PrintsLine printing own status failed fails before after line =
    ((status ≡ own) × (fails ≡ failed) × (printing → after ≡ before ++ line))
    ⊎ ((status ≡ 1) × (fails ≡ failed) × (printing → BreaksOff before after line))
    ⊎ ((status ≡ 7) × (fails ≡ one_more failed) × (printing → BreaksOff before after line))
