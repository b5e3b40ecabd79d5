-- What a setup needs, said in other words.
use Rattle.std.specs.Prelude.{◌≡◌, ◌⊎◌, ℕ, ◌<◌, ◌≤◌, true, []}
use Rattle.exb_model.specs.declared.setup.Setup.{Setup}
use Rattle.exb_model.specs.Tree.{Shape, is_cascade}
use Rattle.exb_capacity.specs.NeededNumbers.{greatest_below, needs_of}

-- without extenders nothing is needed
abbrev pub NothingWithoutExtenders : Type 0
NothingWithoutExtenders = (s : Setup) → s.extenders ≡ [] → needs_of s ≡ record { channels = 0; sets = 0 }

-- no cascade port of the bridge needs more, and one needs just that, or none needs anything
abbrev pub IsTheGreatest : Type 0
IsTheGreatest =
    (t : Shape) (needed : ℕ → ℕ) → ((k : ℕ) → k < 64 → is_cascade t k ≡ true → needed k ≤ greatest_below t needed)
    × ((greatest_below t needed ≡ 0) ⊎ ((k : ℕ) × (k < 64) × (is_cascade t k ≡ true)
    × (needed k ≡ greatest_below t needed)))
