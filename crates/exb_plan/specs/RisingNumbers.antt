-- Numbers in rising order, each once.
use Rattle.std.specs.Prelude.{◌≡◌, ℕ, ◌<◌, ◌==◌, Bool, true, List, [], ◌∷◌}
use Rattle.std.specs.List.{list_any}

-- the number is one of these
abbrev pub is_among : List ℕ → ℕ → Bool
is_among xs g = list_any (λ x. x == g) xs

-- each is less than all that come after it
abbrev pub IsRising : List ℕ → Type 0
IsRising [] = Unit {0}
IsRising (x ∷ xs) = ((g : ℕ) → is_among xs g ≡ true → x < g) × IsRising xs
