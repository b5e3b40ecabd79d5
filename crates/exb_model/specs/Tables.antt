-- Tables by number, seen as functions.
use Rattle.std.specs.Prelude.{ℕ, ◌==◌, if◌then◌else◌}

-- the same but at n
abbrev pub at : {A : Type 0} → ℕ → A → (ℕ → A) → ℕ → A
at n x f m = if m == n then x else f m
