-- Elements that are looked at one after the other, each with those before it.
use Rattle.std.specs.Prelude.{ℕ, ◌+◌, List, [], ◌∷◌, Bool, if◌then◌else◌, Result, Ok, Err, take}
use Rattle.exb_toml_keys.specs.declared.faults.KeyFault.{KeyFault}
use Rattle.exb_toml_keys.specs.Faults.{Refusal, at, ◌>>=◌}

-- the first refusal of a test of an element, its index and those before it; from index i of all on
unfoldable pub each_ok : {X : Type 0} → (List X → ℕ → X → Result (Unit {0}) Refusal) → List X → ℕ → List X
    → Result (Unit {0}) Refusal
each_ok test all i [] = Ok tt
each_ok test all i (x ∷ xs) = test (take i all) i x >>= λ _. each_ok test all (i + 1) xs

-- refused with this fault at this key, where the test passes
abbrev pub refuse : Bool → KeyFault → List ℕ → Result (Unit {0}) Refusal
refuse test f key = if test then Err (at f key) else Ok tt
