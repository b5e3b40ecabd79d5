-- How many entries a table has.
use Rattle.std.specs.Prelude.{◌≡◌, ℕ, Bool, false, ◌==◌, ◌&&◌, List, [], ◌∷◌, length, is_some, bytes_eq}
use Rattle.std.specs.List.{list_any}
use Rattle.exb_learn.specs.Calls.{Table, look_in}

-- a VLAN and an address
abbrev pub Key : Type 0
Key = ℕ × List ℕ

abbrev pub is_key : ℕ → List ℕ → Key → Bool
is_key v m k = v == k.0 && bytes_eq m k.1

-- none stands twice
abbrev pub EachOnce : List Key → Type 0
EachOnce [] = Unit {0}
EachOnce (k ∷ ks) = (list_any (is_key k.0 k.1) ks ≡ false) × EachOnce ks

-- so many pairs of a VLAN and an address have an answer: they can be listed, each once
pub record HasLive (t : Table) (n : ℕ) : Type 0 where
  pub keys : List Key
  pub number : length keys ≡ n
  pub once : EachOnce keys
  pub answers : (v : ℕ) (m : List ℕ) → list_any (is_key v m) keys ≡ is_some (look_in t v m)
