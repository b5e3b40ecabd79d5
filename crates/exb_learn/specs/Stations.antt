-- When stations are the same, and which places are live.
use Rattle.std.specs.Prelude.{◌≡◌, ◌≤◌, ℕ, suc, ◌-◌, Bool, true, ◌==◌, nat_lt, not, ◌&&◌, if◌then◌else◌, List, length, Option, Some, None, bytes_eq}
use Rattle.std.specs.Map.{lookup}
use Rattle.exb_learn.specs.declared.key.StationKey.{StationKey}
use Rattle.exb_learn.specs.declared.entries.DynamicEntry.{DynamicEntry}

-- one VLAN and one address
abbrev pub same : StationKey → StationKey → Bool
same a b = a.vid == b.vid && bytes_eq a.address.0 b.address.0

abbrev pub is_live : ℕ → ℕ → DynamicEntry → Bool
is_live now ageing p = nat_lt (now - p.at) ageing

-- no station was seen before this clock
abbrev pub IsSince : ℕ → List (StationKey × DynamicEntry) → Type 0
IsSince x es = (q : StationKey) (p : DynamicEntry) → lookup (same q) es ≡ Some p → x ≤ p.at

-- no station was seen after this clock
abbrev pub IsUntil : ℕ → List (StationKey × DynamicEntry) → Type 0
IsUntil x es = (q : StationKey) (p : DynamicEntry) → lookup (same q) es ≡ Some p → p.at ≤ x

-- the place, if it passes the test
abbrev pub kept_if : (DynamicEntry → Bool) → Option DynamicEntry → Option DynamicEntry
kept_if t None = None
kept_if t (Some p) = if t p then Some p else None

-- a look-up finds what it found, if that passes the test
abbrev pub Keeps : (DynamicEntry → Bool) → List (StationKey × DynamicEntry) → List (StationKey × DynamicEntry) → Type 0
Keeps t old new = (q : StationKey) → lookup (same q) new ≡ kept_if t (lookup (same q) old)

-- what a look-up finds now is what it found, as far as that passes the test
abbrev pub KeepsAlike : (DynamicEntry → Bool) → List (StationKey × DynamicEntry) → List (StationKey × DynamicEntry)
    → Type 0
KeepsAlike t old now = (q : StationKey) → kept_if t (lookup (same q) now) ≡ kept_if t (lookup (same q) old)

-- all that a look-up finds passes the test
abbrev pub AllPass : (DynamicEntry → Bool) → List (StationKey × DynamicEntry) → Type 0
AllPass t es = (q : StationKey) (p : DynamicEntry) → lookup (same q) es ≡ Some p → t p ≡ true

-- the station was seen at another port
abbrev pub is_elsewhere : ℕ → DynamicEntry → Bool
is_elsewhere port p = not (p.port == port)

-- the place of one station is this one, or gone; those of all others are as they were
abbrev pub Changes : List (StationKey × DynamicEntry) → List (StationKey × DynamicEntry) → StationKey
    → Option DynamicEntry → Type 0
Changes old new s o = (q : StationKey) → lookup (same q) new ≡ (if same s q then o else lookup (same q) old)

-- an entry was there, and is the one that is gone
pub record IsTaken (old new : List (StationKey × DynamicEntry)) (e : StationKey × DynamicEntry) : Type 0 where
  pub found : lookup (same e.0) old ≡ Some e.1
  pub gone : Changes old new e.0 None
  pub shorter : suc (length new) ≡ length old
