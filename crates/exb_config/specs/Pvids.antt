-- PVIDs that are VLANs (IEEE 802.1Q, clause 6.9).
use Rattle.std.specs.Prelude.{ℕ, ◌≤◌}
use Rattle.exb_model.specs.Configuration.{Bridge}

-- a VLAN identifier
abbrev pub IsVlan : ℕ → Type 0
IsVlan v = (1 ≤ v) × (v ≤ 4094)

-- the PVID of each port is one
abbrev pub HasPvids : Bridge → Type 0
HasPvids b = (p : ℕ) → IsVlan (b.rule p).pvid
