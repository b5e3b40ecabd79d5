-- The one spelling of an announcement.
use Rattle.std.specs.Prelude.{ℕ, ◌+◌, ◌*◌, ◌≤◌, List, [], ◌∷◌, ◌++◌, length, codes}
use Rattle.exb_model.specs.Frames.{control_address, two_bytes}
use Rattle.exb_lldp.specs.declared.announce.Announce.{Announce}

-- what can be announced
pub record CanBeAnnounced (a : Announce) : Type 0 where
  pub some : 1 ≤ a.ports
  pub few : a.ports ≤ 64

-- a header of 7 bits of type and 9 bits of length, and the value
abbrev pub tlv : ℕ → List ℕ → List ℕ
tlv kind value = two_bytes (kind * 512 + length value) ++ value

-- Chassis ID (a MAC address), Port ID (`up`, assigned locally), Time To Live (120 seconds), extension (02 45 42,
-- subtype 1), End
abbrev pub tlvs_of : Announce → List ℕ
tlvs_of a = tlv 1 (4 ∷ a.chassis.0) ++ tlv 2 (7 ∷ codes "up") ++ tlv 3 (two_bytes 120) ++ tlv 127 (2 ∷ 69 ∷ 66 ∷ 1 ∷ a.ports ∷ []) ++ tlv 0 []

-- from the chassis to the address of control frames
unfoldable pub spelling : Announce → List ℕ
spelling a = control_address ++ a.chassis.0 ++ two_bytes 0x88CC ++ tlvs_of a
