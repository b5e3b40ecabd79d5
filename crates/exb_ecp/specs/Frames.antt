-- ECP frames: what a header says, and its one spelling.
use Rattle.std.specs.Prelude.{◌≡◌, ℕ, ◌+◌, ◌*◌, ◌/◌, ◌%◌, ◌<◌, ◌≤◌, ◌==◌, ◌&&◌, ◌++◌, Bool, List, [], ◌∷◌, drop, length, Result, Ok, Err, nat_le, nat_lt, if◌then◌else◌}
use Rattle.exb_model.specs.declared.address.Mac.{Mac}
use Rattle.exb_model.specs.Frames.{control_address, is_control_frame, number_at, two_bytes}
use Rattle.exb_ecp.specs.declared.pdu.Pdu.{Pdu}
use Rattle.exb_ecp.specs.declared.pdu.EcpFault.{EcpFault}
use Rattle.exb_ecp.specs.declared.pdu.EcpFault.TheVariants.{NotEcp, Cut, Version, Operation}

-- the destination 01-80-C2-00-00-0E, and EtherType 8940 at byte 12
abbrev pub is_ecp : List ℕ → Bool
is_ecp frame = nat_le 14 (length frame) && (is_control_frame frame && number_at frame 12 == 0x8940)

-- version (4 bits), operation (2) and subtype (10) at byte 14
abbrev pub version : List ℕ → ℕ
version frame = number_at frame 14 / 4096

-- 0 is a request, 1 an acknowledgement
abbrev pub operation : List ℕ → ℕ
operation frame = number_at frame 14 / 1024 % 4

abbrev pub subtype : List ℕ → ℕ
subtype frame = number_at frame 14 % 1024

abbrev pub header_in : List ℕ → Pdu
header_in frame = record {
  acknowledgement = operation frame == 1;
  subtype = subtype frame;
  sequence = number_at frame 16;
  payload_at = 18;
}

-- what the header of a frame says, or its first fault
abbrev pub pdu_in : List ℕ → Result Pdu EcpFault
pdu_in frame =
    if is_ecp frame
    then (if nat_lt (length frame) 18 then Err Cut
    else (if version frame == 1 then (if nat_lt 1 (operation frame) then Err Operation else Ok (header_in frame))
    else Err Version))
    else Err NotEcp

-- what can be written
pub record CanBeWritten (p : Pdu) (payload : List ℕ) : Type 0 where
  pub subtype : p.subtype < 1024
  pub place : p.payload_at ≡ 18
  pub length : length payload ≤ 1024

-- an acknowledgement has no payload
abbrev pub carried : Pdu → List ℕ → List ℕ
carried p payload = if p.acknowledgement then [] else payload

-- version 1
abbrev pub header_word : Pdu → ℕ
header_word p = 4096 + (if p.acknowledgement then 1 else 0) * 1024 + p.subtype

abbrev pub spelling : Mac → Pdu → List ℕ → List ℕ
spelling source p payload =
    control_address ++ source.0 ++ two_bytes 0x8940 ++ two_bytes (header_word p) ++ two_bytes p.sequence
    ++ carried p payload

-- a frame that is written is read again, as the header and the payload that it carries
pub record IsReadAgain (source : Mac) (p : Pdu) (payload : List ℕ) : Type 0 where
  pub header : pdu_in (spelling source p payload) ≡ Ok p
  pub carries : drop 18 (spelling source p payload) ≡ carried p payload
  pub long : length (spelling source p payload) ≡ 18 + length (carried p payload)

-- Whatever can be written is read again. An address has six bytes.
abbrev pub WrittenIsRead : Type 0
WrittenIsRead = (source : Mac) (p : Pdu) (payload : List ℕ) → length source.0 ≡ 6 → CanBeWritten p payload
    → IsReadAgain source p payload
