-- Frames as lists of bytes (IEEE 802.1Q-2011, VLAN tag: clause 9; reserved addresses: clause 8.6.3).
use Rattle.std.specs.Prelude.{ℕ, ◌+◌, ◌*◌, ◌/◌, ◌%◌, ◌<◌, Bool, ◌==◌, ◌&&◌, nat_eq, nat_lt, if◌then◌else◌, List, [], ◌∷◌, ◌++◌, length, take, drop, slice_index}
use Rattle.std.specs.List.{starts_with}
use Rattle.exb_model.specs.declared.frame_kind.Seen.{Seen}
use Rattle.exb_model.specs.declared.frame_kind.Seen.TheVariants as seen
use Rattle.exb_model.specs.declared.vlan.Kind.{Kind}
use Rattle.exb_model.specs.declared.vlan.Kind.TheVariants.{Tagged, Untagged}

-- the members of a list are bytes
abbrev pub IsBytes : List ℕ → Type 0
IsBytes bytes = (i : ℕ) → slice_index bytes i < 256

-- the 16 bits at a place, the higher byte first
abbrev pub number_at : List ℕ → ℕ → ℕ
number_at f i = slice_index f i * 256 + slice_index f (i + 1)

-- a number as two bytes, the higher first
abbrev pub two_bytes : ℕ → List ℕ
two_bytes n = n / 256 ∷ n % 256 ∷ []

-- to 01-80-C2-00-00-00 up to 01-80-C2-00-00-0F
abbrev pub is_reserved : List ℕ → Bool
is_reserved f =
    slice_index f 0 == 1 && slice_index f 1 == 128 && slice_index f 2 == 194
    && slice_index f 3 == 0 && slice_index f 4 == 0 && nat_lt (slice_index f 5) 16

-- 01-80-C2-00-00-0E
abbrev pub control_address : List ℕ
control_address = 1 ∷ 128 ∷ 194 ∷ 0 ∷ 0 ∷ 14 ∷ []

-- the destination of a frame is that of control frames
unfoldable pub is_control_frame : List ℕ → Bool
is_control_frame f = starts_with nat_eq f control_address

-- what a frame with the type 81 00 is, by its tag: PCP (3 bits), DEI (1), VID (12)
abbrev pub kind_of_tag : ℕ → Seen
kind_of_tag tci =
    if tci % 4096 == 4095 then seen.BadTag
    else (if tci % 4096 == 0 then seen.Priority (tci / 8192) (tci / 4096 % 2 == 1)
    else seen.Tagged (tci / 8192) (tci / 4096 % 2 == 1) (tci % 4096))

-- the kind of a frame: the first case that holds
unfoldable pub kind_of : List ℕ → Seen
kind_of f =
    if nat_lt (length f) 14 then seen.Short
    else (if nat_lt 9216 (length f) then seen.Long
    else (if is_reserved f then seen.Reserved
    else (if number_at f 12 == 0x8100 then (if nat_lt (length f) 18 then seen.BadTag else kind_of_tag (number_at f 14))
    else seen.Plain)))

-- what follows the addresses and the tag
abbrev pub body_after : List ℕ → Seen → List ℕ
body_after f (seen.Priority pcp dei) = drop 16 f
body_after f (seen.Tagged pcp dei vid) = drop 16 f
body_after f _ = drop 12 f

-- PCP and DEI of the frame's tag as one number of four bits, 0 without a tag
abbrev pub priority_of : Seen → ℕ
priority_of (seen.Priority pcp dei) = 2 * pcp + (if dei then 1 else 0)
priority_of (seen.Tagged pcp dei vid) = 2 * pcp + (if dei then 1 else 0)
priority_of _ = 0

-- the bytes that leave a port of this kind in VLAN v
unfoldable pub egress : List ℕ → Kind → ℕ → List ℕ
egress f Untagged v = take 12 f ++ body_after f (kind_of f)
egress f Tagged v = take 12 f ++ two_bytes 0x8100 ++ two_bytes (priority_of (kind_of f) * 4096 + v)
    ++ body_after f (kind_of f)

abbrev pub destination : List ℕ → List ℕ
destination f = take 6 f

abbrev pub source : List ℕ → List ℕ
source f = take 6 (drop 6 f)

-- a group address: the lowest bit of its first byte is 1
abbrev pub is_group : List ℕ → Bool
is_group m = slice_index m 0 % 2 == 1
