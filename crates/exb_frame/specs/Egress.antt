-- The bytes with which a frame leaves, with a priority that is handed in.
use Rattle.std.specs.Prelude.{ℕ, ◌+◌, ◌*◌, ◌++◌, Bool, true, false, if◌then◌else◌, List, take, drop}
use Rattle.exb_model.specs.declared.frame_kind.Seen.{Seen}
use Rattle.exb_model.specs.declared.frame_kind.Seen.TheVariants as seen
use Rattle.exb_model.specs.declared.vlan.Kind.{Kind}
use Rattle.exb_model.specs.declared.vlan.Kind.TheVariants.{Tagged, Untagged}
use Rattle.exb_model.specs.Frames.{kind_of, two_bytes, body_after}

-- a frame of this kind may leave: it is plain, or has a VLAN tag that can be read
abbrev pub can_leave : Seen → Bool
can_leave seen.Plain = true
can_leave (seen.Priority pcp dei) = true
can_leave (seen.Tagged pcp dei v) = true
can_leave _ = false

-- PCP and DEI as one number of four bits
abbrev pub priority : ℕ → Bool → ℕ
priority pcp dei = 2 * pcp + (if dei then 1 else 0)

-- the bytes that leave a port of this kind in VLAN v with that priority
unfoldable pub egress_with : ℕ → List ℕ → Kind → ℕ → List ℕ
egress_with prio f Untagged v = take 12 f ++ body_after f (kind_of f)
egress_with prio f Tagged v = take 12 f ++ two_bytes 0x8100 ++ two_bytes (prio * 4096 + v) ++ body_after f (kind_of f)

-- a frame with bytes put in behind its addresses
abbrev pub put_in : List ℕ → List ℕ → List ℕ
put_in between f = take 12 f ++ between ++ drop 12 f
