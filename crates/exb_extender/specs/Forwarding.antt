-- What a port extender sends of a frame that comes from one of its sides (after IEEE 802.1BR-2012). The
-- exact rules are this project's own.
use Rattle.std.specs.Prelude.{ℕ, ◌==◌, ◌&&◌, ◌||◌, Bool, true, false, not, nat_lt, nat_le, if◌then◌else◌, List, [], ◌∷◌, length, map, Option, Some, None}
use Rattle.std.specs.List.{flat_map, range_with_len}
use Rattle.exb_model.specs.declared.frame_kind.Seen.{Seen}
use Rattle.exb_model.specs.declared.frame_kind.Seen.TheVariants as seen
use Rattle.exb_model.specs.Frames.{is_control_frame, number_at, kind_of}
use Rattle.exb_model.specs.ETags.{Tag, read_etag, tagged}
use Rattle.exb_model.specs.ExtenderForwarding.{Tables, emits}
use Rattle.exb_csp.specs.Execution.{ExtenderTables, is_channel}
use Rattle.exb_extender.specs.declared.sends.Side.{Side}
use Rattle.exb_extender.specs.declared.sends.Side.TheVariants.{Up, Port}

-- a frame that is sent: to which side, and its bytes
pub record Sent : Type 0 where
  pub side : Side
  pub bytes : List ℕ

-- the tables by which a frame from upstream is replicated
abbrev pub forwarding_of : ExtenderTables → Tables
forwarding_of t = record { own = t.own; cascade = t.cascade; pair = t.pair }

-- what goes out at a port of a frame from upstream
abbrev pub sent_at : ExtenderTables → List ℕ → ℕ → List Sent
sent_at t f q = map (λ bytes. record { side = Port q; bytes = bytes }) (emits (forwarding_of t) q f)

-- what goes out of a frame from upstream: at the ports in rising order
abbrev pub sent_down : ExtenderTables → List ℕ → List Sent
sent_down t f = flat_map (sent_at t f) (range_with_len 1 t.ports)

abbrev pub up : List ℕ → Sent
up bytes = record { side = Up; bytes = bytes }

-- the E-TAG that names a channel: PCP 0, DEI 0, ingress number 0
abbrev pub channel_tag : ℕ → Tag
channel_tag channel = record { pcp = 0; dei = false; ingress = 0; ecid = channel }

-- the type 89 3F at byte 12, whether an E-TAG can be read there or not
abbrev pub has_etag_type : List ℕ → Bool
has_etag_type f = number_at f 12 == 0x893F

-- a control frame without an E-TAG; a frame of under 14 bytes has no type, and is none
unfoldable pub is_bare_control : List ℕ → Bool
is_bare_control f = nat_le 14 (length f) && (not (has_etag_type f) && is_control_frame f)

-- the E-TAG names a channel: GRP 0 and base 1 to 4094
abbrev pub names_channel : Option Tag → Bool
names_channel None = false
names_channel (Some tag) = is_channel tag.ecid

-- what goes up of a frame from a cascade port with that own channel
abbrev pub sent_from_cascade : ℕ → List ℕ → List Sent
sent_from_cascade channel f =
    if names_channel (read_etag f) then up f ∷ []
    else (if is_bare_control f && nat_lt 0 channel then up (tagged f (channel_tag channel)) ∷ [] else [])

-- kinds of frames that no external port lets in
abbrev pub is_refused_kind : Seen → Bool
is_refused_kind seen.Short = true
is_refused_kind seen.Long = true
is_refused_kind seen.Reserved = true
is_refused_kind _ = false

-- a frame from an external port with that own channel is ignored
abbrev pub is_ignored : ℕ → List ℕ → Bool
is_ignored channel f = channel == 0 || is_refused_kind (kind_of f)

-- what goes up of a frame from an external port with that own channel
abbrev pub sent_from_external : ℕ → List ℕ → List Sent
sent_from_external channel f = if is_ignored channel f then [] else up (tagged f (channel_tag channel)) ∷ []

-- what is sent of a frame that comes from a side
unfoldable pub emitted : ExtenderTables → Side → List ℕ → List Sent
emitted t Up f = sent_down t f
emitted t (Port k) f = if t.cascade k then sent_from_cascade (t.own k) f else sent_from_external (t.own k) f
