-- The texts that a run writes.
use Rattle.std.specs.Prelude.{ℕ, ◌+◌, ◌/◌, ◌%◌, nat_lt, if◌then◌else◌, List, [], ◌∷◌, ◌++◌, codes, decimal, flat_map, length, sum_by}
use Rattle.std.specs.Int.{to_le_bytes, w32}
use Rattle.exb_model.specs.declared.event.Event.{Event}
use Rattle.exb_model.specs.declared.event.Event.TheVariants as event
use Rattle.exb_model.specs.declared.event.Cause.{Cause}
use Rattle.exb_model.specs.declared.event.Cause.TheVariants as cause
use Rattle.exb_model.specs.Input.{second_of}
use Rattle.exb_model.specs.Tree.{Shape, external_ports}
use Rattle.exb_model.specs.History.{Basis, History, bridge_after}
use Rattle.exb_model.specs.Learning.{learned}
use Rattle.exb_model.specs.FlatBridge.{Sent, sent_by}

-- ---- captures (classic pcap, in microseconds, of Ethernet frames)
-- magic, version 2.4, zone and accuracy 0, snapshot length 65535, link type 1
abbrev pub capture_header : List ℕ
capture_header =
    212 ∷ 195 ∷ 178 ∷ 161 ∷ 2 ∷ 0 ∷ 4 ∷ 0 ∷ 0 ∷ 0 ∷ 0 ∷ 0 ∷ 0 ∷ 0 ∷ 0 ∷ 0 ∷ 255 ∷ 255 ∷ 0 ∷ 0 ∷ 1 ∷ 0 ∷ 0 ∷ 0 ∷ []

-- four bytes, the lowest first
abbrev pub four_bytes : ℕ → List ℕ
four_bytes n = to_le_bytes w32 n

-- seconds, microseconds, the length twice, the bytes
abbrev pub record_text : Sent → List ℕ
record_text x =
    four_bytes (second_of x.0) ++ four_bytes (x.0 % 1000000000 / 1000) ++ four_bytes (length x.1)
    ++ four_bytes (length x.1) ++ x.1

-- CaptureText of what left a port
unfoldable pub capture_text : List Sent → List ℕ
capture_text xs = capture_header ++ flat_map record_text xs

-- ---- the journal
-- b1 to b64, or xN.K
abbrev pub port_name : ℕ → List ℕ
port_name p =
    if nat_lt p 64 then codes "b" ++ decimal (p + 1)
    else codes "x" ++ decimal (p / 64) ++ codes "." ++ decimal (p % 64 + 1)

abbrev pub cause_text : Cause → List ℕ
cause_text (cause.Channels needed limit) = codes " channels " ++ decimal needed ++ codes " " ++ decimal limit
cause_text (cause.Groups needed limit) = codes " groups " ++ decimal needed ++ codes " " ++ decimal limit

-- the line of an event, without its newline
unfoldable pub line_of : Event → List ℕ
line_of (event.Relay p n t f) = codes "relay " ++ port_name p ++ codes " " ++ decimal n
line_of (event.Ignored p n) = codes "ignore " ++ port_name p ++ codes " " ++ decimal n
line_of (event.Tick seconds) = codes "tick " ++ decimal seconds
line_of (event.Commit n) = codes "commit " ++ decimal n
line_of (event.Refuse n x) = codes "refuse " ++ decimal n ++ cause_text x
line_of (event.Up p) = codes "up " ++ port_name p
line_of (event.NoUp p x) = codes "noup " ++ port_name p ++ cause_text x
line_of event.Settled = codes "settled"

-- JournalText(H): a line for each event, in order
unfoldable pub journal_text : History → List ℕ
journal_text [] = []
journal_text (e ∷ h) = journal_text h ++ line_of e ++ 10 ∷ []

-- ---- the summary
-- how many arrivals were relayed and ignored, frames left, commands took effect and were refused
pub record Counts : Type 0 where
  pub relayed : ℕ
  pub ignored : ℕ
  pub left : ℕ
  pub commits : ℕ
  pub refusals : ℕ

abbrev pub counted : Event → Counts → Counts
counted (event.Relay p n t f) c = record c { relayed = c.relayed + 1 }
counted (event.Ignored p n) c = record c { ignored = c.ignored + 1 }
counted (event.Commit n) c = record c { commits = c.commits + 1 }
counted (event.Refuse n x) c = record c { refusals = c.refusals + 1 }
counted _ c = c

-- what left the external ports by an event, that many
abbrev pub left_by : Shape → Basis → History → Event → ℕ
left_by t i h e = sum_by (λ q. length (sent_by (bridge_after i h) (learned i h) e q)) (external_ports t)

abbrev pub with_left : ℕ → Counts → Counts
with_left n c = record c { left = c.left + n }

unfoldable pub counts : Shape → Basis → History → Counts
counts t i [] = record { relayed = 0; ignored = 0; left = 0; commits = 0; refusals = 0 }
counts t i (e ∷ h) = with_left (left_by t i h e) (counted e (counts t i h))

-- the line of the counts, with its newline
unfoldable pub summary_line : Counts → List ℕ
summary_line c =
    codes "arrivals " ++ decimal (c.relayed + c.ignored) ++ codes " relayed " ++ decimal c.relayed ++ codes " ignored " ++ decimal c.ignored
    ++ codes " left " ++ decimal c.left ++ codes " commits " ++ decimal c.commits ++ codes " refusals " ++ decimal c.refusals ++ 10 ∷ []

-- Summary(H)
abbrev pub summary : Shape → Basis → History → List ℕ
summary t i h = summary_line (counts t i h)
