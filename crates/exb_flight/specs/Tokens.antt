-- The words of a direction of a link of the world as items of a flight: a data word is its bytes and its stamp; a
-- control word that reads as a request to an extender, or as an answer from one, is a token of that extender and
-- serial; any other control word is nothing.
use Rattle.std.specs.Prelude.{ℕ, ◌==◌, if◌then◌else◌, List, [], ◌∷◌, drop, Option, Some, None, Result, Ok, Err}
use Rattle.exb_model.specs.Tree.{Shape, trunk}
use Rattle.exb_model.specs.ETags.{Tag, read_etag, stripped}
use Rattle.exb_lldp.specs.declared.announce.Announce.{Announce}
use Rattle.exb_lldp.specs.declared.announce.LldpFault.{LldpFault}
use Rattle.exb_lldp.specs.Announcements.{announced as announcement_in}
use Rattle.exb_ecp.specs.declared.pdu.Pdu.{Pdu}
use Rattle.exb_ecp.specs.declared.pdu.EcpFault.{EcpFault}
use Rattle.exb_ecp.specs.Frames.{pdu_in}
use Rattle.exb_csp.specs.declared.fault.CspFault.{CspFault}
use Rattle.exb_csp.specs.declared.message.Body.{Body}
use Rattle.exb_csp.specs.declared.message.Body.TheVariants as body
use Rattle.exb_csp.specs.declared.message.Message.{Message}
use Rattle.exb_csp.specs.Decoding.{read_message}
use Rattle.exb_extender.specs.Forwarding.{has_etag_type}
use Rattle.exb_link.specs.declared.link_frame.Stamp.{Stamp}
use Rattle.exb_link.specs.declared.link_frame.LinkFrame.{LinkFrame}
use Rattle.exb_link.specs.LinkFrames.{is_control}
use Rattle.exb_control_spec.specs.Plans.HeldNumbers.{Held}
use Rattle.exb_world_spec.specs.Worlds.{Way, Up, Down}
use Rattle.exb_world_spec.specs.DataFrames.{hung_at}
use Rattle.exb_flight.specs.Items.{Word as Datum, Key, Item, Data, Token}

-- ---- data words
abbrev pub datum_by : List ℕ → Option Stamp → Datum
datum_by bytes None = record { bytes = bytes; port = 0; index = 0; moment = 0 }
datum_by bytes (Some s) = record { bytes = bytes; port = s.port; index = s.index; moment = s.moment }

abbrev pub datum : LinkFrame → Datum
datum x = datum_by x.bytes x.stamp

abbrev pub data_words : List LinkFrame → List Datum
data_words [] = []
data_words (x ∷ xs) = if is_control x then data_words xs else datum x ∷ data_words xs

-- ---- control words
abbrev pub holder_in : Held → ℕ → Option Tag → Option ℕ
holder_in h k None = None
holder_in h k (Some tag) = h.port k tag.ecid

-- the extender of a control frame on the link of extender m: that which hangs on the port that holds its channel, or m
abbrev pub addressee : Shape → Held → ℕ → List ℕ → Option ℕ
addressee t h m f = if has_etag_type f then hung_at t (holder_in h (trunk t m) (read_etag f)) else Some m

abbrev pub content : List ℕ → List ℕ
content f = if has_etag_type f then stripped f else f

abbrev pub key_by : Way → ℕ → ℕ → Body → Option Key
key_by Down n serial (body.Ask request) = Some (record { extender = n; serial = serial })
key_by Down n serial (body.Answer response) = None
key_by Up n serial (body.Ask request) = None
key_by Up n serial (body.Answer response) = Some (record { extender = n; serial = serial })

abbrev pub key_of_message : Way → ℕ → Result Message CspFault → Option Key
key_of_message way n (Ok m) = key_by way n m.serial m.body
key_of_message way n (Err fault) = None

abbrev pub key_of_pdu : Way → ℕ → Result Pdu EcpFault → List ℕ → Option Key
key_of_pdu way n (Ok p) f = if p.subtype == 2 then (if p.acknowledgement then None else key_of_message way n
    (read_message (drop 18 f))) else None
key_of_pdu way n (Err fault) f = None

-- an announcement that comes up is no message
abbrev pub key_of_frame : Way → ℕ → Result Announce LldpFault → List ℕ → Option Key
key_of_frame Down n r f = key_of_pdu Down n (pdu_in f) f
key_of_frame Up n (Ok a) f = None
key_of_frame Up n (Err fault) f = key_of_pdu Up n (pdu_in f) f

abbrev pub key_for : Way → Option ℕ → List ℕ → Option Key
key_for way None f = None
key_for way (Some n) f = key_of_frame way n (announcement_in f) f

-- the token of a control word on the link of extender m
unfoldable pub key_on : Shape → Held → Way → ℕ → LinkFrame → Option Key
key_on t h way m x = key_for way (addressee t h m x.bytes) (content x.bytes)

-- ---- links
abbrev pub token_of : Option Key → List Item → List Item
token_of None xs = xs
token_of (Some k) xs = Token k ∷ xs

-- by the token of each control word
abbrev pub items_by : (LinkFrame → Option Key) → List LinkFrame → List Item
items_by key [] = []
items_by key (x ∷ xs) = if is_control x then token_of (key x) (items_by key xs) else Data (datum x) ∷ items_by key xs

abbrev pub items_on : Shape → Held → Way → ℕ → List LinkFrame → List Item
items_on t h way m ws = items_by (key_on t h way m) ws

-- The first list is the second but for some tokens. A token of a word that was taken or lost may stay in a flight: it
-- gives no more than there was before.
pub data Thins : List Item → List Item → Type 0 where
  none : Thins [] []
  same : {xs ys : List Item} (x : Item) → Thins xs ys → Thins (x ∷ xs) (x ∷ ys)
  more : {xs ys : List Item} (k : Key) → Thins xs ys → Thins xs (Token k ∷ ys)
