-- The one spelling of each message.
use Rattle.std.specs.Prelude.{◌≡◌, ℕ, ◌<◌, ◌≤◌, ◌^◌, if◌then◌else◌, List, [], ◌∷◌, ◌++◌, length, ⊤}
use Rattle.std.specs.List.{flat_map, AllByRecursion}
use Rattle.std.specs.Int.{w16, w64, to_be_bytes}
use Rattle.exb_csp.specs.declared.group_rows.GroupRow.{GroupRow}
use Rattle.exb_csp.specs.declared.message.Request.{Request}
use Rattle.exb_csp.specs.declared.message.Request.TheVariants as request
use Rattle.exb_csp.specs.declared.message.RequestKind.{RequestKind}
use Rattle.exb_csp.specs.declared.message.RequestKind.TheVariants as kind
use Rattle.exb_csp.specs.declared.message.Body.{Body}
use Rattle.exb_csp.specs.declared.message.Body.TheVariants as body
use Rattle.exb_csp.specs.declared.message.Message.{Message}
use Rattle.exb_csp.specs.declared.message_kind.MessageKind.{MessageKind}
use Rattle.exb_csp.specs.declared.message_kind.MessageKind.TheVariants as form
use Rattle.exb_csp.specs.RequestKinds.{kind_of, type_of}

-- an E-CID and its mask
abbrev pub row_bytes : GroupRow → List ℕ
row_bytes row = to_be_bytes w16 row.ecid ++ to_be_bytes w64 row.mask

abbrev pub ecid_bytes : ℕ → List ℕ
ecid_bytes ecid = to_be_bytes w16 ecid

-- the body of a request
unfoldable pub request_bytes : Request → List ℕ
request_bytes request.Open = []
request_bytes (request.PortCreate port cascade channel) = port ∷ (if cascade then 1 else 0) ∷ to_be_bytes w16 channel
request_bytes (request.PortDelete port) = port ∷ []
request_bytes (request.Register ecid mask) = to_be_bytes w16 ecid ++ to_be_bytes w64 mask
request_bytes (request.Unregister ecid) = to_be_bytes w16 ecid
request_bytes (request.RegisterMany rows) = flat_map row_bytes rows
request_bytes (request.UnregisterMany ecids) = flat_map ecid_bytes ecids

-- the body of an answer to that kind of request
abbrev pub answer_bytes : RequestKind → ℕ → ℕ → List ℕ
answer_bytes kind.Open code ports = code ∷ ports ∷ []
answer_bytes _ code ports = code ∷ []

abbrev pub form_in : Body → MessageKind
form_in (body.Ask asked) = form.Ask (kind_of asked)
form_in (body.Answer answer) = form.Answer answer.to

abbrev pub body_bytes : Body → List ℕ
body_bytes (body.Ask asked) = request_bytes asked
body_bytes (body.Answer answer) = answer_bytes answer.to answer.code answer.ports

-- type, serial, length of the body, body
unfoldable pub message_bytes : Message → List ℕ
message_bytes m = type_of (form_in m.body) ∷ (to_be_bytes w64 m.serial
    ++ (to_be_bytes w16 (length (body_bytes m.body)) ++ body_bytes m.body))

-- a list of a message for many
abbrev pub IsMany : {A : Type 0} → List A → Type 0
IsMany xs = (2 ≤ length xs) × (length xs ≤ 64)

abbrev pub IsSpelledRequest : Request → Type 0
IsSpelledRequest request.Open = ⊤
IsSpelledRequest (request.PortCreate port cascade channel) = ⊤
IsSpelledRequest (request.PortDelete port) = ⊤
IsSpelledRequest (request.Register ecid mask) = ⊤
IsSpelledRequest (request.Unregister ecid) = ⊤
IsSpelledRequest (request.RegisterMany rows) = IsMany rows
IsSpelledRequest (request.UnregisterMany ecids) = IsMany ecids

-- the port count of an answer to that kind
abbrev pub IsPortCount : RequestKind → ℕ → Type 0
IsPortCount kind.Open ports = (0 < ports) × (ports ≤ 64)
IsPortCount _ ports = ports ≡ 0

abbrev pub IsSpelledBody : Body → Type 0
IsSpelledBody (body.Ask asked) = IsSpelledRequest asked
IsSpelledBody (body.Answer answer) = (answer.code ≤ 3) × IsPortCount answer.to answer.ports

-- A message has a spelling where its serial isn't 0, a list of many has 2 to 64 members, a code is at
-- most 3, and a port count is 1 to 64 in the answer to Open and else 0.
pub record HasSpelling (m : Message) : Type 0 where
  pub numbered : 0 < m.serial
  pub spelled : IsSpelledBody m.body

-- numbers that fit their fields, as those of every message of a program do
pub record IsRow (row : GroupRow) : Type 0 where
  pub ecid : row.ecid < 2 ^ 16
  pub mask : row.mask < 2 ^ 64

abbrev pub FitsRequest : Request → Type 0
FitsRequest request.Open = ⊤
FitsRequest (request.PortCreate port cascade channel) = (port < 256) × (channel < 2 ^ 16)
FitsRequest (request.PortDelete port) = port < 256
FitsRequest (request.Register ecid mask) = (ecid < 2 ^ 16) × (mask < 2 ^ 64)
FitsRequest (request.Unregister ecid) = ecid < 2 ^ 16
FitsRequest (request.RegisterMany rows) = AllByRecursion IsRow rows
FitsRequest (request.UnregisterMany ecids) = AllByRecursion (λ ecid. ecid < 2 ^ 16) ecids

abbrev pub FitsBody : Body → Type 0
FitsBody (body.Ask asked) = FitsRequest asked
FitsBody (body.Answer answer) = ⊤

pub record Fits (m : Message) : Type 0 where
  pub serial : m.serial < 2 ^ 64
  pub content : FitsBody m.body
