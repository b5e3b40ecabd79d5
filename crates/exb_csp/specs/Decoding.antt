-- What the bytes of a control message say, or the first thing that is wrong with them.
use Rattle.std.specs.Prelude.{ℕ, zero, suc, ◌/◌, ◌==◌, not, nat_lt, Bool, true, false, Result, Ok, Err, List, [], ◌∷◌, length, take, drop, slice_index}
use Rattle.std.specs.Option.{ok_or}
use Rattle.std.specs.Int.{w16, w64, from_be_bytes}
use Rattle.exb_csp.specs.declared.fault.CspFault.{CspFault}
use Rattle.exb_csp.specs.declared.fault.CspFault.TheVariants.{Cut, UnknownType, Length, Range}
use Rattle.exb_csp.specs.declared.group_rows.GroupRow.{GroupRow}
use Rattle.exb_csp.specs.declared.message.Request.{Request}
use Rattle.exb_csp.specs.declared.message.Request.TheVariants as request
use Rattle.exb_csp.specs.declared.message.RequestKind.{RequestKind}
use Rattle.exb_csp.specs.declared.message.RequestKind.TheVariants as kind
use Rattle.exb_csp.specs.declared.message.Response.{Response}
use Rattle.exb_csp.specs.declared.message.Body.{Body}
use Rattle.exb_csp.specs.declared.message.Body.TheVariants as body
use Rattle.exb_csp.specs.declared.message.Message.{Message}
use Rattle.exb_csp.specs.declared.message_kind.MessageKind.{MessageKind}
use Rattle.exb_csp.specs.declared.message_kind.MessageKind.TheVariants as form
use Rattle.exb_csp.specs.RequestKinds.{form_of, is_length}

infixl 10 ◌>>=◌
abbrev pub ◌>>=◌ : {A B : Type 0} → Result A CspFault → (A → Result B CspFault) → Result B CspFault
(Ok x) >>= f = f x
(Err fault) >>= f = Err fault

-- the fault, where the test holds
abbrev pub refuse : Bool → CspFault → Result (Unit {0}) CspFault
refuse true fault = Err fault
refuse false fault = Ok tt

-- a number of two bytes
abbrev pub u16_at : List ℕ → ℕ → ℕ
u16_at bytes at = from_be_bytes w16 (take 2 (drop at bytes))

-- a number of eight bytes
abbrev pub u64_at : List ℕ → ℕ → ℕ
u64_at bytes at = from_be_bytes w64 (take 8 (drop at bytes))

-- an E-CID and a mask
abbrev pub row_at : List ℕ → GroupRow
row_at bytes = record { ecid = u16_at bytes 0; mask = u64_at bytes 2 }

-- so many rows of ten bytes
unfoldable pub rows_at : ℕ → List ℕ → List GroupRow
rows_at zero bytes = []
rows_at (suc n) bytes = row_at bytes ∷ rows_at n (drop 10 bytes)

-- so many E-CIDs of two bytes
unfoldable pub ecids_at : ℕ → List ℕ → List ℕ
ecids_at zero bytes = []
ecids_at (suc n) bytes = u16_at bytes 0 ∷ ecids_at n (drop 2 bytes)

-- the request of that kind in a body of a right length
abbrev pub request_in : RequestKind → List ℕ → Result Request CspFault
request_in kind.Open bytes = Ok request.Open
request_in kind.PortCreate bytes = do
  known ← refuse (nat_lt 1 (slice_index bytes 1)) Range
  Ok (request.PortCreate (slice_index bytes 0) (slice_index bytes 1 == 1) (u16_at bytes 2))
request_in kind.PortDelete bytes = Ok (request.PortDelete (slice_index bytes 0))
request_in kind.Register bytes = Ok (request.Register (u16_at bytes 0) (u64_at bytes 2))
request_in kind.Unregister bytes = Ok (request.Unregister (u16_at bytes 0))
request_in kind.RegisterMany bytes = Ok (request.RegisterMany (rows_at (length bytes / 10) bytes))
request_in kind.UnregisterMany bytes = Ok (request.UnregisterMany (ecids_at (length bytes / 2) bytes))

-- the port count that an answer to that kind has
abbrev pub ports_in : RequestKind → List ℕ → Result ℕ CspFault
ports_in kind.Open bytes = do
  some ← refuse (slice_index bytes 1 == 0) Range
  few ← refuse (nat_lt 64 (slice_index bytes 1)) Range
  Ok (slice_index bytes 1)
ports_in _ bytes = Ok 0

-- the answer to that kind in a body of a right length
abbrev pub response_in : RequestKind → List ℕ → Result Response CspFault
response_in to bytes = do
  known ← refuse (nat_lt 3 (slice_index bytes 0)) Range
  ports ← ports_in to bytes
  Ok (record { to = to; code = slice_index bytes 0; ports = ports })

abbrev pub body_in : MessageKind → List ℕ → Result Body CspFault
body_in (form.Ask k) bytes = do
  asked ← request_in k bytes
  Ok (body.Ask asked)
body_in (form.Answer k) bytes = do
  answer ← response_in k bytes
  Ok (body.Answer answer)

-- what the header's type names: its length field has to be one of the type's
unfoldable pub form_at : List ℕ → Result MessageKind CspFault
form_at bytes = do
  headed ← refuse (nat_lt (length bytes) 11) Cut
  form ← ok_or (form_of (slice_index bytes 0)) UnknownType
  sized ← refuse (not (is_length form (u16_at bytes 9))) Length
  Ok form

-- the serial, where the body is as long as the header says
unfoldable pub serial_at : List ℕ → Result ℕ CspFault
serial_at bytes = do
  whole ← refuse (nat_lt (length (drop 11 bytes)) (u16_at bytes 9)) Cut
  alone ← refuse (nat_lt (u16_at bytes 9) (length (drop 11 bytes))) Length
  numbered ← refuse (u64_at bytes 1 == 0) Range
  Ok (u64_at bytes 1)

-- The type stands at byte 0, the serial at 1, the length at 9, the body at 11. What is wrong is tried
-- in the order of these lines.
unfoldable pub read_message : List ℕ → Result Message CspFault
read_message bytes = do
  form ← form_at bytes
  serial ← serial_at bytes
  content ← body_in form (drop 11 bytes)
  Ok (record { serial = serial; body = content })
