-- What was written is read again as the same message.
use Rattle.std.proofs.Common.{◌≡◌, ℕ, suc, ◌/◌, ◌^◌, ◌<◌, ◌≤◌, ◌==◌, true, false, nat_lt, slice_index, List, [], ◌∷◌, ◌++◌, length, Some, Ok, refl, ap, sym, ◌∙◌, ◌+◌, length-append, arith}
use Rattle.std.specs.List.{flat_map, AllByRecursion}
use Rattle.std.specs.Int.{w16, w64, to_be_bytes, from_be_bytes}
use Rattle.std.proofs.lemmas.Bool.{le-ltb, ne_eqb}
use Rattle.std.proofs.lemmas.Nat.{from_be_bytes-to_be_bytes_2, from_be_bytes-to_be_bytes_8}
use Rattle.std.proofs.lemmas.List.Concat.{flat_map-cons}
use Rattle.exb_csp.specs.declared.group_rows.GroupRow.{GroupRow}
use Rattle.exb_csp.specs.declared.message.Request.{Request}
use Rattle.exb_csp.specs.declared.message.Request.TheVariants as request
use Rattle.exb_csp.specs.declared.message.RequestKind.{RequestKind}
use Rattle.exb_csp.specs.declared.message.RequestKind.TheVariants as kind
use Rattle.exb_csp.specs.declared.message.Response.{Response}
use Rattle.exb_csp.specs.declared.message.Body.{Body}
use Rattle.exb_csp.specs.declared.message.Body.TheVariants as body
use Rattle.exb_csp.specs.declared.message.Message.{Message}
use Rattle.exb_csp.specs.declared.message_kind.MessageKind.{MessageKind}
use Rattle.exb_csp.specs.declared.message_kind.MessageKind.TheVariants as form
use Rattle.exb_csp.specs.RequestKinds.{kind_of, type_of, form_of, is_length}
use Rattle.exb_csp.specs.Decoding.{rows_at, ecids_at, request_in, ports_in, response_in, body_in, form_at, serial_at, read_message}
use Rattle.exb_csp.specs.Encoding.{row_bytes, ecid_bytes, request_bytes, answer_bytes, form_in, body_bytes, message_bytes, IsSpelledRequest, IsPortCount, IsSpelledBody, HasSpelling, IsRow, FitsRequest, FitsBody, Fits}
use Rattle.exb_csp.specs.Laws.{MessagesAreShort}
use Rattle.exb_csp.proofs.ListLengths.{length_rows, length_ecids}

-- ---- lists of many

row_of : ℕ → ℕ → GroupRow
row_of ecid mask = record { ecid = ecid; mask = mask }

rows_again : (rows : List GroupRow) → AllByRecursion IsRow rows → rows_at (length rows) (flat_map row_bytes rows) ≡ rows
unfolding rows_at row_of
rows_again [] fits = refl
rows_again (row ∷ rows) fits =
    ap (rows_at (suc (length rows))) (flat_map-cons row_bytes row rows)
    ∙ ap (λ (rest : List GroupRow). row_of (from_be_bytes w16 (to_be_bytes w16 row.ecid)) (from_be_bytes w64 (to_be_bytes w64 row.mask)) ∷ rest) (rows_again rows fits.1)
    ∙ ap (λ (ecid : ℕ). row_of ecid (from_be_bytes w64 (to_be_bytes w64 row.mask)) ∷ rows) (from_be_bytes-to_be_bytes_2 row.ecid fits.0.ecid)
    ∙ ap (λ (mask : ℕ). row_of row.ecid mask ∷ rows) (from_be_bytes-to_be_bytes_8 row.mask fits.0.mask)

ecids_again : (ecids : List ℕ) → AllByRecursion (λ ecid. ecid < 2 ^ 16) ecids → ecids_at (length ecids) (flat_map ecid_bytes ecids) ≡ ecids
unfolding ecids_at
ecids_again [] fits = refl
ecids_again (ecid ∷ ecids) fits =
    ap (ecids_at (suc (length ecids))) (flat_map-cons ecid_bytes ecid ecids)
    ∙ ap (λ (rest : List ℕ). from_be_bytes w16 (to_be_bytes w16 ecid) ∷ rest) (ecids_again ecids fits.1)
    ∙ ap (λ (first : ℕ). first ∷ ecids) (from_be_bytes-to_be_bytes_2 ecid fits.0)

many_rows : (rows : List GroupRow) → AllByRecursion IsRow rows → rows_at (length (flat_map row_bytes rows) / 10) (flat_map row_bytes rows) ≡ rows
many_rows rows fits =
    let count : length (flat_map row_bytes rows) / 10 ≡ length rows = omega (arith, length_rows rows) in
    ap (λ (n : ℕ). rows_at n (flat_map row_bytes rows)) count ∙ rows_again rows fits

many_ecids : (ecids : List ℕ) → AllByRecursion (λ ecid. ecid < 2 ^ 16) ecids → ecids_at (length (flat_map ecid_bytes ecids) / 2) (flat_map ecid_bytes ecids) ≡ ecids
many_ecids ecids fits =
    let count : length (flat_map ecid_bytes ecids) / 2 ≡ length ecids = omega (arith, length_ecids ecids) in
    ap (λ (n : ℕ). ecids_at n (flat_map ecid_bytes ecids)) count ∙ ecids_again ecids fits

-- ---- bodies

-- its length is one of its form's
abbrev pub IsWhole : Body → Type 0
IsWhole b = (is_length (form_in b) (length (body_bytes b)) ≡ true) × (length (body_bytes b) ≤ 640)

request_whole : (asked : Request) → IsSpelledRequest asked → IsWhole (body.Ask asked)
unfolding request_bytes
request_whole request.Open h = (refl, omega arith)
request_whole (request.PortCreate port cascade channel) h = (refl, omega arith)
request_whole (request.PortDelete port) h = (refl, omega arith)
request_whole (request.Register ecid mask) h = (refl, omega arith)
request_whole (request.Unregister ecid) h = (refl, omega arith)
request_whole (request.RegisterMany rows) h = (grind (arith, length_rows rows), omega (arith, length_rows rows, h.1))
request_whole (request.UnregisterMany ecids) h = (grind (arith, length_ecids ecids), omega (arith, length_ecids ecids, h.1))

answer_whole : (to : RequestKind) (code ports : ℕ) → IsWhole (body.Answer (record { to = to; code = code; ports = ports }))
answer_whole kind.Open code ports = (refl, omega arith)
answer_whole kind.PortCreate code ports = (refl, omega arith)
answer_whole kind.PortDelete code ports = (refl, omega arith)
answer_whole kind.Register code ports = (refl, omega arith)
answer_whole kind.Unregister code ports = (refl, omega arith)
answer_whole kind.RegisterMany code ports = (refl, omega arith)
answer_whole kind.UnregisterMany code ports = (refl, omega arith)

body_whole : (b : Body) → IsSpelledBody b → IsWhole b
body_whole (body.Ask asked) h = request_whole asked h
body_whole (body.Answer answer) h = answer_whole answer.to answer.code answer.ports

request_again : (asked : Request) → FitsRequest asked → request_in (kind_of asked) (request_bytes asked) ≡ Ok asked
unfolding request_bytes
request_again request.Open fits = refl
request_again (request.PortCreate port true channel) fits = ap (λ (n : ℕ). Ok (request.PortCreate port true n)) (from_be_bytes-to_be_bytes_2 channel fits.1)
request_again (request.PortCreate port false channel) fits = ap (λ (n : ℕ). Ok (request.PortCreate port false n)) (from_be_bytes-to_be_bytes_2 channel fits.1)
request_again (request.PortDelete port) fits = refl
request_again (request.Register ecid mask) fits =
    ap (λ (n : ℕ). Ok (request.Register n (from_be_bytes w64 (to_be_bytes w64 mask)))) (from_be_bytes-to_be_bytes_2 ecid fits.0)
    ∙ ap (λ (n : ℕ). Ok (request.Register ecid n)) (from_be_bytes-to_be_bytes_8 mask fits.1)
request_again (request.Unregister ecid) fits = ap (λ (n : ℕ). Ok (request.Unregister n)) (from_be_bytes-to_be_bytes_2 ecid fits)
request_again (request.RegisterMany rows) fits = ap (λ (read : List GroupRow). Ok (request.RegisterMany read)) (many_rows rows fits)
request_again (request.UnregisterMany ecids) fits = ap (λ (read : List ℕ). Ok (request.UnregisterMany read)) (many_ecids ecids fits)

ports_again : (to : RequestKind) (code ports : ℕ) → IsPortCount to ports → ports_in to (answer_bytes to code ports) ≡ Ok ports
ports_again kind.Open code ports h =
    let some : (ports == 0) ≡ false = ne_eqb ports 0 (λ none. omega arith) in
    let few : nat_lt 64 ports ≡ false = le-ltb _ _ h.1 in
    rw (some, few) refl
ports_again kind.PortCreate code ports h = ap (λ (n : ℕ). Ok n) (sym h)
ports_again kind.PortDelete code ports h = ap (λ (n : ℕ). Ok n) (sym h)
ports_again kind.Register code ports h = ap (λ (n : ℕ). Ok n) (sym h)
ports_again kind.Unregister code ports h = ap (λ (n : ℕ). Ok n) (sym h)
ports_again kind.RegisterMany code ports h = ap (λ (n : ℕ). Ok n) (sym h)
ports_again kind.UnregisterMany code ports h = ap (λ (n : ℕ). Ok n) (sym h)

first_byte : (to : RequestKind) (code ports : ℕ) → slice_index (answer_bytes to code ports) 0 ≡ code
first_byte kind.Open code ports = refl
first_byte kind.PortCreate code ports = refl
first_byte kind.PortDelete code ports = refl
first_byte kind.Register code ports = refl
first_byte kind.Unregister code ports = refl
first_byte kind.RegisterMany code ports = refl
first_byte kind.UnregisterMany code ports = refl

response_again : (answer : Response) → answer.code ≤ 3 → IsPortCount answer.to answer.ports
    → response_in answer.to (answer_bytes answer.to answer.code answer.ports) ≡ Ok answer
response_again answer known counted =
    let low : nat_lt 3 answer.code ≡ false = le-ltb _ _ known in
    rw (first_byte answer.to answer.code answer.ports, low, ports_again answer.to answer.code answer.ports counted) refl

body_again : (b : Body) → IsSpelledBody b → FitsBody b → body_in (form_in b) (body_bytes b) ≡ Ok b
body_again (body.Ask asked) spelled fits = rw (request_again asked fits) refl
body_again (body.Answer answer) spelled fits = rw (response_again answer spelled.0 spelled.1) refl

-- ---- headers

form_of-type_of : (f : MessageKind) → form_of (type_of f) ≡ Some f
form_of-type_of (form.Ask kind.Open) = refl
form_of-type_of (form.Ask kind.PortCreate) = refl
form_of-type_of (form.Ask kind.PortDelete) = refl
form_of-type_of (form.Ask kind.Register) = refl
form_of-type_of (form.Ask kind.Unregister) = refl
form_of-type_of (form.Ask kind.RegisterMany) = refl
form_of-type_of (form.Ask kind.UnregisterMany) = refl
form_of-type_of (form.Answer kind.Open) = refl
form_of-type_of (form.Answer kind.PortCreate) = refl
form_of-type_of (form.Answer kind.PortDelete) = refl
form_of-type_of (form.Answer kind.Register) = refl
form_of-type_of (form.Answer kind.Unregister) = refl
form_of-type_of (form.Answer kind.RegisterMany) = refl
form_of-type_of (form.Answer kind.UnregisterMany) = refl

headed : ℕ → ℕ → List ℕ → List ℕ
headed kind serial bytes = kind ∷ (to_be_bytes w64 serial ++ (to_be_bytes w16 (length bytes) ++ bytes))

form_again : (f : MessageKind) (serial : ℕ) (bytes : List ℕ) → is_length f (length bytes) ≡ true → length bytes < 2 ^ 16 → form_at (headed (type_of f) serial bytes) ≡ Ok f
unfolding form_at headed
form_again f serial bytes whole fits =
    let long : nat_lt (length (headed (type_of f) serial bytes)) 11 ≡ false = le-ltb _ _ (omega arith) in
    let size : from_be_bytes w16 (to_be_bytes w16 (length bytes)) ≡ length bytes = from_be_bytes-to_be_bytes_2 (length bytes) fits in
    rw (long, form_of-type_of f, size, whole) refl

serial_again : (kind serial : ℕ) (bytes : List ℕ) → length bytes < 2 ^ 16 → 0 < serial → serial < 2 ^ 64 → serial_at (headed kind serial bytes) ≡ Ok serial
unfolding serial_at headed
serial_again kind serial bytes fits numbered small =
    let size : from_be_bytes w16 (to_be_bytes w16 (length bytes)) ≡ length bytes = from_be_bytes-to_be_bytes_2 (length bytes) fits in
    let number : from_be_bytes w64 (to_be_bytes w64 serial) ≡ serial = from_be_bytes-to_be_bytes_8 serial small in
    let same : nat_lt (length bytes) (length bytes) ≡ false = le-ltb _ _ (omega arith) in
    let some : (serial == 0) ≡ false = ne_eqb serial 0 (λ none. omega arith) in
    rw (size, same, number, some) refl

pub message_again : (m : Message) → HasSpelling m → Fits m → read_message (message_bytes m) ≡ Ok m
unfolding read_message message_bytes headed
message_again m spelled fits =
    let whole = body_whole m.body spelled.spelled in
    let small : length (body_bytes m.body) < 2 ^ 16 = omega (arith, whole.1) in
    let f : form_at (message_bytes m) ≡ Ok (form_in m.body) = form_again (form_in m.body) m.serial (body_bytes m.body) whole.0 small in
    let s : serial_at (message_bytes m) ≡ Ok m.serial = serial_again (type_of (form_in m.body)) m.serial (body_bytes m.body) small spelled.numbered fits.serial in
    let b : body_in (form_in m.body) (body_bytes m.body) ≡ Ok m.body = body_again m.body spelled.spelled fits.content in
    rw (f, s, b) refl

-- ---- lengths

message_long : (m : Message) → length (message_bytes m) ≡ 11 + length (body_bytes m.body)
unfolding message_bytes
message_long m =
    let head = length-append (to_be_bytes w64 m.serial) (to_be_bytes w16 (length (body_bytes m.body)) ++ body_bytes m.body) in
    let tail = length-append (to_be_bytes w16 (length (body_bytes m.body))) (body_bytes m.body) in
    omega (arith, head, tail)

pub are_short : MessagesAreShort
are_short m h = (message_long m, (let few = (body_whole m.body h.spelled).1 in omega (arith, message_long m, few)))
