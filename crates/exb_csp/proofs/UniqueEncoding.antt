-- What is read is spelled by the bytes that were read.
use Rattle.std.proofs.Common.{◌≡◌, ◌≢◌, ℕ, zero, suc, ◌+◌, ◌-◌, ◌*◌, ◌/◌, ◌%◌, ◌<◌, ◌≤◌, ◌==◌, ◌&&◌, Bool, true, false, cond, not, nat_lt, nat_le, slice_index, List, [], ◌∷◌, ◌++◌, length, take, drop, Option, Some, None, Result, Ok, Err, refl, ap, sym, ◌∙◌, subst, arith, inl, inr}
use Rattle.std.specs.Prelude.{IfOk}
use Rattle.std.specs.Option.{ok_or, option_map}
use Rattle.std.specs.List.{flat_map}
use Rattle.std.specs.Int.{w16, w64, to_be_bytes}
use Rattle.std.proofs.lemmas.Bool.{cases_eq, cases_lt, eq-eqb, ne_eqb, eqb-true, eqb-false, ltb-false, lt-ltb, le-ltb, leb-true, and_parts, not-false}
use Rattle.std.proofs.lemmas.Nat.{be_bytes_2, be_bytes_8}
use Rattle.std.proofs.Math.Seq.{take-add}
use Rattle.std.proofs.lemmas.List.{nil_from_length, take-append-drop, take_all, length-take, length-drop, get_or-drop, get_or-take, get_or_past}
use Rattle.std.proofs.lemmas.List.Concat.{flat_map-cons}
use Rattle.exb_csp.specs.declared.fault.CspFault.{CspFault}
use Rattle.exb_csp.specs.declared.fault.CspFault.TheVariants.{Cut, UnknownType, Length, Range}
use Rattle.exb_csp.specs.declared.message.Request.{Request}
use Rattle.exb_csp.specs.declared.message.Request.TheVariants as request
use Rattle.exb_csp.specs.declared.message.RequestKind.{RequestKind}
use Rattle.exb_csp.specs.declared.message.RequestKind.TheVariants as kind
use Rattle.exb_csp.specs.declared.message.Response.{Response}
use Rattle.exb_csp.specs.declared.message.Body.{Body}
use Rattle.exb_csp.specs.declared.message.Body.TheVariants as body
use Rattle.exb_csp.specs.declared.message.Message.{Message}
use Rattle.exb_csp.specs.declared.message_kind.MessageKind.{MessageKind}
use Rattle.exb_csp.specs.declared.message_kind.MessageKind.TheVariants as form
use Rattle.exb_csp.specs.RequestKinds.{kind_of, number_of, kind_numbered, type_of, form_of, is_length}
use Rattle.exb_csp.specs.Decoding.{◌>>=◌, refuse, u16_at, u64_at, row_at, rows_at, ecids_at, request_in, ports_in, response_in, body_in, form_at, serial_at, read_message}
use Rattle.exb_model.specs.Frames.{IsBytes}
use Rattle.exb_csp.specs.Encoding.{row_bytes, ecid_bytes, request_bytes, answer_bytes, form_in, body_bytes, message_bytes, IsSpelledRequest, IsPortCount, IsSpelledBody, HasSpelling}

-- ---- bytes

IsBytes-drop : (n : ℕ) (bytes : List ℕ) → IsBytes bytes → IsBytes (drop n bytes)
IsBytes-drop n bytes h i = rw get_or-drop (h (n + i))

IsBytes-take : (n : ℕ) (bytes : List ℕ) → IsBytes bytes → IsBytes (take n bytes)
IsBytes-take n bytes h i =
    elim (cases_lt i n) [
      | inl lt ↦ rw (get_or-take n bytes i 0 lt) (h i)
      | inr le ↦ rw (get_or_past (take n bytes) i 0 (omega (arith, length-take n bytes))) (omega arith)
    ]

-- a number that is read has the bytes that were read
u16_back : (bytes : List ℕ) (at : ℕ) → IsBytes bytes → at + 2 ≤ length bytes → to_be_bytes w16 (u16_at bytes at) ≡ take 2 (drop at bytes)
u16_back bytes at h long =
    be_bytes_2 (take 2 (drop at bytes)) (u16_at bytes at) (omega (arith, length-take 2 (drop at bytes), length-drop at bytes)) (IsBytes-take 2 (drop at bytes) (IsBytes-drop at bytes h)) refl

u64_back : (bytes : List ℕ) (at : ℕ) → IsBytes bytes → at + 8 ≤ length bytes → to_be_bytes w64 (u64_at bytes at) ≡ take 8 (drop at bytes)
u64_back bytes at h long =
    be_bytes_8 (take 8 (drop at bytes)) (u64_at bytes at) (omega (arith, length-take 8 (drop at bytes), length-drop at bytes)) (IsBytes-take 8 (drop at bytes) (IsBytes-drop at bytes h)) refl

-- ---- steps that did not fail

bind_ok : {A B : Type 0} (r : Result A CspFault) (f : A → Result B CspFault) (y : B) → (r >>= f) ≡ Ok y → (x : A) × (r ≡ Ok x) × (f x ≡ Ok y)
bind_ok (Ok x) f y e = (x, refl, e)
bind_ok (Err d) f y e = absurd cc

refuse_ok : {B : Type 0} (b : Bool) (fault : CspFault) (r : Result B CspFault) (y : B) → (refuse b fault >>= λ _. r) ≡ Ok y → (b ≡ false) × (r ≡ Ok y)
refuse_ok true fault r y e = absurd cc
refuse_ok false fault r y e = (refl, e)

ok_or_ok : (o : Option MessageKind) (fault : CspFault) (f : MessageKind) → ok_or o fault ≡ Ok f → o ≡ Some f
ok_or_ok None fault f e = absurd cc
ok_or_ok (Some g) fault f e = cc

-- ---- types

-- one test of a look-up by number
numbered : (n i : ℕ) (x k : RequestKind) (others : Option RequestKind) → number_of x ≡ i → (others ≡ Some k → number_of k ≡ n) → cond (n == i) (Some x) others ≡ Some k → number_of k ≡ n
numbered n i x k others is later e =
    elim (cases_eq n i) [
      | inl same ↦ let t : (n == i) ≡ true = eq-eqb _ _ same in let found : Some x ≡ Some k = rw t at e in let x-is : x ≡ k = cc in ap number_of (sym x-is) ∙ is ∙ sym same
      | inr other ↦ let t : (n == i) ≡ false = ne_eqb _ _ other in later (rw t at e)
    ]

number_of-kind : (n : ℕ) (k : RequestKind) → kind_numbered n ≡ Some k → number_of k ≡ n
number_of-kind n k e =
    numbered n 1 kind.Open k _ refl
    (numbered n 2 kind.PortCreate k _ refl
    (numbered n 3 kind.PortDelete k _ refl
    (numbered n 4 kind.Register k _ refl
    (numbered n 5 kind.Unregister k _ refl
    (numbered n 6 kind.RegisterMany k _ refl
    (numbered n 7 kind.UnregisterMany k None refl (λ none. absurd cc))))))) e

ask_is : (n : ℕ) (o : Option RequestKind) (f : MessageKind) → ((k : RequestKind) → o ≡ Some k → number_of k ≡ n) → option_map form.Ask o ≡ Some f → type_of f ≡ n
ask_is n None f is e = absurd cc
ask_is n (Some k) f is e = let f-is : form.Ask k ≡ f = cc in ap type_of (sym f-is) ∙ is k refl

answer_is : (n : ℕ) (o : Option RequestKind) (f : MessageKind) → ((k : RequestKind) → o ≡ Some k → number_of k ≡ n) → option_map form.Answer o ≡ Some f → type_of f ≡ 128 + n
answer_is n None f is e = absurd cc
answer_is n (Some k) f is e = let f-is : form.Answer k ≡ f = cc in ap type_of (sym f-is) ∙ ap (λ (m : ℕ). 128 + m) (is k refl)

type_of-form_of : (n : ℕ) (f : MessageKind) → form_of n ≡ Some f → type_of f ≡ n
type_of-form_of n f e =
    elim (cases_lt n 128) [
      | inl low ↦ let t : nat_lt n 128 ≡ true = lt-ltb _ _ low in ask_is n (kind_numbered n) f (number_of-kind n) (rw t at e)
      | inr high ↦ let t : nat_lt n 128 ≡ false = le-ltb _ _ high in
          let is : type_of f ≡ 128 + (n - 128) = answer_is (n - 128) (kind_numbered (n - 128)) f (number_of-kind (n - 128)) (rw t at e) in
          omega arith
    ]

-- ---- lists of many

-- an E-CID and a mask that are read have the ten bytes that were read
row_back : (bytes : List ℕ) → IsBytes bytes → 10 ≤ length bytes → row_bytes (row_at bytes) ≡ take 10 bytes
row_back bytes h long =
    ap (λ (front : List ℕ). front ++ to_be_bytes w64 (u64_at bytes 2)) (u16_back bytes 0 h (omega arith))
    ∙ ap (λ (back : List ℕ). take 2 bytes ++ back) (u64_back bytes 2 h (omega arith))
    ∙ sym (take-add 2 8 bytes)

rows_spelled : (n : ℕ) (bytes : List ℕ) → IsBytes bytes → length bytes ≡ 10 * n → (flat_map row_bytes (rows_at n bytes) ≡ bytes) × (length (rows_at n bytes) ≡ n)
unfolding rows_at
rows_spelled zero bytes h long = (sym (nil_from_length bytes (omega arith)), refl)
rows_spelled (suc n) bytes h long =
    let later = rows_spelled n (drop 10 bytes) (IsBytes-drop 10 bytes h) (omega (arith, length-drop 10 bytes)) in
    let whole : flat_map row_bytes (row_at bytes ∷ rows_at n (drop 10 bytes)) ≡ bytes =
    flat_map-cons row_bytes (row_at bytes) (rows_at n (drop 10 bytes))
    ∙ ap (λ (front : List ℕ). front ++ flat_map row_bytes (rows_at n (drop 10 bytes))) (row_back bytes h (omega arith))
    ∙ ap (λ (back : List ℕ). take 10 bytes ++ back) later.0
    ∙ take-append-drop 10 bytes in
    (whole, ap suc later.1)

ecids_spelled : (n : ℕ) (bytes : List ℕ) → IsBytes bytes → length bytes ≡ 2 * n → (flat_map ecid_bytes (ecids_at n bytes) ≡ bytes) × (length (ecids_at n bytes) ≡ n)
unfolding ecids_at
ecids_spelled zero bytes h long = (sym (nil_from_length bytes (omega arith)), refl)
ecids_spelled (suc n) bytes h long =
    let later = ecids_spelled n (drop 2 bytes) (IsBytes-drop 2 bytes h) (omega (arith, length-drop 2 bytes)) in
    let whole : flat_map ecid_bytes (u16_at bytes 0 ∷ ecids_at n (drop 2 bytes)) ≡ bytes =
    flat_map-cons ecid_bytes (u16_at bytes 0) (ecids_at n (drop 2 bytes))
    ∙ ap (λ (front : List ℕ). front ++ flat_map ecid_bytes (ecids_at n (drop 2 bytes))) (u16_back bytes 0 h (omega arith))
    ∙ ap (λ (back : List ℕ). take 2 bytes ++ back) later.0
    ∙ take-append-drop 2 bytes in
    (whole, ap suc later.1)

-- ---- bodies

-- what a request has that is read from a body
record IsRead (k : RequestKind) (bytes : List ℕ) (asked : Request) : Type 0 where
  kinded : kind_of asked ≡ k
  spelled : IsSpelledRequest asked
  bytes_are : request_bytes asked ≡ bytes

ok_is : {A : Type 0} (x y : A) → ◌≡◌ {A = Result A CspFault} (Ok x) (Ok y) → x ≡ y
ok_is x y e = cc

-- a flag that is at most 1 is the byte that was read
flag_back : (b : ℕ) → b ≤ 1 → cond (b == 1) 1 0 ≡ b
flag_back b low =
    elim (cases_eq b 1) [
      | inl one ↦ rw one refl
      | inr other ↦ let t : (b == 1) ≡ false = ne_eqb _ _ other in let none : b ≡ 0 = omega arith in rw (t, none) refl
    ]

one_byte : (bytes : List ℕ) → length bytes ≡ 1 → bytes ≡ slice_index bytes 0 ∷ []
one_byte [] e = absurd (omega arith)
one_byte (a ∷ []) e = refl
one_byte (a ∷ b ∷ rest) e = absurd (omega arith)

two_bytes : (bytes : List ℕ) → length bytes ≡ 2 → bytes ≡ slice_index bytes 0 ∷ slice_index bytes 1 ∷ []
two_bytes [] e = absurd (omega arith)
two_bytes (a ∷ rest) e = ap (λ (r : List ℕ). a ∷ r) (one_byte rest (omega arith))

-- four bytes are two and two
two_and_two : (bytes : List ℕ) → length bytes ≡ 4 → bytes ≡ slice_index bytes 0 ∷ slice_index bytes 1 ∷ take 2 (drop 2 bytes)
two_and_two bytes e =
    sym (take-append-drop 2 bytes)
    ∙ ap (λ (front : List ℕ). front ++ drop 2 bytes) (two_bytes (take 2 bytes) (omega (arith, length-take 2 bytes)))
    ∙ ap (λ (n : ℕ). n ∷ slice_index (take 2 bytes) 1 ∷ drop 2 bytes) (get_or-take 2 bytes 0 0 (omega arith))
    ∙ ap (λ (n : ℕ). slice_index bytes 0 ∷ n ∷ drop 2 bytes) (get_or-take 2 bytes 1 0 (omega arith))
    ∙ ap (λ (back : List ℕ). slice_index bytes 0 ∷ slice_index bytes 1 ∷ back) (sym (take_all 2 (drop 2 bytes) (omega (arith, length-drop 2 bytes))))

request_read : (k : RequestKind) (bytes : List ℕ) → IsBytes bytes → is_length (form.Ask k) (length bytes) ≡ true → (asked : Request) → request_in k bytes ≡ Ok asked → IsRead k bytes asked
unfolding request_bytes
request_read kind.Open bytes h sized asked e =
    subst (IsRead kind.Open bytes) (ok_is request.Open asked e) (record { kinded = refl; spelled = tt; bytes_are = sym (nil_from_length bytes (eqb-true _ _ sized)) })
request_read kind.PortCreate bytes h sized asked e =
    let four : length bytes ≡ 4 = eqb-true _ _ sized in
    let parts = refuse_ok (nat_lt 1 (slice_index bytes 1)) Range (Ok (request.PortCreate (slice_index bytes 0) (slice_index bytes 1 == 1) (u16_at bytes 2))) asked e in
    let low : slice_index bytes 1 ≤ 1 = ltb-false _ _ parts.0 in
    let same : slice_index bytes 0 ∷ cond (slice_index bytes 1 == 1) 1 0 ∷ to_be_bytes w16 (u16_at bytes 2) ≡ bytes =
    ap (λ (flag : ℕ). slice_index bytes 0 ∷ flag ∷ to_be_bytes w16 (u16_at bytes 2)) (flag_back (slice_index bytes 1) low)
    ∙ ap (λ (back : List ℕ). slice_index bytes 0 ∷ slice_index bytes 1 ∷ back) (u16_back bytes 2 h (omega arith))
    ∙ sym (two_and_two bytes four) in
    subst (IsRead kind.PortCreate bytes) (ok_is (request.PortCreate (slice_index bytes 0) (slice_index bytes 1 == 1) (u16_at bytes 2)) asked parts.1) (record { kinded = refl; spelled = tt; bytes_are = same })
request_read kind.PortDelete bytes h sized asked e =
    subst (IsRead kind.PortDelete bytes) (ok_is (request.PortDelete (slice_index bytes 0)) asked e) (record { kinded = refl; spelled = tt; bytes_are = sym (one_byte bytes (eqb-true _ _ sized)) })
request_read kind.Register bytes h sized asked e =
    let ten : length bytes ≡ 10 = eqb-true _ _ sized in
    subst (IsRead kind.Register bytes) (ok_is (request.Register (u16_at bytes 0) (u64_at bytes 2)) asked e) (record { kinded = refl; spelled = tt; bytes_are = row_back bytes h (omega arith) ∙ take_all 10 bytes (omega arith) })
request_read kind.Unregister bytes h sized asked e =
    let two : length bytes ≡ 2 = eqb-true _ _ sized in
    subst (IsRead kind.Unregister bytes) (ok_is (request.Unregister (u16_at bytes 0)) asked e) (record { kinded = refl; spelled = tt; bytes_are = u16_back bytes 0 h (omega arith) ∙ take_all 2 bytes (omega arith) })
request_read kind.RegisterMany bytes h sized asked e =
    let tests = and_parts (nat_le 20 (length bytes) && nat_le (length bytes) 640) (length bytes % 10 == 0) sized in
    let range = and_parts (nat_le 20 (length bytes)) (nat_le (length bytes) 640) tests.0 in
    let low : 20 ≤ length bytes = leb-true _ _ range.0 in
    let high : length bytes ≤ 640 = leb-true _ _ range.1 in
    let even : length bytes % 10 ≡ 0 = eqb-true _ _ tests.1 in
    let rows = rows_spelled (length bytes / 10) bytes h (omega arith) in
    subst (IsRead kind.RegisterMany bytes) (ok_is (request.RegisterMany (rows_at (length bytes / 10) bytes)) asked e) (record { kinded = refl; spelled = (omega (arith, rows.1), omega (arith, rows.1)); bytes_are = rows.0 })
request_read kind.UnregisterMany bytes h sized asked e =
    let tests = and_parts (nat_le 4 (length bytes) && nat_le (length bytes) 128) (length bytes % 2 == 0) sized in
    let range = and_parts (nat_le 4 (length bytes)) (nat_le (length bytes) 128) tests.0 in
    let low : 4 ≤ length bytes = leb-true _ _ range.0 in
    let high : length bytes ≤ 128 = leb-true _ _ range.1 in
    let even : length bytes % 2 ≡ 0 = eqb-true _ _ tests.1 in
    let ecids = ecids_spelled (length bytes / 2) bytes h (omega arith) in
    subst (IsRead kind.UnregisterMany bytes) (ok_is (request.UnregisterMany (ecids_at (length bytes / 2) bytes)) asked e) (record { kinded = refl; spelled = (omega (arith, ecids.1), omega (arith, ecids.1)); bytes_are = ecids.0 })

-- the port count and the bytes of an answer
abbrev IsCounted : RequestKind → List ℕ → ℕ → Type 0
IsCounted to bytes ports = IsPortCount to ports × (answer_bytes to (slice_index bytes 0) ports ≡ bytes)

no_count : (bytes : List ℕ) (ports : ℕ) → length bytes ≡ 1 → ◌≡◌ {A = Result ℕ CspFault} (Ok 0) (Ok ports) → (ports ≡ 0) × (slice_index bytes 0 ∷ [] ≡ bytes)
no_count bytes ports one e = (sym (ok_is 0 ports e), sym (one_byte bytes one))

ports_read : (to : RequestKind) (bytes : List ℕ) → is_length (form.Answer to) (length bytes) ≡ true → (ports : ℕ) → ports_in to bytes ≡ Ok ports → IsCounted to bytes ports
ports_read kind.Open bytes sized ports e =
    let two : length bytes ≡ 2 = eqb-true _ _ sized in
    let some = refuse_ok (slice_index bytes 1 == 0) Range (refuse (nat_lt 64 (slice_index bytes 1)) Range >>= λ _. Ok (slice_index bytes 1)) ports e in
    let few = refuse_ok (nat_lt 64 (slice_index bytes 1)) Range (Ok (slice_index bytes 1)) ports some.1 in
    let is : slice_index bytes 1 ≡ ports = ok_is (slice_index bytes 1) ports few.1 in
    let low : slice_index bytes 1 ≢ 0 = eqb-false _ _ some.0 in
    let high : slice_index bytes 1 ≤ 64 = ltb-false _ _ few.0 in
    subst (IsCounted kind.Open bytes) is ((omega arith, high), sym (two_bytes bytes two))
ports_read kind.PortCreate bytes sized ports e = no_count bytes ports (eqb-true _ _ sized) e
ports_read kind.PortDelete bytes sized ports e = no_count bytes ports (eqb-true _ _ sized) e
ports_read kind.Register bytes sized ports e = no_count bytes ports (eqb-true _ _ sized) e
ports_read kind.Unregister bytes sized ports e = no_count bytes ports (eqb-true _ _ sized) e
ports_read kind.RegisterMany bytes sized ports e = no_count bytes ports (eqb-true _ _ sized) e
ports_read kind.UnregisterMany bytes sized ports e = no_count bytes ports (eqb-true _ _ sized) e

-- what a body has that is read from bytes
record IsReadBody (f : MessageKind) (bytes : List ℕ) (b : Body) : Type 0 where
  formed : form_in b ≡ f
  spelled : IsSpelledBody b
  bytes_are : body_bytes b ≡ bytes

body_read : (f : MessageKind) (bytes : List ℕ) → IsBytes bytes → is_length f (length bytes) ≡ true → (b : Body) → body_in f bytes ≡ Ok b → IsReadBody f bytes b
body_read (form.Ask k) bytes h sized b e =
    let step = bind_ok (request_in k bytes) (λ asked. Ok (body.Ask asked)) b e in
    let read = request_read k bytes h sized step.0 step.1 in
    subst (IsReadBody (form.Ask k) bytes) (ok_is (body.Ask step.0) b step.2) (record { formed = ap form.Ask read.kinded; spelled = read.spelled; bytes_are = read.bytes_are })
body_read (form.Answer to) bytes h sized b e =
    let step = bind_ok (response_in to bytes) (λ answer. Ok (body.Answer answer)) b e in
    let known = refuse_ok (nat_lt 3 (slice_index bytes 0)) Range (ports_in to bytes >>= λ ports. Ok (record { to = to; code = slice_index bytes 0; ports = ports })) step.0 step.1 in
    let counted = bind_ok (ports_in to bytes) (λ ports. Ok (record { to = to; code = slice_index bytes 0; ports = ports })) step.0 known.1 in
    let count = ports_read to bytes sized counted.0 counted.1 in
    let low : slice_index bytes 0 ≤ 3 = ltb-false _ _ known.0 in
    let answer : Response = record { to = to; code = slice_index bytes 0; ports = counted.0 } in
    let is : body.Answer answer ≡ b = ap body.Answer (ok_is answer step.0 counted.2) ∙ ok_is (body.Answer step.0) b step.2 in
    subst (IsReadBody (form.Answer to) bytes) is (record { formed = refl; spelled = (low, count.0); bytes_are = count.1 })

-- ---- headers

pos_of : {n : ℕ} → n ≢ 0 → 0 < n
pos_of some = omega arith

same_from_both : {m n : ℕ} → n ≤ m → m ≤ n → m ≡ n
same_from_both least most = omega arith

-- eleven bytes of header, and the body
header_parts : (bytes : List ℕ) → 11 ≤ length bytes → bytes ≡ slice_index bytes 0 ∷ (take 8 (drop 1 bytes) ++ (take 2 (drop 9 bytes) ++ drop 11 bytes))
header_parts (b0 ∷ b1 ∷ b2 ∷ b3 ∷ b4 ∷ b5 ∷ b6 ∷ b7 ∷ b8 ∷ b9 ∷ b10 ∷ rest) long = refl
header_parts bytes long = absurd (omega arith)

record IsHeaded (bytes : List ℕ) (f : MessageKind) : Type 0 where
  long : 11 ≤ length bytes
  typed : type_of f ≡ slice_index bytes 0
  sized : is_length f (u16_at bytes 9) ≡ true

form_read : (bytes : List ℕ) (f : MessageKind) → form_at bytes ≡ Ok f → IsHeaded bytes f
unfolding form_at
form_read bytes f e =
    let long = refuse_ok (nat_lt (length bytes) 11) Cut (ok_or (form_of (slice_index bytes 0)) UnknownType >>= λ form. refuse (not (is_length form (u16_at bytes 9))) Length >>= λ _. Ok form) f e in
    let typed = bind_ok (ok_or (form_of (slice_index bytes 0)) UnknownType) (λ form. refuse (not (is_length form (u16_at bytes 9))) Length >>= λ _. Ok form) f long.1 in
    let sized = refuse_ok (not (is_length typed.0 (u16_at bytes 9))) Length (Ok typed.0) f typed.2 in
    let found : form_of (slice_index bytes 0) ≡ Some typed.0 = ok_or_ok (form_of (slice_index bytes 0)) UnknownType typed.0 typed.1 in
    subst (IsHeaded bytes) (ok_is typed.0 f sized.1) (record { long = ltb-false _ _ long.0; typed = type_of-form_of (slice_index bytes 0) typed.0 found; sized = not-false _ sized.0 })

record IsNumbered (bytes : List ℕ) (serial : ℕ) : Type 0 where
  whole : length (drop 11 bytes) ≡ u16_at bytes 9
  serial_is : u64_at bytes 1 ≡ serial
  some : 0 < serial

serial_read : (bytes : List ℕ) (serial : ℕ) → serial_at bytes ≡ Ok serial → IsNumbered bytes serial
unfolding serial_at
serial_read bytes serial e =
    let whole = refuse_ok (nat_lt (length (drop 11 bytes)) (u16_at bytes 9)) Cut (refuse (nat_lt (u16_at bytes 9) (length (drop 11 bytes))) Length >>= λ _. refuse (u64_at bytes 1 == 0) Range >>= λ _. Ok (u64_at bytes 1)) serial e in
    let alone = refuse_ok (nat_lt (u16_at bytes 9) (length (drop 11 bytes))) Length (refuse (u64_at bytes 1 == 0) Range >>= λ _. Ok (u64_at bytes 1)) serial whole.1 in
    let some = refuse_ok (u64_at bytes 1 == 0) Range (Ok (u64_at bytes 1)) serial alone.1 in
    let least : u16_at bytes 9 ≤ length (drop 11 bytes) = ltb-false _ _ whole.0 in
    let most : length (drop 11 bytes) ≤ u16_at bytes 9 = ltb-false _ _ alone.0 in
    let not_none : u64_at bytes 1 ≢ 0 = eqb-false _ _ some.0 in
    let is : u64_at bytes 1 ≡ serial = ok_is (u64_at bytes 1) serial some.1 in
    let positive : 0 < u64_at bytes 1 = pos_of not_none in
    record { whole = same_from_both least most; serial_is = is; some = subst (λ (n : ℕ). 0 < n) is positive }

same_parts : (k l : ℕ) (s t z y c b : List ℕ) → k ≡ l → s ≡ t → z ≡ y → c ≡ b → k ∷ (s ++ (z ++ c)) ≡ l ∷ (t ++ (y ++ b))
same_parts k l s t z y c b kind-is serial-is size-is body-is = cc

made_is : (bytes : List ℕ) (made m : Message) → made ≡ m → HasSpelling made → bytes ≡ message_bytes made → HasSpelling m × (bytes ≡ message_bytes m)
made_is bytes made m e spelled whole = subst (λ (n : Message). HasSpelling n × (bytes ≡ message_bytes n)) e (spelled, whole)

pub message_read : (bytes : List ℕ) (m : Message) → IsBytes bytes → read_message bytes ≡ Ok m → HasSpelling m × (bytes ≡ message_bytes m)
unfolding read_message message_bytes
message_read bytes m h e =
    let f = bind_ok (form_at bytes) (λ form. serial_at bytes >>= λ serial. body_in form (drop 11 bytes) >>= λ content. Ok (record { serial = serial; body = content })) m e in
    let s = bind_ok (serial_at bytes) (λ serial. body_in f.0 (drop 11 bytes) >>= λ content. Ok (record { serial = serial; body = content })) m f.2 in
    let b = bind_ok (body_in f.0 (drop 11 bytes)) (λ content. Ok (record { serial = s.0; body = content })) m s.2 in
    let headed = form_read bytes f.0 f.1 in
    let numbered = serial_read bytes s.0 s.1 in
    let sized : is_length f.0 (length (drop 11 bytes)) ≡ true = ap (is_length f.0) numbered.whole ∙ headed.sized in
    let content = body_read f.0 (drop 11 bytes) (IsBytes-drop 11 bytes h) sized b.0 b.1 in
    let made : Message = record { serial = s.0; body = b.0 } in
    let kind-is : slice_index bytes 0 ≡ type_of (form_in b.0) = sym (ap type_of content.formed ∙ headed.typed) in
    let serial-is : take 8 (drop 1 bytes) ≡ to_be_bytes w64 s.0 = sym (u64_back bytes 1 h (omega (arith, headed.long))) ∙ ap (to_be_bytes w64) numbered.serial_is in
    let body-is : drop 11 bytes ≡ body_bytes b.0 = sym content.bytes_are in
    let size-is : take 2 (drop 9 bytes) ≡ to_be_bytes w16 (length (body_bytes b.0)) = sym (u16_back bytes 9 h (omega (arith, headed.long))) ∙ ap (to_be_bytes w16) (sym numbered.whole ∙ ap length body-is) in
    let whole : bytes ≡ message_bytes made = header_parts bytes headed.long ∙ same_parts _ _ _ _ _ _ _ _ kind-is serial-is size-is body-is in
    made_is bytes made m (ok_is made m b.2) (record { numbered = numbered.some; spelled = content.spelled }) whole

pub is_spelled : (bytes : List ℕ) (r : Result Message CspFault) → IsBytes bytes → r ≡ read_message bytes → IfOk r (λ m. HasSpelling m × (bytes ≡ message_bytes m))
is_spelled bytes (Ok m) h e = message_read bytes m h (sym e)
is_spelled bytes (Err fault) h e = tt
