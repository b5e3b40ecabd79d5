-- Control frames as bytes: what they hand up, and what an E-TAG makes of them.
use Rattle.std.proofs.Common.{◌≡◌, ℕ, suc, ◌+◌, ◌*◌, ◌<◌, ◌≤◌, ◌==◌, ◌&&◌, ◌++◌, Bool, true, false, not, List, [], ◌∷◌, length, get_or, take, drop, length-take, length-append, append-nil, nat_lt, ◌⊎◌, Some, None, Ok, Err, refl, ap, sym, ◌∙◌, subst, arith, inl, inr}
use Rattle.std.specs.Prelude.{nat_eq, nat_le, Result}
use lib.Pointwise.{pointwise}
use Rattle.std.proofs.lemmas.Bool.{cases_Bool, and_parts, and_from, le-leb, leb-true, eqb-true, cases_lt, lt-ltb, false≢true}
use Rattle.std.proofs.lemmas.List.{get_or-take, take_all, drop_all}
use Rattle.exb_model.specs.declared.address.Mac.{Mac}
use Rattle.exb_model.specs.declared.frame_kind.Seen.TheVariants as seen
use Rattle.exb_model.specs.declared.vlan.Kind.{Kind}
use Rattle.exb_model.specs.declared.vlan.Kind.TheVariants.{Tagged, Untagged}
use Rattle.exb_model.specs.EagerHistory.{is_relayed_kind}
use Rattle.exb_model.specs.Frames.{control_address, number_at, two_bytes, is_reserved, kind_of, priority_of, egress, body_after, is_control_frame, IsBytes}
use Rattle.exb_model.specs.ETags.{Tag, TagFits, etag_bytes, has_etag, read_etag, tagged, stripped}
use Rattle.exb_lldp.specs.Encoding.{spelling as announcement}
use Rattle.exb_ecp.specs.declared.pdu.Pdu.{Pdu}
use Rattle.exb_ecp.specs.declared.pdu.EcpFault.{EcpFault}
use Rattle.exb_ecp.specs.declared.pdu.EcpFault.TheVariants.{NotEcp}
use Rattle.exb_ecp.specs.Frames.{pdu_in, spelling}
use Rattle.exb_ecp.proofs.RoundTrip.{pdu_in-spelling, drop-spelling}
use Rattle.exb_csp.specs.declared.fault.CspFault.{CspFault}
use Rattle.exb_csp.specs.declared.message.Body.{Body}
use Rattle.exb_csp.specs.declared.message.Message.{Message}
use Rattle.exb_csp.specs.Decoding.{read_message}
use Rattle.exb_csp.specs.Encoding.{message_bytes, HasSpelling, Fits}
use Rattle.exb_csp.proofs.RoundTrip.{message_again}
use Rattle.exb_extender.specs.Forwarding.{is_bare_control, has_etag_type, is_refused_kind, channel_tag}
use Rattle.exb_extender.specs.Machine.{control_pdu, announcement_frame}
use Rattle.exb_world_spec.specs.Runs.Sessions.{Reads, Hands}

-- ---- what is written
same_message : (r : Result Message CspFault) (x y : Message) → r ≡ Ok x → r ≡ Ok y → x ≡ y
same_message r x y e f = cc

same_pdu : (r : Result Pdu EcpFault) (x y : Pdu) → r ≡ Ok x → r ≡ Ok y → x ≡ y
same_pdu r x y e f = cc

no_pdu : (r : Result Pdu EcpFault) (x : EcpFault) (y : Pdu) → r ≡ Err x → r ≡ Ok y → ⊥
no_pdu r x y e f = cc

can_write : (ack : Bool) (sequence : ℕ) (payload : List ℕ) → length payload ≤ 1024 → Rattle.exb_ecp.specs.Frames.CanBeWritten (control_pdu ack sequence) payload
can_write ack sequence payload short = record { subtype = omega arith; place = refl; length = short }

-- a message that is written reads as it
pub reads_written : (P : ℕ → Body → Type 0) (m : Message) → HasSpelling m → Fits m → P m.serial m.body → Reads (message_bytes m) P
reads_written P m spelled fits p =
    record { each = λ n e. (let k : m ≡ n = same_message (read_message (message_bytes m)) m n (message_again m spelled fits) e in let Q : Message → Type 0 = λ z. P z.serial z.body in subst Q k p) }

pub hands_request : (P : ℕ → Body → Type 0) (source : Mac) (sequence : ℕ) (payload : List ℕ) → length source.0 ≡ 6 → Reads payload P → Hands (spelling source (control_pdu false sequence) payload) P
hands_request P source sequence payload six reads =
    record { each = λ p e ack. (let Q : List ℕ → Type 0 = λ z. Reads z P in subst Q (sym (drop-spelling source (control_pdu false sequence) payload six)) reads) }

pub hands_acknowledgement : (P : ℕ → Body → Type 0) (source : Mac) (sequence : ℕ) → length source.0 ≡ 6 → Hands (spelling source (control_pdu true sequence) []) P
hands_acknowledgement P source sequence six =
    record {
      each = λ p e ack. absurd (
          let k : control_pdu true sequence ≡ p = same_pdu (pdu_in (spelling source (control_pdu true sequence) [])) (control_pdu true sequence) p (pdu_in-spelling source (control_pdu true sequence) [] six (can_write true sequence [] (omega arith))) e in
          false≢true (sym ack ∙ ap (λ (z : Pdu). z.acknowledgement) (sym k)));
    }

not_ecp : (n ports : ℕ) → pdu_in (announcement_frame n ports) ≡ Err NotEcp
unfolding announcement is_control_frame
not_ecp n ports = refl

pub hands_announcement : (P : ℕ → Body → Type 0) (n ports : ℕ) → Hands (announcement_frame n ports) P
hands_announcement P n ports = record { each = λ p e ack. absurd (no_pdu (pdu_in (announcement_frame n ports)) NotEcp p (not_ecp n ports) e) }

-- ---- bare control frames
pub bare_spelled : (a b c d e f : ℕ) (ack : Bool) (sequence : ℕ) (payload : List ℕ) → is_bare_control (spelling (record { 0 = a ∷ b ∷ c ∷ d ∷ e ∷ f ∷ [] }) (control_pdu ack sequence) payload) ≡ true
unfolding is_bare_control is_control_frame
bare_spelled a b c d e f ack sequence payload = by_rest (Rattle.exb_ecp.specs.Frames.carried (control_pdu ack sequence) payload)
  where
    by_rest : (rest : List ℕ) → (nat_le 14 (suc (suc (suc (suc (suc (suc (suc (suc (suc (suc (suc (suc (suc (suc (suc (suc (suc (suc (length rest))))))))))))))))))) && true) ≡ true
    by_rest rest = and_from (nat_le 14 (suc (suc (suc (suc (suc (suc (suc (suc (suc (suc (suc (suc (suc (suc (suc (suc (suc (suc (length rest)))))))))))))))))))) true (le-leb _ _ (omega arith)) refl

pub bare_announcement : (n ports : ℕ) → is_bare_control (announcement_frame n ports) ≡ true
unfolding is_bare_control is_control_frame announcement
bare_announcement n ports = refl

from_not : (b : Bool) → not b ≡ true → b ≡ false
from_not true e = absurd (false≢true e)
from_not false e = refl

unread_untyped : (f : List ℕ) → has_etag_type f ≡ false → read_etag f ≡ None
unread_untyped f e =
    elim (cases_Bool (nat_le 20 (length f))) [
      | inl l ↦ rw (l, e) refl
      | inr l ↦ rw l refl
    ]

pub record IsBare (f : List ℕ) : Type 0 where
  pub long : 14 ≤ length f
  pub untyped : has_etag_type f ≡ false
  pub control : is_control_frame f ≡ true
  pub unread : read_etag f ≡ None

pub bare_is : (f : List ℕ) → is_bare_control f ≡ true → IsBare f
unfolding is_bare_control
bare_is f h =
    let one = and_parts (nat_le 14 (length f)) (not (has_etag_type f) && is_control_frame f) h in
    let two = and_parts (not (has_etag_type f)) (is_control_frame f) one.1 in
    let untyped : has_etag_type f ≡ false = from_not (has_etag_type f) two.0 in
    record { long = leb-true 14 (length f) one.0; untyped = untyped; control = two.1; unread = unread_untyped f untyped }

-- ---- E-TAGs
pub read_typed : (f : List ℕ) (tag : Tag) → read_etag f ≡ Some tag → has_etag_type f ≡ true
read_typed f tag e =
    elim (cases_Bool (has_etag f)) [
      | inl has ↦ (and_parts (number_at f 12 == 0x893F) (number_at f 18 == 0) (and_parts (nat_le 20 (length f)) (number_at f 12 == 0x893F && number_at f 18 == 0) has).1).0
      | inr out ↦ absurd (let k = rw out at e in none_some k)
    ]
  where
    none_some : None ≡ Some tag → ⊥
    none_some k = cc

pub typed_not_bare : (f : List ℕ) → has_etag_type f ≡ true → is_bare_control f ≡ false
unfolding is_bare_control
typed_not_bare f h = elim (cases_Bool (nat_le 14 (length f))) [ inl l ↦ rw (l, h) refl | inr l ↦ rw l refl ]

pub tag_fits : (channel : ℕ) → channel < 4095 → TagFits (channel_tag channel)
tag_fits channel small = record { pcp = omega arith; ingress = omega arith; ecid = omega arith }

-- ---- destinations
same_bytes : (xs ys : List ℕ) → pointwise nat_eq xs ys ≡ true → xs ≡ ys
same_bytes [] [] e = refl
same_bytes [] (y ∷ ys) e = absurd (false≢true e)
same_bytes (x ∷ xs) [] e = absurd (false≢true e)
same_bytes (x ∷ xs) (y ∷ ys) e =
    let p = and_parts (nat_eq x y) (pointwise nat_eq xs ys) e in
    ap (λ (z : ℕ). z ∷ xs) (eqb-true x y p.0) ∙ ap (λ (zs : List ℕ). y ∷ zs) (same_bytes xs ys p.1)

-- a control frame begins with the address
address_first : (f : List ℕ) → is_control_frame f ≡ true → control_address ≡ take 6 f
unfolding is_control_frame
address_first f e = same_bytes control_address (take 6 f) e

-- frames that begin with the same six bytes are control frames together
same_front : (f g : List ℕ) → take 6 f ≡ take 6 g → is_control_frame f ≡ is_control_frame g
unfolding is_control_frame
same_front f g same = ap (pointwise nat_eq control_address) same

begins_as : (f rest : List ℕ) → 12 ≤ length f → take 6 (take 12 f ++ rest) ≡ take 6 f
begins_as [] rest long = absurd (omega (arith, long))
begins_as (a ∷ []) rest long = absurd (omega (arith, long))
begins_as (a ∷ b ∷ []) rest long = absurd (omega (arith, long))
begins_as (a ∷ b ∷ c ∷ []) rest long = absurd (omega (arith, long))
begins_as (a ∷ b ∷ c ∷ d ∷ []) rest long = absurd (omega (arith, long))
begins_as (a ∷ b ∷ c ∷ d ∷ e ∷ []) rest long = absurd (omega (arith, long))
begins_as (a ∷ b ∷ c ∷ d ∷ e ∷ g ∷ more) rest long = refl

begins_with : (f middle rest : List ℕ) → 12 ≤ length f → take 6 (take 12 f ++ middle ++ rest) ≡ take 6 f
begins_with [] middle rest long = absurd (omega (arith, long))
begins_with (a ∷ []) middle rest long = absurd (omega (arith, long))
begins_with (a ∷ b ∷ []) middle rest long = absurd (omega (arith, long))
begins_with (a ∷ b ∷ c ∷ []) middle rest long = absurd (omega (arith, long))
begins_with (a ∷ b ∷ c ∷ d ∷ []) middle rest long = absurd (omega (arith, long))
begins_with (a ∷ b ∷ c ∷ d ∷ e ∷ []) middle rest long = absurd (omega (arith, long))
begins_with (a ∷ b ∷ c ∷ d ∷ e ∷ g ∷ more) middle rest long = refl

begins_before : (f x y z : List ℕ) → 12 ≤ length f → take 6 (take 12 f ++ x ++ y ++ z) ≡ take 6 f
begins_before [] x y z long = absurd (omega (arith, long))
begins_before (a ∷ []) x y z long = absurd (omega (arith, long))
begins_before (a ∷ b ∷ []) x y z long = absurd (omega (arith, long))
begins_before (a ∷ b ∷ c ∷ []) x y z long = absurd (omega (arith, long))
begins_before (a ∷ b ∷ c ∷ d ∷ []) x y z long = absurd (omega (arith, long))
begins_before (a ∷ b ∷ c ∷ d ∷ e ∷ []) x y z long = absurd (omega (arith, long))
begins_before (a ∷ b ∷ c ∷ d ∷ e ∷ g ∷ more) x y z long = refl

pub tagged_to_control : (f : List ℕ) (tag : Tag) → 12 ≤ length f → is_control_frame (tagged f tag) ≡ is_control_frame f
tagged_to_control f tag long = same_front (tagged f tag) f (begins_with f (etag_bytes tag) (drop 12 f) long)

pub stripped_to_control : (f : List ℕ) → is_control_frame (stripped f) ≡ is_control_frame f
stripped_to_control f =
    elim (cases_lt (length f) 12) [
      | inr l ↦ same_front (stripped f) f (begins_as f (drop 20 f) l)
      | inl l ↦ let front : take 12 f ≡ f = take_all 12 f (omega arith) in let rest : drop 20 f ≡ [] = drop_all 20 f (omega arith) in
          rw (front, rest, append-nil {A = ℕ}) refl
    ]

long_with : (f middle : List ℕ) → 12 ≤ length f → 12 ≤ length (take 12 f ++ middle)
long_with f middle long = omega (arith, length-take 12 f, length-append (take 12 f) middle)

-- what goes out of a frame has its destination, and is as long
pub egress_to_control : (f : List ℕ) (kind : Kind) (v : ℕ) → 12 ≤ length f → is_control_frame (egress f kind v) ≡ is_control_frame f
unfolding egress
egress_to_control f Untagged v long = same_front (take 12 f ++ body_after f (kind_of f)) f (begins_as f (body_after f (kind_of f)) long)
egress_to_control f Tagged v long =
    same_front (take 12 f ++ two_bytes 0x8100 ++ two_bytes (priority_of (kind_of f) * 4096 + v) ++ body_after f (kind_of f)) f
    (begins_before f (two_bytes 0x8100) (two_bytes (priority_of (kind_of f) * 4096 + v)) (body_after f (kind_of f)) long)

pub egress_long : (f : List ℕ) (kind : Kind) (v : ℕ) → 12 ≤ length f → 12 ≤ length (egress f kind v)
unfolding egress
egress_long f Untagged v long = long_with f (body_after f (kind_of f)) long
egress_long f Tagged v long =
    let x : List ℕ = two_bytes 0x8100 in
    let y : List ℕ = two_bytes (priority_of (kind_of f) * 4096 + v) in
    let z : List ℕ = body_after f (kind_of f) in
    omega (arith, length-take 12 f, length-append (take 12 f) x, length-append (take 12 f ++ x) y, length-append (take 12 f ++ x ++ y) z)

-- ---- kinds
reserved_is : (f : List ℕ) → IsBytes f → is_control_frame f ≡ true → is_reserved f ≡ true
reserved_is f bytes h =
    let byte : (i : ℕ) → i < 6 → get_or f i 0 ≡ get_or control_address i 0 = λ i l. sym (get_or-take 6 f i 0 l) ∙ ap (λ (x : List ℕ). get_or x i 0) (sym (address_first f h)) in
    rw (byte 0 (omega arith), byte 1 (omega arith), byte 2 (omega arith), byte 3 (omega arith), byte 4 (omega arith), byte 5 (omega arith)) refl

kind_cases : (f : List ℕ) → is_reserved f ≡ true → (kind_of f ≡ seen.Short) ⊎ ((kind_of f ≡ seen.Long) ⊎ (kind_of f ≡ seen.Reserved))
unfolding kind_of
kind_cases f h =
    elim (cases_Bool (nat_lt (length f) 14)) [
      | inl l ↦ inl (rw l refl)
      | inr l ↦ elim (cases_Bool (nat_lt 9216 (length f))) [
        | inl g ↦ inr (inl (rw (l, g) refl))
        | inr g ↦ inr (inr (rw (l, g, h) refl))
      ]
    ]

-- no port lets in a frame that has the destination of control frames
pub control_refused : (f : List ℕ) → IsBytes f → is_control_frame f ≡ true → (is_refused_kind (kind_of f) ≡ true) × (is_relayed_kind (kind_of f) ≡ false)
control_refused f bytes h =
    elim (kind_cases f (reserved_is f bytes h)) [
      | inl e ↦ rw e (refl, refl)
      | inr k ↦ elim k [ inl e ↦ rw e (refl, refl) | inr e ↦ rw e (refl, refl) ]
    ]

-- a frame that is let in has 14 bytes
pub relayed_long : (f : List ℕ) → is_relayed_kind (kind_of f) ≡ true → 14 ≤ length f
unfolding kind_of
relayed_long f h =
    elim (cases_lt (length f) 14) [
      | inl l ↦ absurd (let k = rw (lt-ltb (length f) 14 l) at h in false≢true k)
      | inr l ↦ l
    ]
