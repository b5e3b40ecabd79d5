-- Frames that are made of bytes are bytes, and how long they are.
use Rattle.std.proofs.Common.{◌≡◌, ℕ, not, ◌&&◌, ◌||◌, ◌%◌, Some, None, zero, suc, ◌+◌, ◌*◌, ◌<◌, ◌≤◌, ◌==◌, ◌++◌, nat_lt, Bool, true, false, cond, List, [], ◌∷◌, length, take, drop, Ok, Err, refl, ap, sym, ◌∙◌, subst, arith, inl, inr, length-append, length-take, length-drop}
use Rattle.std.specs.Prelude.{is_some, Result}
use Rattle.std.specs.List.{flat_map}
use Rattle.std.specs.Int.{w16, w64, to_be_bytes}
use Rattle.std.proofs.lemmas.Bool.{false≢true, cases_Bool, cases_eq, eq-eqb, ne_eqb, cases_lt, lt-ltb, le-ltb}
use Rattle.exb_model.specs.declared.frame_kind.Seen.{Seen}
use Rattle.exb_model.specs.declared.frame_kind.Seen.TheVariants as seen
use Rattle.exb_model.specs.declared.vlan.Kind.{Kind}
use Rattle.exb_model.specs.declared.vlan.Kind.TheVariants.{Tagged, Untagged}
use Rattle.exb_model.specs.Configuration.{Bridge, is_known}
use Rattle.exb_model.specs.Learning.{admitted, passes_as, passes}
use Rattle.exb_config.specs.Pvids.{HasPvids}
use Rattle.exb_model.specs.Frames.{is_reserved, kind_of_tag, number_at, two_bytes, kind_of, body_after, priority_of, egress, IsBytes}
use Rattle.exb_model.specs.ETags.{Tag, TagFits, tag_word, etag_bytes, tagged, stripped}
use Rattle.exb_model.specs.EagerHistory.{is_relayed_kind}
use Rattle.exb_lldp.specs.Encoding.{spelling as announcement}
use Rattle.exb_lldp.specs.declared.announce.Announce.{Announce}
use Rattle.exb_lldp.proofs.RoundTrip.{spelling_is}
use Rattle.exb_ecp.specs.declared.pdu.Pdu.{Pdu}
use Rattle.exb_ecp.specs.declared.pdu.EcpFault.{EcpFault}
use Rattle.exb_ecp.specs.declared.pdu.EcpFault.TheVariants.{NotEcp, Cut, Version, Operation}
use Rattle.exb_ecp.specs.Frames.{is_ecp, version, operation, header_in, pdu_in, spelling}
use Rattle.exb_csp.specs.declared.group_rows.GroupRow.{GroupRow}
use Rattle.exb_csp.specs.declared.message.Body.{Body}
use Rattle.exb_csp.specs.declared.message.Body.TheVariants as body
use Rattle.exb_csp.specs.declared.message.Message.{Message}
use Rattle.exb_csp.specs.declared.message.Request.{Request}
use Rattle.exb_csp.specs.declared.message.Request.TheVariants as request
use Rattle.exb_csp.specs.declared.message.RequestKind.{RequestKind}
use Rattle.exb_csp.specs.declared.message.RequestKind.TheVariants as kind
use Rattle.exb_csp.specs.RequestKinds.{kind_of as kind_asked, type_of, number_of}
use Rattle.exb_csp.specs.Encoding.{row_bytes, ecid_bytes, request_bytes, answer_bytes, form_in, body_bytes, message_bytes, IsPortCount, IsSpelledBody, FitsRequest, FitsBody}
use Rattle.exb_extender.specs.Forwarding.{is_refused_kind}
use Rattle.exb_extender.specs.Machine.{control_pdu}
use Rattle.exb_world_spec.specs.Runs.Sessions.{Each}
use Rattle.exb_world_spec.proofs.LinkFrames.{each_append}
use Rattle.exb_relay.specs.Sends.{pcp_of}

-- ---- lists of bytes
abbrev pub AreAll : List ℕ → Type 0
AreAll f = Each (λ (b : ℕ). b < 256) f

pub each_byte : (f : List ℕ) → IsBytes f → AreAll f
each_byte [] bytes = tt
each_byte (b ∷ f) bytes = (bytes 0, each_byte f (λ i. bytes (suc i)))

pub byte_each : (f : List ℕ) → AreAll f → IsBytes f
byte_each [] all i = omega arith
byte_each (b ∷ f) all zero = all.0
byte_each (b ∷ f) all (suc i) = byte_each f all.1 i

each_take : (n : ℕ) (f : List ℕ) → AreAll f → AreAll (take n f)
each_take zero f all = tt
each_take (suc n) [] all = tt
each_take (suc n) (b ∷ f) all = (all.0, each_take n f all.1)

each_drop : (n : ℕ) (f : List ℕ) → AreAll f → AreAll (drop n f)
each_drop zero f all = all
each_drop (suc n) [] all = tt
each_drop (suc n) (b ∷ f) all = each_drop n f all.1

both : (f g : List ℕ) → AreAll f → AreAll g → AreAll (f ++ g)
both f g a b = each_append (λ (b : ℕ). b < 256) f g a b

pub stripped_bytes : (f : List ℕ) → IsBytes f → IsBytes (stripped f)
stripped_bytes f bytes = let all = each_byte f bytes in byte_each (stripped f) (both (take 12 f) (drop 20 f) (each_take 12 f all) (each_drop 20 f all))

pub stripped_short : (f : List ℕ) → length (stripped f) ≤ length f
stripped_short f = let e = length-append (take 12 f) (drop 20 f) in let a = length-take 12 f in let b = length-drop 20 f in omega (arith, e, a, b)

two_all : (n : ℕ) → n < 65536 → AreAll (two_bytes n)
two_all n small = (omega arith, (omega arith, tt))

be_2 : (n : ℕ) → AreAll (to_be_bytes w16 n)
be_2 n = (omega arith, (omega arith, tt))

be_8 : (n : ℕ) → AreAll (to_be_bytes w64 n)
be_8 n = (omega arith, (omega arith, (omega arith, (omega arith, (omega arith, (omega arith, (omega arith, (omega arith, (tt)))))))))

-- ---- E-TAGs
word_small : (tag : Tag) → TagFits tag → tag_word tag < 65536
word_small tag fits = by_flag tag.dei
  where
    by_flag : (b : Bool) → tag.pcp * 8192 + cond b 4096 0 + tag.ingress < 65536
    by_flag true = let a = fits.pcp in let b = fits.ingress in omega (arith, a, b)
    by_flag false = let a = fits.pcp in let b = fits.ingress in omega (arith, a, b)

tag_all : (tag : Tag) → TagFits tag → AreAll (etag_bytes tag)
tag_all tag fits =
    let word : tag_word tag < 65536 = word_small tag fits in
    let number : tag.ecid < 65536 = (let a = fits.ecid in omega (arith, a)) in
    let w = two_all (tag_word tag) word in
    let n = two_all tag.ecid number in
    (omega arith, (omega arith, (w.0, (w.1.0, (n.0, (n.1.0, (omega arith, (omega arith, (tt)))))))))

pub tagged_bytes : (f : List ℕ) (tag : Tag) → IsBytes f → TagFits tag → IsBytes (tagged f tag)
tagged_bytes f tag bytes fits =
    let all = each_byte f bytes in
    byte_each (tagged f tag) (both (take 12 f ++ etag_bytes tag) (drop 12 f) (both (take 12 f) (etag_bytes tag) (each_take 12 f all) (tag_all tag fits)) (each_drop 12 f all))

pub tagged_short : (f : List ℕ) (tag : Tag) → length (tagged f tag) ≤ length f + 8
tagged_short f tag =
    let e = length-append (take 12 f ++ etag_bytes tag) (drop 12 f) in
    let g = length-append (take 12 f) (etag_bytes tag) in
    let a = length-take 12 f in
    let b = length-drop 12 f in
    omega (arith, e, g, a, b)

-- ---- frames that leave
body_all : (f : List ℕ) (s : Seen) → AreAll f → AreAll (body_after f s)
body_all f (seen.Priority pcp dei) all = each_drop 16 f all
body_all f (seen.Tagged pcp dei vid) all = each_drop 16 f all
body_all f seen.Short all = each_drop 12 f all
body_all f seen.Long all = each_drop 12 f all
body_all f seen.Reserved all = each_drop 12 f all
body_all f seen.BadTag all = each_drop 12 f all
body_all f seen.Plain all = each_drop 12 f all

body_short : (f : List ℕ) (s : Seen) → length (body_after f s) ≤ length (drop 12 f)
body_short f (seen.Priority pcp dei) = let a = length-drop 16 f in let b = length-drop 12 f in omega (arith, a, b)
body_short f (seen.Tagged pcp dei vid) = let a = length-drop 16 f in let b = length-drop 12 f in omega (arith, a, b)
body_short f seen.Short = omega arith
body_short f seen.Long = omega arith
body_short f seen.Reserved = omega arith
body_short f seen.BadTag = omega arith
body_short f seen.Plain = omega arith

with_flag : (b : Bool) (n : ℕ) → n < 8 → 2 * n + cond b 1 0 < 16
with_flag true n small = omega arith
with_flag false n small = omega arith

priority_small : (s : Seen) → pcp_of s < 8 → priority_of s < 16
priority_small (seen.Priority pcp dei) small = with_flag dei pcp small
priority_small (seen.Tagged pcp dei vid) small = with_flag dei pcp small
priority_small seen.Short small = omega arith
priority_small seen.Long small = omega arith
priority_small seen.Reserved small = omega arith
priority_small seen.BadTag small = omega arith
priority_small seen.Plain small = omega arith

pub egress_bytes : (f : List ℕ) (kind : Kind) (v : ℕ) → IsBytes f → pcp_of (kind_of f) < 8 → v ≤ 4094 → IsBytes (egress f kind v)
unfolding egress
egress_bytes f Untagged v bytes pcp small = let all = each_byte f bytes in byte_each (take 12 f ++ body_after f (kind_of f)) (both (take 12 f) (body_after f (kind_of f)) (each_take 12 f all) (body_all f (kind_of f) all))
egress_bytes f Tagged v bytes pcp small =
    let all = each_byte f bytes in
    let prio : priority_of (kind_of f) < 16 = priority_small (kind_of f) pcp in
    let x : List ℕ = two_bytes 0x8100 in
    let y : List ℕ = two_bytes (priority_of (kind_of f) * 4096 + v) in
    let low : priority_of (kind_of f) * 4096 + v < 65536 = omega (arith, prio) in
    byte_each (take 12 f ++ x ++ y ++ body_after f (kind_of f)) (
    both (take 12 f ++ x ++ y) (body_after f (kind_of f)) (both (take 12 f ++ x) y (both (take 12 f) x (each_take 12 f all) (two_all 0x8100 (omega arith))) (two_all (priority_of (kind_of f) * 4096 + v) low))
    (body_all f (kind_of f) all))

pub egress_short : (f : List ℕ) (kind : Kind) (v : ℕ) → length (egress f kind v) ≤ length f + 4
unfolding egress
egress_short f Untagged v =
    let e = length-append (take 12 f) (body_after f (kind_of f)) in
    let a = length-take 12 f in
    let b = length-drop 12 f in
    let c = body_short f (kind_of f) in
    omega (arith, e, a, b, c)
egress_short f Tagged v =
    let x : List ℕ = two_bytes 0x8100 in
    let y : List ℕ = two_bytes (priority_of (kind_of f) * 4096 + v) in
    let e = length-append (take 12 f ++ x ++ y) (body_after f (kind_of f)) in
    let g = length-append (take 12 f ++ x) y in
    let h = length-append (take 12 f) x in
    let a = length-take 12 f in
    let b = length-drop 12 f in
    let c = body_short f (kind_of f) in
    omega (arith, e, g, h, a, b, c)

-- ---- frames that are let in
long_kind : (f : List ℕ) → 9216 < length f → kind_of f ≡ seen.Long
unfolding kind_of
long_kind f long = let a : nat_lt (length f) 14 ≡ false = le-ltb (length f) 14 (omega arith) in let b : nat_lt 9216 (length f) ≡ true = lt-ltb 9216 (length f) long in rw (a, b) refl

pub relayed_short : (f : List ℕ) → is_relayed_kind (kind_of f) ≡ true → length f ≤ 9216
relayed_short f k =
    elim (cases_lt 9216 (length f)) [
      | inr low ↦ low
      | inl long ↦ absurd (false≢true (ap is_relayed_kind (sym (long_kind f long)) ∙ k))
    ]

short_kind : (f : List ℕ) → length f < 14 → kind_of f ≡ seen.Short
unfolding kind_of
short_kind f short = rw (lt-ltb (length f) 14 short) refl

pub let_in : (f : List ℕ) → is_refused_kind (kind_of f) ≡ false → (14 ≤ length f) × (length f ≤ 9216)
let_in f k = (
  elim (cases_lt (length f) 14) [ inr low ↦ low | inl short ↦ absurd (false≢true (sym k ∙ ap is_refused_kind (short_kind f short))) ],
  elim (cases_lt 9216 (length f)) [ inr low ↦ low | inl long ↦ absurd (false≢true (sym k ∙ ap is_refused_kind (long_kind f long))) ],
)

-- ---- the VLAN in which a frame passes
abbrev IsVidSmall : Seen → Type 0
IsVidSmall (seen.Tagged pcp dei v) = v ≤ 4094
IsVidSmall _ = Unit {0}

tag_small : (tci : ℕ) → IsVidSmall (kind_of_tag tci)
tag_small tci =
    elim (cases_eq (tci % 4096) 4095) [
      | inl e ↦ rw (eq-eqb (tci % 4096) 4095 e) tt
      | inr n ↦ elim (cases_eq (tci % 4096) 0) [
        | inl e ↦ rw (ne_eqb (tci % 4096) 4095 n, eq-eqb (tci % 4096) 0 e) tt
        | inr o ↦ rw (ne_eqb (tci % 4096) 4095 n, ne_eqb (tci % 4096) 0 o) (omega (arith, n))
      ]
    ]

vid_small : (f : List ℕ) → IsVidSmall (kind_of f)
unfolding kind_of
vid_small f = by_tests (nat_lt (length f) 14) (nat_lt 9216 (length f)) (is_reserved f) (number_at f 12 == 0x8100) (nat_lt (length f) 18)
  where
    by_tests : (a b c d e : Bool) → IsVidSmall (cond a seen.Short (cond b seen.Long (cond c seen.Reserved (cond d (cond e seen.BadTag (kind_of_tag (number_at f 14))) seen.Plain))))
    by_tests true b c d e = tt
    by_tests false true c d e = tt
    by_tests false false true d e = tt
    by_tests false false false false e = tt
    by_tests false false false true true = tt
    by_tests false false false true false = tag_small (number_at f 14)

admitted_small : (b : Bridge) (p : ℕ) (accepted : Bool) (w v : ℕ) → admitted b p accepted w ≡ Some v → w ≤ 4094 → v ≤ 4094
admitted_small b p accepted w v e small = by_test (accepted && is_known b w && (not (b.rule p).filter || is_some (b.member w p))) e
  where
    by_test : (c : Bool) → cond c (Some w) None ≡ Some v → v ≤ 4094
    by_test true z = (let same = some_same z in omega (arith, same, small))
      where
        some_same : Some w ≡ Some v → w ≡ v
        some_same q = cc
    by_test false z = absurd (none_some z)
      where
        none_some : None ≡ Some v → ⊥
        none_some q = cc

passes_as_small : (b : Bridge) (p : ℕ) (s : Seen) (v : ℕ) → HasPvids b → IsVidSmall s → passes_as b p s ≡ Some v → v ≤ 4094
passes_as_small b p seen.Plain v pvids has e = admitted_small b p _ (b.rule p).pvid v e (pvids p).1
passes_as_small b p (seen.Priority pcp dei) v pvids has e = admitted_small b p _ (b.rule p).pvid v e (pvids p).1
passes_as_small b p (seen.Tagged pcp dei w) v pvids has e = admitted_small b p _ w v e has
passes_as_small b p seen.Short v pvids has e = absurd (let z : None ≡ Some v = e in cc)
passes_as_small b p seen.Long v pvids has e = absurd (let z : None ≡ Some v = e in cc)
passes_as_small b p seen.Reserved v pvids has e = absurd (let z : None ≡ Some v = e in cc)
passes_as_small b p seen.BadTag v pvids has e = absurd (let z : None ≡ Some v = e in cc)

pub passes_small : (b : Bridge) (p : ℕ) (f : List ℕ) (v : ℕ) → HasPvids b → passes b p f ≡ Some v → v ≤ 4094
passes_small b p f v pvids e = passes_as_small b p (kind_of f) v pvids (vid_small f) e

-- ---- control frames
pub spelled_bytes : (a b c d e g : ℕ) → AreAll (a ∷ b ∷ c ∷ d ∷ e ∷ g ∷ []) → (ack : Bool) (sequence : ℕ) (payload : List ℕ) → sequence < 65536 → IsBytes payload →
    IsBytes (spelling (record { 0 = a ∷ b ∷ c ∷ d ∷ e ∷ g ∷ [] }) (control_pdu ack sequence) payload)
spelled_bytes a b c d e g source true sequence payload small bytes =
    byte_each (spelling (record { 0 = a ∷ b ∷ c ∷ d ∷ e ∷ g ∷ [] }) (control_pdu true sequence) payload)
    (omega arith, (omega arith, (omega arith, (omega arith, (omega arith, (omega arith, (source.0, (source.1.0, (source.1.1.0, (source.1.1.1.0, (source.1.1.1.1.0, (source.1.1.1.1.1.0, (omega arith, (omega arith, (omega arith, (omega arith, (omega arith, (omega arith, (tt)))))))))))))))))))
spelled_bytes a b c d e g source false sequence payload small bytes =
    byte_each (spelling (record { 0 = a ∷ b ∷ c ∷ d ∷ e ∷ g ∷ [] }) (control_pdu false sequence) payload)
    (omega arith, (omega arith, (omega arith, (omega arith, (omega arith, (omega arith, (source.0, (source.1.0, (source.1.1.0, (source.1.1.1.0, (source.1.1.1.1.0, (source.1.1.1.1.1.0, (omega arith, (omega arith, (omega arith, (omega arith, (omega arith, (omega arith, (each_byte payload bytes)))))))))))))))))))

pub announcement_bytes : (a b c d e g ports : ℕ) → AreAll (a ∷ b ∷ c ∷ d ∷ e ∷ g ∷ []) → ports < 256 → IsBytes (announcement (record { chassis = record { 0 = a ∷ b ∷ c ∷ d ∷ e ∷ g ∷ [] }; ports = ports }))
announcement_bytes a b c d e g ports s few =
    let x : Announce = record { chassis = record { 0 = a ∷ b ∷ c ∷ d ∷ e ∷ g ∷ [] }; ports = ports } in
    let written : AreAll (announcement x) = subst AreAll (sym (spelling_is x refl)) (omega arith, (omega arith, (omega arith, (omega arith, (omega arith, (omega arith, (s.0, (s.1.0, (s.1.1.0, (s.1.1.1.0, (s.1.1.1.1.0, (s.1.1.1.1.1.0, (omega arith, (omega arith, (omega arith, (omega arith, (omega arith, (s.0, (s.1.0, (s.1.1.0, (s.1.1.1.0, (s.1.1.1.1.0, (s.1.1.1.1.1.0, (omega arith, (omega arith, (omega arith, (omega arith, (omega arith, (omega arith, (omega arith, (omega arith, (omega arith, (omega arith, (omega arith, (omega arith, (omega arith, (omega arith, (omega arith, (few, (omega arith, (omega arith, (tt)))))))))))))))))))))))))))))))))))))))))) in
    byte_each (announcement x) written

-- the sequence of a header has two bytes
pub header_small : (f : List ℕ) → IsBytes f → (p : Pdu) → pdu_in f ≡ Ok p → p.sequence < 65536
header_small f bytes p is =
    elim (cases_Bool (is_ecp f)) [
      | inr out ↦ absurd (no_header NotEcp (rw out at is))
      | inl ecp ↦ elim (cases_Bool (nat_lt (length f) 18)) [
        | inl short ↦ absurd (no_header Cut (rw (ecp, short) at is))
        | inr long ↦ elim (cases_Bool (version f == 1)) [
          | inr other ↦ absurd (no_header Version (rw (ecp, long, other) at is))
          | inl first ↦ elim (cases_Bool (nat_lt 1 (operation f))) [
            | inl unknown ↦ absurd (no_header Operation (rw (ecp, long, first, unknown) at is))
            | inr known ↦ subst (λ (q : Pdu). q.sequence < 65536) (same_header (rw (ecp, long, first, known) at is)) (two_fit (bytes 16) (bytes 17))
          ]
        ]
      ]
    ]
  where
    no_header : (fault : EcpFault) → Err fault ≡ Ok p → ⊥
    no_header fault e = cc

    same_header : ◌≡◌ {A = Result Pdu EcpFault} (Ok (header_in f)) (Ok p) → header_in f ≡ p
    same_header e = cc

    two_fit : {a b : ℕ} → a < 256 → b < 256 → a * 256 + b < 65536
    two_fit low high = omega arith

-- ---- messages
rows_all : (rows : List GroupRow) → AreAll (flat_map row_bytes rows)
rows_all [] = tt
rows_all (row ∷ rows) = both (row_bytes row) (flat_map row_bytes rows) (both (to_be_bytes w16 row.ecid) (to_be_bytes w64 row.mask) (be_2 row.ecid) (be_8 row.mask)) (rows_all rows)

ecids_all : (ecids : List ℕ) → AreAll (flat_map ecid_bytes ecids)
ecids_all [] = tt
ecids_all (ecid ∷ ecids) = both (ecid_bytes ecid) (flat_map ecid_bytes ecids) (be_2 ecid) (ecids_all ecids)

request_all : (r : Request) → FitsRequest r → AreAll (request_bytes r)
unfolding request_bytes
request_all request.Open fits = tt
request_all (request.PortCreate port true channel) fits = (fits.0, (omega arith, be_2 channel))
request_all (request.PortCreate port false channel) fits = (fits.0, (omega arith, be_2 channel))
request_all (request.PortDelete port) fits = (fits, tt)
request_all (request.Register ecid mask) fits = both (to_be_bytes w16 ecid) (to_be_bytes w64 mask) (be_2 ecid) (be_8 mask)
request_all (request.Unregister ecid) fits = be_2 ecid
request_all (request.RegisterMany rows) fits = rows_all rows
request_all (request.UnregisterMany ecids) fits = ecids_all ecids

answer_all : (k : RequestKind) (code ports : ℕ) → code ≤ 3 → IsPortCount k ports → AreAll (answer_bytes k code ports)
answer_all kind.Open code ports few count = (omega (arith, few), ((let a = count.1 in omega (arith, a)), tt))
answer_all kind.PortCreate code ports few count = (omega (arith, few), tt)
answer_all kind.PortDelete code ports few count = (omega (arith, few), tt)
answer_all kind.Register code ports few count = (omega (arith, few), tt)
answer_all kind.Unregister code ports few count = (omega (arith, few), tt)
answer_all kind.RegisterMany code ports few count = (omega (arith, few), tt)
answer_all kind.UnregisterMany code ports few count = (omega (arith, few), tt)

body_written : (b : Body) → IsSpelledBody b → FitsBody b → AreAll (body_bytes b)
body_written (body.Ask asked) spelled fits = request_all asked fits
body_written (body.Answer answer) spelled fits = answer_all answer.to answer.code answer.ports spelled.0 spelled.1

number_few : (k : RequestKind) → number_of k < 8
number_few kind.Open = omega arith
number_few kind.PortCreate = omega arith
number_few kind.PortDelete = omega arith
number_few kind.Register = omega arith
number_few kind.Unregister = omega arith
number_few kind.RegisterMany = omega arith
number_few kind.UnregisterMany = omega arith

type_small : (b : Body) → type_of (form_in b) < 256
type_small (body.Ask asked) = let a = number_few (kind_asked asked) in omega (arith, a)
type_small (body.Answer answer) = let a = number_few answer.to in omega (arith, a)

pub message_written : (m : Message) → IsSpelledBody m.body → FitsBody m.body → IsBytes (message_bytes m)
unfolding message_bytes
message_written m spelled fits =
    byte_each (message_bytes m) (
      type_small m.body,
      both (to_be_bytes w64 m.serial) (to_be_bytes w16 (length (body_bytes m.body)) ++ body_bytes m.body) (be_8 m.serial)
          (both (to_be_bytes w16 (length (body_bytes m.body))) (body_bytes m.body) (be_2 (length (body_bytes m.body))) (body_written m.body spelled fits)),
    )
