-- What control frames read as, and whose they are on a link.
use Rattle.std.proofs.Common.{◌≡◌, ◌≢◌, inl, inr, ℕ, zero, suc, ◌≤◌, ◌<◌, ◌&&◌, Bool, true, false, cond, List, [], ◌∷◌, length, Option, Some, Ok, refl, ap, sym, ◌∙◌, subst, arith}
use Rattle.std.specs.Prelude.{Result, nat_le}
use Rattle.std.proofs.lemmas.Bool.{cases_lt, and_from, eq-eqb, ne_eqb}
use Rattle.exb_model.specs.declared.address.Mac.{Mac}
use Rattle.exb_model.specs.Tree.{Shape, IsTree, HangsOn, device, on, is_extender, top, trunk}
use Rattle.exb_model.specs.ETags.{Tag, read_etag, tagged, stripped}
use Rattle.exb_model.proofs.TreeLoops.{trunk_is}
use Rattle.exb_model.proofs.TreeWays.{top_high, top_low, top_none}
use Rattle.exb_frame.specs.TagValues.{TagRoundTrip}
use Rattle.exb_lldp.specs.Announcements.{is_lldp}
use Rattle.exb_lldp.specs.declared.announce.Announce.{Announce}
use Rattle.exb_lldp.specs.declared.announce.LldpFault.{LldpFault}
use Rattle.exb_lldp.proofs.TlvSteps.{announced_not}
use Rattle.exb_ecp.specs.declared.pdu.Pdu.{Pdu}
use Rattle.exb_ecp.specs.declared.pdu.EcpFault.{EcpFault}
use Rattle.exb_ecp.specs.Frames.{spelling, CanBeWritten}
use Rattle.exb_ecp.proofs.RoundTrip.{pdu_in-spelling, drop-spelling}
use Rattle.exb_csp.specs.Decoding.{read_message}
use Rattle.exb_extender.specs.Forwarding.{has_etag_type, is_bare_control, channel_tag}
use Rattle.exb_extender.specs.Machine.{control_pdu}
use Rattle.exb_link.specs.declared.link_frame.LinkFrame.{LinkFrame}
use Rattle.exb_link.specs.LinkFrames.{is_control}
use Rattle.exb_model.specs.Frames.{is_control_frame}
use Rattle.exb_control_spec.specs.Plans.HeldNumbers.{Held}
use Rattle.exb_world_spec.specs.DataFrames.{hung_at}
use Rattle.exb_world_spec.proofs.Frames.{bare_is, read_typed, tag_fits}
use Rattle.exb_world_spec.proofs.Trunks.{hangs_there, above_there, hung_found, extender_there}
use Rattle.exb_settling_laws.specs.StopAndWait.{Ack}
use Rattle.exb_settling_laws.specs.Streams.{message_note, pdu_note, frame_note, note_of, holder_in, addressee, plain, is_the, is_of}
use Rattle.exb_settling_laws.specs.SettlingFacts.{IsAbove}

-- ---- what is spelled
abbrev pub mac : ℕ → ℕ → ℕ → ℕ → ℕ → ℕ → Mac
mac a b c d e f = record { 0 = a ∷ b ∷ c ∷ d ∷ e ∷ f ∷ [] }

and_false : (b : Bool) → (b && false) ≡ false
and_false true = refl
and_false false = refl

pub not_lldp : (a b c d e f : ℕ) (ack : Bool) (sequence : ℕ) (payload : List ℕ) → is_lldp (spelling (mac a b c d e f) (control_pdu ack sequence) payload) ≡ false
unfolding is_control_frame
not_lldp a b c d e f ack sequence payload = and_false (nat_le 14 (length (spelling (mac a b c d e f) (control_pdu ack sequence) payload)))

can_write : (ack : Bool) (sequence : ℕ) (payload : List ℕ) → length payload ≤ 1024 → CanBeWritten (control_pdu ack sequence) payload
can_write ack sequence payload short = record { subtype = omega arith; place = refl; length = short }

note_pdu : (a b c d e f : ℕ) (ack : Bool) (sequence : ℕ) (payload : List ℕ) → length payload ≤ 1024 →
    note_of (spelling (mac a b c d e f) (control_pdu ack sequence) payload) ≡ pdu_note (Ok (control_pdu ack sequence)) (spelling (mac a b c d e f) (control_pdu ack sequence) payload)
unfolding note_of
note_pdu a b c d e f ack sequence payload short =
    let g : List ℕ = spelling (mac a b c d e f) (control_pdu ack sequence) payload in
    ap (λ (r : Result Announce LldpFault). frame_note r (spelling (mac a b c d e f) (control_pdu ack sequence) payload)) (announced_not (spelling (mac a b c d e f) (control_pdu ack sequence) payload) (not_lldp a b c d e f ack sequence payload))
    ∙ ap (λ (r : Result Pdu EcpFault). pdu_note r (spelling (mac a b c d e f) (control_pdu ack sequence) payload)) (pdu_in-spelling (mac a b c d e f) (control_pdu ack sequence) payload refl (can_write ack sequence payload short))

-- an acknowledgement, and what asks or answers
pub note_acknowledgement : (a b c d e f sequence : ℕ) → note_of (spelling (mac a b c d e f) (control_pdu true sequence) []) ≡ Some (Ack sequence)
note_acknowledgement a b c d e f sequence = note_pdu a b c d e f true sequence [] (omega arith)

pub note_request : (a b c d e f sequence : ℕ) (payload : List ℕ) → length payload ≤ 1024 → note_of (spelling (mac a b c d e f) (control_pdu false sequence) payload) ≡ message_note sequence (read_message payload)
note_request a b c d e f sequence payload short =
    note_pdu a b c d e f false sequence payload short ∙ ap (λ (p : List ℕ). message_note sequence (read_message p)) (drop-spelling (mac a b c d e f) (control_pdu false sequence) payload refl)

pub control_spelled : (a b c d e f : ℕ) (ack : Bool) (sequence : ℕ) (payload : List ℕ) → is_control_frame (spelling (mac a b c d e f) (control_pdu ack sequence) payload) ≡ true
unfolding is_control_frame
control_spelled a b c d e f ack sequence payload = refl

pub control_tagged : (a b c d e f : ℕ) (ack : Bool) (sequence : ℕ) (payload : List ℕ) (tag : Tag) → is_control_frame (tagged (spelling (mac a b c d e f) (control_pdu ack sequence) payload) tag) ≡ true
unfolding is_control_frame
control_tagged a b c d e f ack sequence payload tag = refl

-- ---- whose a frame is
module _ (t : Shape) (tree : IsTree t) (h : Held) where
  pub bare_addressed : (m : ℕ) (f : List ℕ) → has_etag_type f ≡ false → addressee t h m f ≡ Some m
  unfolding addressee
  bare_addressed m f e = rw e refl

  pub bare_plain : (f : List ℕ) → has_etag_type f ≡ false → plain f ≡ f
  unfolding plain
  bare_plain f e = rw e refl

  pub tagged_read : TagRoundTrip → (c : List ℕ) (channel : ℕ) → is_bare_control c ≡ true → channel < 4095 → read_etag (tagged c (channel_tag channel)) ≡ Some (channel_tag channel)
  tagged_read round c channel bare small = (round c (channel_tag channel) (let k = (bare_is c bare).long in omega arith) (tag_fits channel small)).0

  pub tagged_plain : TagRoundTrip → (c : List ℕ) (channel : ℕ) → is_bare_control c ≡ true → channel < 4095 → plain (tagged c (channel_tag channel)) ≡ c
  unfolding plain
  tagged_plain round c channel bare small =
      let typed : has_etag_type (tagged c (channel_tag channel)) ≡ true = read_typed (tagged c (channel_tag channel)) (channel_tag channel) (tagged_read round c channel bare small) in
      ap (λ (b : Bool). cond b (stripped (tagged c (channel_tag channel))) (tagged c (channel_tag channel))) typed ∙ (round c (channel_tag channel) (let k = (bare_is c bare).long in omega arith) (tag_fits channel small)).1

  pub tagged_addressed : TagRoundTrip → (m n channel : ℕ) (c : List ℕ) → is_bare_control c ≡ true → channel < 4095 → is_extender t n ≡ true → h.port (trunk t m) channel ≡ Some (on t n) → addressee t h m (tagged c (channel_tag channel)) ≡ Some n
  unfolding addressee
  tagged_addressed round m n channel c bare small there holds =
      let read : read_etag (tagged c (channel_tag channel)) ≡ Some (channel_tag channel) = tagged_read round c channel bare small in
      let typed : has_etag_type (tagged c (channel_tag channel)) ≡ true = read_typed (tagged c (channel_tag channel)) (channel_tag channel) read in
      ap (λ (b : Bool). cond b (hung_at t (holder_in h (trunk t m) (read_etag (tagged c (channel_tag channel))))) (Some m)) typed
      ∙ ap (λ (o : Option Tag). hung_at t (holder_in h (trunk t m) o)) read ∙ ap (hung_at t) holds ∙ hung_found t tree n (on t n) (hangs_there t n there)

  pub is_mine : (j m : ℕ) (x : LinkFrame) → is_control x ≡ true → addressee t h m x.bytes ≡ Some j → is_of t h j m x ≡ true
  is_mine j m x c a = and_from (is_control x) (is_the j (addressee t h m x.bytes)) c (ap (is_the j) a ∙ eq-eqb j j refl)

  pub not_mine : (j n m : ℕ) (x : LinkFrame) → addressee t h m x.bytes ≡ Some n → n ≢ j → is_of t h j m x ≡ false
  not_mine j n m x a other = by_control (is_control x) (ap (is_the j) a ∙ ne_eqb n j other)
    where
      by_control : (b : Bool) → is_the j (addressee t h m x.bytes) ≡ false → (b && is_the j (addressee t h m x.bytes)) ≡ false
      by_control true e = e
      by_control false e = refl

  -- ---- the extender on the bridge above another
  pub above_top : (d m k : ℕ) → is_extender t k ≡ true → is_extender t m ≡ true → on t m < 64 → top t.on d (on t k) ≡ on t m → IsAbove t (suc d) m k
  above_top zero m k there m_there low e = inl (tree.alone m k (on t m) (hangs_there t m m_there) (let g = hangs_there t k there in record { extender = g.extender; there = g.there; at = sym (top_none t (on t k)) ∙ e }))
  above_top (suc d) m k there m_there low e =
      elim (cases_lt (on t k) 64) [
        | inl l ↦ inl (tree.alone m k (on t m) (hangs_there t m m_there) (let g = hangs_there t k there in record { extender = g.extender; there = g.there; at = sym (top_low t (suc d) (on t k) l) ∙ e }))
        | inr g ↦ inr (g, above_top d m (device (on t k)) (above_there t tree k there g) m_there low (sym (top_high t d (on t k) g) ∙ e))
      ]

  pub above_trunk : (m k : ℕ) → is_extender t k ≡ true → HangsOn t m (trunk t k) → trunk t k < 64 → IsAbove t 64 m k
  above_trunk m k there hangs low =
      above_top 63 m k there (extender_there t m (trunk t k) hangs) (let P : ℕ → Type 0 = λ z. z < 64 in subst P (sym hangs.at) low) (sym (trunk_is t k) ∙ sym hangs.at)
