-- What the sessions over the words and the ways of control frames give of the facts: that one waits, each extender and its tables,
-- how the two serials are related, and that what is sent is short.
use Rattle.std.proofs.Common.{◌≡◌, ◌≢◌, ◌⊎◌, inl, inr, ℕ, suc, ◌≤◌, ◌<◌, ◌==◌, Bool, true, false, cond, List, [], ◌∷◌, drop, Option, Some, None, Ok, Err, length, refl, ap, sym, ◌∙◌, subst, arith}
use Rattle.std.specs.Prelude.{Result}
use Rattle.exb_model.specs.Tree.{Shape, IsTree}
use Rattle.exb_model.specs.Setup.{Limits}
use Rattle.exb_frame.specs.TagValues.{TagRoundTrip}
use Rattle.exb_lldp.specs.declared.announce.Announce.{Announce}
use Rattle.exb_lldp.specs.declared.announce.LldpFault.{LldpFault}
use Rattle.exb_lldp.specs.Announcements.{announced as announcement_in}
use Rattle.exb_ecp.specs.declared.pdu.Pdu.{Pdu}
use Rattle.exb_ecp.specs.declared.pdu.EcpFault.{EcpFault}
use Rattle.exb_ecp.specs.Frames.{pdu_in}
use Rattle.exb_ecp.specs.StopAndWait.{Sending, State as Ecp}
use Rattle.exb_csp.specs.declared.fault.CspFault.{CspFault}
use Rattle.exb_csp.specs.declared.message.Body.{Body}
use Rattle.exb_csp.specs.declared.message.Body.TheVariants as body
use Rattle.exb_csp.specs.declared.message.Message.{Message}
use Rattle.exb_csp.specs.declared.message.Request.{Request}
use Rattle.exb_csp.specs.Decoding.{read_message}
use Rattle.exb_extender.specs.Forwarding.{has_etag_type, is_bare_control}
use Rattle.exb_extender.specs.Machine.{ExtenderState}
use Rattle.exb_link.specs.declared.link_frame.LinkFrame.{LinkFrame}
use Rattle.exb_link.specs.LinkFrames.{is_control}
use Rattle.exb_control_spec.specs.Plans.HeldNumbers.{Held}
use Rattle.exb_csp.specs.Sessions.AskingEnd.{AskerState}
use Rattle.exb_csp.specs.Sessions.AnsweringEnd.{AnswererState}
use Rattle.exb_world_spec.specs.Worlds.{World}
use Rattle.exb_world_spec.specs.Runs.Sessions.{Each, WasAsked, WasAnswered, Hands, IsTagged, IsFrameOn, IsOnWay, WordFits, AskedOf, StoredAt, ArePaired, Routes, WorldFits}
use Rattle.exb_world_spec.proofs.Frames.{bare_is}
use Rattle.exb_settling_laws.specs.StopAndWait.{Message as Note, Ack}
use Rattle.exb_settling_laws.specs.Streams.{body_note, message_note, pdu_note, frame_note, note_of, addressee, plain}
use Rattle.exb_settling_laws.specs.SettlingFacts.{Facts, IsLatest, Related, MayGoDown, MayComeUp, GoesDown, ComesUp, IsAbove, IsOwned, WordFacts}
use Rattle.exb_settling_laws.specs.RemainingFacts.{IsOfSerial, NearLeft, FarLeft, IsDownNote, IsUpNote, KindDown, KindUp, WordLeft, Left}
use Rattle.exb_settling_laws.proofs.ControlFrameDecoding.{bare_addressed, bare_plain, tagged_addressed, tagged_plain}

none_some : {A : Type 0} (x : A) → None ≡ Some x → ⊥
none_some x e = cc

latest : (make : ℕ → ℕ → Note) (e : Ecp) (serial : ℕ) (x : Sending) → IsOfSerial make e serial x → length x.payload ≤ 1024 → IsLatest make e serial x
latest make e serial x c short = record { sequence = c.sequence; serial_is = c.serial_is; reads = c.reads; short = short; beats = c.beats }

-- a serial of a request that waits is told, and with none waiting the two are one
related : (o : Option Request) (a : AskerState) (x : AnswererState) → a.waiting ≡ o → ArePaired a x → ((request : Request) → a.waiting ≡ Some request → 0 < a.serial) → Related o a.serial x.last
related None a x e (inl same) asked = sym same
related None a x e (inr more) asked = absurd (none_some (more.1).0 (sym e ∙ (more.1).1))
related (Some request) a x e (inl same) asked = let some : 0 < a.serial = asked request e in inr (sym same, omega arith)
related (Some request) a x e (inr more) asked = let next : suc x.last ≡ a.serial = more.0 in inl (omega arith)

-- ---- what a word reads as
-- a request on its way was asked
down_note : (a : AskerState) (f : List ℕ) → Hands f (WasAsked a) → IsDownNote (note_of f) → MayGoDown a (note_of f)
unfolding note_of
down_note a f hands = by_announcement (announcement_in f)
  where
    by_body : (sequence serial : ℕ) (b : Body) → WasAsked a serial b → IsDownNote (Some (body_note sequence serial b)) → MayGoDown a (Some (body_note sequence serial b))
    by_body sequence serial (body.Ask request) was k = was.early
    by_body sequence serial (body.Answer response) was k = absurd k

    by_message : (sequence : ℕ) (r : Result Message CspFault) → ((m : Message) → r ≡ Ok m → WasAsked a m.serial m.body) → IsDownNote (message_note sequence r) → MayGoDown a (message_note sequence r)
    by_message sequence (Ok m) was k = by_body sequence m.serial m.body (was m refl) k
    by_message sequence (Err fault) was k = absurd k

    by_ack : (p : Pdu) (b : Bool) → p.acknowledgement ≡ b → pdu_in f ≡ Ok p → IsDownNote (cond b (Some (Ack p.sequence)) (message_note p.sequence (read_message (drop 18 f)))) → MayGoDown a (cond b (Some (Ack p.sequence)) (message_note p.sequence (read_message (drop 18 f))))
    by_ack p true e d k = tt
    by_ack p false e d k = by_message p.sequence (read_message (drop 18 f)) (hands.each p d e).each k

    by_subtype : (p : Pdu) (b : Bool) → pdu_in f ≡ Ok p → IsDownNote (cond b (cond p.acknowledgement (Some (Ack p.sequence)) (message_note p.sequence (read_message (drop 18 f)))) None) →
        MayGoDown a (cond b (cond p.acknowledgement (Some (Ack p.sequence)) (message_note p.sequence (read_message (drop 18 f)))) None)
    by_subtype p true d k = by_ack p p.acknowledgement refl d k
    by_subtype p false d k = absurd k

    by_pdu : (r : Result Pdu EcpFault) → pdu_in f ≡ r → IsDownNote (pdu_note r f) → MayGoDown a (pdu_note r f)
    by_pdu (Ok p) d k = by_subtype p (p.subtype == 2) d k
    by_pdu (Err fault) d k = absurd k

    by_announcement : (r : Result Announce LldpFault) → IsDownNote (frame_note r f) → MayGoDown a (frame_note r f)
    by_announcement (Ok n) k = absurd k
    by_announcement (Err fault) k = by_pdu (pdu_in f) refl k

-- and an answer was stored
up_note : (x : ExtenderState) (f : List ℕ) → Hands f (WasAnswered x.session) → IsUpNote (note_of f) → MayComeUp x (note_of f)
unfolding note_of
up_note x f hands = by_announcement (announcement_in f)
  where
    by_body : (sequence serial : ℕ) (b : Body) → WasAnswered x.session serial b → IsUpNote (Some (body_note sequence serial b)) → MayComeUp x (Some (body_note sequence serial b))
    by_body sequence serial (body.Ask request) was k = absurd k
    by_body sequence serial (body.Answer response) was k = was.early

    by_message : (sequence : ℕ) (r : Result Message CspFault) → ((m : Message) → r ≡ Ok m → WasAnswered x.session m.serial m.body) → IsUpNote (message_note sequence r) → MayComeUp x (message_note sequence r)
    by_message sequence (Ok m) was k = by_body sequence m.serial m.body (was m refl) k
    by_message sequence (Err fault) was k = absurd k

    by_ack : (p : Pdu) (b : Bool) → p.acknowledgement ≡ b → pdu_in f ≡ Ok p → IsUpNote (cond b (Some (Ack p.sequence)) (message_note p.sequence (read_message (drop 18 f)))) → MayComeUp x (cond b (Some (Ack p.sequence)) (message_note p.sequence (read_message (drop 18 f))))
    by_ack p true e d k = tt
    by_ack p false e d k = by_message p.sequence (read_message (drop 18 f)) (hands.each p d e).each k

    by_subtype : (p : Pdu) (b : Bool) → pdu_in f ≡ Ok p → IsUpNote (cond b (cond p.acknowledgement (Some (Ack p.sequence)) (message_note p.sequence (read_message (drop 18 f)))) None) →
        MayComeUp x (cond b (cond p.acknowledgement (Some (Ack p.sequence)) (message_note p.sequence (read_message (drop 18 f)))) None)
    by_subtype p true d k = by_ack p p.acknowledgement refl d k
    by_subtype p false d k = absurd k

    by_pdu : (r : Result Pdu EcpFault) → pdu_in f ≡ r → IsUpNote (pdu_note r f) → MayComeUp x (pdu_note r f)
    by_pdu (Ok p) d k = by_subtype p (p.subtype == 2) d k
    by_pdu (Err fault) d k = absurd k

    by_announcement : (r : Result Announce LldpFault) → IsUpNote (frame_note r f) → MayComeUp x (frame_note r f)
    by_announcement (Ok n) k = tt
    by_announcement (Err fault) k = by_pdu (pdu_in f) refl k

-- ---- whose a word is
module _ (t : Shape) (tree : IsTree t) (round : TagRoundTrip) (h : Held) (B : ℕ → ℕ → Body → Type 0) (K P : ℕ → List ℕ → Type 0) (both : (n : ℕ) (c : List ℕ) → Hands c (B n) → K n c → P n c) where
  owned : (m : ℕ) (x : LinkFrame) → WordLeft t h K m x → is_control x ≡ true → IsOnWay t h m x.bytes (λ n c. Hands c (B n)) → IsOwned t h P m x
  owned m x left control w = by_way w.way
    where
      made : addressee t h m x.bytes ≡ Some w.of → plain x.bytes ≡ w.frame → IsAbove t 64 m w.of → ((m ≡ w.of) × (has_etag_type x.bytes ≡ false)) ⊎ ((m ≢ w.of) × IsTagged t h m x.bytes w.of (plain x.bytes)) → IsOwned t h P m x
      made addressed is below form =
          record {
            of = w.of;
            there = w.there;
            below = below;
            addressed = addressed;
            bare = (let Q : List ℕ → Type 0 = λ z. is_bare_control z ≡ true in subst Q (sym is) w.bare);
            form = form;
            reads = both w.of (plain x.bytes) (let Q : List ℕ → Type 0 = λ z. Hands z (B w.of) in subst Q (sym is) w.fits) (left.reads control w.of addressed);
          }

      by_way : IsFrameOn t h m x.bytes w.of w.frame → IsOwned t h P m x
      by_way (inl q) =
          let untyped : has_etag_type x.bytes ≡ false = ap has_etag_type q.1 ∙ (bare_is w.frame w.bare).untyped in
          made (bare_addressed t tree h m x.bytes untyped ∙ ap (λ (z : ℕ). Some z) q.0) (bare_plain t tree h x.bytes untyped ∙ q.1) (inl q.0) (inl (q.0, untyped))
      by_way (inr k) =
          let is : plain x.bytes ≡ w.frame = ap plain k.frame ∙ tagged_plain t tree h round w.frame k.channel w.bare k.small in
          let place = left.placed control w.of w.frame w.there w.bare k in
          made (ap (addressee t h m) k.frame ∙ tagged_addressed t tree h round m w.of k.channel w.frame w.bare k.small w.there k.holds) is place.1
          (inr (place.0, (let Q : List ℕ → Type 0 = λ z. IsTagged t h m x.bytes w.of z in subst Q (sym is) k)))

  word_facts : (m : ℕ) (x : LinkFrame) → WordFits t h B m x → WordLeft t h K m x → WordFacts t h P m x
  word_facts m x fits left = record { bytes = left.bytes; owned = λ control. owned m x left control (fits (control)) }

  words_facts : (m : ℕ) (ws : List LinkFrame) → Each (WordFits t h B m) ws → Each (WordLeft t h K m) ws → Each (WordFacts t h P m) ws
  words_facts m [] fits left = tt
  words_facts m (x ∷ xs) fits left = (word_facts m x fits.0 left.0, words_facts m xs fits.1 left.1)

pub facts_from : (t : Shape) (l : Limits) (tree : IsTree t) (round : TagRoundTrip) (w : World) → WorldFits t w → Routes t w.control.held w.far → Left t w → Facts t l w
facts_from t l tree round w fits routes left =
    record {
      waits = fits.ends.waits;
      near = λ n.
          let k : NearLeft (w.near n) (w.control.askers n) = left.near n in
          record {
            before = k.before;
            sending = λ x e. latest _ (w.near n) (w.control.askers n).serial x (k.sending x e) ((fits.ends.asking n).each x e).1;
            beats = k.beats;
            even = k.even;
            quiet = k.quiet;
          };
      far = λ n there.
          let k : FarLeft (w.far n) = left.far n there in
          record {
            extender = fits.ends.extenders n there;
            before = k.before;
            sending = λ z e. latest _ (w.far n).ecp (w.far n).session.last z (k.sending z e) ((fits.ends.answering n).each z e).1;
            opened = k.opened;
          };
      related = λ n there. related (w.control.askers n).waiting (w.control.askers n) (w.far n).session refl (fits.ends.paired n) (left.near n).asked;
      unheard = left.unheard;
      downs = λ m there.
          words_facts t tree round w.control.held (AskedOf w.control.askers) KindDown (GoesDown w.control) (λ n c hands k. down_note (w.control.askers n) c hands k) m (w.down m) (fits.downs m) (left.downs m there);
      ups = λ m there.
          words_facts t tree round w.control.held (StoredAt w.far) (KindUp t w.control.askers) (ComesUp t w.control w.far) (λ n c hands k. (up_note (w.far n) c hands k.0, k.1, k.2)) m (w.up m) (fits.ups m) (left.ups m there);
      queue = left.queue;
      routes = routes;
    }
