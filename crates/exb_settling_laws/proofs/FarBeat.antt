-- One beat of an extender: its end of the session beats, and what it sends goes up.
use Rattle.std.proofs.Common.{◌≡◌, ℕ, ◌+◌, ◌≤◌, ◌<◌, ◌==◌, ◌&&◌, ◌||◌, nat_lt, not, Bool, true, false, cond, List, [], ◌∷◌, ◌++◌, append_assoc, Option, Some, None, refl, ap, sym, ◌∙◌, arith, inl, inr}
use Rattle.std.specs.Prelude.{Result}
use Rattle.std.proofs.lemmas.Bool.{cases_eq, eqb-true, eq-eqb, lt-ltb, false≢true}
use Rattle.exb_ecp.specs.declared.stop_and_wait.Beat.{Beat as Due}
use Rattle.exb_ecp.specs.declared.stop_and_wait.Beat.TheVariants as due
use Rattle.exb_ecp.specs.StopAndWait.{Sending as Sends, aged as aged_sends, beat_of, is_due as is_due_beat}
use Rattle.exb_csp.specs.Decoding.{read_message}
use Rattle.exb_lldp.specs.Encoding.{spelling as announcement}
use Rattle.exb_lldp.specs.declared.announce.Announce.{Announce}
use Rattle.exb_lldp.specs.declared.announce.LldpFault.{LldpFault}
use Rattle.exb_lldp.proofs.RoundTrip.{announced-spelling}
use Rattle.exb_extender.specs.Forwarding.{Sent, up}
use Rattle.exb_extender.specs.Machine.{ExtenderState, address_of, announcement_frame, request_frame, next_count, announces, sends_again, beats}
use Rattle.exb_model.specs.Frames.{is_control_frame}
use Rattle.exb_world_spec.specs.Runs.Sessions.{Each}
use Rattle.exb_world_spec.proofs.LinkFrames.{each_append}
use Rattle.exb_settling_laws.specs.StopAndWait.{Message as Note, Answer as Answers, Hello, Sending, End, aged, again, is_due, one_if, kept_if, older, counted, hello_words}
use Rattle.exb_settling_laws.specs.SessionPair.{Far, far_beat}
use Rattle.exb_settling_laws.specs.Streams.{frame_note, note_of, sending_of, serial_of, notes_if}
use Rattle.exb_settling_laws.specs.SettlingFacts.{IsLatest, FarFacts}
use Rattle.exb_settling_laws.proofs.ControlFrameDecoding.{note_request, control_spelled}
use Rattle.exb_settling_laws.proofs.FarControlFrames.{far_of, sent_notes, OwnSent}

-- ---- what is sent ages
sending_if : (b : Bool) (x : Sends) → sending_of (cond b None (Some (record { sequence = x.sequence; beats = x.beats + 1; payload = x.payload }))) ≡ kept_if b (older (record { sequence = x.sequence; serial = serial_of (read_message x.payload); beats = x.beats }))
sending_if true x = refl
sending_if false x = refl

pub sending_aged : (o : Option Sends) → sending_of (aged_sends o) ≡ aged (sending_of o)
sending_aged None = refl
sending_aged (Some x) = sending_if (x.beats + 1 == 12) x

-- at which beats it goes out again
pub due_is : (b : ℕ) → is_due_beat b ≡ is_due b
due_is b = by_tests (b == 3) (b == 6) (b == 9)
  where
    by_tests : (x y z : Bool) → (x || (y || z)) ≡ ((x || y) || z)
    by_tests true y z = refl
    by_tests false y z = refl

-- the twelfth isn't one of them
pub not_twelfth : (b : ℕ) → (b == 12) ≡ true → is_due b ≡ false
not_twelfth b e = let is : b ≡ 12 = eqb-true b 12 e in rw is refl

-- ---- what an extender sends at a beat
sent_join : (xs ys : List Sent) → sent_notes (xs ++ ys) ≡ sent_notes xs ++ sent_notes ys
sent_join [] ys = refl
sent_join (x ∷ xs) ys = ap (λ (ns : List Note). notes_if true (note_of x.bytes) ++ ns) (sent_join xs ys) ∙ sym (append_assoc (notes_if true (note_of x.bytes)) (sent_notes xs) (sent_notes ys))

note_announcement : (number ports : ℕ) → 1 ≤ ports → ports ≤ 64 → note_of (announcement_frame number ports) ≡ Some Hello
unfolding note_of
note_announcement number ports low high =
    ap (λ (r : Result Announce LldpFault). frame_note r (announcement_frame number ports)) (announced-spelling (record { chassis = address_of number; ports = ports }) refl (record { some = low; few = high }))

own_announcement : (number ports : ℕ) → OwnSent (up (announcement_frame number ports))
unfolding announcement is_control_frame
own_announcement number ports = record { side_is = refl; control = refl; untyped = refl }

module _ (s : ExtenderState) (facts : FarFacts s) where
  -- its own answer again
  again_notes : (o : Option Sends) → ((z : Sends) → o ≡ Some z → IsLatest Answers s.ecp s.session.last z) → sent_notes (sends_again (beat_of o) s.number o) ≡ again Answers (sending_of o)
  again_notes None latest = refl
  again_notes (Some x) latest = by_twelve (x.beats + 1 == 12) refl
    where
      k : IsLatest Answers s.ecp s.session.last x
      k = latest x refl

      note : note_of (request_frame s.number x.sequence x.payload) ≡ Some (Answers x.sequence (serial_of (read_message x.payload)))
      note = note_request 2 69 66 1 0 s.number x.sequence x.payload k.short ∙ k.reads ∙ ap (λ (z : ℕ). Some (Answers x.sequence z)) (sym k.serial_is)

      by_due : (b : Bool) → sent_notes (sends_again (cond b due.SendAgain due.Nothing) s.number (Some x)) ≡ one_if b (Answers x.sequence (serial_of (read_message x.payload)))
      by_due true = ap (λ (o : Option Note). notes_if true o ++ []) note
      by_due false = refl

      by_twelve : (b : Bool) → (x.beats + 1 == 12) ≡ b → sent_notes (sends_again (cond b due.GaveUp (cond (is_due_beat (x.beats + 1)) due.SendAgain due.Nothing)) s.number (Some x)) ≡ one_if (is_due (x.beats + 1)) (Answers x.sequence (serial_of (read_message x.payload)))
      by_twelve true e = sym (ap (λ (b : Bool). one_if b (Answers x.sequence (serial_of (read_message x.payload)))) (not_twelfth (x.beats + 1) e))
      by_twelve false e = by_due (is_due_beat (x.beats + 1)) ∙ ap (λ (b : Bool). one_if b (Answers x.sequence (serial_of (read_message x.payload)))) (due_is (x.beats + 1))

  hello_notes : (count : ℕ) → sent_notes (announces count s) ≡ hello_words (count == 1) (s.session.last == 0)
  hello_notes count = by_count (count == 1) (s.session.last == 0) refl
    where
      not_opened : (b : Bool) → (s.session.last == 0) ≡ b → not s.opened ≡ b
      not_opened true e = let is : s.session.last ≡ 0 = eqb-true _ _ e in ap not facts.opened ∙ ap (λ (z : ℕ). not (nat_lt 0 z)) is
      not_opened false e = ap not facts.opened ∙ ap not (lt-ltb 0 s.session.last (by_zero e))
        where
          by_zero : (s.session.last == 0) ≡ false → 0 < s.session.last
          by_zero f = elim (cases_eq s.session.last 0) [ inl z ↦ absurd (false≢true (sym f ∙ eq-eqb _ _ z)) | inr z ↦ omega arith ]

      by_both : (b c : Bool) → sent_notes (cond (b && c) (up (announcement_frame s.number s.tables.ports) ∷ []) []) ≡ hello_words c b
      by_both true true = ap (λ (o : Option Note). notes_if true o ++ []) (note_announcement s.number s.tables.ports facts.extender.ports.0 facts.extender.ports.1)
      by_both true false = refl
      by_both false true = refl
      by_both false false = refl

      by_count : (c b : Bool) → (s.session.last == 0) ≡ b → sent_notes (cond (not s.opened && c) (up (announcement_frame s.number s.tables.ports) ∷ []) []) ≡ hello_words c b
      by_count c b e = ap (λ (z : Bool). sent_notes (cond (z && c) (up (announcement_frame s.number s.tables.ports) ∷ []) [])) (not_opened b e) ∙ by_both b c

  count_is : next_count s.beats ≡ counted (s.beats == 15) s.beats
  count_is = by_test (s.beats == 15)
    where
      by_test : (b : Bool) → ◌≡◌ {A = ℕ} (cond b 0 (s.beats + 1)) (counted b s.beats)
      by_test true = refl
      by_test false = refl

  -- The extender's end beats.
  pub beats_far : (ns : List Note) → far_of (beats s).0 (ns ++ sent_notes (beats s).1) ≡ far_beat (far_of s ns)
  unfolding beats
  beats_far ns =
      let sending : sending_of (aged_sends s.ecp.sending) ≡ aged (sending_of s.ecp.sending) = sending_aged s.ecp.sending in
      let words : sent_notes (announces (next_count s.beats) s ++ sends_again (beat_of s.ecp.sending) s.number s.ecp.sending) ≡ hello_words (counted (s.beats == 15) s.beats == 1) (s.session.last == 0) ++ again Answers (sending_of s.ecp.sending) =
      sent_join (announces (next_count s.beats) s) (sends_again (beat_of s.ecp.sending) s.number s.ecp.sending)
      ∙ ap (λ (ms : List Note). ms ++ sent_notes (sends_again (beat_of s.ecp.sending) s.number s.ecp.sending)) (hello_notes (next_count s.beats) ∙ ap (λ (c : ℕ). hello_words (c == 1) (s.session.last == 0)) count_is)
      ∙ ap (λ (ms : List Note). hello_words (counted (s.beats == 15) s.beats == 1) (s.session.last == 0) ++ ms) (again_notes s.ecp.sending facts.sending) in
      far_is _ _ _ _ _ _ _ _ (ap (λ (o : Option Sending). record { next = s.ecp.next; sending = o; got = s.ecp.received }) sending) refl count_is (ap (λ (ms : List Note). ns ++ ms) words)
    where
      far_is : (a c : End) (l1 l2 c1 c2 : ℕ) (m1 m2 : List Note) → a ≡ c → l1 ≡ l2 → c1 ≡ c2 → m1 ≡ m2 → ◌≡◌ {A = Far} (record { link = a; last = l1; count = c1; sent = m1 }) (record { link = c; last = l2; count = c2; sent = m2 })
      far_is a c l1 l2 c1 c2 m1 m2 e f g h = cc

  -- and all that it sends is its own
  pub beats_own : Each OwnSent (beats s).1
  unfolding beats
  beats_own = each_append OwnSent (announces (next_count s.beats) s) (sends_again (beat_of s.ecp.sending) s.number s.ecp.sending) (by_count (not s.opened && (next_count s.beats == 1))) (by_due (beat_of s.ecp.sending) s.ecp.sending)
    where
      by_count : (b : Bool) → Each OwnSent (cond b (up (announcement_frame s.number s.tables.ports) ∷ []) [])
      by_count true = (own_announcement s.number s.tables.ports, tt)
      by_count false = tt

      by_due : (d : Due) (o : Option Sends) → Each OwnSent (sends_again d s.number o)
      by_due due.SendAgain (Some x) = (record { side_is = refl; control = control_spelled 2 69 66 1 0 s.number false x.sequence x.payload; untyped = refl }, tt)
      by_due due.SendAgain None = tt
      by_due due.Nothing o = tt
      by_due due.GaveUp o = tt
