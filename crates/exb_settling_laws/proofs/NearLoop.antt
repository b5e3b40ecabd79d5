-- The bridge's ends beat, by extender, before its control does: each end ages what it sends, and sends it again where that is due.
use Rattle.std.proofs.Common.{◌≡◌, ◌≢◌, inl, ⊎_elim, ℕ, ◌+◌, ◌≤◌, ◌==◌, Bool, true, false, cond, List, [], ◌∷◌, ◌++◌, append-nil, length, Option, Some, None, refl, ap, sym, ◌∙◌}
use Rattle.std.specs.Prelude.{is_some}
use Rattle.exb_model.specs.Tree.{Shape, IsTree, is_extender}
use Rattle.exb_model.specs.Setup.{Limits}
use Rattle.exb_frame.specs.TagValues.{TagRoundTrip}
use Rattle.exb_ecp.specs.declared.stop_and_wait.Beat.{Beat as Due}
use Rattle.exb_ecp.specs.declared.stop_and_wait.Beat.TheVariants as due
use Rattle.exb_ecp.specs.StopAndWait.{Sending as Sends, State as Ecp, beaten, beat_of, is_due as is_due_beat}
use Rattle.exb_csp.specs.Decoding.{read_message}
use Rattle.exb_csp.specs.Sessions.AskingEnd.{AskerState}
use Rattle.exb_control_spec.specs.Machine.{State}
use Rattle.exb_world_spec.specs.Worlds.{World, with_near}
use Rattle.exb_world_spec.specs.ControlFrames.{to_extender, bridge_request, sends_again, beats_near}
use Rattle.exb_world_spec.proofs.Frames.{bare_spelled}
use Rattle.exb_world_spec.proofs.LinkFrames.{at_here, at_other}
use Rattle.exb_settling_laws.specs.StopAndWait.{Message as Note, Request as Asks, Sending, End, aged, again, is_due, one_if}
use Rattle.exb_settling_laws.specs.SessionPair.{Near, near_rests}
use Rattle.exb_settling_laws.specs.Streams.{note_of, sending_of, end_of, serial_of, notes_if, downs_of, near_at}
use Rattle.exb_settling_laws.specs.SettlingFacts.{IsLatest, IsReached}
use Rattle.exb_settling_laws.proofs.ControlFrameDecoding.{note_request, control_spelled, control_tagged}
use Rattle.exb_settling_laws.proofs.FarBeat.{sending_aged, due_is, not_twelfth}
use Rattle.exb_settling_laws.proofs.NearControlFrames.{top_found}
use Rattle.exb_settling_laws.proofs.UpwardSessions.{near_same}
use Rattle.exb_settling_laws.proofs.BridgeStreams.{IsPut, IsSendable, to_extender_put, to_reached_put, put_own, put_other}
use Rattle.exb_settling_laws.proofs.ControlTurns.{to_extender_ends}

module _ (t : Shape) (l : Limits) (tree : IsTree t) (round : TagRoundTrip) where
  pub request_sendable : (s : ℕ) (payload : List ℕ) → IsSendable t tree round (bridge_request s payload)
  request_sendable s payload = record { bare = bare_spelled 2 69 66 0 0 0 false s payload; control = control_spelled 2 69 66 0 0 0 false s payload; tagged_control = λ tag. control_tagged 2 69 66 0 0 0 false s payload tag }

  -- a request that goes to an extender
  pub sent_world : ℕ → ℕ → List ℕ → World → World
  sent_world n s payload w = (to_extender t n (bridge_request s payload) w).world

  near_is : (a c : End) (w1 w2 : Bool) (s1 s2 b1 b2 : ℕ) (m1 m2 : List Note) → a ≡ c → w1 ≡ w2 → s1 ≡ s2 → b1 ≡ b2 → m1 ≡ m2 →
      ◌≡◌ {A = Near} (record { link = a; waits = w1; serial = s1; beats = b1; sent = m1 }) (record { link = c; waits = w2; serial = s2; beats = b2; sent = m2 })
  near_is a c w1 w2 s1 s2 b1 b2 m1 m2 e f g h k = cc

  -- is the last of its own stream, and of no other
  pub request_own : (n s : ℕ) (payload : List ℕ) (w : World) → is_extender t n ≡ true → IsReached t w n → length payload ≤ 1024 → (a : Note) → Rattle.exb_settling_laws.specs.Streams.message_note s (read_message payload) ≡ Some a →
      near_at t (to_extender t n (bridge_request s payload) w).world n ≡ record (near_at t w n) { sent = (near_at t w n).sent ++ a ∷ [] }
  request_own n s payload w there reached short a reads =
      let v : World = (to_extender t n (bridge_request s payload) w).world in
      let e = to_extender_ends t n (bridge_request s payload) w in
      let top = top_found t tree n there in
      let put : IsPut t tree round w.control.held n (bridge_request s payload) w v = to_reached_put t tree round n (bridge_request s payload) w there (request_sendable s payload) reached top.0 (inl top.1) in
      let note : note_of (bridge_request s payload) ≡ Some a = note_request 2 69 66 0 0 0 s payload short ∙ reads in
      let downs : downs_of t w.control.held v.down n 64 n ≡ downs_of t w.control.held w.down n 64 n ++ a ∷ [] =
      put_own t tree round w.control.held n (bridge_request s payload) w v put there ∙ ap (λ (o : Option Note). downs_of t w.control.held w.down n 64 n ++ notes_if true o) note in
      let asker : v.control.askers n ≡ w.control.askers n = ap (λ (x : State). x.askers n) e.control in
      near_is _ _ _ _ _ _ _ _ _ _ (ap (λ (x : ℕ → Ecp). end_of (x n)) e.near) (ap (λ (x : AskerState). is_some x.waiting) asker) (ap (λ (x : AskerState). x.serial) asker) (ap (λ (x : AskerState). x.beats) asker)
      (ap (λ (x : State). downs_of t x.held v.down n 64 n) e.control ∙ downs)

  pub request_other : (n s j : ℕ) (payload : List ℕ) (w : World) → is_extender t n ≡ true → n ≢ j → is_extender t j ≡ true → near_at t (to_extender t n (bridge_request s payload) w).world j ≡ near_at t w j
  request_other n s j payload w there other j_there =
      let v : World = (to_extender t n (bridge_request s payload) w).world in
      let e = to_extender_ends t n (bridge_request s payload) w in
      near_same t w v j e.control e.near
      (⊎_elim
      (λ (z : v ≡ w). ap (λ (u : World). downs_of t w.control.held u.down j 64 j) z)
      (λ (p : IsPut t tree round w.control.held n (bridge_request s payload) w v). put_other t tree round w.control.held n (bridge_request s payload) w v p j other j_there)
      (to_extender_put t tree round n (bridge_request s payload) w there (request_sendable s payload)))

  -- ---- one end
  pub with_end : (n : ℕ) (e : Ecp) (w : World) → near_at t (with_near n e w) n ≡ record (near_at t w n) { link = end_of e }
  with_end n e w = ap (λ (x : Ecp). record (near_at t w n) { link = end_of x }) (at_here n e w.near)

  -- its own session: what is sent ages, and goes out again where that is due
  pub own_rests : (n : ℕ) (w : World) → is_extender t n ≡ true → IsReached t w n → ((x : Sends) → (w.near n).sending ≡ Some x → IsLatest Asks (w.near n) (w.control.askers n).serial x) → near_at t (beats_near t n w).world n ≡ near_rests (near_at t w n)
  own_rests n w there reached latest = by_sending (w.near n).sending refl
    where
      u : World
      u = with_near n (beaten (w.near n)) w

      aged_end : near_at t (with_near n (beaten (w.near n)) w) n ≡ record (near_at t w n) { link = record { next = (w.near n).next; sending = aged (sending_of (w.near n).sending); got = (w.near n).received } }
      aged_end = with_end n (beaten (w.near n)) w ∙ ap (λ (o : Option Sending). record (near_at t w n) { link = record { next = (w.near n).next; sending = o; got = (w.near n).received } }) (sending_aged (w.near n).sending)

      A : Near
      A = record (near_at t w n) { link = record { next = (w.near n).next; sending = aged (sending_of (w.near n).sending); got = (w.near n).received } }

      R : List Note → Near
      R ms = record (near_at t w n) { link = record { next = (w.near n).next; sending = aged (sending_of (w.near n).sending); got = (w.near n).received }; sent = (near_at t w n).sent ++ ms }

      quiet : near_at t (with_near n (beaten (w.near n)) w) n ≡ R []
      quiet = aged_end ∙ ap (λ (ms : List Note). record (near_at t w n) { link = record { next = (w.near n).next; sending = aged (sending_of (w.near n).sending); got = (w.near n).received }; sent = ms }) (sym (append-nil (near_at t w n).sent))

      by_sending : (o : Option Sends) → (w.near n).sending ≡ o → near_at t (sends_again t n (beat_of (w.near n).sending) (w.near n).sending (with_near n (beaten (w.near n)) w)).world n ≡ R (again Asks (sending_of (w.near n).sending))
      by_sending None e =
          ap (λ (o : Option Sends). near_at t (sends_again t n (beat_of o) o (with_near n (beaten (w.near n)) w)).world n) e ∙ quiet ∙ ap (λ (o : Option Sends). R (again Asks (sending_of o))) (sym e)
      by_sending (Some x) e =
          ap (λ (o : Option Sends). near_at t (sends_again t n (beat_of o) o (with_near n (beaten (w.near n)) w)).world n) e ∙ by_twelve (x.beats + 1 == 12) refl ∙ ap (λ (o : Option Sends). R (again Asks (sending_of o))) (sym e)
        where
          k : IsLatest Asks (w.near n) (w.control.askers n).serial x
          k = latest x e

          a : Note
          a = Asks x.sequence (serial_of (read_message x.payload))

          reads : Rattle.exb_settling_laws.specs.Streams.message_note x.sequence (read_message x.payload) ≡ Some (Asks x.sequence (serial_of (read_message x.payload)))
          reads = k.reads ∙ ap (λ (z : ℕ). Some (Asks x.sequence z)) (sym k.serial_is)

          by_due : (b : Bool) → near_at t (sends_again t n (cond b due.SendAgain due.Nothing) (Some x) (with_near n (beaten (w.near n)) w)).world n ≡ R (one_if b (Asks x.sequence (serial_of (read_message x.payload))))
          by_due false = quiet
          by_due true =
              request_own n x.sequence x.payload (with_near n (beaten (w.near n)) w) there reached k.short (Asks x.sequence (serial_of (read_message x.payload))) reads
              ∙ ap (λ (z : Near). record z { sent = z.sent ++ Asks x.sequence (serial_of (read_message x.payload)) ∷ [] }) aged_end

          by_twelve : (b : Bool) → (x.beats + 1 == 12) ≡ b →
              near_at t (sends_again t n (cond b due.GaveUp (cond (is_due_beat (x.beats + 1)) due.SendAgain due.Nothing)) (Some x) (with_near n (beaten (w.near n)) w)).world n ≡ R (one_if (is_due (x.beats + 1)) (Asks x.sequence (serial_of (read_message x.payload))))
          by_twelve true e = quiet ∙ ap (λ (b : Bool). R (one_if b (Asks x.sequence (serial_of (read_message x.payload))))) (sym (not_twelfth (x.beats + 1) e))
          by_twelve false e = by_due (is_due_beat (x.beats + 1)) ∙ ap (λ (b : Bool). R (one_if b (Asks x.sequence (serial_of (read_message x.payload))))) (due_is (x.beats + 1))

  -- another session stays
  pub other_rests : (n j : ℕ) (w : World) → is_extender t n ≡ true → n ≢ j → is_extender t j ≡ true → near_at t (beats_near t n w).world j ≡ near_at t w j
  other_rests n j w there other j_there = by_due (beat_of (w.near n).sending) (w.near n).sending
    where
      first : near_at t (with_near n (beaten (w.near n)) w) j ≡ near_at t w j
      first = ap (λ (x : Ecp). record (near_at t w j) { link = end_of x }) (at_other n j (beaten (w.near n)) w.near (λ e. other (sym e)))

      by_due : (d : Due) (o : Option Sends) → near_at t (sends_again t n d o (with_near n (beaten (w.near n)) w)).world j ≡ near_at t w j
      by_due due.SendAgain (Some x) = request_other n x.sequence j x.payload (with_near n (beaten (w.near n)) w) there other j_there ∙ first
      by_due due.SendAgain None = first
      by_due due.Nothing o = first
      by_due due.GaveUp o = first
