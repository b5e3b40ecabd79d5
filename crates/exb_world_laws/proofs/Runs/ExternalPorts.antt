-- What a step does to the clock, and where frames leave: only at external ports.
use Rattle.std.proofs.Common.{◌≡◌, ℕ, zero, suc, ◌+◌, ◌-◌, ◌<◌, ◌≤◌, ◌==◌, ◌&&◌, not, nat_lt, Bool, true, false, cond, List, [], ◌∷◌, drop, filter, slice_get, Option, Some, None, Ok, Err, refl, sym, ◌∙◌, subst, arith, inl, inr}
use Rattle.std.specs.Prelude.{◌%◌, Result, slice_index, All, sum_by}
use Rattle.std.proofs.lemmas.Bool.{cases_Bool, and_from, and_parts, lt-ltb}
use Rattle.exb_model.specs.Configuration.{Bridge}
use Rattle.exb_model.specs.EagerHistory.{is_relayed, is_relayed_kind}
use Rattle.exb_model.specs.ETags.{read_etag, tagged, stripped}
use Rattle.exb_model.specs.Frames.{kind_of, source, is_group, egress, IsBytes}
use Rattle.exb_model.specs.declared.arrival.Arrival.{Arrival}
use Rattle.exb_model.specs.Learning.{passes}
use Rattle.exb_model.specs.Setup.{Limits}
use Rattle.exb_model.specs.Tree.{Shape, IsTree, device, on, trunk, any_below, is_port, is_cascade, is_extender, is_external, port_number}
use Rattle.exb_config.specs.Pvids.{HasPvids}
use Rattle.exb_frame.specs.declared.etag.ETag.{ETag}
use Rattle.exb_frame.specs.TagValues.{tag_of}
use Rattle.exb_lldp.specs.declared.announce.Announce.{Announce}
use Rattle.exb_lldp.specs.declared.announce.LldpFault.{LldpFault}
use Rattle.exb_lldp.specs.Announcements.{announced as announcement_in}
use Rattle.exb_ecp.specs.declared.pdu.Pdu.{Pdu}
use Rattle.exb_ecp.specs.declared.pdu.EcpFault.{EcpFault}
use Rattle.exb_ecp.specs.declared.stop_and_wait.Beat.{Beat as Due}
use Rattle.exb_ecp.specs.declared.stop_and_wait.Beat.TheVariants as due
use Rattle.exb_ecp.specs.Frames.{pdu_in}
use Rattle.exb_ecp.specs.StopAndWait.{Sending, submitted, stopped, acknowledged, is_fresh, beaten, beat_of}
use Rattle.exb_ecp.specs.StopAndWait.{heard as received}
use Rattle.exb_csp.specs.declared.fault.CspFault.{CspFault}
use Rattle.exb_csp.specs.declared.message.Message.{Message}
use Rattle.exb_csp.specs.AllTables.{port_of}
use Rattle.exb_csp.specs.Decoding.{read_message}
use Rattle.exb_csp.specs.Encoding.{message_bytes}
use Rattle.exb_csp.specs.declared.session.asker.Taken.{Taken}
use Rattle.exb_csp.specs.declared.session.asker.Taken.TheVariants as taken
use Rattle.exb_csp.specs.Sessions.AskingEnd.{took}
use Rattle.exb_extender.specs.declared.sends.Side.{Side}
use Rattle.exb_extender.specs.declared.sends.Side.TheVariants as side
use Rattle.exb_extender.specs.Forwarding.{Sent, up, emitted, has_etag_type, is_bare_control}
use Rattle.exb_extender.specs.Machine.{ExtenderState, Reaction, IsExtender, Arrives, Beats, react, announcement_frame, announces, next_count}
use Rattle.exb_extender.specs.Machine.{hears as far_hears, beats as far_beats, sends_again as far_again}
use Rattle.exb_link.specs.declared.link_frame.Stamp.{Stamp}
use Rattle.exb_link.specs.declared.link_frame.LinkFrame.{LinkFrame}
use Rattle.exb_link.specs.LinkFrames.{is_control, is_data, without_data}
use Rattle.exb_learn.specs.Calls.{Table, Forget, See, after_call}
use Rattle.exb_learn.specs.Histories.{relay_call, after_any}
use Rattle.exb_learn.specs.Calls.{look_in}
use Rattle.exb_relay.specs.declared.send.SendTo.{SendTo}
use Rattle.exb_relay.specs.Laws.{IsAt, IsSent, SendsAreWords}
use Rattle.exb_relay.specs.Sends.{sends_of}
use Rattle.exb_control_spec.specs.declared.extender_message.Asked.{Asked}
use Rattle.exb_control_spec.specs.Decisions.{decide}
use Rattle.exb_control_spec.specs.Machine.{Moved, answered, ordered, beats}
use Rattle.exb_control_spec.proofs.Runs.NumbersInForce.{ready_midway, held_are_numbers}
use Rattle.exb_world_spec.specs.AllowedSteps.{Can}
use Rattle.exb_control_spec.specs.Plans.HeldNumbers.{numbers_in}
use Rattle.exb_world_spec.specs.BridgeLearning.{channel_at_trunk, forgotten_all, taught, announced}
use Rattle.exb_world_spec.specs.Effects.{Effect, only, then_do, each}
use Rattle.exb_world_spec.specs.ExtenderSteps.{hung_below, hung_on, sent_at, sent_to, sends, does, reacts, takes_from_above, takes_from_below, stamp_of, ignored, does_or_ignores, arrives_at}
use Rattle.exb_world_spec.specs.ControlFrames.{bridge_request, bridge_acknowledgement, puts_tagged, to_extender, asks, moves, stops, hears_message, hears_fresh, hears_request, hears_pdu, hears_frame, hears, sends_again, beats_near, beats_control}
use Rattle.exb_world_spec.specs.DataFrames.{puts_word, sent_by, sends_in, sends_all, sends_for, comes, arrival_by, comes_from, holder_by, hung_at, hears_from, bridge_takes}
use Rattle.exb_world_spec.specs.Steps.{words_on, with_words, takes_any, first_data, control_at, rest_of, counted, if_there, all_extenders, beats_all, done_by, stepped}
use Rattle.exb_world_spec.specs.Worlds.{World, Way, Up, Down, Step, Arrive, Carry, Control, Lose, Beat, Tick, Order, Mark, Left, with_near, with_far, with_control, with_table, next_beat}
use Rattle.exb_world_spec.specs.Runs.SessionLaws.{HasBytes, AreBytes}
use Rattle.exb_world_spec.specs.Runs.Sessions.{Each}
use Rattle.exb_world_spec.specs.Runs.Simulation.{system_of}
use Rattle.exb_world_spec.proofs.Bytes.{stripped_bytes}
use Rattle.exb_world_spec.proofs.CascadeChannels.{forget}
use Rattle.exb_world_spec.proofs.LinkFrames.{each_append, each_weaker, each_filter, each_get}
use Rattle.exb_world_laws.specs.SegmentRuns.{seconds_by}
use Rattle.exb_settling_laws.specs.SessionInvariant.{IsDevice, IsGoing}
use Rattle.exb_settling_laws.proofs.EmptiedLinks.{AllUp, IsAtPort, hears_up, from_port_up, from_above}

-- ---- ports on which nobody hangs
none_hung : (t : Shape) (p k : ℕ) → hung_below t p k ≡ None → any_below (λ m. is_extender t m && on t m == p) k ≡ false
unfolding hung_below any_below
none_hung t p zero e = refl
none_hung t p (suc k) e =
    elim (cases_Bool (is_extender t k && on t k == p)) [
      | inl y ↦ absurd (some_none (rw y at e))
      | inr y ↦ rw (y, none_hung t p k (rw y at e)) refl
    ]
  where
    some_none : {x : ℕ} → Some x ≡ None → ⊥
    some_none f = cc

nobody_hangs : (t : Shape) (p : ℕ) → hung_on t p ≡ None → is_port t p ≡ true → is_external t p ≡ true
unfolding is_cascade
nobody_hangs t p e there = and_from (is_port t p) (not (is_cascade t p)) there (rw (none_hung t p 65 e) refl)

-- ---- what is done
module _ (t : Shape) where
  abbrev pub IsOutside : Left → Type 0
  IsOutside x = is_external t x.port ≡ true

  -- the clock stays, and what leaves does so at external ports
  pub record Leaves (w : World) (e : Effect) : Type 0 where
    pub clock : e.world.table.clock ≡ w.table.clock
    pub outside : Each IsOutside e.left

  leaves_then : (w : World) (e : Effect) (f : World → Effect) → Leaves w e → Leaves e.world (f e.world) → Leaves w (then_do e f)
  leaves_then w e f a b = record { clock = b.clock ∙ a.clock; outside = each_append IsOutside e.left (f e.world).left a.outside b.outside }

  leaves_each : {A : Type 0} (P : A → Type 0) (f : A → World → Effect) → ((x : A) (v : World) → P x → Leaves v (f x v)) → (xs : List A) (w : World) → Each P xs → Leaves w (each f xs w)
  leaves_each P f all [] w fits = record { clock = refl; outside = tt }
  leaves_each P f all (x ∷ xs) w fits = leaves_then w (f x w) (each f xs) (all x w fits.0) (leaves_each P f all xs (f x w).world fits.1)

  any : {A : Type 0} (xs : List A) → Each (λ x. Unit {0}) xs
  any [] = tt
  any (x ∷ xs) = (tt, any xs)

  either : (b : Bool) (e f : Effect) (w : World) → Leaves w e → Leaves w f → Leaves w (cond b e f)
  either true e f w x y = x
  either false e f w x y = y

  -- ---- the bridge sends to extenders
  to_leaves : (n : ℕ) (f : List ℕ) (w : World) → Leaves w (to_extender t n f w)
  to_leaves n f w =
      elim (cases_Bool (nat_lt (on t n) 64)) [
        | inl e ↦ rw e (record { clock = refl; outside = tt })
        | inr e ↦ rw e (by_options (hung_on t (trunk t n)) (channel_at_trunk t w.control.held (on t n)))
      ]
    where
      by_options : (o c : Option ℕ) → Leaves w (puts_tagged (trunk t n) o c f w)
      by_options (Some m) (Some channel) = record { clock = refl; outside = tt }
      by_options (Some m) None = record { clock = refl; outside = tt }
      by_options None c = record { clock = refl; outside = tt }

  asks_leaves : (x : Asked) (w : World) → Leaves w (asks t x w)
  asks_leaves x w =
      let n : ℕ = x.extender in
      let k = to_leaves n (bridge_request (w.near n).next (message_bytes x.message)) (with_near n (submitted (message_bytes x.message) (stopped (w.near n))) w) in
      record { clock = k.clock; outside = k.outside }

  forgotten_clock : (ps : List ℕ) (u : Table) → (forgotten_all ps u).clock ≡ u.clock
  forgotten_clock [] u = refl
  forgotten_clock (p ∷ ps) u = forgotten_clock ps (after_call (Forget p) u)

  moves_leaves : (m : Moved) (w : World) → Leaves w (moves t m w)
  moves_leaves m w =
      let v : World = with_table (forgotten_all m.downs w.table) (with_control m.state w) in
      let k = leaves_each (λ (x : Asked). Unit {0}) (asks t) (λ x u fits. asks_leaves x u) m.asks v (any m.asks) in
      record { clock = k.clock ∙ forgotten_clock m.downs w.table; outside = k.outside }

  near_leaves : (n : ℕ) (w : World) → Leaves w (beats_near t n w)
  near_leaves n w = by_due (beat_of (w.near n).sending) (w.near n).sending
    where
      by_due : (d : Due) (o : Option Sending) → Leaves w (sends_again t n d o (with_near n (beaten (w.near n)) w))
      by_due due.SendAgain (Some x) = (let k = to_leaves n (bridge_request x.sequence x.payload) (with_near n (beaten (w.near n)) w) in record { clock = k.clock; outside = k.outside })
      by_due due.SendAgain None = record { clock = refl; outside = tt }
      by_due due.Nothing o = record { clock = refl; outside = tt }
      by_due due.GaveUp o = record { clock = refl; outside = tt }

  -- ---- the bridge hears
  module _ (l : Limits) where
    message_leaves : (n : ℕ) (r : Result Message CspFault) (w : World) → Leaves w (hears_message t l n r w)
    message_leaves n (Err fault) w = record { clock = refl; outside = tt }
    message_leaves n (Ok m) w = by_taken (took (w.control.askers n) m).1
      where
        by_taken : (z : Taken) → Leaves w (moves t (answered (decide t l) n m w.control) (stops z n w))
        by_taken (taken.Answer response) = (let k = moves_leaves (answered (decide t l) n m w.control) (with_near n (stopped (w.near n)) w) in record { clock = k.clock; outside = k.outside })
        by_taken taken.Stale = moves_leaves (answered (decide t l) n m w.control) w
        by_taken taken.NotOurs = moves_leaves (answered (decide t l) n m w.control) w

    fresh_leaves : (n : ℕ) (fresh : Bool) (sequence : ℕ) (payload : List ℕ) (w : World) → Leaves w (hears_fresh t l n fresh sequence payload w)
    fresh_leaves n true sequence payload w = (let k = message_leaves n (read_message payload) (with_near n (received sequence (w.near n)) w) in record { clock = k.clock; outside = k.outside })
    fresh_leaves n false sequence payload w = record { clock = refl; outside = tt }

    request_leaves : (n sequence : ℕ) (payload : List ℕ) (w : World) → Leaves w (hears_request t l n sequence payload w)
    request_leaves n sequence payload w =
        leaves_then w (to_extender t n (bridge_acknowledgement sequence) w) (λ v. hears_fresh t l n (is_fresh sequence (v.near n)) sequence payload v) (to_leaves n (bridge_acknowledgement sequence) w)
        (let v : World = (to_extender t n (bridge_acknowledgement sequence) w).world in fresh_leaves n (is_fresh sequence (v.near n)) sequence payload v)

    pdu_leaves : (n : ℕ) (r : Result Pdu EcpFault) (f : List ℕ) (w : World) → Leaves w (hears_pdu t l n r f w)
    pdu_leaves n (Err fault) f w = record { clock = refl; outside = tt }
    pdu_leaves n (Ok p) f w =
        either (p.subtype == 2) (cond p.acknowledgement (only (with_near n (acknowledged p.sequence (w.near n)) w)) (hears_request t l n p.sequence (drop 18 f) w)) (only w) w
        (either p.acknowledgement (only (with_near n (acknowledged p.sequence (w.near n)) w)) (hears_request t l n p.sequence (drop 18 f) w) w (record { clock = refl; outside = tt }) (request_leaves n p.sequence (drop 18 f) w))
        (record { clock = refl; outside = tt })

    hears_leaves : (n : ℕ) (f : List ℕ) (w : World) → Leaves w (hears t l n f w)
    unfolding hears
    hears_leaves n f w = by_result (announcement_in f)
      where
        by_result : (r : Result Announce LldpFault) → Leaves w (hears_frame t l n r f w)
        by_result (Ok a) = moves_leaves (announced (decide t l) t n a w.control) w
        by_result (Err fault) = pdu_leaves n (pdu_in f) f w

    from_leaves : (o : Option ℕ) (f : List ℕ) (w : World) → Leaves w (hears_from t l o f w)
    from_leaves None f w = record { clock = refl; outside = tt }
    from_leaves (Some n) f w = hears_leaves n f w

  -- ---- the bridge relays
  -- what goes out as it is does so at an external port
  abbrev IsLocal : SendTo → Type 0
  IsLocal x = x.tag ≡ None → is_external t (x.bridge_port - 1) ≡ true

  in_leaves : (a : Arrival) (vid : ℕ) (x : SendTo) (w : World) → IsLocal x → Leaves w (sends_in t a vid x w)
  in_leaves a vid x w local = by_tag x.tag refl
    where
      by_hung : (o : Option ℕ) (y : LinkFrame) → Leaves w (puts_word x.bridge_port o y w)
      by_hung None y = record { clock = refl; outside = tt }
      by_hung (Some m) y = record { clock = refl; outside = tt }

      by_tag : (o : Option ETag) → x.tag ≡ o → Leaves w (sent_by t a (egress a.bytes x.kind vid) x.bridge_port o w)
      by_tag None e = record { clock = refl; outside = (local e, tt) }
      by_tag (Some tag) e = by_hung (hung_on t (x.bridge_port - 1)) (record { bytes = tagged (egress a.bytes x.kind vid) (tag_of tag); stamp = Some (stamp_of a) })

  all_leaves : (a : Arrival) (xs : List SendTo) (o : Option ℕ) (w : World) → Each IsLocal xs → Leaves w (sends_all t a xs o w)
  all_leaves a xs None w local = record { clock = refl; outside = tt }
  all_leaves a xs (Some vid) w local = leaves_each IsLocal (sends_in t a vid) (in_leaves a vid) xs w local

  taught_clock : (b : Bridge) (a : Arrival) (u : Table) → (taught b a u).clock ≡ u.clock
  taught_clock b a u = by_flag (is_relayed b a.port a.bytes)
    where
      by_group : (v : ℕ) (c : Bool) → (after_any (cond c None (Some (See v (source a.bytes) a.port))) u).clock ≡ u.clock
      by_group v true = refl
      by_group v false = refl

      by_vid : (o : Option ℕ) → (after_any (relay_call a.port a.bytes o) u).clock ≡ u.clock
      by_vid None = refl
      by_vid (Some v) = by_group v (is_group (source a.bytes))

      by_flag : (c : Bool) → (cond c (after_any (relay_call a.port a.bytes (passes b a.port a.bytes)) u) u).clock ≡ u.clock
      by_flag true = by_vid (passes b a.port a.bytes)
      by_flag false = refl

  comes_leaves : (a : Arrival) (w : World) → Each IsLocal (sends_for t w a) → Leaves w (comes t a w)
  comes_leaves a w local =
      let v : World = with_table (taught w.control.bridge a w.table) w in
      let k = all_leaves a (sends_for t w a) (passes w.control.bridge a.port a.bytes) v local in
      record { clock = k.clock ∙ taught_clock w.control.bridge a w.table; outside = k.outside }

  -- whatever comes to the bridge
  abbrev RelaysLocally : World → Type 0
  RelaysLocally w = (a : Arrival) → IsBytes a.bytes → Each IsLocal (sends_for t w a)

  comes_from_leaves : (o : Option ℕ) (s : Option Stamp) (f : List ℕ) (w : World) → IsBytes f → RelaysLocally w → Leaves w (comes_from t o s f w)
  comes_from_leaves None s f w bytes local = record { clock = refl; outside = tt }
  comes_from_leaves (Some p) None f w bytes local = record { clock = refl; outside = tt }
  comes_from_leaves (Some p) (Some s) f w bytes local =
      either (is_external t p) (comes t (arrival_by p s f) w) (only w) w (comes_leaves (arrival_by p s f) w (local (arrival_by p s f) bytes)) (record { clock = refl; outside = tt })

  bridge_leaves : (l : Limits) (q m : ℕ) (x : LinkFrame) (w : World) → IsBytes x.bytes → RelaysLocally w → Leaves w (bridge_takes t l q m x w)
  bridge_leaves l q m x w bytes local =
      either (is_control x) (cond (has_etag_type x.bytes) (hears_from t l (hung_at t (holder_by w q (read_etag x.bytes))) (stripped x.bytes) w) (hears t l m x.bytes w)) (comes_from t (holder_by w q (read_etag x.bytes)) x.stamp (stripped x.bytes) w) w
      (either (has_etag_type x.bytes) (hears_from t l (hung_at t (holder_by w q (read_etag x.bytes))) (stripped x.bytes) w) (hears t l m x.bytes w) w
      (from_leaves l (hung_at t (holder_by w q (read_etag x.bytes))) (stripped x.bytes) w) (hears_leaves l m x.bytes w))
      (comes_from_leaves (holder_by w q (read_etag x.bytes)) x.stamp (stripped x.bytes) w (stripped_bytes x.bytes bytes) local)

  -- ---- extenders send
  -- up, or at one of its ports
  abbrev IsSendable : ℕ → Sent → Type 0
  IsSendable n x = (k : ℕ) → x.side ≡ side.Port k → is_port t (port_of n k) ≡ true

  sends_leaves : (n : ℕ) (stamp : Option Stamp) (x : Sent) (w : World) → IsSendable n x → Leaves w (sends t n stamp x w)
  sends_leaves n stamp x w fits = by_side x.side fits
    where
      by_port : (q : ℕ) (o : Option ℕ) → hung_on t (port_of n q) ≡ o → is_port t (port_of n q) ≡ true → Leaves w (sent_at n q o stamp x.bytes w)
      by_port q (Some m) e there = record { clock = refl; outside = tt }
      by_port q None e there = record { clock = refl; outside = (nobody_hangs t (port_of n q) e there, tt) }

      by_side : (d : Side) → ((k : ℕ) → d ≡ side.Port k → is_port t (port_of n k) ≡ true) → Leaves w (sent_to t n stamp d x.bytes w)
      by_side side.Up all = record { clock = refl; outside = tt }
      by_side (side.Port q) all = by_port q (hung_on t (port_of n q)) refl (all q refl)

  does_leaves : (n : ℕ) (stamp : Option Stamp) (r : Reaction) (w : World) → Each (IsSendable n) r.1 → Leaves w (does t n stamp r w)
  does_leaves n stamp r w fits = (let k = leaves_each (IsSendable n) (sends t n stamp) (sends_leaves n stamp) r.1 (with_far n r.0 w) fits in record { clock = k.clock; outside = k.outside })

  up_sendable : (n : ℕ) (xs : List Sent) → AllUp xs → Each (IsSendable n) xs
  up_sendable n xs all = each_weaker (λ (x : Sent). x.side ≡ side.Up) (IsSendable n) xs (λ x e k z. absurd (up_port (sym e ∙ z))) all
    where
      up_port : {k : ℕ} → side.Up ≡ side.Port k → ⊥
      up_port z = cc

  port_sendable : (n ports : ℕ) (xs : List Sent) → ports ≤ 64 → ports ≡ slice_index t.ports n → Each (IsAtPort ports) xs → Each (IsSendable n) xs
  port_sendable n ports xs few is all = each_weaker (IsAtPort ports) (IsSendable n) xs (λ x at k z. there k (subst (λ (q : ℕ). (0 < q) × (q ≤ ports)) (same_port (sym at.at ∙ z)) (at.low, at.high))) all
    where
      same_port : {i q : ℕ} → side.Port i ≡ side.Port q → i ≡ q
      same_port z = cc

      there : (k : ℕ) → (0 < k) × (k ≤ ports) → is_port t (port_of n k) ≡ true
      there k both =
          let low = both.0 in
          let high = both.1 in
          let home : device (port_of n k) ≡ n = omega (arith, low, high, few) in
          let small : port_of n k % 64 < slice_index t.ports n = omega (arith, low, high, few, is) in
          lt-ltb (port_of n k % 64) (slice_index t.ports (device (port_of n k))) (subst (λ (m : ℕ). port_of n k % 64 < slice_index t.ports m) (sym home) small)

  above_leaves : (n : ℕ) (x : LinkFrame) (w : World) → IsExtender (w.far n) → IsDevice t n (w.far n) → Leaves w (takes_from_above t n x w)
  above_leaves n x w is device = does_leaves n x.stamp (react (Arrives side.Up x.bytes) (w.far n)) w (by_bare (is_bare_control x.bytes))
    where
      by_bare : (b : Bool) → Each (IsSendable n) (cond b (far_hears x.bytes (w.far n)) (w.far n, emitted (w.far n).tables side.Up x.bytes)).1
      by_bare true = up_sendable n (far_hears x.bytes (w.far n)).1 (hears_up x.bytes (w.far n))
      by_bare false = port_sendable n (w.far n).tables.ports (emitted (w.far n).tables side.Up x.bytes) is.ports.1 device.ports (from_above (w.far n).tables x.bytes)

  below_leaves : (n q : ℕ) (x : LinkFrame) (w : World) → Leaves w (takes_from_below t n q x w)
  below_leaves n q x w =
      either ((w.far n).tables.cascade q) (reacts t n x.stamp (Arrives (side.Port q) x.bytes) w) (only w) w
      (does_leaves n x.stamp (react (Arrives (side.Port q) x.bytes) (w.far n)) w (up_sendable n (emitted (w.far n).tables (side.Port q) x.bytes) (from_port_up (w.far n).tables q x.bytes))) (record { clock = refl; outside = tt })

  arrives_leaves : (a : Arrival) (w : World) → Leaves w (arrives_at t a w)
  arrives_leaves a w =
      let n : ℕ = device a.port in
      let q : ℕ = port_number a.port in
      either ((w.far n).tables.cascade q) (ignored a w) (does_or_ignores t a (react (Arrives (side.Port q) a.bytes) (w.far n)) w) w (record { clock = refl; outside = tt })
      (by_sent (react (Arrives (side.Port q) a.bytes) (w.far n)) (up_sendable n (emitted (w.far n).tables (side.Port q) a.bytes) (from_port_up (w.far n).tables q a.bytes)))
    where
      by_sent : (r : Reaction) → Each (IsSendable (device a.port)) r.1 → Leaves w (does_or_ignores t a r w)
      by_sent (s, []) fits = record { clock = refl; outside = tt }
      by_sent (s, x ∷ xs) fits = does_leaves (device a.port) (Some (stamp_of a)) (s, x ∷ xs) w fits

  -- ---- beats
  beats_up : (s : ExtenderState) → AllUp (react Beats s).1
  unfolding far_beats
  beats_up s = each_append (λ (x : Sent). x.side ≡ side.Up) (announces (next_count s.beats) s) (far_again (beat_of s.ecp.sending) s.number s.ecp.sending) (by_flag (not s.opened && (next_count s.beats == 1))) (by_due (beat_of s.ecp.sending) s.ecp.sending)
    where
      by_flag : (b : Bool) → AllUp (cond b (up (announcement_frame s.number s.tables.ports) ∷ []) [])
      by_flag true = (refl, tt)
      by_flag false = tt

      by_due : (d : Due) (o : Option Sending) → AllUp (far_again d s.number o)
      by_due due.SendAgain (Some x) = (refl, tt)
      by_due due.SendAgain None = tt
      by_due due.Nothing o = tt
      by_due due.GaveUp o = tt

  there_leaves : (f : ℕ → World → Effect) → ((n : ℕ) (v : World) → Leaves v (f n v)) → (ns : List ℕ) (w : World) → Leaves w (each (if_there t f) ns w)
  there_leaves f all ns w = leaves_each (λ (n : ℕ). Unit {0}) (if_there t f) (λ n v fits. either (is_extender t n) (f n v) (only v) v (all n v) (record { clock = refl; outside = tt })) ns w (any ns)

  beat_leaves : (w : World) → Leaves w (beats_all t w)
  unfolding beats_all
  beat_leaves w =
      let w0 : World = record w { beats = next_beat w.beats } in
      let nears : Effect = each (if_there t (beats_near t)) all_extenders w0 in
      let first : Leaves w0 nears = there_leaves (beats_near t) near_leaves all_extenders w0 in
      let k = leaves_then w0 (then_do nears (beats_control t)) (each (if_there t (λ n. reacts t n None Beats)) all_extenders) (leaves_then w0 nears (beats_control t) first (moves_leaves (beats nears.world.control) nears.world))
      (there_leaves (λ n. reacts t n None Beats) (λ n v. does_leaves n None (react Beats (v.far n)) v (up_sendable n (react Beats (v.far n)).1 (beats_up (v.far n)))) all_extenders (then_do nears (beats_control t)).world) in
      record { clock = k.clock; outside = k.outside }

-- ---- a step
abbrev pub total : List ℕ → ℕ
total seconds = sum_by (λ (n : ℕ). n) seconds

-- these seconds pass, and what leaves does so at external ports
pub record Passes (t : Shape) (w v : World) (seconds : List ℕ) (left : List Left) : Type 0 where
  pub clock : v.table.clock ≡ w.table.clock + total seconds
  pub outside : Each (IsOutside t) left

module _ (t : Shape) (l : Limits) (tree : IsTree t) (words : SendsAreWords) (w : World) (going : IsGoing t l w) (bytes : AreBytes w) (pvids : HasPvids w.control.bridge) where
  -- what the bridge sends as it is goes to external ports
  relays_locally : RelaysLocally t w
  relays_locally a bytes = by_relayed (is_relayed w.control.bridge a.port a.bytes) refl
    where
      one_local : (x : SendTo) → IsAt t w.control.bridge (numbers_in w.control.held) a.port a.bytes x → IsLocal t x
      one_local x at none =
          let sent : IsSent t w.control.bridge (numbers_in w.control.held) a.port a.bytes at.port None = subst (IsSent t w.control.bridge (numbers_in w.control.held) a.port a.bytes at.port) none at.sent in
          let same : x.bridge_port - 1 ≡ at.port = (let e = at.at in omega (arith, e)) in
          subst (λ (p : ℕ). is_external t p ≡ true) (sym same) sent

      each_local : (xs : List SendTo) → All (IsAt t w.control.bridge (numbers_in w.control.held) a.port a.bytes) xs → Each (IsLocal t) xs
      each_local [] all = tt
      each_local (x ∷ xs) all = (one_local x (all 0 x (omega arith)), each_local xs (λ k d h. all (suc k) d (omega (arith, h))))

      by_relayed : (c : Bool) → is_relayed w.control.bridge a.port a.bytes ≡ c → Each (IsLocal t) (cond c (sends_of t w.control.bridge (look_in w.table) (numbers_in w.control.held) a.port a.bytes) [])
      by_relayed true e =
          let r = ready_midway t (system_of w) tree (forget t l (system_of w) going.sound.stands) in
          let n = held_are_numbers w.control.held in
          each_local (sends_of t w.control.bridge (look_in w.table) (numbers_in w.control.held) a.port a.bytes)
          (words t w.control.bridge (look_in w.table) (numbers_in w.control.held) a.port a.bytes tree
          (record { external = r.external; groups = r.groups; channels = r.channels }) (record { some = n.some; small = n.small; alone = n.alone; high = n.high; fits = n.fits }) pvids bytes
          (and_parts (w.control.bridge.present a.port) (is_relayed_kind (kind_of a.bytes)) e).0)
      by_relayed false e = tt

  -- without a second
  at_once : (e : Effect) → Leaves t w e → Passes t w e.world [] e.left
  at_once e k = (let c = k.clock in record { clock = omega (arith, c); outside = k.outside })

  taken_leaves : (n : ℕ) (way : Way) (o : Option LinkFrame) (rest : List LinkFrame) → is_extender t n ≡ true → ((x : LinkFrame) → o ≡ Some x → IsBytes x.bytes) → Leaves t w (takes_any t l n way o rest w)
  taken_leaves n way None rest there read = record { clock = refl; outside = tt }
  taken_leaves n Down (Some x) rest there read =
      let k = above_leaves t n x (with_words n Down rest w) (going.sound.fits.ends.extenders n there) (going.devices n there) in
      record { clock = k.clock; outside = k.outside }
  taken_leaves n Up (Some x) rest there read =
      let v : World = with_words n Up rest w in
      let k = either t (nat_lt (on t n) 64) (bridge_takes t l (on t n) n x v) (takes_from_below t (device (on t n)) (port_number (on t n)) x v) v
      (bridge_leaves t l (on t n) n x v (read x refl) relays_locally) (below_leaves t (device (on t n)) (port_number (on t n)) x v) in
      record { clock = k.clock; outside = k.outside }

  words_read : (n : ℕ) (way : Way) → Each (λ (x : LinkFrame). IsBytes x.bytes) (words_on n way w)
  words_read n Up = bytes.ups n
  words_read n Down = bytes.downs n

  one_read : (test : LinkFrame → Bool) (n : ℕ) (way : Way) (k : ℕ) (x : LinkFrame) → slice_get (filter test (words_on n way w)) k ≡ Some x → IsBytes x.bytes
  one_read test n way k x e =
      each_get (λ (y : LinkFrame). IsBytes y.bytes) (filter test (words_on n way w)) k x (each_filter (λ (y : LinkFrame). IsBytes y.bytes) test (words_on n way w) (words_read n way)) e

  pub step_passes : (step : Step) → Can t w step → HasBytes step → Passes t w (stepped t l step w).world (seconds_by step) (stepped t l step w).left
  unfolding stepped
  step_passes (Arrive a) can has =
      let v : World = counted a w in
      let k = either t (nat_lt a.port 64) (comes t a v) (arrives_at t a v) v (comes_leaves t a v (relays_locally a has)) (arrives_leaves t a v) in
      at_once (done_by t l (Arrive a) w) (record { clock = k.clock; outside = k.outside })
  step_passes (Carry n way) can has = at_once (done_by t l (Carry n way) w) (taken_leaves n way (first_data (words_on n way w)) (without_data (words_on n way w)) can.0 (one_read is_data n way 0))
  step_passes (Control n way k keep) can has = at_once (done_by t l (Control n way k keep) w) (taken_leaves n way (control_at (words_on n way w) k) (rest_of keep (words_on n way w) k) can.0 (one_read is_control n way k))
  step_passes (Lose n Up k) can has = at_once (done_by t l (Lose n Up k) w) (record { clock = refl; outside = tt })
  step_passes (Lose n Down k) can has = at_once (done_by t l (Lose n Down k) w) (record { clock = refl; outside = tt })
  step_passes Beat can has = at_once (done_by t l Beat w) (beat_leaves t w)
  step_passes (Tick seconds) can has = record { clock = omega arith; outside = tt }
  step_passes (Order c) can has = at_once (done_by t l (Order c) w) (moves_leaves t (ordered (decide t l) c w.control) w)
  step_passes Mark can has = at_once (done_by t l Mark w) (record { clock = refl; outside = tt })
