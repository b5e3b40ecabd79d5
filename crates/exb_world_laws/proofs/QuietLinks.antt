-- What puts no data word on an upward link and takes none from there, and what awaits the same records.
use Rattle.std.proofs.Common.{◌≡◌, ℕ, ◌-◌, ◌==◌, ◌++◌, nat_lt, Bool, true, false, cond, List, [], ◌∷◌, drop, Option, Some, None, Ok, Err, refl, ◌∙◌, ap, inl, inr}
use Rattle.std.specs.Prelude.{Result}
use Rattle.std.proofs.lemmas.Bool.{cases_Bool}
use Rattle.std.proofs.lemmas.List.{append-nil}
use Rattle.exb_model.specs.Tree.{Shape, on, device, trunk, is_extender, is_external, port_number}
use Rattle.exb_model.specs.Setup.{Limits}
use Rattle.exb_model.specs.Frames.{egress}
use Rattle.exb_model.specs.ETags.{read_etag, tagged, stripped}
use Rattle.exb_model.specs.Learning.{passes}
use Rattle.exb_model.specs.declared.arrival.Arrival.{Arrival}
use Rattle.exb_frame.specs.TagValues.{tag_of}
use Rattle.exb_frame.specs.declared.etag.ETag.{ETag}
use Rattle.exb_lldp.specs.declared.announce.Announce.{Announce}
use Rattle.exb_lldp.specs.declared.announce.LldpFault.{LldpFault}
use Rattle.exb_lldp.specs.Announcements.{announced as announcement_in}
use Rattle.exb_ecp.specs.declared.pdu.Pdu.{Pdu}
use Rattle.exb_ecp.specs.declared.pdu.EcpFault.{EcpFault}
use Rattle.exb_ecp.specs.declared.stop_and_wait.Beat.{Beat as Due}
use Rattle.exb_ecp.specs.declared.stop_and_wait.Beat.TheVariants as due
use Rattle.exb_ecp.specs.Frames.{pdu_in}
use Rattle.exb_ecp.specs.StopAndWait.{Sending, submitted, stopped, acknowledged, is_fresh, beaten, beat_of}
use Rattle.exb_ecp.specs.StopAndWait.{heard as received}
use Rattle.exb_csp.specs.declared.fault.CspFault.{CspFault}
use Rattle.exb_csp.specs.declared.message.Message.{Message}
use Rattle.exb_csp.specs.Decoding.{read_message}
use Rattle.exb_csp.specs.Encoding.{message_bytes}
use Rattle.exb_csp.specs.declared.session.asker.Taken.{Taken}
use Rattle.exb_csp.specs.declared.session.asker.Taken.TheVariants as taken
use Rattle.exb_csp.specs.Sessions.AskingEnd.{took}
use Rattle.exb_extender.specs.declared.sends.Side.{Side}
use Rattle.exb_extender.specs.declared.sends.Side.TheVariants as side
use Rattle.exb_csp.specs.AllTables.{port_of}
use Rattle.exb_extender.specs.Forwarding.{Sent, channel_tag, has_etag_type, is_bare_control, emitted}
use Rattle.exb_extender.specs.Machine.{Reaction, Arrives, Beats, react}
use Rattle.exb_extender.specs.Machine.{hears as far_hears}
use Rattle.exb_link.specs.declared.link_frame.Stamp.{Stamp}
use Rattle.exb_link.specs.declared.link_frame.LinkFrame.{LinkFrame}
use Rattle.exb_link.specs.LinkFrames.{is_control, without_control}
use Rattle.exb_relay.specs.declared.send.SendTo.{SendTo}
use Rattle.exb_control_spec.specs.declared.extender_message.Asked.{Asked}
use Rattle.exb_control_spec.specs.Decisions.{decide}
use Rattle.exb_control_spec.specs.Machine.{Moved, answered, beats}
use Rattle.exb_world_spec.specs.Worlds.{World, control_word, push_down, push_up, with_near, with_far, with_control, with_table, next_beat}
use Rattle.exb_world_spec.specs.Effects.{Effect, only, each}
use Rattle.exb_world_spec.specs.ExtenderSteps.{hung_on, stamp_of, sent_at, sent_to, sends, does, reacts, takes_from_above, takes_from_below}
use Rattle.exb_world_spec.specs.BridgeLearning.{channel_at_trunk, forgotten_all, taught, announced}
use Rattle.exb_world_spec.specs.ControlFrames.{bridge_request, bridge_acknowledgement, puts_tagged, to_extender, asks, moves, stops, hears_message, hears_fresh, hears_request, hears_pdu, hears_frame, hears, sends_again, beats_near, beats_control}
use Rattle.exb_world_spec.specs.DataFrames.{puts_word, sent_by, sends_in, sends_all, sends_for, comes, arrival_by, comes_from, holder_by, hung_at, hears_from, bridge_takes}
use Rattle.exb_world_spec.specs.Steps.{takes_up, if_there, all_extenders, beats_all}
use Rattle.exb_world_spec.specs.Runs.Sessions.{Each}
use Rattle.exb_world_spec.proofs.Stamps.{IsControl, hears_control, reacts_control, beats_sent}
use Rattle.exb_world_spec.proofs.DownwardSides.{down_sides}
use Rattle.exb_world_spec.proofs.LinkFrames.{at_same}
use Rattle.exb_flight.specs.Items.{Word as Datum}
use Rattle.exb_flight.specs.Tokens.{datum, data_words}

-- ---- data words of lists
pub data_append : (xs ys : List LinkFrame) → data_words (xs ++ ys) ≡ data_words xs ++ data_words ys
data_append [] ys = refl
data_append (x ∷ xs) ys =
    elim (cases_Bool (is_control x)) [
      | inl e ↦ rw e (data_append xs ys)
      | inr e ↦ rw e (ap (λ (fs : List Datum). datum x ∷ fs) (data_append xs ys))
    ]

pub data_one : (x : LinkFrame) → is_control x ≡ false → data_words (x ∷ []) ≡ datum x ∷ []
data_one x e = rw e refl

pub data_none : (x : LinkFrame) → is_control x ≡ true → data_words (x ∷ []) ≡ []
data_none x e = rw e refl

-- a control word more, or one less
pub data_more : (ws : List LinkFrame) (x : LinkFrame) → is_control x ≡ true → data_words (ws ++ x ∷ []) ≡ data_words ws
data_more ws x e = data_append ws (x ∷ []) ∙ (ap (λ (fs : List Datum). data_words ws ++ fs) (data_none x e) ∙ append-nil (data_words ws))

pub data_less : (ws : List LinkFrame) (k : ℕ) → data_words (without_control ws k) ≡ data_words ws
data_less [] k = refl
data_less (x ∷ xs) k =
    elim (cases_Bool (is_control x)) [
      | inl e ↦ elim (cases_Bool (k == 0)) [
        | inl z ↦ rw (e, z) refl
        | inr z ↦ rw (e, z, e) (data_less xs (k - 1))
      ]
      | inr e ↦ rw (e, e) (ap (λ (fs : List Datum). datum x ∷ fs) (data_less xs k))
    ]

each_any : {A : Type 0} (xs : List A) → Each (λ x. Unit {0}) xs
each_any [] = tt
each_any (x ∷ xs) = (tt, each_any xs)

-- These are the data words on the upward links, and the indices of the records that are awaited.
pub record Has (words : ℕ → List Datum) (next : ℕ → ℕ) (w : World) : Type 0 where
  pub ups : (n : ℕ) → data_words (w.up n) ≡ words n
  pub awaits : (p : ℕ) → w.next p ≡ next p

module _ (words : ℕ → List Datum) (next : ℕ → ℕ) where
  pushed_down : (m : ℕ) (x : LinkFrame) (w : World) → Has words next w → Has words next (push_down m x w)
  pushed_down m x w k = record { ups = k.ups; awaits = k.awaits }

  pushed_up : (m : ℕ) (x : LinkFrame) (w : World) → is_control x ≡ true → Has words next w → Has words next (push_up m x w)
  pushed_up m x w e k =
      record {
        ups = at_same (λ n ws. data_words ws ≡ words n) m (w.up m ++ x ∷ []) w.up (data_more (w.up m) x e ∙ k.ups m) k.ups;
        awaits = k.awaits;
      }

  each_has : {A : Type 0} (P : A → Type 0) (f : A → World → Effect) → ((x : A) (v : World) → P x → Has words next v → Has words next (f x v).world) → (xs : List A) (w : World) → Each P xs → Has words next w → Has words next (each f xs w).world
  each_has P f all [] w fits k = k
  each_has P f all (x ∷ xs) w fits k = each_has P f all xs (f x w).world fits.1 (all x w fits.0 k)

  -- ---- extenders
  port_sent : (t : Shape) (n q : ℕ) (o : Option ℕ) (stamp : Option Stamp) (bytes : List ℕ) (w : World) → Has words next w → Has words next (sent_at n q o stamp bytes w).world
  port_sent t n q (Some m) stamp bytes w k = pushed_down m (record { bytes = bytes; stamp = stamp }) w k
  port_sent t n q None stamp bytes w k = k

  control_sent : (t : Shape) (n : ℕ) (stamp : Option Stamp) (x : Sent) (w : World) → IsControl x → Has words next w → Has words next (sends t n stamp x w).world
  control_sent t n stamp x w is k = by_side x.side
    where
      by_side : (d : Side) → Has words next (sent_to t n stamp d x.bytes w).world
      by_side side.Up = pushed_up n (record { bytes = x.bytes; stamp = stamp }) w is k
      by_side (side.Port q) = port_sent t n q (hung_on t (port_of n q)) stamp x.bytes w k

  down_sent : (t : Shape) (n : ℕ) (stamp : Option Stamp) (x : Sent) (w : World) → (x.side ≡ side.Up → ⊥) → Has words next w → Has words next (sends t n stamp x w).world
  down_sent t n stamp x w not_up k = by_side x.side not_up
    where
      by_side : (d : Side) → (d ≡ side.Up → ⊥) → Has words next (sent_to t n stamp d x.bytes w).world
      by_side side.Up never = absurd (never refl)
      by_side (side.Port q) never = port_sent t n q (hung_on t (port_of n q)) stamp x.bytes w k

  control_done : (t : Shape) (n : ℕ) (stamp : Option Stamp) (r : Reaction) (w : World) → Each IsControl r.1 → Has words next w → Has words next (does t n stamp r w).world
  control_done t n stamp r w fits k = each_has IsControl (sends t n stamp) (control_sent t n stamp) r.1 (with_far n r.0 w) fits (record { ups = k.ups; awaits = k.awaits })

  down_done : (t : Shape) (n : ℕ) (stamp : Option Stamp) (r : Reaction) (w : World) → Each (λ (y : Sent). y.side ≡ side.Up → ⊥) r.1 → Has words next w → Has words next (does t n stamp r w).world
  down_done t n stamp r w fits k = each_has (λ (y : Sent). y.side ≡ side.Up → ⊥) (sends t n stamp) (down_sent t n stamp) r.1 (with_far n r.0 w) fits (record { ups = k.ups; awaits = k.awaits })

  -- whatever comes from above
  pub above_has : (t : Shape) (n : ℕ) (x : LinkFrame) (w : World) → Has words next w → Has words next (takes_from_above t n x w).world
  above_has t n x w k = by_bare (is_bare_control x.bytes)
    where
      by_bare : (b : Bool) → Has words next (does t n x.stamp (cond b (far_hears x.bytes (w.far n)) (w.far n, emitted (w.far n).tables side.Up x.bytes)) w).world
      by_bare true = control_done t n x.stamp (far_hears x.bytes (w.far n)) w (hears_control x.bytes (w.far n)) k
      by_bare false = down_done t n x.stamp (w.far n, emitted (w.far n).tables side.Up x.bytes) w (down_sides (w.far n).tables x.bytes) k

  -- a control word from below
  below_has : (t : Shape) (n q : ℕ) (x : LinkFrame) (w : World) → is_control x ≡ true → Has words next w → Has words next (takes_from_below t n q x w).world
  below_has t n q x w e k = by_flag ((w.far n).tables.cascade q)
    where
      by_flag : (b : Bool) → Has words next (cond b (reacts t n x.stamp (Arrives (side.Port q) x.bytes) w) (only w)).world
      by_flag true = control_done t n x.stamp (react (Arrives (side.Port q) x.bytes) (w.far n)) w (reacts_control (side.Port q) x.bytes (w.far n) e) k
      by_flag false = k

  module _ (t : Shape) (l : Limits) where
    -- ---- the bridge
    to_has : (n : ℕ) (f : List ℕ) (w : World) → Has words next w → Has words next (to_extender t n f w).world
    to_has n f w k =
        elim (cases_Bool (nat_lt (on t n) 64)) [
          | inl e ↦ rw e (pushed_down n (control_word f) w k)
          | inr e ↦ rw e (by_options (hung_on t (trunk t n)) (channel_at_trunk t w.control.held (on t n)))
        ]
      where
        by_options : (o c : Option ℕ) → Has words next (puts_tagged (trunk t n) o c f w).world
        by_options (Some m) (Some channel) = pushed_down m (control_word (tagged f (channel_tag channel))) w k
        by_options (Some m) None = k
        by_options None c = k

    asks_has : (x : Asked) (w : World) → Has words next w → Has words next (asks t x w).world
    asks_has x w k =
        let n : ℕ = x.extender in
        let v : World = with_near n (submitted (message_bytes x.message) (stopped (w.near n))) w in
        to_has n (bridge_request (w.near n).next (message_bytes x.message)) v (record { ups = k.ups; awaits = k.awaits })

    pub moves_has : (m : Moved) (w : World) → Has words next w → Has words next (moves t m w).world
    moves_has m w k =
        each_has (λ x. Unit {0}) (asks t) (λ x v fits its. asks_has x v its) m.asks (with_table (forgotten_all m.downs w.table) (with_control m.state w)) (each_any m.asks) (record { ups = k.ups; awaits = k.awaits })

    stops_has : (z : Taken) (n : ℕ) (w : World) → Has words next w → Has words next (stops z n w)
    stops_has (taken.Answer response) n w k = record { ups = k.ups; awaits = k.awaits }
    stops_has taken.Stale n w k = k
    stops_has taken.NotOurs n w k = k

    message_has : (n : ℕ) (r : Result Message CspFault) (w : World) → Has words next w → Has words next (hears_message t l n r w).world
    message_has n (Err fault) w k = k
    message_has n (Ok m) w k = moves_has (answered (decide t l) n m w.control) (stops (took (w.control.askers n) m).1 n w) (stops_has (took (w.control.askers n) m).1 n w k)

    fresh_has : (n : ℕ) (fresh : Bool) (sequence : ℕ) (payload : List ℕ) (w : World) → Has words next w → Has words next (hears_fresh t l n fresh sequence payload w).world
    fresh_has n true sequence payload w k = message_has n (read_message payload) (with_near n (received sequence (w.near n)) w) (record { ups = k.ups; awaits = k.awaits })
    fresh_has n false sequence payload w k = k

    request_has : (n sequence : ℕ) (payload : List ℕ) (w : World) → Has words next w → Has words next (hears_request t l n sequence payload w).world
    request_has n sequence payload w k =
        let v : World = (to_extender t n (bridge_acknowledgement sequence) w).world in
        fresh_has n (is_fresh sequence (v.near n)) sequence payload v (to_has n (bridge_acknowledgement sequence) w k)

    pdu_has : (n : ℕ) (r : Result Pdu EcpFault) (f : List ℕ) (w : World) → Has words next w → Has words next (hears_pdu t l n r f w).world
    pdu_has n (Err fault) f w k = k
    pdu_has n (Ok p) f w k = by_flags (p.subtype == 2) p.acknowledgement
      where
        by_flags : (a b : Bool) → Has words next (cond a (cond b (only (with_near n (acknowledged p.sequence (w.near n)) w)) (hears_request t l n p.sequence (drop 18 f) w)) (only w)).world
        by_flags true true = record { ups = k.ups; awaits = k.awaits }
        by_flags true false = request_has n p.sequence (drop 18 f) w k
        by_flags false b = k

    hears_has : (n : ℕ) (f : List ℕ) (w : World) → Has words next w → Has words next (hears t l n f w).world
    unfolding hears
    hears_has n f w k = by_result (announcement_in f)
      where
        by_result : (r : Result Announce LldpFault) → Has words next (hears_frame t l n r f w).world
        by_result (Ok a) = moves_has (announced (decide t l) t n a w.control) w k
        by_result (Err fault) = pdu_has n (pdu_in f) f w k

    from_has : (o : Option ℕ) (f : List ℕ) (w : World) → Has words next w → Has words next (hears_from t l o f w).world
    from_has None f w k = k
    from_has (Some n) f w k = hears_has n f w k

    in_has : (a : Arrival) (vid : ℕ) (x : SendTo) (w : World) → Has words next w → Has words next (sends_in t a vid x w).world
    in_has a vid x w k = by_tag x.tag
      where
        by_hung : (o : Option ℕ) (y : LinkFrame) → Has words next (puts_word x.bridge_port o y w).world
        by_hung None y = k
        by_hung (Some m) y = pushed_down m y w k

        by_tag : (o : Option ETag) → Has words next (sent_by t a (egress a.bytes x.kind vid) x.bridge_port o w).world
        by_tag None = k
        by_tag (Some tag) = by_hung (hung_on t (x.bridge_port - 1)) (record { bytes = tagged (egress a.bytes x.kind vid) (tag_of tag); stamp = Some (stamp_of a) })

    all_has : (a : Arrival) (xs : List SendTo) (o : Option ℕ) (w : World) → Has words next w → Has words next (sends_all t a xs o w).world
    all_has a xs None w k = k
    all_has a xs (Some vid) w k = each_has (λ x. Unit {0}) (sends_in t a vid) (λ x v fits its. in_has a vid x v its) xs w (each_any xs) k

    pub comes_has : (a : Arrival) (w : World) → Has words next w → Has words next (comes t a w).world
    comes_has a w k = all_has a (sends_for t w a) (passes w.control.bridge a.port a.bytes) (with_table (taught w.control.bridge a w.table) w) (record { ups = k.ups; awaits = k.awaits })

    pub comes_from_has : (o : Option ℕ) (s : Option Stamp) (f : List ℕ) (w : World) → Has words next w → Has words next (comes_from t o s f w).world
    comes_from_has None s f w k = k
    comes_from_has (Some p) None f w k = k
    comes_from_has (Some p) (Some s) f w k = by_flag (is_external t p)
      where
        by_flag : (b : Bool) → Has words next (cond b (comes t (arrival_by p s f) w) (only w)).world
        by_flag true = comes_has (arrival_by p s f) w k
        by_flag false = k

    pub bridge_has : (q m : ℕ) (x : LinkFrame) (w : World) → Has words next w → Has words next (bridge_takes t l q m x w).world
    bridge_has q m x w k = by_flags (is_control x) (has_etag_type x.bytes)
      where
        by_flags : (a b : Bool) → Has words next (cond a (cond b (hears_from t l (hung_at t (holder_by w q (read_etag x.bytes))) (stripped x.bytes) w) (hears t l m x.bytes w)) (comes_from t (holder_by w q (read_etag x.bytes)) x.stamp (stripped x.bytes) w)).world
        by_flags true true = from_has (hung_at t (holder_by w q (read_etag x.bytes))) (stripped x.bytes) w k
        by_flags true false = hears_has m x.bytes w k
        by_flags false b = comes_from_has (holder_by w q (read_etag x.bytes)) x.stamp (stripped x.bytes) w k

    -- ---- control words, wherever they come
    pub control_has : (n : ℕ) (x : LinkFrame) (w : World) → is_control x ≡ true → Has words next w → Has words next (takes_up t l n x w).world
    control_has n x w e k = by_flag (nat_lt (on t n) 64)
      where
        by_flag : (b : Bool) → Has words next (cond b (bridge_takes t l (on t n) n x w) (takes_from_below t (device (on t n)) (port_number (on t n)) x w)).world
        by_flag true = bridge_has (on t n) n x w k
        by_flag false = below_has t (device (on t n)) (port_number (on t n)) x w e k

    -- ---- a beat
    there_has : (f : ℕ → World → Effect) → ((n : ℕ) (v : World) → Has words next v → Has words next (f n v).world) → (ns : List ℕ) (w : World) → Has words next w → Has words next (each (if_there t f) ns w).world
    there_has f all ns w k = each_has (λ n. Unit {0}) (if_there t f) (λ n v fits its. by_flag (is_extender t n) n v its) ns w (each_any ns) k
      where
        by_flag : (b : Bool) (n : ℕ) (v : World) → Has words next v → Has words next (cond b (f n v) (only v)).world
        by_flag true n v its = all n v its
        by_flag false n v its = its

    near_has : (n : ℕ) (w : World) → Has words next w → Has words next (beats_near t n w).world
    near_has n w k = by_due (beat_of (w.near n).sending) (w.near n).sending
      where
        by_due : (d : Due) (o : Option Sending) → Has words next (sends_again t n d o (with_near n (beaten (w.near n)) w)).world
        by_due due.SendAgain (Some x) = to_has n (bridge_request x.sequence x.payload) (with_near n (beaten (w.near n)) w) (record { ups = k.ups; awaits = k.awaits })
        by_due due.SendAgain None = record { ups = k.ups; awaits = k.awaits }
        by_due due.Nothing o = record { ups = k.ups; awaits = k.awaits }
        by_due due.GaveUp o = record { ups = k.ups; awaits = k.awaits }

    far_has : (n : ℕ) (w : World) → Has words next w → Has words next (reacts t n None Beats w).world
    far_has n w k = control_done t n None (react Beats (w.far n)) w (beats_sent (w.far n)) k

    pub beat_has : (w : World) → Has words next w → Has words next (beats_all t w).world
    unfolding beats_all
    beat_has w k =
        let w0 : World = record w { beats = next_beat w.beats } in
        let v1 : World = (each (if_there t (beats_near t)) all_extenders w0).world in
        let v2 : World = (beats_control t v1).world in
        there_has (λ n. reacts t n None Beats) far_has all_extenders v2
        (moves_has (beats v1.control) v1 (there_has (beats_near t) near_has all_extenders w0 (record { ups = k.ups; awaits = k.awaits })))
