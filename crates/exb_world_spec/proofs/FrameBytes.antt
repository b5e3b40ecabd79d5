-- Each step keeps that words are bytes and short.
use Rattle.std.proofs.Common.{◌≡◌, ℕ, suc, ◌-◌, ◌<◌, ◌≤◌, ◌==◌, ◌++◌, nat_lt, Bool, true, false, cond, List, [], ◌∷◌, length, drop, Option, Some, None, Ok, Err, filter, refl, sym, subst, arith, inl, inr}
use Rattle.std.specs.Prelude.{Result, All}
use Rattle.std.proofs.lemmas.Bool.{cases_Bool, cases_lt, and_parts, lt-ltb, le-ltb}
use Rattle.exb_model.specs.Tree.{Shape, IsTree, on, device, trunk, is_extender, is_external, port_number}
use Rattle.exb_model.specs.Setup.{Limits}
use Rattle.exb_model.specs.Frames.{kind_of, egress, IsBytes}
use Rattle.exb_model.specs.ETags.{read_etag, tagged, stripped}
use Rattle.exb_model.specs.Learning.{passes}
use Rattle.exb_model.specs.declared.arrival.Arrival.{Arrival}
use Rattle.exb_model.specs.EagerHistory.{is_relayed, is_relayed_kind}
use Rattle.exb_config.specs.Pvids.{HasPvids}
use Rattle.exb_frame.specs.TagValues.{TagRoundTrip, tag_of}
use Rattle.exb_frame.specs.declared.etag.ETag.{ETag}
use Rattle.exb_lldp.specs.declared.announce.Announce.{Announce}
use Rattle.exb_lldp.specs.declared.announce.LldpFault.{LldpFault}
use Rattle.exb_lldp.specs.Announcements.{announced as announcement_in}
use Rattle.exb_ecp.specs.declared.pdu.Pdu.{Pdu}
use Rattle.exb_ecp.specs.declared.pdu.EcpFault.{EcpFault}
use Rattle.exb_ecp.specs.declared.stop_and_wait.Beat.{Beat as Due}
use Rattle.exb_ecp.specs.declared.stop_and_wait.Beat.TheVariants as due
use Rattle.exb_ecp.specs.Calls.{Submit, Stop, Acked, Received}
use Rattle.exb_ecp.specs.Calls.{Beat as BeatCall}
use Rattle.exb_ecp.specs.Frames.{pdu_in, spelling}
use Rattle.exb_ecp.specs.StopAndWait.{Sending, State as Ecp, submitted, stopped, acknowledged, is_fresh, beaten, beat_of, IsSound as IsSoundEnd}
use Rattle.exb_ecp.specs.StopAndWait.{heard as received}
use Rattle.exb_ecp.proofs.Soundness.{keeps_sound}
use Rattle.exb_csp.specs.declared.fault.CspFault.{CspFault}
use Rattle.exb_csp.specs.declared.message.Message.{Message}
use Rattle.exb_csp.specs.Decoding.{read_message}
use Rattle.exb_csp.specs.Encoding.{message_bytes}
use Rattle.exb_csp.specs.AllTables.{port_of}
use Rattle.exb_csp.specs.declared.session.asker.Taken.{Taken}
use Rattle.exb_csp.specs.declared.session.asker.Taken.TheVariants as taken
use Rattle.exb_csp.specs.Sessions.AskingEnd.{took}
use Rattle.exb_extender.specs.declared.sends.Side.{Side}
use Rattle.exb_extender.specs.declared.sends.Side.TheVariants as side
use Rattle.exb_extender.specs.Forwarding.{Sent, channel_tag, has_etag_type, is_bare_control, emitted}
use Rattle.exb_extender.specs.Machine.{ExtenderState, control_pdu, IsExtender, Reaction, Arrives, Beats, react}
use Rattle.exb_extender.specs.Machine.{hears as far_hears}
use Rattle.exb_extender.proofs.InvariantLemmas.{stays_extender}
use Rattle.exb_link.specs.declared.link_frame.Stamp.{Stamp}
use Rattle.exb_link.specs.declared.link_frame.LinkFrame.{LinkFrame}
use Rattle.exb_link.specs.LinkFrames.{is_control, is_data, without_data, without_control}
use Rattle.exb_control_spec.specs.Plans.HeldNumbers.{Held, channel_in, numbers_in}
use Rattle.exb_relay.specs.declared.send.SendTo.{SendTo}
use Rattle.exb_relay.specs.Laws.{IsAt, IsSent, SendsAreWords}
use Rattle.exb_model.specs.Numbers.{Numbers}
use Rattle.exb_relay.specs.Sends.{pcp_of, sends_of}
use Rattle.exb_learn.specs.Calls.{look_in}
use Rattle.exb_model.specs.Configuration.{Bridge}
use Rattle.exb_control_spec.specs.Runs.MachineInvariant.{Stands}
use Rattle.exb_control_spec.specs.declared.extender_message.Asked.{Asked}
use Rattle.exb_control_spec.specs.Decisions.{decide}
use Rattle.exb_control_spec.specs.Machine.{State, Moved, answered, ordered, beats}
use Rattle.exb_control_spec.specs.Runs.PlannedChanges.{IsSetting, planning, ReadyMidway, HeldAreNumbers}
use Rattle.exb_world_spec.specs.Worlds.{World, Way, Up, Down, Step, Arrive, Carry, Control, Lose, Beat, Tick, Order, Mark, control_word, push_down, push_up, with_near, with_far, with_control, with_table, next_beat}
use Rattle.exb_world_spec.specs.AllowedSteps.{Can}
use Rattle.exb_world_spec.specs.Effects.{Effect, only, each}
use Rattle.exb_world_spec.specs.ExtenderSteps.{hung_on, sent_at, sent_to, sends, does, reacts, takes_from_above, takes_from_below, stamp_of, ignored, does_or_ignores, arrives_at}
use Rattle.exb_world_spec.specs.BridgeLearning.{channel_at_trunk, forgotten_all, taught, announced}
use Rattle.exb_world_spec.specs.ControlFrames.{bridge_address, bridge_request, bridge_acknowledgement, puts_tagged, to_extender, asks, moves, stops, hears_message, hears_fresh, hears_request, hears_pdu, hears_frame, hears, sends_again, beats_near, beats_control}
use Rattle.exb_world_spec.specs.DataFrames.{puts_word, sent_by, sends_in, sends_all, comes, arrival_by, comes_from, holder_by, hung_at, hears_from, bridge_takes}
use Rattle.exb_world_spec.specs.Steps.{words_on, with_words, takes, takes_any, first_data, control_at, rest_of, counted, if_there, all_extenders, beats_all, done_by, stepped}
use Rattle.exb_world_spec.specs.Runs.Requests.{CanGo, AsksGo, AsksWell}
use Rattle.exb_world_spec.specs.Runs.SessionLaws.{HasBytes}
use Rattle.exb_world_spec.specs.Runs.Sessions.{Each, AreLow}
use Rattle.exb_world_spec.specs.Runs.Simulation.{system_of, IsSound}
use Rattle.exb_world_spec.specs.Runs.FrameBytes.{IsDownward, IsUpward, SendsBytes, AreWritten, BeginsWritten, StepsStayWritten, WrittenAreShort}
use Rattle.exb_world_spec.proofs.Requests.{asks_can_be_sent}
use Rattle.exb_world_spec.proofs.BeatSteps.{beat_low, all_near_beat}
use Rattle.exb_world_spec.proofs.Bytes.{passes_small, stripped_bytes, tagged_bytes, tagged_short, egress_bytes, egress_short, relayed_short, spelled_bytes, header_small, message_written}
use Rattle.exb_world_spec.proofs.CascadeChannels.{forget}
use Rattle.exb_world_spec.proofs.Frames.{tag_fits}
use Rattle.exb_world_spec.proofs.ControlFrames.{to_extender_control, moves_control, quiet_sound}
use Rattle.exb_world_spec.proofs.SentBytes.{GoesAs, Goes, GoesWell, CanRepeat, can_repeat, sends_nothing, sends_submitted, sends_received, sends_acknowledged, sends_beaten, spelled_short, hears_goes, down_goes, below_goes, station_goes, beats_goes}
use Rattle.exb_world_spec.proofs.Steps.{home}
use Rattle.exb_world_spec.proofs.Trunks.{above_there}
use Rattle.exb_world_spec.proofs.LinkFrames.{each_append, each_weaker, each_without_data, each_without_control, each_filter, each_get, at_same}

abbrev Falls : LinkFrame → Type 0
Falls x = IsDownward x.bytes

abbrev Rises : LinkFrame → Type 0
Rises x = IsUpward x.bytes

each_of : {A : Type 0} (P : A → Type 0) (xs : List A) → All P xs → Each P xs
each_of P [] all = tt
each_of P (x ∷ xs) all = (all 0 x (omega arith), each_of P xs (λ k d h. all (suc k) d (omega arith)))

each_any : {A : Type 0} (xs : List A) → Each (λ x. Unit {0}) xs
each_any [] = tt
each_any (x ∷ xs) = (tt, each_any xs)

-- ---- what is on links
module _ (t : Shape) where
  -- and the extenders are such
  record Well (w : World) : Type 0 where
    written : AreWritten w
    extenders : (n : ℕ) → is_extender t n ≡ true → IsExtender (w.far n)

  -- the links and ends stay
  same_well : (w v : World) → v.down ≡ w.down → v.up ≡ w.up → v.near ≡ w.near → v.far ≡ w.far → Well w → Well v
  same_well w v d u n f k =
      record {
        written = record {
          downs = (let P : (ℕ → List LinkFrame) → Type 0 = λ g. (m : ℕ) → Each Falls (g m) in subst P (sym d) k.written.downs);
          ups = (let P : (ℕ → List LinkFrame) → Type 0 = λ g. (m : ℕ) → Each Rises (g m) in subst P (sym u) k.written.ups);
          ends = (let P : (ℕ → Ecp) → Type 0 = λ g. (m : ℕ) → IsSoundEnd (g m) in subst P (sym n) k.written.ends);
          asking = (let P : (ℕ → Ecp) → Type 0 = λ g. (m : ℕ) → SendsBytes (g m) in subst P (sym n) k.written.asking);
          answering = (let P : (ℕ → ExtenderState) → Type 0 = λ g. (m : ℕ) → SendsBytes (g m).ecp in subst P (sym f) k.written.answering);
        };
        extenders = (let P : (ℕ → ExtenderState) → Type 0 = λ g. (m : ℕ) → is_extender t m ≡ true → IsExtender (g m) in subst P (sym f) k.extenders);
      }

  down_well : (m : ℕ) (x : LinkFrame) (w : World) → IsDownward x.bytes → Well w → Well (push_down m x w)
  down_well m x w is k =
      record {
        written = record {
          downs = at_same (λ n ws. Each Falls ws) m (w.down m ++ x ∷ []) w.down (each_append Falls (w.down m) (x ∷ []) (k.written.downs m) (is, tt)) k.written.downs;
          ups = k.written.ups;
          ends = k.written.ends;
          asking = k.written.asking;
          answering = k.written.answering;
        };
        extenders = k.extenders;
      }

  up_well : (m : ℕ) (x : LinkFrame) (w : World) → IsUpward x.bytes → Well w → Well (push_up m x w)
  up_well m x w is k =
      record {
        written = record {
          downs = k.written.downs;
          ups = at_same (λ n ws. Each Rises ws) m (w.up m ++ x ∷ []) w.up (each_append Rises (w.up m) (x ∷ []) (k.written.ups m) (is, tt)) k.written.ups;
          ends = k.written.ends;
          asking = k.written.asking;
          answering = k.written.answering;
        };
        extenders = k.extenders;
      }

  near_well : (n : ℕ) (e : Ecp) (w : World) → IsSoundEnd e → SendsBytes e → Well w → Well (with_near n e w)
  near_well n e w sound bytes k =
      record {
        written = record {
          downs = k.written.downs;
          ups = k.written.ups;
          ends = at_same (λ i x. IsSoundEnd x) n e w.near sound k.written.ends;
          asking = at_same (λ i x. SendsBytes x) n e w.near bytes k.written.asking;
          answering = k.written.answering;
        };
        extenders = k.extenders;
      }

  far_well : (n : ℕ) (s : ExtenderState) (w : World) → (is_extender t n ≡ true → IsExtender s) → SendsBytes s.ecp → Well w → Well (with_far n s w)
  far_well n s w is bytes k =
      record {
        written = record {
          downs = k.written.downs;
          ups = k.written.ups;
          ends = k.written.ends;
          asking = k.written.asking;
          answering = at_same (λ i x. SendsBytes x.ecp) n s w.far bytes k.written.answering;
        };
        extenders = at_same (λ i x. is_extender t i ≡ true → IsExtender x) n s w.far is k.extenders;
      }

  each_well : {A : Type 0} (P : A → Type 0) (f : A → World → Effect) → ((x : A) (v : World) → P x → Well v → Well (f x v).world) → (xs : List A) (w : World) → Each P xs → Well w → Well (each f xs w).world
  each_well P f all [] w fits k = k
  each_well P f all (x ∷ xs) w fits k = each_well P f all xs (f x w).world fits.1 (all x w fits.0 k)

  -- ---- extenders
  sends_well : (n : ℕ) (stamp : Option Stamp) (x : Sent) (w : World) → Goes x → Well w → Well (sends t n stamp x w).world
  sends_well n stamp x w goes k = by_side x.side goes
    where
      by_port : (q : ℕ) (o : Option ℕ) → IsDownward x.bytes → Well (sent_at n q o stamp x.bytes w).world
      by_port q (Some m) is = down_well m (record { bytes = x.bytes; stamp = stamp }) w is k
      by_port q None is = k

      by_side : (d : Side) → GoesAs d x.bytes → Well (sent_to t n stamp d x.bytes w).world
      by_side side.Up is = up_well n (record { bytes = x.bytes; stamp = stamp }) w is k
      by_side (side.Port q) is = by_port q (hung_on t (port_of n q)) is

  does_well : (n : ℕ) (stamp : Option Stamp) (r : Reaction) (w : World) → GoesWell r → (is_extender t n ≡ true → IsExtender r.0) → Well w → Well (does t n stamp r w).world
  does_well n stamp r w goes is k = each_well Goes (sends t n stamp) (sends_well n stamp) r.1 (with_far n r.0 w) goes.sent (far_well n r.0 w is goes.keeps k)

  -- an extender forwards, and stays as it is
  forwards : (n : ℕ) (w : World) (xs : List Sent) → Each Goes xs → Well w → GoesWell (w.far n, xs)
  forwards n w xs all k = record { sent = all; keeps = k.written.answering n }

  above_well : (n : ℕ) (x : LinkFrame) (w : World) → is_extender t n ≡ true → IsDownward x.bytes → Well w → Well (takes_from_above t n x w).world
  above_well n x w there is k =
      let s : ExtenderState = w.far n in
      let e : IsExtender s = k.extenders n there in
      let after : IsExtender (react (Arrives side.Up x.bytes) s).0 = stays_extender.keeps (Arrives side.Up x.bytes) s is.bytes e in
      does_well n x.stamp (react (Arrives side.Up x.bytes) s) w (by_bare e (is_bare_control x.bytes) after) (λ z. after) k
    where
      by_bare : IsExtender (w.far n) → (b : Bool) → IsExtender (cond b (far_hears x.bytes (w.far n)) (w.far n, emitted (w.far n).tables side.Up x.bytes)).0 →
          GoesWell (cond b (far_hears x.bytes (w.far n)) (w.far n, emitted (w.far n).tables side.Up x.bytes))
      by_bare e true after = hears_goes x.bytes (w.far n) is.bytes e (k.written.answering n) after
      by_bare e false after = forwards n w (emitted (w.far n).tables side.Up x.bytes) (down_goes (w.far n).tables x.bytes is) k

  module _ (round : TagRoundTrip) where
    below_well : (n q : ℕ) (x : LinkFrame) (w : World) → is_extender t n ≡ true → IsUpward x.bytes → Well w → Well (takes_from_below t n q x w).world
    below_well n q x w there is k = by_flag ((w.far n).tables.cascade q) refl
      where
        by_flag : (b : Bool) → (w.far n).tables.cascade q ≡ b → Well (cond b (reacts t n x.stamp (Arrives (side.Port q) x.bytes) w) (only w)).world
        by_flag false e = k
        by_flag true e =
            let s : IsExtender (w.far n) = k.extenders n there in
            does_well n x.stamp (react (Arrives (side.Port q) x.bytes) (w.far n)) w
            (forwards n w (emitted (w.far n).tables (side.Port q) x.bytes) (below_goes round (w.far n).tables q x.bytes (s.channels q) e is) k) (λ z. s) k

    arrives_well : (a : Arrival) (w : World) → is_extender t (device a.port) ≡ true → IsBytes a.bytes → Well w → Well (arrives_at t a w).world
    arrives_well a w there bytes k = by_flag ((w.far (device a.port)).tables.cascade (port_number a.port)) refl
      where
        s : IsExtender (w.far (device a.port))
        s = k.extenders (device a.port) there

        by_sent : (r : Reaction) → GoesWell r → IsExtender r.0 → Well (does_or_ignores t a r w).world
        by_sent (x, []) goes is = k
        by_sent (x, y ∷ ys) goes is = does_well (device a.port) (Some (stamp_of a)) (x, y ∷ ys) w goes (λ z. is) k

        by_flag : (b : Bool) → (w.far (device a.port)).tables.cascade (port_number a.port) ≡ b →
            Well (cond b (ignored a w) (does_or_ignores t a (react (Arrives (side.Port (port_number a.port)) a.bytes) (w.far (device a.port))) w)).world
        by_flag true e = k
        by_flag false e =
            by_sent (react (Arrives (side.Port (port_number a.port)) a.bytes) (w.far (device a.port)))
            (forwards (device a.port) w (emitted (w.far (device a.port)).tables (side.Port (port_number a.port)) a.bytes)
            (station_goes round (w.far (device a.port)).tables (port_number a.port) a.bytes (s.channels (port_number a.port)) e bytes) k)
            s

  far_beats_well : (n : ℕ) (w : World) → is_extender t n ≡ true → Well w → Well (reacts t n None Beats w).world
  far_beats_well n w there k =
      let s : IsExtender (w.far n) = k.extenders n there in
      does_well n None (react Beats (w.far n)) w (beats_goes (w.far n) s (k.written.answering n)) (λ z. stays_extender.keeps Beats (w.far n) tt s) k

  -- ---- the bridge
  -- a control frame of its own
  record IsOwn (f : List ℕ) : Type 0 where
    bytes : IsBytes f
    few : length f ≤ 1042

  own : (ack : Bool) (sequence : ℕ) (payload : List ℕ) → sequence < 65536 → IsBytes payload → length payload ≤ 1024 → IsOwn (spelling bridge_address (control_pdu ack sequence) payload)
  own ack sequence payload small bytes few =
      record {
        bytes = spelled_bytes 2 69 66 0 0 0 (omega arith, (omega arith, (omega arith, (omega arith, (omega arith, (omega arith, tt)))))) ack sequence payload small bytes;
        few = spelled_short 2 69 66 0 0 0 ack sequence payload few;
      }

  no_bytes : IsBytes []
  no_bytes i = omega arith

  module _ (numbers : HeldAreNumbers) where
    trunk_small : (h : Held) (p channel : ℕ) → channel_at_trunk t h p ≡ Some channel → channel < 4095
    trunk_small h p channel e = by_flag (is_extender t (device p)) e
      where
        by_flag : (b : Bool) → cond b (channel_in h (trunk t (device p)) p) None ≡ Some channel → channel < 4095
        by_flag true z = (numbers h).small (trunk t (device p)) p channel z
        by_flag false z = absurd (none_some z)
          where
            none_some : None ≡ Some channel → ⊥
            none_some q = cc

    to_well : (n : ℕ) (f : List ℕ) (w : World) → IsOwn f → Well w → Well (to_extender t n f w).world
    to_well n f w is k =
        elim (cases_Bool (nat_lt (on t n) 64)) [
          | inl e ↦ rw e (down_well n (control_word f) w (record { bytes = is.bytes; short = (let a = is.few in omega (arith, a)) }) k)
          | inr e ↦ rw e (by_options (hung_on t (trunk t n)) (channel_at_trunk t w.control.held (on t n)) refl)
        ]
      where
        by_options : (o c : Option ℕ) → channel_at_trunk t w.control.held (on t n) ≡ c → Well (puts_tagged (trunk t n) o c f w).world
        by_options (Some m) (Some channel) e =
            let fits = tag_fits channel (trunk_small w.control.held (on t n) channel e) in
            down_well m (control_word (tagged f (channel_tag channel))) w
            (record { bytes = tagged_bytes f (channel_tag channel) is.bytes fits; short = (let a = tagged_short f (channel_tag channel) in let b = is.few in omega (arith, a, b)) }) k
        by_options (Some m) None e = k
        by_options None c e = k

    asks_well : (x : Asked) (w : World) → CanGo t x → Well w → Well (asks t x w).world
    asks_well x w can k =
        let n : ℕ = x.extender in
        let payload : List ℕ = message_bytes x.message in
        let e : Ecp = submitted payload (stopped (w.near n)) in
        let bytes : IsBytes payload = message_written x.message can.sent.spelled.spelled can.sent.fits.content in
        let old : IsSoundEnd (w.near n) = k.written.ends n in
        let sound : IsSoundEnd e = keeps_sound.keeps (Submit payload) (stopped (w.near n)) can.sent.short (keeps_sound.keeps Stop (w.near n) tt old) in
        to_well n (bridge_request (w.near n).next payload) (with_near n e w) (own false (w.near n).next payload old.next bytes can.sent.short)
        (near_well n e w sound (sends_submitted payload (stopped (w.near n)) bytes) k)

    sent_well : (m : Moved) (w : World) → Each (CanGo t) m.asks → Well w → Well (moves t m w).world
    sent_well m w can k =
        each_well (CanGo t) (asks t) asks_well m.asks (with_table (forgotten_all m.downs w.table) (with_control m.state w)) can (same_well w (with_table (forgotten_all m.downs w.table) (with_control m.state w)) refl refl refl refl k)

    moves_well : (m : Moved) (w : World) → AsksGo t m → AreLow (moves t m w).world.control.askers → Well w → Well (moves t m w).world
    moves_well m w go low k = sent_well m w (go (subst (λ (s : State). AreLow s.askers) (moves_control t m w) low)) k

    module _ (l : Limits) where
      stops_well : (z : Taken) (n : ℕ) (w : World) → Well w → Well (stops z n w)
      stops_well (taken.Answer response) n w k = near_well n (stopped (w.near n)) w (keeps_sound.keeps Stop (w.near n) tt (k.written.ends n)) (sends_nothing (w.near n)) k
      stops_well taken.Stale n w k = k
      stops_well taken.NotOurs n w k = k

      message_well : (n : ℕ) (r : Result Message CspFault) (w : World) → AsksWell t l w.control → AreLow (hears_message t l n r w).world.control.askers → Well w → Well (hears_message t l n r w).world
      message_well n (Err fault) w go low k = k
      message_well n (Ok m) w go low k = moves_well (answered (decide t l) n m w.control) (stops (took (w.control.askers n) m).1 n w) (go.answers n m) low (stops_well (took (w.control.askers n) m).1 n w k)

      fresh_well : (n : ℕ) (fresh : Bool) (sequence : ℕ) (payload : List ℕ) (w : World) → sequence < 65536 → AsksWell t l w.control → AreLow (hears_fresh t l n fresh sequence payload w).world.control.askers → Well w →
          Well (hears_fresh t l n fresh sequence payload w).world
      fresh_well n true sequence payload w small go low k =
          message_well n (read_message payload) (with_near n (received sequence (w.near n)) w) go low
          (near_well n (received sequence (w.near n)) w (keeps_sound.keeps (Received sequence) (w.near n) small (k.written.ends n)) (sends_received sequence (w.near n) (k.written.asking n)) k)
      fresh_well n false sequence payload w small go low k = k

      request_well : (n sequence : ℕ) (payload : List ℕ) (w : World) → sequence < 65536 → AsksWell t l w.control → AreLow (hears_request t l n sequence payload w).world.control.askers → Well w →
          Well (hears_request t l n sequence payload w).world
      request_well n sequence payload w small go low k =
          let v : World = (to_extender t n (bridge_acknowledgement sequence) w).world in
          fresh_well n (is_fresh sequence (v.near n)) sequence payload v small (subst (AsksWell t l) (sym (to_extender_control t n (bridge_acknowledgement sequence) w)) go) low
          (to_well n (bridge_acknowledgement sequence) w (own true sequence [] small no_bytes (omega arith)) k)

      pdu_well : (n : ℕ) (r : Result Pdu EcpFault) (f : List ℕ) (w : World) → ((p : Pdu) → r ≡ Ok p → p.sequence < 65536) → AsksWell t l w.control → AreLow (hears_pdu t l n r f w).world.control.askers → Well w →
          Well (hears_pdu t l n r f w).world
      pdu_well n (Err fault) f w small go low k = k
      pdu_well n (Ok p) f w small go low k = by_flags (p.subtype == 2) p.acknowledgement low
        where
          by_flags : (a b : Bool) → AreLow (cond a (cond b (only (with_near n (acknowledged p.sequence (w.near n)) w)) (hears_request t l n p.sequence (drop 18 f) w)) (only w)).world.control.askers →
              Well (cond a (cond b (only (with_near n (acknowledged p.sequence (w.near n)) w)) (hears_request t l n p.sequence (drop 18 f) w)) (only w)).world
          by_flags true true z =
              near_well n (acknowledged p.sequence (w.near n)) w (keeps_sound.keeps (Acked p.sequence) (w.near n) tt (k.written.ends n)) (sends_acknowledged p.sequence (w.near n) (k.written.asking n)) k
          by_flags true false z = request_well n p.sequence (drop 18 f) w (small p refl) go z k
          by_flags false b z = k

      hears_well : (n : ℕ) (f : List ℕ) (w : World) → IsBytes f → AsksWell t l w.control → AreLow (hears t l n f w).world.control.askers → Well w → Well (hears t l n f w).world
      unfolding hears
      hears_well n f w bytes go low k = by_result (announcement_in f) low
        where
          by_result : (r : Result Announce LldpFault) → AreLow (hears_frame t l n r f w).world.control.askers → Well (hears_frame t l n r f w).world
          by_result (Ok a) z = moves_well (announced (decide t l) t n a w.control) w (go.hears n a) z k
          by_result (Err fault) z = pdu_well n (pdu_in f) f w (header_small f bytes) go z k

      from_well : (o : Option ℕ) (f : List ℕ) (w : World) → IsBytes f → AsksWell t l w.control → AreLow (hears_from t l o f w).world.control.askers → Well w → Well (hears_from t l o f w).world
      from_well None f w bytes go low k = k
      from_well (Some n) f w bytes go low k = hears_well n f w bytes go low k

  -- ---- the bridge relays
  module _ (tree : IsTree t) (words : SendsAreWords) (midway : ReadyMidway) (numbers : HeldAreNumbers) where
    in_well : (b : Bridge) (m : Numbers) (a : Arrival) (vid : ℕ) (x : SendTo) (w : World) → IsBytes a.bytes → length a.bytes ≤ 9216 → vid ≤ 4094 → IsAt t b m a.port a.bytes x → Well w → Well (sends_in t a vid x w).world
    in_well b m a vid x w bytes short small is k = by_tag x.tag is.sent
      where
        f : List ℕ
        f = egress a.bytes x.kind vid

        by_hung : (o : Option ℕ) (y : LinkFrame) → IsDownward y.bytes → Well (puts_word x.bridge_port o y w).world
        by_hung None y fits = k
        by_hung (Some n) y fits = down_well n y w fits k

        by_tag : (o : Option ETag) → IsSent t b m a.port a.bytes is.port o → Well (sent_by t a (egress a.bytes x.kind vid) x.bridge_port o w).world
        by_tag None sent = k
        by_tag (Some tag) sent =
            let e = egress_short a.bytes x.kind vid in
            let g = tagged_short (egress a.bytes x.kind vid) (tag_of tag) in
            let pcp : pcp_of (kind_of a.bytes) < 8 = (let same = sent.1.pcp in let low = sent.1.fits.pcp in omega (arith, same, low)) in
            by_hung (hung_on t (x.bridge_port - 1)) (record { bytes = tagged (egress a.bytes x.kind vid) (tag_of tag); stamp = Some (stamp_of a) })
            (record { bytes = tagged_bytes (egress a.bytes x.kind vid) (tag_of tag) (egress_bytes a.bytes x.kind vid bytes pcp small) sent.1.fits; short = omega (arith, e, g, short) })

    -- the numbers in force
    record Relays (w : World) : Type 0 where
      stands : Stands (planning t) (system_of w)
      pvids : HasPvids w.control.bridge

    comes_well : (a : Arrival) (w : World) → Relays w → IsBytes a.bytes → Well w → Well (comes t a w).world
    comes_well a w relays bytes k = by_relayed (is_relayed w.control.bridge a.port a.bytes) refl
      where
        b : Bridge
        b = w.control.bridge

        m : Numbers
        m = numbers_in w.control.held

        v : World
        v = with_table (taught w.control.bridge a w.table) w

        its : Well (with_table (taught w.control.bridge a w.table) w)
        its = same_well w (with_table (taught w.control.bridge a w.table) w) refl refl refl refl k

        none_well : (o : Option ℕ) → Well (sends_all t a [] o (with_table (taught w.control.bridge a w.table) w)).world
        none_well None = its
        none_well (Some vid) = its

        all_at : is_relayed w.control.bridge a.port a.bytes ≡ true →
            Each (IsAt t w.control.bridge (numbers_in w.control.held) a.port a.bytes) (sends_of t w.control.bridge (look_in w.table) (numbers_in w.control.held) a.port a.bytes)
        all_at e =
            let r = midway t (system_of w) tree relays.stands in
            let n = numbers w.control.held in
            each_of (IsAt t w.control.bridge (numbers_in w.control.held) a.port a.bytes) (sends_of t w.control.bridge (look_in w.table) (numbers_in w.control.held) a.port a.bytes)
            (words t w.control.bridge (look_in w.table) (numbers_in w.control.held) a.port a.bytes tree
            (record { external = r.external; groups = r.groups; channels = r.channels }) (record { some = n.some; small = n.small; alone = n.alone; high = n.high; fits = n.fits }) relays.pvids bytes
            (and_parts (w.control.bridge.present a.port) (is_relayed_kind (kind_of a.bytes)) e).0)

        by_vid : is_relayed w.control.bridge a.port a.bytes ≡ true → (o : Option ℕ) → passes w.control.bridge a.port a.bytes ≡ o →
            Well (sends_all t a (sends_of t w.control.bridge (look_in w.table) (numbers_in w.control.held) a.port a.bytes) o (with_table (taught w.control.bridge a w.table) w)).world
        by_vid e None z = its
        by_vid e (Some vid) z =
            let short : length a.bytes ≤ 9216 = relayed_short a.bytes (and_parts (w.control.bridge.present a.port) (is_relayed_kind (kind_of a.bytes)) e).1 in
            each_well (IsAt t w.control.bridge (numbers_in w.control.held) a.port a.bytes) (sends_in t a vid)
            (λ x u is g. in_well w.control.bridge (numbers_in w.control.held) a vid x u bytes short (passes_small w.control.bridge a.port a.bytes vid relays.pvids z) is g)
            (sends_of t w.control.bridge (look_in w.table) (numbers_in w.control.held) a.port a.bytes) (with_table (taught w.control.bridge a w.table) w) (all_at e) its

        by_relayed : (c : Bool) → is_relayed w.control.bridge a.port a.bytes ≡ c →
            Well (sends_all t a (cond c (sends_of t w.control.bridge (look_in w.table) (numbers_in w.control.held) a.port a.bytes) []) (passes w.control.bridge a.port a.bytes) (with_table (taught w.control.bridge a w.table) w)).world
        by_relayed true e = by_vid e (passes w.control.bridge a.port a.bytes) refl
        by_relayed false e = none_well (passes w.control.bridge a.port a.bytes)

    comes_from_well : (o : Option ℕ) (s : Option Stamp) (f : List ℕ) (w : World) → Relays w → IsBytes f → Well w → Well (comes_from t o s f w).world
    comes_from_well None s f w relays bytes k = k
    comes_from_well (Some p) None f w relays bytes k = k
    comes_from_well (Some p) (Some s) f w relays bytes k = by_flag (is_external t p)
      where
        by_flag : (b : Bool) → Well (cond b (comes t (arrival_by p s f) w) (only w)).world
        by_flag true = comes_well (arrival_by p s f) w relays bytes k
        by_flag false = k

    module _ (l : Limits) where
      bridge_well : (q m : ℕ) (x : LinkFrame) (w : World) → IsUpward x.bytes → Relays w → AsksWell t l w.control → AreLow (bridge_takes t l q m x w).world.control.askers → Well w → Well (bridge_takes t l q m x w).world
      bridge_well q m x w is relays go low k = by_flags (is_control x) (has_etag_type x.bytes) low
        where
          out : IsBytes (stripped x.bytes)
          out = stripped_bytes x.bytes is.bytes

          by_flags : (a b : Bool) → AreLow (cond a (cond b (hears_from t l (hung_at t (holder_by w q (read_etag x.bytes))) (stripped x.bytes) w) (hears t l m x.bytes w)) (comes_from t (holder_by w q (read_etag x.bytes)) x.stamp (stripped x.bytes) w)).world.control.askers →
              Well (cond a (cond b (hears_from t l (hung_at t (holder_by w q (read_etag x.bytes))) (stripped x.bytes) w) (hears t l m x.bytes w)) (comes_from t (holder_by w q (read_etag x.bytes)) x.stamp (stripped x.bytes) w)).world
          by_flags true true z = from_well numbers l (hung_at t (holder_by w q (read_etag x.bytes))) (stripped x.bytes) w out go z k
          by_flags true false z = hears_well numbers l m x.bytes w is.bytes go z k
          by_flags false b z = comes_from_well (holder_by w q (read_etag x.bytes)) x.stamp (stripped x.bytes) w relays out k

      -- ---- words
      -- what holds of a word of a direction
      abbrev Fits : Way → LinkFrame → Type 0
      Fits Up x = Rises x
      Fits Down x = Falls x

      module _ (round : TagRoundTrip) where
        takes_well : (n : ℕ) (way : Way) (x : LinkFrame) (w : World) → is_extender t n ≡ true → Fits way x → Relays w → AsksWell t l w.control → AreLow (takes t l n way x w).world.control.askers → Well w → Well (takes t l n way x w).world
        takes_well n Down x w there is relays go low k = above_well n x w there is k
        takes_well n Up x w there is relays go low k =
            elim (cases_lt (on t n) 64) [
              | inl below ↦ let b : nat_lt (on t n) 64 ≡ true = lt-ltb (on t n) 64 below in rw b (bridge_well (on t n) n x w is relays go (rw b at low) k)
              | inr deep ↦ let b : nat_lt (on t n) 64 ≡ false = le-ltb (on t n) 64 deep in rw b (below_well round (device (on t n)) (port_number (on t n)) x w (above_there t tree n there deep) is k)
            ]

        all_on : (n : ℕ) (way : Way) (w : World) → Well w → Each (Fits way) (words_on n way w)
        all_on n Up w k = k.written.ups n
        all_on n Down w k = k.written.downs n

        with_well : (n : ℕ) (way : Way) (ws : List LinkFrame) (w : World) → Each (Fits way) ws → Well w → Well (with_words n way ws w)
        with_well n Up ws w all k =
            record {
              written = record {
                downs = k.written.downs;
                ups = at_same (λ m xs. Each Rises xs) n ws w.up all k.written.ups;
                ends = k.written.ends;
                asking = k.written.asking;
                answering = k.written.answering;
              };
              extenders = k.extenders;
            }
        with_well n Down ws w all k =
            record {
              written = record {
                downs = at_same (λ m xs. Each Falls xs) n ws w.down all k.written.downs;
                ups = k.written.ups;
                ends = k.written.ends;
                asking = k.written.asking;
                answering = k.written.answering;
              };
              extenders = k.extenders;
            }

        -- fewer words change nothing else
        fewer_relays : (n : ℕ) (way : Way) (ws : List LinkFrame) (w : World) → Relays w → Relays (with_words n way ws w)
        fewer_relays n Up ws w k = record { stands = k.stands; pvids = k.pvids }
        fewer_relays n Down ws w k = record { stands = k.stands; pvids = k.pvids }

        fewer_go : (n : ℕ) (way : Way) (ws : List LinkFrame) (w : World) → AsksWell t l w.control → AsksWell t l (with_words n way ws w).control
        fewer_go n Up ws w go = go
        fewer_go n Down ws w go = go

        any_well : (n : ℕ) (way : Way) (o : Option LinkFrame) (rest : List LinkFrame) (w : World) → is_extender t n ≡ true → ((x : LinkFrame) → o ≡ Some x → Fits way x) → Each (Fits way) rest → Relays w → AsksWell t l w.control →
            AreLow (takes_any t l n way o rest w).world.control.askers → Well w → Well (takes_any t l n way o rest w).world
        any_well n way None rest w there found all relays go low k = k
        any_well n way (Some x) rest w there found all relays go low k =
            takes_well n way x (with_words n way rest w) there (found x refl) (fewer_relays n way rest w relays) (fewer_go n way rest w go) low (with_well n way rest w all k)

        rest_well : (way : Way) (keep : Bool) (ws : List LinkFrame) (j : ℕ) → Each (Fits way) ws → Each (Fits way) (rest_of keep ws j)
        rest_well way true ws j all = all
        rest_well way false ws j all = each_without_control (Fits way) ws j all

        -- ---- beats
        there_well : (f : ℕ → World → Effect) → ((n : ℕ) (v : World) → is_extender t n ≡ true → Well v → Well (f n v).world) → (ns : List ℕ) (w : World) → Well w → Well (each (if_there t f) ns w).world
        there_well f all ns w k = each_well (λ n. Unit {0}) (if_there t f) (λ n v fits its. by_flag n v its (is_extender t n) refl) ns w (each_any ns) k
          where
            by_flag : (n : ℕ) (v : World) → Well v → (b : Bool) → is_extender t n ≡ b → Well (cond b (f n v) (only v)).world
            by_flag n v its true e = all n v e its
            by_flag n v its false e = its

        near_beats_well : (n : ℕ) (w : World) → is_extender t n ≡ true → Well w → Well (beats_near t n w).world
        near_beats_well n w there k = by_due (beat_of (w.near n).sending) (w.near n).sending (can_repeat (w.near n).next (w.near n).sending (k.written.ends n).sending) (k.written.asking n).payload
          where
            its : Well (with_near n (beaten (w.near n)) w)
            its = near_well n (beaten (w.near n)) w (keeps_sound.keeps BeatCall (w.near n) tt (k.written.ends n)) (sends_beaten (w.near n) (k.written.asking n)) k

            by_due : (d : Due) (o : Option Sending) → CanRepeat o → ((x : Sending) → o ≡ Some x → IsBytes x.payload) → Well (sends_again t n d o (with_near n (beaten (w.near n)) w)).world
            by_due due.SendAgain (Some x) can bytes =
                let c = can.each x refl in
                to_well numbers n (bridge_request x.sequence x.payload) (with_near n (beaten (w.near n)) w) (own false x.sequence x.payload c.0 (bytes x refl) c.1) its
            by_due due.SendAgain None can bytes = its
            by_due due.Nothing o can bytes = its
            by_due due.GaveUp o can bytes = its

        module _ (setting : IsSetting t l) (w : World) (sound : IsSound t l w) (pvids : HasPvids w.control.bridge) (low : AreLow w.control.askers) where
          go : AsksWell t l w.control
          go = asks_can_be_sent t l w setting sound

          relays : Relays w
          relays = record { stands = forget t l (system_of w) sound.stands; pvids = pvids }

          beat_well : Well w → Well (beats_all t w).world
          unfolding beats_all
          beat_well k =
              let w0 : World = record w { beats = next_beat w.beats } in
              let sound0 : IsSound t l w0 = quiet_sound t l tree setting w w0 sound refl refl (record { ends = sound.fits.ends; downs = sound.fits.downs; ups = sound.fits.ups }) in
              let v1 : World = (each (if_there t (beats_near t)) all_extenders w0).world in
              let q = all_near_beat t l tree setting round all_extenders w0 sound0 in
              let same : v1.control ≡ w.control = q.control in
              let can : Each (CanGo t) (beats v1.control).asks = (let P : State → Type 0 = λ s. Each (CanGo t) (beats s).asks in subst P (sym same) (go.beats (beat_low t l tree setting round w.control low))) in
              let v2 : World = (beats_control t v1).world in
              there_well (λ n. reacts t n None Beats) far_beats_well all_extenders v2
              (sent_well numbers (beats v1.control) v1 can (there_well (beats_near t) near_beats_well all_extenders w0 (same_well w w0 refl refl refl refl k)))

          step_well : (step : Step) → Can t w step → HasBytes step → AreLow (done_by t l step w).world.control.askers → Well w → Well (done_by t l step w).world
          step_well (Arrive a) can has after k =
              elim (cases_lt a.port 64) [
                | inl below ↦ let b : nat_lt a.port 64 ≡ true = lt-ltb a.port 64 below in rw b (comes_well a (counted a w) (record { stands = relays.stands; pvids = relays.pvids }) has (same_well w (counted a w) refl refl refl refl k))
                | inr high ↦ let b : nat_lt a.port 64 ≡ false = le-ltb a.port 64 high in rw b (arrives_well round a (counted a w) (home t l tree setting round a.port high can.external) has (same_well w (counted a w) refl refl refl refl k))
              ]
          step_well (Carry n way) can has after k =
              let ws : List LinkFrame = words_on n way w in
              let all : Each (Fits way) ws = all_on n way w k in
              any_well n way (first_data ws) (without_data ws) w can.0 (λ x e. each_get (Fits way) (filter is_data ws) 0 x (each_filter (Fits way) is_data ws all) e) (each_without_data (Fits way) ws all) relays go after k
          step_well (Control n way j keep) can has after k =
              let ws : List LinkFrame = words_on n way w in
              let all : Each (Fits way) ws = all_on n way w k in
              any_well n way (control_at ws j) (rest_of keep ws j) w can.0 (λ x e. each_get (Fits way) (filter is_control ws) j x (each_filter (Fits way) is_control ws all) e) (rest_well way keep ws j all) relays go after k
          step_well (Lose n way j) can has after k = with_well n way (without_control (words_on n way w) j) w (each_without_control (Fits way) (words_on n way w) j (all_on n way w k)) k
          step_well Beat can has after k = beat_well k
          step_well (Tick seconds) can has after k = same_well w (done_by t l (Tick seconds) w).world refl refl refl refl k
          step_well (Order c) can has after k = moves_well numbers (ordered (decide t l) c w.control) w (go.orders c can.0) after k
          step_well Mark can has after k = k

-- ---- the laws
pub begins_written : BeginsWritten
begins_written t l b ageing =
    record {
      downs = λ n. tt;
      ups = λ n. tt;
      ends = λ n. keeps_sound.begins;
      asking = λ n. record { payload = λ x e. absurd (none_some e) };
      answering = λ n. record { payload = λ x e. absurd (none_some e) };
    }
  where
    none_some : {x : Sending} → None ≡ Some x → ⊥
    none_some e = cc

pub steps_stay_written : TagRoundTrip → SendsAreWords → ReadyMidway → HeldAreNumbers → StepsStayWritten
unfolding stepped
steps_stay_written round words midway numbers t l setting w step sound pvids can has low after k =
    (step_well t setting.tree words midway numbers l round setting w sound pvids low step can has after (record { written = k; extenders = sound.fits.ends.extenders })).written

pub written_are_short : WrittenAreShort
written_are_short w k = (
  record { downs = λ n. each_weaker Falls _ (w.down n) (λ x is. is.bytes) (k.downs n); ups = λ n. each_weaker Rises _ (w.up n) (λ x is. is.bytes) (k.ups n) },
  record { downs = λ n. each_weaker Falls _ (w.down n) (λ x is. is.short) (k.downs n); ups = λ n. each_weaker Rises _ (w.up n) (λ x is. is.short) (k.ups n) },
)
