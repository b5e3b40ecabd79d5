-- What steps do to the indices that are awaited, to the clock and to the number of commands.
use Rattle.std.proofs.Common.{◌≡◌, ℕ, ◌+◌, ◌-◌, ◌==◌, nat_lt, Bool, true, false, cond, List, [], ◌∷◌, drop, Option, Some, None, Ok, Err, refl, sym, ◌∙◌, inl, inr}
use Rattle.exb_model.specs.declared.command.Command.{Command}
use Rattle.exb_model.specs.Configuration.{Bridge}
use Rattle.exb_model.specs.EagerHistory.{is_relayed}
use Rattle.exb_link.specs.LinkFrames.{is_control, without_control, without_data}
use Rattle.exb_learn.specs.Calls.{Table, Forget, See, after_call}
use Rattle.exb_learn.specs.Histories.{relay_call, after_any}
use Rattle.exb_control_spec.specs.Machine.{Moved, answered, beats, heard, ordered, still}
use Rattle.exb_control_spec.specs.Runs.Systems.{Hear, Stray, Order as Ordering, Beat as BeatOf}
use Rattle.exb_world_spec.specs.BridgeLearning.{channel_at_trunk, forgotten_all, taught, announced, is_of}
use Rattle.exb_world_spec.specs.ExtenderSteps.{hung_on, stamp_of, sent_at, sent_to, sends, does, reacts, takes_from_below, ignored, does_or_ignores, arrives_at}
use Rattle.exb_model.specs.Tree.{port_number, Shape, on, device, trunk, is_extender, is_external}
use Rattle.exb_world_spec.specs.Steps.{takes, takes_any, words_on, with_words, first_data, control_at, rest_of, counted, stepped, if_there, all_extenders, beats_all}
use Rattle.exb_world_spec.specs.Worlds.{World, Way, Up, Down, Step, Arrive, Carry, Control, Lose, Beat, Tick, Order, Mark, control_word, push_down, push_up, with_near, with_far, with_control, with_table, next_beat}
use Rattle.exb_model.specs.Tables.{at}
use Rattle.exb_world_spec.specs.Runs.SessionLaws.{IsMove}
use Rattle.exb_world_spec.specs.Runs.Simulation.{system_of}
use Rattle.exb_world_spec.proofs.Jobs.{moved_given}
use Rattle.std.specs.Prelude.{Result}
use Rattle.std.proofs.lemmas.Bool.{cases_Bool}
use Rattle.exb_model.specs.Setup.{Limits}
use Rattle.exb_model.specs.Frames.{egress, source, is_group}
use Rattle.exb_model.specs.ETags.{read_etag, tagged, stripped}
use Rattle.exb_model.specs.Learning.{passes}
use Rattle.exb_model.specs.declared.arrival.Arrival.{Arrival}
use Rattle.exb_frame.specs.TagValues.{tag_of}
use Rattle.exb_frame.specs.declared.etag.ETag.{ETag}
use Rattle.exb_lldp.specs.declared.announce.Announce.{Announce}
use Rattle.exb_lldp.specs.declared.announce.LldpFault.{LldpFault}
use Rattle.exb_lldp.specs.Announcements.{announced as announcement_in}
use Rattle.exb_ecp.specs.declared.pdu.Pdu.{Pdu}
use Rattle.exb_ecp.specs.declared.pdu.EcpFault.{EcpFault}
use Rattle.exb_ecp.specs.declared.stop_and_wait.Beat.{Beat as Due}
use Rattle.exb_ecp.specs.declared.stop_and_wait.Beat.TheVariants as due
use Rattle.exb_ecp.specs.Frames.{pdu_in}
use Rattle.exb_ecp.specs.StopAndWait.{Sending, submitted, stopped, acknowledged, is_fresh, beaten, beat_of}
use Rattle.exb_ecp.specs.StopAndWait.{heard as received}
use Rattle.exb_csp.specs.declared.fault.CspFault.{CspFault}
use Rattle.exb_csp.specs.declared.message.Message.{Message}
use Rattle.exb_csp.specs.Decoding.{read_message}
use Rattle.exb_csp.specs.Encoding.{message_bytes}
use Rattle.exb_csp.specs.declared.session.asker.Taken.{Taken}
use Rattle.exb_csp.specs.declared.session.asker.Taken.TheVariants as taken
use Rattle.exb_csp.specs.Sessions.AskingEnd.{took}
use Rattle.exb_extender.specs.declared.sends.Side.{Side}
use Rattle.exb_extender.specs.declared.sends.Side.TheVariants as side
use Rattle.exb_csp.specs.AllTables.{port_of}
use Rattle.exb_extender.specs.Forwarding.{channel_tag, has_etag_type}
use Rattle.exb_extender.specs.Machine.{Reaction, Arrives, Beats, react}
use Rattle.exb_link.specs.declared.link_frame.Stamp.{Stamp}
use Rattle.exb_link.specs.declared.link_frame.LinkFrame.{LinkFrame}
use Rattle.exb_relay.specs.declared.send.SendTo.{SendTo}
use Rattle.exb_control_spec.specs.declared.extender_message.Asked.{Asked}
use Rattle.exb_control_spec.specs.Decisions.{decide}
use Rattle.exb_world_spec.specs.Effects.{Effect, only, each}
use Rattle.exb_world_spec.specs.ControlFrames.{bridge_request, bridge_acknowledgement, puts_tagged, to_extender, asks, moves, stops, hears_message, hears_fresh, hears_request, hears_pdu, hears_frame, hears, sends_again, beats_near, beats_control}
use Rattle.exb_world_spec.specs.DataFrames.{puts_word, sent_by, sends_in, sends_all, sends_for, comes, arrival_by, comes_from, holder_by, hung_at, hears_from, bridge_takes}
use Rattle.exb_world_spec.specs.Runs.Sessions.{Each}

-- ---- what stays
each_any : {A : Type 0} (xs : List A) → Each (λ x. Unit {0}) xs
each_any [] = tt
each_any (x ∷ xs) = (tt, each_any xs)

forgotten_clock : (ps : List ℕ) (u : Table) → (forgotten_all ps u).clock ≡ u.clock
forgotten_clock [] u = refl
forgotten_clock (p ∷ ps) u = forgotten_clock ps (after_call (Forget p) u)

taught_clock : (b : Bridge) (a : Arrival) (u : Table) → (taught b a u).clock ≡ u.clock
taught_clock b a u = by_flag (is_relayed b a.port a.bytes)
  where
    by_group : (v : ℕ) (c : Bool) → (after_any (cond c None (Some (See v (source a.bytes) a.port))) u).clock ≡ u.clock
    by_group v true = refl
    by_group v false = refl

    by_vid : (o : Option ℕ) → (after_any (relay_call a.port a.bytes o) u).clock ≡ u.clock
    by_vid None = refl
    by_vid (Some v) = by_group v (is_group (source a.bytes))

    by_flag : (c : Bool) → (cond c (after_any (relay_call a.port a.bytes (passes b a.port a.bytes)) u) u).clock ≡ u.clock
    by_flag true = by_vid (passes b a.port a.bytes)
    by_flag false = refl

stops_given : (z : Taken) (n : ℕ) (w : World) → (stops z n w).control.given ≡ w.control.given
stops_given (taken.Answer response) n w = refl
stops_given taken.Stale n w = refl
stops_given taken.NotOurs n w = refl

announced_given : (t : Shape) (l : Limits) (n : ℕ) (a : Announce) (w : World) → (announced (decide t l) t n a w.control).state.given ≡ w.control.given
announced_given t l n a w = by_flag (is_of t n a)
  where
    by_flag : (b : Bool) → (cond b (heard (decide t l) n w.control) (still w.control)).state.given ≡ w.control.given
    by_flag true = moved_given (decide t l) (system_of w) (Hear n)
    by_flag false = refl

-- These are the indices of the records that are awaited, the clock, and the number of commands so far.
pub record Has (next : ℕ → ℕ) (time count : ℕ) (w : World) : Type 0 where
  pub awaits : (p : ℕ) → w.next p ≡ next p
  pub clock : w.table.clock ≡ time
  pub given : w.control.given ≡ count

module _ (next : ℕ → ℕ) (clock given : ℕ) where
  pushed_down : (m : ℕ) (x : LinkFrame) (w : World) → Has next clock given w → Has next clock given (push_down m x w)
  pushed_down m x w k = record { awaits = k.awaits; clock = k.clock; given = k.given }

  pushed_up : (m : ℕ) (x : LinkFrame) (w : World) → Has next clock given w → Has next clock given (push_up m x w)
  pushed_up m x w k = record { awaits = k.awaits; clock = k.clock; given = k.given }

  each_has : {A : Type 0} (P : A → Type 0) (f : A → World → Effect) → ((x : A) (v : World) → P x → Has next clock given v → Has next clock given (f x v).world) → (xs : List A) (w : World) → Each P xs → Has next clock given w → Has next clock given (each f xs w).world
  each_has P f all [] w fits k = k
  each_has P f all (x ∷ xs) w fits k = each_has P f all xs (f x w).world fits.1 (all x w fits.0 k)

  -- ---- extenders
  port_sent : (t : Shape) (n q : ℕ) (o : Option ℕ) (stamp : Option Stamp) (bytes : List ℕ) (w : World) → Has next clock given w → Has next clock given (sent_at n q o stamp bytes w).world
  port_sent t n q (Some m) stamp bytes w k = pushed_down m (record { bytes = bytes; stamp = stamp }) w k
  port_sent t n q None stamp bytes w k = k

  side_sent : (t : Shape) (n : ℕ) (stamp : Option Stamp) (d : Side) (bytes : List ℕ) (w : World) → Has next clock given w → Has next clock given (sent_to t n stamp d bytes w).world
  side_sent t n stamp side.Up bytes w k = pushed_up n (record { bytes = bytes; stamp = stamp }) w k
  side_sent t n stamp (side.Port q) bytes w k = port_sent t n q (hung_on t (port_of n q)) stamp bytes w k

  -- whatever an extender does
  pub does_has : (t : Shape) (n : ℕ) (stamp : Option Stamp) (r : Reaction) (w : World) → Has next clock given w → Has next clock given (does t n stamp r w).world
  does_has t n stamp r w k =
      each_has (λ x. Unit {0}) (sends t n stamp) (λ x v fits its. side_sent t n stamp x.side x.bytes v its) r.1 (with_far n r.0 w) (each_any r.1) (record { awaits = k.awaits; clock = k.clock; given = k.given })

  -- whatever comes from below
  below_has : (t : Shape) (n q : ℕ) (x : LinkFrame) (w : World) → Has next clock given w → Has next clock given (takes_from_below t n q x w).world
  below_has t n q x w k = by_flag ((w.far n).tables.cascade q)
    where
      by_flag : (b : Bool) → Has next clock given (cond b (reacts t n x.stamp (Arrives (side.Port q) x.bytes) w) (only w)).world
      by_flag true = does_has t n x.stamp (react (Arrives (side.Port q) x.bytes) (w.far n)) w k
      by_flag false = k

  module _ (t : Shape) (l : Limits) where
    -- ---- the bridge
    to_has : (n : ℕ) (f : List ℕ) (w : World) → Has next clock given w → Has next clock given (to_extender t n f w).world
    to_has n f w k =
        elim (cases_Bool (nat_lt (on t n) 64)) [
          | inl e ↦ rw e (pushed_down n (control_word f) w k)
          | inr e ↦ rw e (by_options (hung_on t (trunk t n)) (channel_at_trunk t w.control.held (on t n)))
        ]
      where
        by_options : (o c : Option ℕ) → Has next clock given (puts_tagged (trunk t n) o c f w).world
        by_options (Some m) (Some channel) = pushed_down m (control_word (tagged f (channel_tag channel))) w k
        by_options (Some m) None = k
        by_options None c = k

    asks_has : (x : Asked) (w : World) → Has next clock given w → Has next clock given (asks t x w).world
    asks_has x w k =
        let n : ℕ = x.extender in
        let v : World = with_near n (submitted (message_bytes x.message) (stopped (w.near n))) w in
        to_has n (bridge_request (w.near n).next (message_bytes x.message)) v (record { awaits = k.awaits; clock = k.clock; given = k.given })

    pub moves_has : (m : Moved) (w : World) → m.state.given ≡ w.control.given → Has next clock given w → Has next clock given (moves t m w).world
    moves_has m w same k =
        each_has (λ x. Unit {0}) (asks t) (λ x v fits its. asks_has x v its) m.asks (with_table (forgotten_all m.downs w.table) (with_control m.state w)) (each_any m.asks)
        (record { awaits = k.awaits; clock = forgotten_clock m.downs w.table ∙ k.clock; given = same ∙ k.given })

    pub moves_counts : (m : Moved) (w : World) → m.state.given ≡ given → (other : ℕ) → Has next clock other w → Has next clock given (moves t m w).world
    moves_counts m w same other k =
        each_has (λ x. Unit {0}) (asks t) (λ x v fits its. asks_has x v its) m.asks (with_table (forgotten_all m.downs w.table) (with_control m.state w)) (each_any m.asks)
        (record { awaits = k.awaits; clock = forgotten_clock m.downs w.table ∙ k.clock; given = same })

    stops_has : (z : Taken) (n : ℕ) (w : World) → Has next clock given w → Has next clock given (stops z n w)
    stops_has (taken.Answer response) n w k = record { awaits = k.awaits; clock = k.clock; given = k.given }
    stops_has taken.Stale n w k = k
    stops_has taken.NotOurs n w k = k

    message_has : (n : ℕ) (r : Result Message CspFault) (w : World) → Has next clock given w → Has next clock given (hears_message t l n r w).world
    message_has n (Err fault) w k = k
    message_has n (Ok m) w k =
        let x : Taken = (took (w.control.askers n) m).1 in
        moves_has (answered (decide t l) n m w.control) (stops (took (w.control.askers n) m).1 n w) (moved_given (decide t l) (system_of w) (Stray n m) ∙ sym (stops_given x n w)) (stops_has (took (w.control.askers n) m).1 n w k)

    fresh_has : (n : ℕ) (fresh : Bool) (sequence : ℕ) (payload : List ℕ) (w : World) → Has next clock given w → Has next clock given (hears_fresh t l n fresh sequence payload w).world
    fresh_has n true sequence payload w k = message_has n (read_message payload) (with_near n (received sequence (w.near n)) w) (record { awaits = k.awaits; clock = k.clock; given = k.given })
    fresh_has n false sequence payload w k = k

    request_has : (n sequence : ℕ) (payload : List ℕ) (w : World) → Has next clock given w → Has next clock given (hears_request t l n sequence payload w).world
    request_has n sequence payload w k =
        let v : World = (to_extender t n (bridge_acknowledgement sequence) w).world in
        fresh_has n (is_fresh sequence (v.near n)) sequence payload v (to_has n (bridge_acknowledgement sequence) w k)

    pdu_has : (n : ℕ) (r : Result Pdu EcpFault) (f : List ℕ) (w : World) → Has next clock given w → Has next clock given (hears_pdu t l n r f w).world
    pdu_has n (Err fault) f w k = k
    pdu_has n (Ok p) f w k = by_flags (p.subtype == 2) p.acknowledgement
      where
        by_flags : (a b : Bool) → Has next clock given (cond a (cond b (only (with_near n (acknowledged p.sequence (w.near n)) w)) (hears_request t l n p.sequence (drop 18 f) w)) (only w)).world
        by_flags true true = record { awaits = k.awaits; clock = k.clock; given = k.given }
        by_flags true false = request_has n p.sequence (drop 18 f) w k
        by_flags false b = k

    hears_has : (n : ℕ) (f : List ℕ) (w : World) → Has next clock given w → Has next clock given (hears t l n f w).world
    unfolding hears
    hears_has n f w k = by_result (announcement_in f)
      where
        by_result : (r : Result Announce LldpFault) → Has next clock given (hears_frame t l n r f w).world
        by_result (Ok a) = moves_has (announced (decide t l) t n a w.control) w (announced_given t l n a w) k
        by_result (Err fault) = pdu_has n (pdu_in f) f w k

    from_has : (o : Option ℕ) (f : List ℕ) (w : World) → Has next clock given w → Has next clock given (hears_from t l o f w).world
    from_has None f w k = k
    from_has (Some n) f w k = hears_has n f w k

    in_has : (a : Arrival) (vid : ℕ) (x : SendTo) (w : World) → Has next clock given w → Has next clock given (sends_in t a vid x w).world
    in_has a vid x w k = by_tag x.tag
      where
        by_hung : (o : Option ℕ) (y : LinkFrame) → Has next clock given (puts_word x.bridge_port o y w).world
        by_hung None y = k
        by_hung (Some m) y = pushed_down m y w k

        by_tag : (o : Option ETag) → Has next clock given (sent_by t a (egress a.bytes x.kind vid) x.bridge_port o w).world
        by_tag None = k
        by_tag (Some tag) = by_hung (hung_on t (x.bridge_port - 1)) (record { bytes = tagged (egress a.bytes x.kind vid) (tag_of tag); stamp = Some (stamp_of a) })

    all_has : (a : Arrival) (xs : List SendTo) (o : Option ℕ) (w : World) → Has next clock given w → Has next clock given (sends_all t a xs o w).world
    all_has a xs None w k = k
    all_has a xs (Some vid) w k = each_has (λ x. Unit {0}) (sends_in t a vid) (λ x v fits its. in_has a vid x v its) xs w (each_any xs) k

    pub comes_has : (a : Arrival) (w : World) → Has next clock given w → Has next clock given (comes t a w).world
    comes_has a w k = all_has a (sends_for t w a) (passes w.control.bridge a.port a.bytes) (with_table (taught w.control.bridge a w.table) w) (record { awaits = k.awaits; clock = taught_clock w.control.bridge a w.table ∙ k.clock; given = k.given })

    pub comes_from_has : (o : Option ℕ) (s : Option Stamp) (f : List ℕ) (w : World) → Has next clock given w → Has next clock given (comes_from t o s f w).world
    comes_from_has None s f w k = k
    comes_from_has (Some p) None f w k = k
    comes_from_has (Some p) (Some s) f w k = by_flag (is_external t p)
      where
        by_flag : (b : Bool) → Has next clock given (cond b (comes t (arrival_by p s f) w) (only w)).world
        by_flag true = comes_has (arrival_by p s f) w k
        by_flag false = k

    pub bridge_has : (q m : ℕ) (x : LinkFrame) (w : World) → Has next clock given w → Has next clock given (bridge_takes t l q m x w).world
    bridge_has q m x w k = by_flags (is_control x) (has_etag_type x.bytes)
      where
        by_flags : (a b : Bool) → Has next clock given (cond a (cond b (hears_from t l (hung_at t (holder_by w q (read_etag x.bytes))) (stripped x.bytes) w) (hears t l m x.bytes w)) (comes_from t (holder_by w q (read_etag x.bytes)) x.stamp (stripped x.bytes) w)).world
        by_flags true true = from_has (hung_at t (holder_by w q (read_etag x.bytes))) (stripped x.bytes) w k
        by_flags true false = hears_has m x.bytes w k
        by_flags false b = comes_from_has (holder_by w q (read_etag x.bytes)) x.stamp (stripped x.bytes) w k

    -- ---- words, wherever they come
    pub word_has : (n : ℕ) (way : Way) (x : LinkFrame) (w : World) → Has next clock given w → Has next clock given (takes t l n way x w).world
    word_has n Up x w k = by_flag (nat_lt (on t n) 64)
      where
        by_flag : (b : Bool) → Has next clock given (cond b (bridge_takes t l (on t n) n x w) (takes_from_below t (device (on t n)) (port_number (on t n)) x w)).world
        by_flag true = bridge_has (on t n) n x w k
        by_flag false = below_has t (device (on t n)) (port_number (on t n)) x w k
    word_has n Down x w k = does_has t n x.stamp (react (Arrives side.Up x.bytes) (w.far n)) w k

    -- ---- a beat
    there_has : (f : ℕ → World → Effect) → ((n : ℕ) (v : World) → Has next clock given v → Has next clock given (f n v).world) → (ns : List ℕ) (w : World) → Has next clock given w → Has next clock given (each (if_there t f) ns w).world
    there_has f all ns w k = each_has (λ n. Unit {0}) (if_there t f) (λ n v fits its. by_flag (is_extender t n) n v its) ns w (each_any ns) k
      where
        by_flag : (b : Bool) (n : ℕ) (v : World) → Has next clock given v → Has next clock given (cond b (f n v) (only v)).world
        by_flag true n v its = all n v its
        by_flag false n v its = its

    near_has : (n : ℕ) (w : World) → Has next clock given w → Has next clock given (beats_near t n w).world
    near_has n w k = by_due (beat_of (w.near n).sending) (w.near n).sending
      where
        by_due : (d : Due) (o : Option Sending) → Has next clock given (sends_again t n d o (with_near n (beaten (w.near n)) w)).world
        by_due due.SendAgain (Some x) = to_has n (bridge_request x.sequence x.payload) (with_near n (beaten (w.near n)) w) (record { awaits = k.awaits; clock = k.clock; given = k.given })
        by_due due.SendAgain None = record { awaits = k.awaits; clock = k.clock; given = k.given }
        by_due due.Nothing o = record { awaits = k.awaits; clock = k.clock; given = k.given }
        by_due due.GaveUp o = record { awaits = k.awaits; clock = k.clock; given = k.given }

    far_has : (n : ℕ) (w : World) → Has next clock given w → Has next clock given (reacts t n None Beats w).world
    far_has n w k = does_has t n None (react Beats (w.far n)) w k

    pub beat_has : (w : World) → Has next clock given w → Has next clock given (beats_all t w).world
    unfolding beats_all
    beat_has w k =
        let w0 : World = record w { beats = next_beat w.beats } in
        let v1 : World = (each (if_there t (beats_near t)) all_extenders w0).world in
        let v2 : World = (beats_control t v1).world in
        there_has (λ n. reacts t n None Beats) far_has all_extenders v2
        (moves_has (beats v1.control) v1 (moved_given (decide t l) (system_of v1) BeatOf) (there_has (beats_near t) near_has all_extenders w0 (record { awaits = k.awaits; clock = k.clock; given = k.given })))

-- ---- a step that only moves what is there
abbrev pub HasAs : World → World → Type 0
HasAs w v = Has w.next w.table.clock w.control.given v

as_is : (w : World) → HasAs w w
as_is w = record { awaits = λ p. refl; clock = refl; given = refl }

words_set : (n : ℕ) (way : Way) (ws : List LinkFrame) (w : World) → HasAs w (with_words n way ws w)
words_set n Up ws w = record { awaits = λ p. refl; clock = refl; given = refl }
words_set n Down ws w = record { awaits = λ p. refl; clock = refl; given = refl }

any_has : (t : Shape) (l : Limits) (n : ℕ) (way : Way) (o : Option LinkFrame) (rest : List LinkFrame) (w : World) → HasAs w (takes_any t l n way o rest w).world
any_has t l n way None rest w = as_is w
any_has t l n way (Some x) rest w = word_has w.next w.table.clock w.control.given t l n way x (with_words n way rest w) (words_set n way rest w)

pub move_stays : (t : Shape) (l : Limits) (x : Step) (w : World) → IsMove x → HasAs w (stepped t l x w).world
unfolding stepped
move_stays t l (Carry n way) w is = any_has t l n way (first_data (words_on n way w)) (without_data (words_on n way w)) w
move_stays t l (Control n way k keep) w is = any_has t l n way (control_at (words_on n way w) k) (rest_of keep (words_on n way w) k) w
move_stays t l (Lose n way k) w is = words_set n way (without_control (words_on n way w) k) w
move_stays t l Beat w is = beat_has w.next w.table.clock w.control.given t l w (as_is w)
move_stays t l (Arrive a) w is = absurd is
move_stays t l (Tick seconds) w is = absurd is
move_stays t l (Order c) w is = absurd is
move_stays t l Mark w is = absurd is

pub tick_stays : (t : Shape) (l : Limits) (seconds : ℕ) (w : World) → Has w.next (w.table.clock + seconds) w.control.given (stepped t l (Tick seconds) w).world
unfolding stepped
tick_stays t l seconds w = record { awaits = λ p. refl; clock = refl; given = refl }

pub order_stays : (t : Shape) (l : Limits) (c : Command) (w : World) → Has w.next w.table.clock (w.control.given + 1) (stepped t l (Order c) w).world
unfolding stepped
order_stays t l c w =
    moves_counts w.next w.table.clock (w.control.given + 1) t l (ordered (decide t l) c w.control) w (moved_given (decide t l) (system_of w) (Ordering c)) w.control.given (as_is w)

arrives_has : (t : Shape) (l : Limits) (next : ℕ → ℕ) (clock given : ℕ) (a : Arrival) (w : World) → Has next clock given w → Has next clock given (arrives_at t a w).world
arrives_has t l next clock given a w k = by_flag ((w.far (device a.port)).tables.cascade (port_number a.port))
  where
    by_sent : (r : Reaction) → Has next clock given (does_or_ignores t a r w).world
    by_sent (s, []) = k
    by_sent (s, x ∷ xs) = does_has next clock given t (device a.port) (Some (stamp_of a)) (s, x ∷ xs) w k

    by_flag : (b : Bool) → Has next clock given (cond b (ignored a w) (does_or_ignores t a (react (Arrives (side.Port (port_number a.port)) a.bytes) (w.far (device a.port))) w)).world
    by_flag true = k
    by_flag false = by_sent (react (Arrives (side.Port (port_number a.port)) a.bytes) (w.far (device a.port)))

pub arrival_stays : (t : Shape) (l : Limits) (a : Arrival) (w : World) → Has (at a.port (w.next a.port + 1) w.next) w.table.clock w.control.given (stepped t l (Arrive a) w).world
unfolding stepped
arrival_stays t l a w = by_flag (nat_lt a.port 64)
  where
    start : Has (at a.port (w.next a.port + 1) w.next) w.table.clock w.control.given (counted a w)
    start = record { awaits = λ p. refl; clock = refl; given = refl }

    by_flag : (b : Bool) → Has (at a.port (w.next a.port + 1) w.next) w.table.clock w.control.given (cond b (comes t a (counted a w)) (arrives_at t a (counted a w))).world
    by_flag true = comes_has _ _ _ t l a (counted a w) start
    by_flag false = arrives_has t l _ _ _ a (counted a w) start
