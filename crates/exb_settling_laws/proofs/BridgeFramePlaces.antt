-- What the bridge puts on links: control frames stand on the way of their extenders and read as requests and acknowledgements, and data is no
-- control frame.
use Rattle.std.proofs.Common.{◌≡◌, inl, inr, ℕ, ◌-◌, ◌≤◌, ◌<◌, ◌==◌, Bool, true, false, cond, List, [], ◌∷◌, length, drop, Option, Some, None, Ok, Err, refl, ap, sym, ◌∙◌, subst, arith}
use Rattle.std.specs.Prelude.{Result}
use Rattle.std.proofs.lemmas.Bool.{cases_Bool, cases_lt, and_parts, lt-ltb, le-ltb}
use Rattle.exb_model.specs.Tree.{Shape, HangsOn, IsTree, device, on, is_extender, is_external, trunk}
use Rattle.exb_model.specs.Setup.{Limits}
use Rattle.exb_model.specs.ETags.{read_etag, stripped, tagged}
use Rattle.exb_model.specs.Frames.{egress, kind_of, is_control_frame, IsBytes}
use Rattle.exb_model.specs.declared.arrival.Arrival.{Arrival}
use Rattle.exb_model.specs.EagerHistory.{is_relayed, is_relayed_kind}
use Rattle.exb_model.specs.Learning.{passes}
use Rattle.exb_model.proofs.TreeTrunks.{trunk-low}
use Rattle.exb_frame.specs.declared.etag.ETag.{ETag}
use Rattle.exb_frame.specs.TagValues.{tag_of}
use Rattle.exb_lldp.specs.declared.announce.Announce.{Announce}
use Rattle.exb_lldp.specs.declared.announce.LldpFault.{LldpFault}
use Rattle.exb_lldp.specs.Announcements.{announced as announcement_in}
use Rattle.exb_ecp.specs.declared.pdu.Pdu.{Pdu}
use Rattle.exb_ecp.specs.declared.pdu.EcpFault.{EcpFault}
use Rattle.exb_ecp.specs.Frames.{pdu_in}
use Rattle.exb_ecp.specs.StopAndWait.{is_fresh, acknowledged, submitted, stopped}
use Rattle.exb_ecp.specs.StopAndWait.{heard as received}
use Rattle.exb_csp.specs.declared.fault.CspFault.{CspFault}
use Rattle.exb_csp.specs.declared.message.Body.{Body}
use Rattle.exb_csp.specs.declared.message.Body.TheVariants as body
use Rattle.exb_csp.specs.declared.message.Message.{Message}
use Rattle.exb_csp.specs.declared.message.Request.{Request}
use Rattle.exb_csp.specs.Decoding.{read_message}
use Rattle.exb_csp.specs.Encoding.{message_bytes}
use Rattle.exb_csp.proofs.RoundTrip.{message_again}
use Rattle.exb_csp.specs.declared.session.asker.Taken.{Taken}
use Rattle.exb_csp.specs.declared.session.asker.Taken.TheVariants as taken
use Rattle.exb_csp.specs.Sessions.AskingEnd.{took}
use Rattle.exb_extender.specs.Forwarding.{is_bare_control, has_etag_type, channel_tag}
use Rattle.exb_link.specs.declared.link_frame.Stamp.{Stamp}
use Rattle.exb_link.specs.declared.link_frame.LinkFrame.{LinkFrame}
use Rattle.exb_link.specs.LinkFrames.{is_control}
use Rattle.exb_learn.specs.Calls.{look_in}
use Rattle.exb_relay.specs.declared.send.SendTo.{SendTo}
use Rattle.exb_relay.specs.Sends.{sends_of}
use Rattle.exb_control_spec.specs.Plans.HeldNumbers.{Held, channel_in, numbers_in}
use Rattle.exb_control_spec.proofs.Plans.ChannelOwners.{IsChannelOf, channel_found}
use Rattle.exb_control_spec.specs.declared.extender_message.Asked.{Asked}
use Rattle.exb_control_spec.specs.Decisions.{decide}
use Rattle.exb_control_spec.specs.Machine.{State, Moved, answered}
use Rattle.exb_world_spec.specs.Worlds.{World, with_near, with_table, with_control, control_word}
use Rattle.exb_world_spec.specs.Effects.{Effect, each}
use Rattle.exb_world_spec.specs.BridgeLearning.{announced, channel_at_trunk, taught, forgotten_all}
use Rattle.exb_world_spec.specs.ExtenderSteps.{hung_on}
use Rattle.exb_world_spec.specs.ControlFrames.{bridge_request, bridge_acknowledgement, puts_tagged, to_extender, asks, moves, stops, hears_message, hears_fresh, hears_request, hears_pdu, hears_frame, hears}
use Rattle.exb_world_spec.specs.DataFrames.{puts_word, sent_by, sends_in, sends_all, comes, arrival_by, comes_from, holder_by, hung_at, hears_from, takes_control, bridge_takes}
use Rattle.exb_world_spec.specs.Runs.Sessions.{Each, KeepsCascades, CanBeSent}
use Rattle.exb_world_spec.proofs.Bytes.{stripped_bytes}
use Rattle.exb_world_spec.proofs.Frames.{bare_spelled, tagged_to_control, egress_to_control, egress_long, control_refused, relayed_long}
use Rattle.exb_world_spec.proofs.Trunks.{hung_is, extender_there, above_there, trunk_above, trunk_low_on}
use Rattle.exb_settling_laws.specs.StopAndWait.{Message as Note}
use Rattle.exb_settling_laws.specs.RemainingFacts.{IsDownNote}
use Rattle.exb_settling_laws.specs.FramePlaces.{PlacedOn, WordPlaced, ReadsDown, ReadsUp}
use Rattle.exb_settling_laws.specs.Streams.{message_note}
use Rattle.exb_settling_laws.proofs.ControlFrameDecoding.{above_trunk, note_acknowledgement, note_request}
use Rattle.exb_settling_laws.proofs.LinkGrowth.{Grows, none_grows, same_links, grows_then, down_grows}
use Rattle.exb_settling_laws.proofs.ControlTurns.{to_extender_ends}

-- a control frame that goes down to extender n
pub record IsFor (n : ℕ) (f : List ℕ) : Type 0 where
  pub bare : is_bare_control f ≡ true
  pub reads : ReadsDown n f

-- a request that goes out
pub record IsAskable (t : Shape) (a : Asked) : Type 0 where
  pub there : is_extender t a.extender ≡ true
  pub can : CanBeSent a.message
  pub request : Request
  pub content : a.message.body ≡ body.Ask request

both_ways : (b : Bool) → b ≡ true → b ≡ false → ⊥
both_ways b x y = cc

-- ---- frames
pub acknowledges : (n sequence : ℕ) → IsFor n (bridge_acknowledgement sequence)
acknowledges n sequence =
    record {
      bare = bare_spelled 2 69 66 0 0 0 true sequence [];
      reads = (let P : Option Note → Type 0 = IsDownNote in subst P (sym (note_acknowledgement 2 69 66 0 0 0 sequence)) tt);
    }

-- a payload that reads as a request
pub requests : (n sequence serial : ℕ) (payload : List ℕ) → length payload ≤ 1024 → message_note sequence (read_message payload) ≡ Some (Rattle.exb_settling_laws.specs.StopAndWait.Request sequence serial) → IsFor n (bridge_request sequence payload)
requests n sequence serial payload short reads =
    record {
      bare = bare_spelled 2 69 66 0 0 0 false sequence payload;
      reads = (let P : Option Note → Type 0 = IsDownNote in subst P (sym (note_request 2 69 66 0 0 0 sequence payload short ∙ reads)) tt);
    }

asks_for : (n sequence : ℕ) (m : Message) (request : Request) → CanBeSent m → m.body ≡ body.Ask request → IsFor n (bridge_request sequence (message_bytes m))
asks_for n sequence m request can content =
    let read : read_message (message_bytes m) ≡ Ok m = message_again m can.spelled can.fits in
    requests n sequence m.serial (message_bytes m) can.short (ap (message_note sequence) read ∙ ap (λ (b : Body). Some (Rattle.exb_settling_laws.specs.Streams.body_note sequence m.serial b)) content)

module _ (t : Shape) (l : Limits) (tree : IsTree t) (h : Held) where
  abbrev D : ℕ → LinkFrame → Type 0
  D m x = WordPlaced t h ReadsDown m x

  abbrev U : ℕ → LinkFrame → Type 0
  U m x = WordPlaced t h (ReadsUp t) m x

  abbrev pub Puts : World → World → Type 0
  Puts w v = Grows t l (λ m x. WordPlaced t h ReadsDown m x) (λ m x. WordPlaced t h (ReadsUp t) m x) w v

  none_puts : (w : World) → Puts w w
  none_puts w = none_grows t l D U w

  same_puts : (w v : World) → v.down ≡ w.down → v.up ≡ w.up → Puts w v
  same_puts w v d u = same_links t l D U w v d u

  puts_then : (a b c : World) → Puts a b → Puts b c → Puts a c
  puts_then a b c x y = grows_then t l D U a b c x y

  -- ---- to an extender
  own_placed : (n : ℕ) (f : List ℕ) → is_extender t n ≡ true → IsFor n f → PlacedOn t h ReadsDown n f
  own_placed n f there k control = record { of = n; frame = f; there = there; bare = k.bare; below = inl refl; way = inl (refl, refl); reads = k.reads }

  tagged_placed : (g : Held) → KeepsCascades t g h → (n m channel : ℕ) (f : List ℕ) → is_extender t n ≡ true → IsFor n f → 64 ≤ on t n → HangsOn t m (trunk t n) → channel_in g (trunk t n) (on t n) ≡ Some channel →
      PlacedOn t h ReadsDown m (tagged f (channel_tag channel))
  tagged_placed g keeps n m channel f there k deep hangs holds control =
      let is : IsChannelOf g (trunk t n) (on t n) channel = channel_found g (trunk t n) (on t n) channel holds in
      let low : trunk t n < 64 = trunk-low t tree n there in
      let m_low : on t m < 64 = (let P : ℕ → Type 0 = λ z. z < 64 in subst P (sym hangs.at) low) in
      let same : trunk t n ≡ trunk t m = sym hangs.at ∙ sym (trunk_low_on t m m_low) in
      record {
        of = n;
        frame = f;
        there = there;
        bare = k.bare;
        below = above_trunk t tree h m n there hangs low;
        way = inr (
          (λ e. (let z : on t m ≡ on t n = ap (on t) e in omega arith)),
          record {
            channel = channel;
            some = is.low;
            small = is.high;
            frame = refl;
            deep = deep;
            home = sym same;
            holds = (let P : ℕ → Type 0 = λ z. h.port z channel ≡ Some (on t n) in subst P same (keeps n channel there deep is.low is.is));
          },
        );
        reads = k.reads;
      }

  at_trunk : (g : Held) (n : ℕ) → is_extender t n ≡ true → 64 ≤ on t n → channel_at_trunk t g (on t n) ≡ channel_in g (trunk t n) (on t n)
  at_trunk g n there deep =
      let above : is_extender t (device (on t n)) ≡ true = above_there t tree n there deep in
      ap (λ (b : Bool). cond b (channel_in g (trunk t (device (on t n))) (on t n)) None) above ∙ ap (λ (k : ℕ). channel_in g k (on t n)) (trunk_above t tree n there deep)

  puts_tagged_puts : (k : ℕ) (o c : Option ℕ) (f : List ℕ) (w : World) → ((m channel : ℕ) → o ≡ Some m → c ≡ Some channel → PlacedOn t h ReadsDown m (tagged f (channel_tag channel))) → Puts w (puts_tagged k o c f w).world
  puts_tagged_puts k (Some m) (Some channel) f w placed = down_grows t l D U m (control_word (tagged f (channel_tag channel))) w (placed m channel refl refl)
  puts_tagged_puts k (Some m) None f w placed = none_puts w
  puts_tagged_puts k None c f w placed = none_puts w

  pub to_extender_puts : (n : ℕ) (f : List ℕ) (w : World) → is_extender t n ≡ true → IsFor n f → KeepsCascades t w.control.held h → Puts w (to_extender t n f w).world
  to_extender_puts n f w there k keeps =
      elim (cases_lt (on t n) 64) [
        | inl low ↦ rw (lt-ltb (on t n) 64 low) (down_grows t l D U n (control_word f) w (own_placed n f there k))
        | inr deep ↦
            rw (le-ltb (on t n) 64 deep)
            (puts_tagged_puts (trunk t n) (hung_on t (trunk t n)) (channel_at_trunk t w.control.held (on t n)) f w
            (λ m channel e c. tagged_placed w.control.held keeps n m channel f there k deep (hung_is t (trunk t n) m e) (sym (at_trunk w.control.held n there deep) ∙ c)))
      ]

  -- ---- a step of the machine of changes
  asks_puts : (a : Asked) (w : World) → IsAskable t a → KeepsCascades t w.control.held h → Puts w (asks t a w).world
  asks_puts a w k keeps =
      let u : World = with_near a.extender (submitted (message_bytes a.message) (stopped (w.near a.extender))) w in
      puts_then w u (asks t a w).world (same_puts w u refl refl)
      (to_extender_puts a.extender (bridge_request (w.near a.extender).next (message_bytes a.message)) u k.there (asks_for a.extender (w.near a.extender).next a.message k.request k.can k.content) keeps)

  asks_held : (a : Asked) (w : World) → (asks t a w).world.control ≡ w.control
  asks_held a w = (to_extender_ends t a.extender (bridge_request (w.near a.extender).next (message_bytes a.message)) (with_near a.extender (submitted (message_bytes a.message) (stopped (w.near a.extender))) w)).control

  all_asks_puts : (xs : List Asked) (w : World) → Each (IsAskable t) xs → KeepsCascades t w.control.held h → Puts w (each (asks t) xs w).world
  all_asks_puts [] w all keeps = none_puts w
  all_asks_puts (a ∷ xs) w all keeps =
      let P : State → Type 0 = λ s. KeepsCascades t s.held h in
      puts_then w (asks t a w).world (each (asks t) xs (asks t a w).world).world (asks_puts a w all.0 keeps) (all_asks_puts xs (asks t a w).world all.1 (subst P (sym (asks_held a w)) keeps))

  -- what it asks can be sent, and the channels of the ports on which extenders hang stay
  pub record GoesWell (m : Moved) : Type 0 where
    pub asks : Each (IsAskable t) m.asks
    pub keeps : KeepsCascades t m.state.held h

  pub moves_puts : (m : Moved) (w : World) → GoesWell m → Puts w (moves t m w).world
  moves_puts m w k =
      let u : World = with_table (forgotten_all m.downs w.table) (with_control m.state w) in
      puts_then w u (moves t m w).world (same_puts w u refl refl) (all_asks_puts m.asks u k.asks k.keeps)

  -- so it is whatever comes from the extenders
  pub record HearsWell (s : State) : Type 0 where
    pub answers : (n : ℕ) (m : Message) → GoesWell (answered (decide t l) n m s)
    pub hears : (n : ℕ) (a : Announce) → GoesWell (announced (decide t l) t n a s)
    pub keeps : KeepsCascades t s.held h

  -- ---- what the bridge hears
  stops_puts : (o : Taken) (n : ℕ) (w : World) → Puts w (stops o n w)
  stops_puts (taken.Answer response) n w = same_puts w _ refl refl
  stops_puts taken.Stale n w = none_puts w
  stops_puts taken.NotOurs n w = none_puts w

  message_puts : (n : ℕ) (r : Result Message CspFault) (w : World) → HearsWell w.control → Puts w (hears_message t l n r w).world
  message_puts n (Err fault) w k = none_puts w
  message_puts n (Ok m) w k =
      puts_then w (stops (took (w.control.askers n) m).1 n w) _ (stops_puts (took (w.control.askers n) m).1 n w) (moves_puts (answered (decide t l) n m w.control) (stops (took (w.control.askers n) m).1 n w) (k.answers n m))

  fresh_puts : (n : ℕ) (b : Bool) (sequence : ℕ) (payload : List ℕ) (w : World) → HearsWell w.control → Puts w (hears_fresh t l n b sequence payload w).world
  fresh_puts n true sequence payload w k =
      puts_then w (with_near n (received sequence (w.near n)) w) _ (same_puts w _ refl refl) (message_puts n (read_message payload) (with_near n (received sequence (w.near n)) w) k)
  fresh_puts n false sequence payload w k = none_puts w

  request_puts : (n sequence : ℕ) (payload : List ℕ) (w : World) → is_extender t n ≡ true → HearsWell w.control → Puts w (hears_request t l n sequence payload w).world
  request_puts n sequence payload w there k =
      puts_then w (to_extender t n (bridge_acknowledgement sequence) w).world _ (to_extender_puts n (bridge_acknowledgement sequence) w there (acknowledges n sequence) k.keeps)
      (fresh_puts n (is_fresh sequence ((to_extender t n (bridge_acknowledgement sequence) w).world.near n)) sequence payload (to_extender t n (bridge_acknowledgement sequence) w).world
      (subst HearsWell (sym (to_extender_ends t n (bridge_acknowledgement sequence) w).control) k))

  pdu_puts : (n : ℕ) (r : Result Pdu EcpFault) (f : List ℕ) (w : World) → is_extender t n ≡ true → HearsWell w.control → Puts w (hears_pdu t l n r f w).world
  pdu_puts n (Err fault) f w there k = none_puts w
  pdu_puts n (Ok pdu) f w there k =
      elim (cases_Bool (pdu.subtype == 2)) [
        | inr e ↦ rw e (none_puts w)
        | inl e ↦ elim (cases_Bool pdu.acknowledgement) [
          | inl a ↦ rw (e, a) (same_puts w (with_near n (acknowledged pdu.sequence (w.near n)) w) refl refl)
          | inr a ↦ rw (e, a) (request_puts n pdu.sequence (drop 18 f) w there k)
        ]
      ]

  frame_puts : (n : ℕ) (r : Result Announce LldpFault) (f : List ℕ) (w : World) → is_extender t n ≡ true → HearsWell w.control → Puts w (hears_frame t l n r f w).world
  frame_puts n (Ok a) f w there k = moves_puts (announced (decide t l) t n a w.control) w (k.hears n a)
  frame_puts n (Err fault) f w there k = pdu_puts n (pdu_in f) f w there k

  hears_puts : (n : ℕ) (f : List ℕ) (w : World) → is_extender t n ≡ true → HearsWell w.control → Puts w (hears t l n f w).world
  unfolding hears
  hears_puts n f w there k = frame_puts n (announcement_in f) f w there k

  -- ---- data
  word_puts : (port : ℕ) (o : Option ℕ) (x : LinkFrame) (w : World) → is_control_frame x.bytes ≡ false → Puts w (puts_word port o x w).world
  word_puts port None x w bare = none_puts w
  word_puts port (Some m) x w bare = down_grows t l D U m x w (λ control. absurd (both_ways (is_control_frame x.bytes) control bare))

  module _ (a : Arrival) (long : 12 ≤ length a.bytes) (data_frame : is_control_frame a.bytes ≡ false) where
    send_puts : (vid : ℕ) (x : SendTo) (w : World) → Puts w (sends_in t a vid x w).world
    send_puts vid x w = by_tag x.tag
      where
        bytes : is_control_frame (egress a.bytes x.kind vid) ≡ false
        bytes = egress_to_control a.bytes x.kind vid long ∙ data_frame

        by_tag : (o : Option ETag) → Puts w (sent_by t a (egress a.bytes x.kind vid) x.bridge_port o w).world
        by_tag None = none_puts w
        by_tag (Some tag) =
            word_puts x.bridge_port (hung_on t (x.bridge_port - 1)) (record { bytes = tagged (egress a.bytes x.kind vid) (tag_of tag); stamp = _ }) w
            (tagged_to_control (egress a.bytes x.kind vid) (tag_of tag) (egress_long a.bytes x.kind vid long) ∙ bytes)

    all_puts : (vid : ℕ) (xs : List SendTo) (w : World) → Puts w (each (sends_in t a vid) xs w).world
    all_puts vid [] w = none_puts w
    all_puts vid (x ∷ xs) w = puts_then w (sends_in t a vid x w).world _ (send_puts vid x w) (all_puts vid xs (sends_in t a vid x w).world)

    sends_puts : (xs : List SendTo) (o : Option ℕ) (w : World) → Puts w (sends_all t a xs o w).world
    sends_puts xs None w = none_puts w
    sends_puts xs (Some vid) w = all_puts vid xs w

  nothing_puts : (a : Arrival) (o : Option ℕ) (w : World) → Puts w (sends_all t a [] o w).world
  nothing_puts a None w = none_puts w
  nothing_puts a (Some vid) w = none_puts w

  pub comes_puts : (a : Arrival) (w : World) → IsBytes a.bytes → Puts w (comes t a w).world
  comes_puts a w bytes =
      let u : World = with_table (taught w.control.bridge a w.table) w in
      puts_then w u (comes t a w).world (same_puts w u refl refl) (by_relayed (is_relayed w.control.bridge a.port a.bytes) refl)
    where
      u : World
      u = with_table (taught w.control.bridge a w.table) w

      not_control : is_relayed_kind (kind_of a.bytes) ≡ true → is_control_frame a.bytes ≡ false
      not_control kind =
          elim (cases_Bool (is_control_frame a.bytes)) [
            | inr e ↦ e
            | inl e ↦ absurd (both_ways (is_relayed_kind (kind_of a.bytes)) kind (control_refused a.bytes bytes e).1)
          ]

      by_relayed : (b : Bool) → is_relayed w.control.bridge a.port a.bytes ≡ b →
          Puts u (sends_all t a (cond b (sends_of t w.control.bridge (look_in w.table) (numbers_in w.control.held) a.port a.bytes) []) (passes w.control.bridge a.port a.bytes) u).world
      by_relayed false e = nothing_puts a (passes w.control.bridge a.port a.bytes) u
      by_relayed true e =
          let kind : is_relayed_kind (kind_of a.bytes) ≡ true = (and_parts (w.control.bridge.present a.port) (is_relayed_kind (kind_of a.bytes)) e).1 in
          let long : 14 ≤ length a.bytes = relayed_long a.bytes kind in
          sends_puts a (omega arith) (not_control kind) (sends_of t w.control.bridge (look_in w.table) (numbers_in w.control.held) a.port a.bytes) (passes w.control.bridge a.port a.bytes) u

  from_puts : (o : Option ℕ) (s : Option Stamp) (bytes : List ℕ) (w : World) → IsBytes bytes → Puts w (comes_from t o s bytes w).world
  from_puts (Some p) (Some s) bytes w are = elim (cases_Bool (is_external t p)) [ inl e ↦ rw e (comes_puts (arrival_by p s bytes) w are) | inr e ↦ rw e (none_puts w) ]
  from_puts (Some p) None bytes w are = none_puts w
  from_puts None s bytes w are = none_puts w

  -- ---- a word comes up to the bridge
  hung_at_there : (o : Option ℕ) (n : ℕ) → hung_at t o ≡ Some n → is_extender t n ≡ true
  hung_at_there None n e = absurd (cc)
  hung_at_there (Some p) n e = extender_there t n p (hung_is t p n e)

  hears_from_puts : (o : Option ℕ) (f : List ℕ) (w : World) → ((n : ℕ) → o ≡ Some n → is_extender t n ≡ true) → HearsWell w.control → Puts w (hears_from t l o f w).world
  hears_from_puts None f w there k = none_puts w
  hears_from_puts (Some n) f w there k = hears_puts n f w (there n refl) k

  either : (b : Bool) (e f : Effect) (w : World) → Puts w e.world → Puts w f.world → Puts w (cond b e f).world
  either true e f w x y = x
  either false e f w x y = y

  pub bridge_takes_puts : (k m : ℕ) (x : LinkFrame) (w : World) → is_extender t m ≡ true → IsBytes x.bytes → HearsWell w.control → Puts w (bridge_takes t l k m x w).world
  bridge_takes_puts k m x w there bytes well =
      either (is_control x) (takes_control t l k m x.bytes w) (comes_from t (holder_by w k (read_etag x.bytes)) x.stamp (stripped x.bytes) w) w
      (either (has_etag_type x.bytes) (hears_from t l (hung_at t (holder_by w k (read_etag x.bytes))) (stripped x.bytes) w) (hears t l m x.bytes w) w
      (hears_from_puts (hung_at t (holder_by w k (read_etag x.bytes))) (stripped x.bytes) w (hung_at_there (holder_by w k (read_etag x.bytes))) well) (hears_puts m x.bytes w there well))
      (from_puts (holder_by w k (read_etag x.bytes)) x.stamp (stripped x.bytes) w (stripped_bytes x.bytes bytes))
