-- What a step does to the data words on the upward links, and what it tells of arrivals at ports of extenders.
use Rattle.std.proofs.Common.{◌≡◌, ◌≢◌, ℕ, ◌+◌, ◌<◌, ◌≤◌, ◌==◌, ◌||◌, ◌++◌, nat_le, Bool, true, false, cond, List, [], ◌∷◌, length, filter, Option, Some, None, refl, sym, ◌∙◌, ap, subst, arith, inl, inr}
use Rattle.std.proofs.lemmas.Bool.{cases_Bool, cases_eq, lt-ltb, le-ltb, and_parts, eq-eqb, ne_eqb, eqb-true}
use Rattle.exb_model.specs.declared.event.Event.{Event}
use Rattle.exb_model.specs.declared.event.Event.TheVariants as event
use Rattle.exb_model.specs.declared.frame_kind.Seen.{Seen}
use Rattle.exb_model.specs.declared.frame_kind.Seen.TheVariants as seen
use Rattle.exb_model.specs.ETags.{tagged, stripped}
use Rattle.exb_model.specs.EagerHistory.{is_relayed_kind, arrival_event}
use Rattle.exb_model.specs.Frames.{kind_of, is_control_frame, IsBytes}
use Rattle.exb_model.specs.Tree.{Shape, device, on, trunk, is_extender, is_external, is_extended, port_number}
use Rattle.exb_model.specs.Setup.{Limits}
use Rattle.exb_model.specs.declared.arrival.Arrival.{Arrival}
use Rattle.exb_frame.specs.TagValues.{TagRoundTrip}
use Rattle.exb_extender.specs.declared.sends.Side.TheVariants as side
use Rattle.exb_extender.specs.Forwarding.{Sent, up, channel_tag, is_refused_kind, is_ignored, sent_from_external, emitted}
use Rattle.exb_extender.specs.Machine.{ExtenderState, IsExtender, Arrives, react}
use Rattle.exb_link.specs.declared.link_frame.Stamp.{Stamp}
use Rattle.exb_link.specs.declared.link_frame.LinkFrame.{LinkFrame}
use Rattle.exb_link.specs.LinkFrames.{is_control, is_data, without_data}
use Rattle.exb_control_spec.specs.Plans.HeldNumbers.{channel_in}
use Rattle.exb_control_spec.proofs.Plans.ChannelOwners.{channel_found}
use Rattle.exb_relay.specs.Sends.{or_zero}
use Rattle.exb_control_spec.specs.Runs.PlannedChanges.{IsSetting}
use Rattle.exb_world_spec.specs.Worlds.{World, Up, Arrive, Carry, with_up}
use Rattle.exb_model.specs.Tables.{at}
use Rattle.exb_world_spec.specs.Effects.{Effect}
use Rattle.exb_world_spec.specs.ExtenderSteps.{stamp_of, ignored, does, does_or_ignores, takes_from_below, arrives_at}
use Rattle.exb_world_spec.specs.DataFrames.{holder_by, arrival_by, comes, bridge_takes}
use Rattle.exb_world_spec.specs.Steps.{counted, first_data, takes_any, takes_up, done_by, stepped}
use Rattle.exb_world_spec.specs.Runs.Simulation.{IsSound}
use Rattle.exb_world_spec.specs.Runs.Journal.{IsOfRecord}
use Rattle.exb_world_spec.specs.Runs.Stamps.{IsStamped, AreStamped}
use Rattle.exb_world_spec.proofs.Frames.{control_refused, relayed_long, tagged_to_control, tag_fits}
use Rattle.exb_world_spec.proofs.IgnoredArrivals.{extenders_ignore}
use Rattle.exb_world_spec.proofs.Steps.{home}
use Rattle.exb_world_spec.proofs.StepEvents.{steps_tell_by_kind}
use Rattle.exb_world_spec.proofs.LinkFrames.{each_filter, each_get}
use Rattle.exb_flight.specs.Items.{Word as Datum, Item, Data, Each, words_of}
use Rattle.exb_flight.specs.Items as items
use Rattle.exb_flight.specs.Flight.{add, change}
use Rattle.exb_flight.specs.FlightFacts.{CleanUp}
use Rattle.exb_flight.proofs.LaidRows.{trunk_low}
use Rattle.exb_flight.proofs.ItemLists.{words_append, words_data, words_without_data}
use Rattle.exb_flight.specs.Tokens.{datum_by, datum, data_words}
use Rattle.exb_flight.proofs.SimulatedAscents.{data_first}
use Rattle.exb_world_laws.specs.OneBridge.{upward}
use Rattle.exb_world_laws.proofs.QuietLinks.{data_append, data_one, Has, bridge_has}

-- ---- words on links
pub upward_words : (w : World) (n : ℕ) → words_of (upward w n) ≡ data_words (w.up n)
upward_words w n = words_data (data_words (w.up n))

-- one more at the end
pub added_words : (w : World) (n : ℕ) (x : LinkFrame) (m : ℕ) → is_control x ≡ false → data_words (at n (w.up n ++ x ∷ []) w.up m) ≡ words_of (add (upward w) n (Data (datum x)) m)
added_words w n x m plain =
    elim (cases_eq m n) [
      | inl e ↦ rw (eq-eqb m n e) (
          data_append (w.up n) (x ∷ []) ∙ (ap (λ (fs : List Datum). data_words (w.up n) ++ fs) (data_one x plain)
          ∙ (ap (λ (k : ℕ). data_words (w.up k) ++ datum x ∷ []) (sym e)
          ∙ (ap (λ (fs : List Datum). fs ++ datum x ∷ []) (sym (upward_words w m)) ∙ sym (words_append (upward w m) (Data (datum x) ∷ []))))))
      | inr e ↦ rw (ne_eqb m n e) (sym (upward_words w m))
    ]

-- the first one less
pub taken_words : (w : World) (n : ℕ) (x : LinkFrame) (m : ℕ) → first_data (w.up n) ≡ Some x → data_words (at n (without_data (w.up n)) w.up m) ≡ words_of (change (upward w) n (items.without_data (upward w n)) m)
taken_words w n x m found =
    elim (cases_eq m n) [
      | inl e ↦ rw (eq-eqb m n e) (sym (words_without_data (upward w n) (datum x) (data_words (without_data (w.up n))) (upward_words w n ∙ (data_first (w.up n) x found).1)))
      | inr e ↦ rw (ne_eqb m n e) (sym (upward_words w m))
    ]

pub first_upward : (w : World) (n : ℕ) (x : LinkFrame) → first_data (w.up n) ≡ Some x → words_of (upward w n) ≡ datum x ∷ data_words (without_data (w.up n))
first_upward w n x found = upward_words w n ∙ (data_first (w.up n) x found).1

-- ---- an arrival at a port of an extender
-- It is ignored, and nothing changes but what is awaited; or it goes up.
pub record IsIgnored (w v : World) (a : Arrival) (es : List Event) : Type 0 where
  pub events : es ≡ event.Ignored a.port a.index ∷ []
  pub why : is_ignored ((w.far (device a.port)).tables.own (port_number a.port)) a.bytes ≡ true
  pub has : Has (λ n. data_words (w.up n)) (at a.port (w.next a.port + 1) w.next) v

pub record IsRaised (t : Shape) (w v : World) (a : Arrival) (es : List Event) : Type 0 where
  pub events : es ≡ []
  pub bytes : List ℕ
  pub clean : stripped bytes ≡ a.bytes
  pub has : Has (λ n. words_of (add (upward w) (device a.port) (Data (record { bytes = bytes; port = a.port; index = a.index; moment = a.moment })) n)) (at a.port (w.next a.port + 1) w.next) v

pub data Ascends (t : Shape) (w v : World) (a : Arrival) (es : List Event) : Type 0 where
  ignores : IsIgnored w v a es → Ascends t w v a es
  raises : IsRaised t w v a es → Ascends t w v a es

module _ (t : Shape) (l : Limits) (setting : IsSetting t l) (round : TagRoundTrip) (w : World) (sound : IsSound t l w) (a : Arrival) (bytes : IsBytes a.bytes) (external : is_external t a.port ≡ true) (deep : 64 ≤ a.port) where
  abbrev n : ℕ
  n = device a.port

  both : (b : Bool) → b ≡ true → b ≡ false → ⊥
  both b x y = cc

  or_parts : (x y : Bool) → (x || y) ≡ false → (x ≡ false) × (y ≡ false)
  or_parts false y e = (refl, e)
  or_parts true y e = absurd (both true refl e)

  refused_relayed : (k : Seen) → is_refused_kind k ≡ false → is_relayed_kind k ≡ true
  refused_relayed seen.Short e = absurd (both true refl e)
  refused_relayed seen.Long e = absurd (both true refl e)
  refused_relayed seen.Reserved e = absurd (both true refl e)
  refused_relayed seen.BadTag e = refl
  refused_relayed seen.Plain e = refl
  refused_relayed (seen.Priority pcp dei) e = refl
  refused_relayed (seen.Tagged pcp dei v) e = refl

  emitted_out : (y : ExtenderState) (q : ℕ) → y.tables.cascade q ≡ false → emitted y.tables (side.Port q) a.bytes ≡ sent_from_external (y.tables.own q) a.bytes
  unfolding emitted
  emitted_out y q outer = rw outer refl

  -- what is told, as the law says
  told : (done_by t l (Arrive a) w).events ≡ cond (is_ignored ((w.far (device a.port)).tables.own (port_number a.port)) a.bytes) (event.Ignored a.port a.index ∷ []) []
  unfolding stepped
  told = (extenders_ignore t l setting w a sound deep external).events

  -- what is told decides
  ignored_by : (b : Bool) → cond b (event.Ignored a.port a.index ∷ []) [] ≡ event.Ignored a.port a.index ∷ [] → b ≡ true
  ignored_by true e = refl
  ignored_by false e = absurd (let z : ◌≡◌ {A = List Event} [] (event.Ignored a.port a.index ∷ []) = e in cc)

  none_ignored : (done_by t l (Arrive a) w).world ≡ (ignored a (counted a w)).world → (done_by t l (Arrive a) w).events ≡ (ignored a (counted a w)).events → IsIgnored w (done_by t l (Arrive a) w).world a (done_by t l (Arrive a) w).events
  none_ignored world events =
      record {
        events = events;
        why = ignored_by _ (sym told ∙ events);
        has = subst (Has (λ k. data_words (w.up k)) (at a.port (w.next a.port + 1) w.next)) (sym world) (record { ups = λ k. refl; awaits = λ p. refl });
      }

  -- with the E-TAG of a channel
  raised : (own : ℕ) → own < 4095 → is_ignored own a.bytes ≡ false →
      (e : Effect) → e ≡ does_or_ignores t a (w.far (device a.port), up (tagged a.bytes (channel_tag own)) ∷ []) (counted a w) → IsRaised t w e.world a e.events
  raised own small kept e is =
      let g : List ℕ = tagged a.bytes (channel_tag own) in
      let word : LinkFrame = record { bytes = g; stamp = Some (stamp_of a) } in
      let p = or_parts (own == 0) (is_refused_kind (kind_of a.bytes)) kept in
      let long : 14 ≤ length a.bytes = relayed_long a.bytes (refused_relayed (kind_of a.bytes) p.1) in
      let plain : is_control word ≡ false = elim (cases_Bool (is_control_frame g)) [
        | inr z ↦ z
        | inl z ↦ absurd (both (is_refused_kind (kind_of a.bytes)) (control_refused a.bytes bytes (sym (tagged_to_control a.bytes (channel_tag own) (omega (arith, long))) ∙ z)).0 p.1)
      ] in
      let R : Effect → Type 0 = λ x. IsRaised t w x.world a x.events in
      subst R (sym is)
      (record {
        events = refl;
        bytes = g;
        clean = (round a.bytes (channel_tag own) (omega (arith, long)) (tag_fits own small)).1;
        has = record { ups = λ m. added_words w (device a.port) word m plain; awaits = λ q. refl };
      })

  -- by the tables of its extender
  pub ascends : Ascends t w (done_by t l (Arrive a) w).world a (done_by t l (Arrive a) w).events
  ascends =
      let there : is_extender t n ≡ true = home t l setting.tree setting round a.port deep external in
      let is : IsExtender (w.far n) = sound.fits.ends.extenders n there in
      let q : ℕ = port_number a.port in
      let own : ℕ = (w.far n).tables.own q in
      let goes : done_by t l (Arrive a) w ≡ arrives_at t a (counted a w) = ap (λ (b : Bool). cond b (comes t a (counted a w)) (arrives_at t a (counted a w))) (le-ltb a.port 64 deep) in
      elim (cases_Bool ((w.far n).tables.cascade q)) [
        | inl cascade ↦
            let e : done_by t l (Arrive a) w ≡ ignored a (counted a w) =
            goes ∙ ap (λ (b : Bool). cond b (ignored a (counted a w)) (does_or_ignores t a (react (Arrives (side.Port q) a.bytes) (w.far n)) (counted a w))) cascade in
            ignores (none_ignored (ap (λ (x : Effect). x.world) e) (ap (λ (x : Effect). x.events) e))
        | inr outer ↦
            let sent : done_by t l (Arrive a) w ≡ does_or_ignores t a (w.far n, sent_from_external own a.bytes) (counted a w) =
            goes ∙ (ap (λ (b : Bool). cond b (ignored a (counted a w)) (does_or_ignores t a (react (Arrives (side.Port q) a.bytes) (w.far n)) (counted a w))) outer
            ∙ ap (λ (xs : List Sent). does_or_ignores t a (w.far n, xs) (counted a w)) (emitted_out (w.far n) q outer)) in
            elim (cases_Bool (is_ignored own a.bytes)) [
              | inl z ↦
                  let e : done_by t l (Arrive a) w ≡ ignored a (counted a w) =
                  sent ∙ ap (λ (b : Bool). does_or_ignores t a (w.far n, cond b [] (up (tagged a.bytes (channel_tag own)) ∷ [])) (counted a w)) z in
                  ignores (none_ignored (ap (λ (x : Effect). x.world) e) (ap (λ (x : Effect). x.events) e))
              | inr z ↦
                  let e : done_by t l (Arrive a) w ≡ does_or_ignores t a (w.far n, up (tagged a.bytes (channel_tag own)) ∷ []) (counted a w) =
                  sent ∙ ap (λ (b : Bool). does_or_ignores t a (w.far n, cond b [] (up (tagged a.bytes (channel_tag own)) ∷ [])) (counted a w)) z in
                  raises (raised own (is.channels q) z (done_by t l (Arrive a) w) e)
            ]
      ]

-- ---- a data word that the bridge takes
-- It is of a record: it has a stamp, whose port holds its channel.
pub record_of : (t : Shape) (w : World) (n : ℕ) (x : LinkFrame) (s : Stamp) → on t n < 64 → x.stamp ≡ Some s → CleanUp t w.control.held (trunk t n) (datum x) → (is_extended t s.port ≡ true) × IsOfRecord t w n x s
record_of t w n x s low stamped clean =
    let d : Datum = datum_by x.bytes (Some s) in
    let k : CleanUp t w.control.held (trunk t n) d = subst (λ (o : Option Stamp). CleanUp t w.control.held (trunk t n) (datum_by x.bytes o)) stamped clean in
    let p = and_parts (is_extended t s.port) (trunk t (device s.port) == trunk t n) k.under in
    let trunks : trunk t (device s.port) ≡ trunk t n = eqb-true (trunk t (device s.port)) (trunk t n) p.1 in
    let found : channel_in w.control.held (trunk t (device s.port)) s.port ≡ Some k.tag.ecid = some_number (channel_in w.control.held (trunk t (device s.port)) s.port) k.tag.ecid k.number k.some in
    let held : w.control.held.port (trunk t (device s.port)) k.tag.ecid ≡ Some s.port = (channel_found w.control.held (trunk t (device s.port)) s.port k.tag.ecid found).is in (
      p.0,
      record {
        stamped = stamped;
        held = ap (holder_by w (on t n)) k.read ∙ (ap (λ (m : ℕ). w.control.held.port m k.tag.ecid) (sym (trunks ∙ trunk_low t n low)) ∙ held);
        external = (and_parts (nat_le 64 s.port) (is_external t s.port) p.0).1;
      },
    )
  where
    some_number : (o : Option ℕ) (e : ℕ) → or_zero o ≡ e → 0 < e → o ≡ Some e
    some_number None e same some = absurd (omega (arith, same, some))
    some_number (Some c) e same some = ap Some same

-- what happens, and what it was
pub record IsTaken (t : Shape) (w v : World) (n : ℕ) (x : LinkFrame) (es : List Event) : Type 0 where
  pub stamp : Stamp
  pub stamped : x.stamp ≡ Some stamp
  pub outer : is_extended t stamp.port ≡ true
  pub events : es ≡ arrival_event w.control.bridge (arrival_by stamp.port stamp (stripped x.bytes)) ∷ []
  pub has : Has (λ m. words_of (change (upward w) n (items.without_data (upward w n)) m)) w.next v

pub taken_in : (t : Shape) (l : Limits) (w : World) (n : ℕ) (x : LinkFrame) → on t n < 64 → first_data (w.up n) ≡ Some x → AreStamped w → Each (CleanUp t w.control.held (trunk t n)) (data_words (w.up n)) →
    IsTaken t w (done_by t l (Carry n Up) w).world n x (done_by t l (Carry n Up) w).events
unfolding stepped
taken_in t l w n x low found stamped clean =
    let first = data_first (w.up n) x found in
    let fits : IsStamped x = each_get IsStamped (filter is_data (w.up n)) 0 x (each_filter IsStamped is_data (w.up n) (stamped.ups n)) found in
    let s : Stamp = (fits first.0).0 in
    let its : CleanUp t w.control.held (trunk t n) (datum x) = (subst (λ (fs : List Datum). Each (CleanUp t w.control.held (trunk t n)) fs) first.1 clean).0 in
    let k = record_of t w n x s low (fits first.0).1 its in
    let u : World = with_up n (without_data (w.up n)) w in
    let words : ℕ → List Datum = λ m. words_of (change (upward w) n (items.without_data (upward w n)) m) in
    let start : Has words w.next u = record { ups = λ m. taken_words w n x m found; awaits = λ p. refl } in
    let there : Has words w.next (takes_up t l n x u).world = rw (lt-ltb (on t n) 64 low) (bridge_has words w.next t l (on t n) n x u start) in
    record {
      stamp = s;
      stamped = (fits first.0).1;
      outer = k.0;
      events = (steps_tell_by_kind t l w (Carry n Up)).bridge (lt-ltb (on t n) 64 low) x found s k.1;
      has = subst (λ (o : Option LinkFrame). Has words w.next (takes_any t l n Up o (without_data (w.up n)) w).world) (sym found) there;
    }

-- ---- a data word that goes on to the next link
pub gone_on : (t : Shape) (l : Limits) (w : World) (n : ℕ) (x : LinkFrame) → 64 ≤ on t n → device (on t n) ≢ n → first_data (w.up n) ≡ Some x →
    takes_from_below t (device (on t n)) (port_number (on t n)) x (with_up n (without_data (w.up n)) w) ≡ does t (device (on t n)) x.stamp (w.far (device (on t n)), up x.bytes ∷ []) (with_up n (without_data (w.up n)) w) →
    ((done_by t l (Carry n Up) w).events ≡ []) × Has (λ m. words_of (add (change (upward w) n (items.without_data (upward w n))) (device (on t n)) (Data (datum x)) m)) w.next (done_by t l (Carry n Up) w).world
gone_on t l w n x deep apart found sent =
    let v : World = with_up n (without_data (w.up n)) w in
    let p : ℕ = device (on t n) in
    let links : ℕ → List Item = change (upward w) n (items.without_data (upward w n)) in
    let first = data_first (w.up n) x found in
    let goes : takes_any t l n Up (first_data (w.up n)) (without_data (w.up n)) w ≡ does t p x.stamp (w.far p, up x.bytes ∷ []) v =
    ap (λ (o : Option LinkFrame). takes_any t l n Up o (without_data (w.up n)) w) found
    ∙ (ap (λ (b : Bool). cond b (bridge_takes t l (on t n) n x v) (takes_from_below t p (port_number (on t n)) x v)) (le-ltb (on t n) 64 deep) ∙ sent) in
    let word : LinkFrame = record { bytes = x.bytes; stamp = x.stamp } in
    let ups : (m : ℕ) → data_words (at p (v.up p ++ word ∷ []) v.up m) ≡ words_of (add links p (Data (datum x)) m) = λ m. elim (cases_eq m p) [
      | inl e ↦ rw (eq-eqb m p e) (
          data_append (v.up p) (word ∷ []) ∙ (ap (λ (fs : List Datum). data_words (v.up p) ++ fs) (data_one word first.0)
          ∙ (ap (λ (k : ℕ). data_words (v.up k) ++ datum x ∷ []) (sym e)
          ∙ (ap (λ (fs : List Datum). fs ++ datum x ∷ []) (taken_words w n x m found) ∙ sym (words_append (links m) (Data (datum x) ∷ []))))))
      | inr e ↦ rw (ne_eqb m p e) (taken_words w n x m found)
    ] in
    let R : Effect → Type 0 = λ e. (e.events ≡ []) × Has (λ m. words_of (add links p (Data (datum x)) m)) w.next e.world in
    subst R (sym goes) (refl, record { ups = ups; awaits = λ q. refl })
