-- A frame that arrives is flown: at the bridge it is relayed or ignored, and at an extender it goes up with the E-TAG or is ignored.
use Rattle.std.proofs.Common.{◌≡◌, ℕ, ◌+◌, ◌%◌, ◌==◌, ◌||◌, ◌<◌, ◌≤◌, ◌++◌, nat_lt, nat_le, Bool, true, false, if◌then◌else◌, List, [], ◌∷◌, length, Some, refl, sym, ◌∙◌, ap, subst, arith, inl, inr}
use Rattle.std.proofs.lemmas.Bool.{cases_Bool, cases_eq, cases_lt, lt-ltb, le-ltb, le-leb, and_from, eq-eqb, ne_eqb}
use Rattle.exb_model.specs.declared.event.Event.TheVariants as event
use Rattle.exb_model.specs.ETags.{tagged}
use Rattle.exb_model.specs.Frames.{kind_of, is_control_frame, IsBytes}
use Rattle.exb_model.specs.Tree.{Shape, device, is_extender, is_external, port_number}
use Rattle.exb_model.specs.Setup.{Limits}
use Rattle.exb_model.specs.declared.arrival.Arrival.{Arrival}
use Rattle.exb_model.specs.History.{Basis, History, ◌then◌}
use Rattle.exb_frame.specs.TagValues.{TagRoundTrip}
use Rattle.exb_learn.specs.Histories.{table_after}
use Rattle.exb_extender.specs.declared.sends.Side.TheVariants as side
use Rattle.exb_extender.specs.Forwarding.{Sent, up, channel_tag, is_refused_kind, is_ignored, sent_from_external, emitted}
use Rattle.exb_extender.specs.Machine.{ExtenderState, IsExtender}
use Rattle.exb_link.specs.declared.link_frame.LinkFrame.{LinkFrame}
use Rattle.exb_link.specs.LinkFrames.{is_control}
use Rattle.exb_relay.specs.Laws.{SendsAreWords, SendsLeaveAsFlat}
use Rattle.exb_control_spec.specs.Runs.Systems.{System}
use Rattle.exb_control_spec.specs.Runs.PlannedChanges.{IsSetting}
use Rattle.exb_world_spec.specs.Worlds.{World, Up, Left}
use Rattle.exb_world_spec.specs.Effects.{Effect}
use Rattle.exb_world_spec.specs.ExtenderSteps.{stamp_of, ignored, does_or_ignores, arrives_at}
use Rattle.exb_world_spec.specs.Steps.{counted}
use Rattle.exb_world_spec.specs.Runs.Simulation.{IsSound}
use Rattle.exb_world_spec.proofs.Frames.{control_refused, relayed_long, tagged_to_control, tag_fits}
use Rattle.exb_world_spec.proofs.ControlFrames.{seen_as, quiet_sound}
use Rattle.exb_model.specs.declared.frame_kind.Seen.{Seen}
use Rattle.exb_model.specs.declared.frame_kind.Seen.TheVariants as seen
use Rattle.exb_model.specs.EagerHistory.{is_relayed_kind}
use Rattle.exb_world_spec.proofs.Steps.{home}
use Rattle.exb_world_spec.proofs.LinkFrames.{at_itself}
use Rattle.exb_flight.specs.Items.{Word as Datum, Item, Data}
use Rattle.exb_flight.specs.Flight.{Flight, Arrive, Note, add, tables_of}
use Rattle.exb_flight.specs.Flight as flights
use Rattle.exb_flight.specs.AllowedSteps.{CanArrive}
use Rattle.exb_flight.specs.Tokens.{Thins, datum, items_on, key_on}
use Rattle.exb_flight.specs.SimulationRelation.{Shows}
use Rattle.exb_flight.specs.Simulation.{Flown, ArrivalsFly}
use Rattle.exb_flight.proofs.Items.{thins_append, items_append, items_data}
use Rattle.exb_flight.proofs.SimulatedTicks.{none_left}
use Rattle.exb_flight.proofs.SimulatedRelay.{comes_flown}

module _ (t : Shape) (l : Limits) (i : Basis) (setting : IsSetting t l) (round : TagRoundTrip) (w : World) (sound : IsSound t l w) (h : History) (gone : List Left) (a : Arrival) (bytes : IsBytes a.bytes) (external : is_external t a.port ≡ true) (deep : 64 ≤ a.port)
    (f : Flight) (s : Shows t i w h gone f) where
  note_flown : Flown t l i h gone f (ignored a w)
  unfolding table_after
  note_flown =
      record {
        steps = Note (event.Ignored a.port a.index) ∷ [];
        runs = (tt, tt);
        shows = none_left t i _ _ gone _ (record { system = s.system; down = s.down; up = s.up; history = ap (λ (g : History). event.Ignored a.port a.index ∷ g) s.history; left = s.left; learned = s.learned });
      }

  emitted_out : (y : ExtenderState) (q : ℕ) → y.tables.cascade q ≡ false → emitted y.tables (side.Port q) a.bytes ≡ sent_from_external (y.tables.own q) a.bytes
  unfolding emitted
  emitted_out y q external = rw external refl

  -- with the E-TAG of a channel
  up_word : (own : ℕ) → own ≡ (w.far (device a.port)).tables.own (port_number a.port) → own < 4095 → is_ignored own a.bytes ≡ false → Flown t l i h gone f (does_or_ignores t a (w.far (device a.port), up (tagged a.bytes (channel_tag own)) ∷ []) w)
  up_word own is small kept =
      let n : ℕ = device a.port in
      let g : List ℕ = tagged a.bytes (channel_tag own) in
      let word : LinkFrame = record { bytes = g; stamp = Some (stamp_of a) } in
      let d : Datum = datum word in
      let p = or_parts (own == 0) (is_refused_kind (kind_of a.bytes)) kept in
      let long : 14 ≤ length a.bytes = relayed_long a.bytes (refused_relayed (kind_of a.bytes) p.1) in
      let st : flights.Stamp = record { port = a.port; index = a.index; moment = a.moment } in
      let its : (tables_of f).own a.port ≡ own = ap (λ (y : System). (y.tables (device a.port)).own (a.port % 64 + 1)) s.system ∙ sym is in
      let some : nat_lt 0 ((tables_of f).own a.port) ≡ true = ap (nat_lt 0) its ∙ lt-ltb 0 own (above_none own p.0) in
      let can : CanArrive t f st g = record {
        outer = and_from (nat_le 64 a.port) (is_external t a.port) (le-leb 64 a.port deep) external;
        tag = channel_tag own;
        read = (round a.bytes (channel_tag own) (omega (arith, long)) (tag_fits own small)).0;
        own = sym its;
      } in
      let plain : is_control word ≡ false = elim (cases_Bool (is_control_frame g)) [
        | inr z ↦ z
        | inl z ↦ absurd (both (is_refused_kind (kind_of a.bytes)) (control_refused a.bytes bytes (sym (tagged_to_control a.bytes (channel_tag own) (omega (arith, long))) ∙ z)).0 p.1)
      ] in
      let e : Effect = does_or_ignores t a (w.far n, up g ∷ []) w in
      let grown : Flight = record f { up = add f.up n (Data d) } in
      let shows : Shows t i e.world h gone grown = record {
        system = s.system ∙ sym (ap (λ (y : ℕ → ExtenderState). seen_as w.control y) (at_itself n w.far));
        down = s.down;
        up = λ k. elim (cases_eq k n) [
          | inl z ↦
              let items : items_on t w.control.held Up k (w.up n ++ word ∷ []) ≡ items_on t w.control.held Up k (w.up n) ++ Data d ∷ [] =
              items_append (key_on t w.control.held Up k) (w.up n) (word ∷ []) ∙ ap (λ (zs : List Item). items_on t w.control.held Up k (w.up n) ++ zs) (items_data (key_on t w.control.held Up k) word [] plain) in
              let mine : Thins (items_on t w.control.held Up k (w.up n)) (f.up k) = subst (λ (m : ℕ). Thins (items_on t w.control.held Up k (w.up m)) (f.up k)) z (s.up k) in
              rw (eq-eqb k n z) (subst (λ (zs : List Item). Thins zs (f.up k ++ Data d ∷ [])) (sym items) (thins_append (items_on t w.control.held Up k (w.up n)) (f.up k) (Data d ∷ []) mine))
          | inr z ↦ rw (ne_eqb k n z) (s.up k)
        ];
        history = s.history;
        left = s.left;
        learned = s.learned;
      } in
      record {
        steps = Arrive st g ∷ [];
        runs = (can, tt);
        shows = none_left t i e.world h gone _ (subst (λ (b : Bool). Shows t i e.world h gone (if b then grown else f)) (sym some) shows);
      }
    where
      both : (b : Bool) → b ≡ true → b ≡ false → ⊥
      both b x y = cc

      or_parts : (x y : Bool) → (x || y) ≡ false → (x ≡ false) × (y ≡ false)
      or_parts false y e = (refl, e)
      or_parts true y e = absurd (both true refl e)

      above_none : (n : ℕ) → (n == 0) ≡ false → 0 < n
      above_none n e = elim (cases_lt 0 n) [ inl z ↦ z | inr z ↦ absurd (both (n == 0) (eq-eqb n 0 (omega (arith, z))) e) ]

      refused_relayed : (k : Seen) → is_refused_kind k ≡ false → is_relayed_kind k ≡ true
      refused_relayed seen.Short e = absurd (both true refl e)
      refused_relayed seen.Long e = absurd (both true refl e)
      refused_relayed seen.Reserved e = absurd (both true refl e)
      refused_relayed seen.BadTag e = refl
      refused_relayed seen.Plain e = refl
      refused_relayed (seen.Priority pcp dei) e = refl
      refused_relayed (seen.Tagged pcp dei v) e = refl

  pub station_flown : Flown t l i h gone f (arrives_at t a w)
  station_flown =
      let n : ℕ = device a.port in
      let q : ℕ = port_number a.port in
      let own : ℕ = (w.far n).tables.own q in
      let there : is_extender t n ≡ true = home t l setting.tree setting round a.port deep external in
      let is : IsExtender (w.far n) = sound.fits.ends.extenders n there in
      elim (cases_Bool ((w.far n).tables.cascade q)) [
        | inl cascade ↦ rw cascade note_flown
        | inr outer ↦
            let R : List Sent → Type 0 = λ zs. Flown t l i h gone f (does_or_ignores t a (w.far n, zs) w) in
            let done : R (sent_from_external own a.bytes) = elim (cases_Bool (is_ignored own a.bytes)) [
              | inl z ↦ rw z note_flown
              | inr z ↦ rw z (up_word own refl (is.channels q) z)
            ] in
            rw outer (subst R (sym (emitted_out (w.far n) q outer)) done)
      ]

pub arrivals_fly : TagRoundTrip → SendsAreWords → SendsLeaveAsFlat → ArrivalsFly
arrivals_fly round words leave a t l i setting w h gone f sound facts s may =
    let v : World = counted a w in
    let sv : Shows t i v h gone f = record { system = s.system; down = s.down; up = s.up; history = s.history; left = s.left; learned = s.learned } in
    elim (cases_lt a.port 64) [
      | inl low ↦ rw (lt-ltb a.port 64 low) (comes_flown t l i setting round words leave v h gone a may.may.has may.pvids f facts sv)
      | inr deep ↦ rw (le-ltb a.port 64 deep) (station_flown t l i setting round v (quiet_sound t l setting.tree setting w v sound refl refl (record { ends = sound.fits.ends; downs = sound.fits.downs; ups = sound.fits.ups })) h gone a may.may.has may.may.can.external deep f sv)
    ]
