-- Rule 5 is kept by each step.
use Rattle.std.proofs.Common.{◌≡◌, ◌≢◌, ◌⊎◌, ℕ, zero, suc, ◌+◌, ◌-◌, ◌<◌, ◌≤◌, ◌==◌, ◌||◌, nat_lt, Bool, true, false, List, [], ◌∷◌, ◌++◌, filter, map, length, slice_get, slice_index, append-nil, Option, Some, None, refl, ap, sym, ◌∙◌, subst, arith, inl, inr}
use Rattle.std.specs.Prelude.{is_some}
use Rattle.std.proofs.lemmas.Bool.{cases_Bool, cases_lt, and_parts, ltb-true, lt-ltb, le-ltb, eqb-true, ne_eqb}
use Rattle.std.proofs.lemmas.List.Concat.{flat_map-append}
use Rattle.exb_model.specs.declared.event.Event.{Event}
use Rattle.exb_model.specs.declared.event.Event.TheVariants as event
use Rattle.exb_model.specs.Texts.{line_of as event_text}
use Rattle.exb_model.specs.Lists.{numbered}
use Rattle.exb_model.specs.Tree.{Shape, IsTree, device, on, is_extender, is_external, port_number}
use Rattle.exb_model.specs.Setup.{Limits}
use Rattle.exb_model.specs.Learning.{passes}
use Rattle.exb_model.specs.declared.arrival.Arrival.{Arrival}
use Rattle.exb_model.specs.ETags.{Tag, read_etag, stripped}
use Rattle.exb_model.specs.EagerHistory.{is_relayed, arrival_event}
use Rattle.exb_extender.specs.declared.sends.Side.TheVariants as side
use Rattle.exb_extender.specs.Forwarding.{Sent, emitted}
use Rattle.exb_extender.specs.Machine.{ExtenderState, Input, Arrives, react}
use Rattle.exb_link.specs.declared.link_frame.Stamp.{Stamp}
use Rattle.exb_link.specs.declared.link_frame.LinkFrame.{LinkFrame}
use Rattle.exb_link.specs.LinkFrames.{is_control, is_data, leading, without_data, without_control}
use Rattle.exb_model.specs.Frames.{is_control_frame}
use Rattle.exb_relay.specs.declared.send.SendTo.{SendTo}
use Rattle.exb_relay.specs.Laws.{AtMostTwo}
use Rattle.exb_control_spec.specs.Runs.RequestTargets.{Knows}
use Rattle.exb_world_spec.specs.Worlds.{World, Way, Up, Down, Step, Arrive, Carry, Control, Lose, Beat, Tick, Order, Mark, with_far, with_table}
use Rattle.exb_world_spec.specs.Effects.{Effect, only, each}
use Rattle.exb_world_spec.specs.ExtenderSteps.{does, reacts, takes_from_below, stamp_of, ignored, does_or_ignores, arrives_at}
use Rattle.exb_world_spec.specs.BridgeLearning.{taught}
use Rattle.exb_world_spec.specs.DataFrames.{sends_all, sends_for, comes, comes_from, arrival_by, holder_by, takes_control, bridge_takes}
use Rattle.exb_world_spec.specs.Steps.{words_on, with_words, takes, takes_any, first_data, control_at, rest_of, counted, arrives, beats_all, done_by, line_at, line_of, line_of_any, lines_in}
use Rattle.exb_world_spec.specs.AllowedSteps.{Can}
use Rattle.exb_world_spec.specs.Runs.Sessions.{Each}
use Rattle.exb_world_spec.specs.Runs.SessionLaws.{HasFewPorts}
use Rattle.exb_world_spec.proofs.LinkFrames.{each_weaker}
use Rattle.exb_model.specs.Traces.{TraceLine, In, Out, Journal}
use Rattle.exb_world_spec.specs.TraceLines.{told, all_told}
use Rattle.exb_model.specs.Traces as line
use Rattle.exb_trace_spec.specs.Traversals.{begins, until_next, EachStep}
use Rattle.exb_trace_spec.specs.Rule1Places.{journal_at, journal_in}
use Rattle.exb_trace_spec.specs.Rule5Relays.{is_relay, is_ignore, entries, relays, NamesRecord, is_data_at, is_arrival, sent_at, sent, HoldsFrame, IsStep}
use Rattle.exb_trace_laws.proofs.ReachablePorts.{RelayReady, NamesSource, NameSources}
use Rattle.exb_trace_laws.proofs.LinkLines.{at_is_control}
use Rattle.exb_trace_laws.proofs.Rule3Lines.{IsAfter}
use Rattle.exb_trace_laws.proofs.ControlEvents.{IsPlain}
use Rattle.exb_trace_laws.proofs.EffectLines.{Tells, Shows, not_on_external}
use Rattle.exb_trace_laws.proofs.ExtenderLines.{sent_line, each_out, none_happen}
use Rattle.exb_trace_laws.proofs.RequestLines.{ordered_tells}
use Rattle.exb_trace_laws.proofs.BridgeLines.{control_word_tells}
use Rattle.exb_trace_laws.proofs.ReactionLines.{beat_shows}
use Rattle.exb_trace_laws.proofs.StepLines.{IsOutAt, Brings}
use Rattle.exb_trace_laws.proofs.Rule1And3And4Steps.{journaled, after_head, journal_texts, no_journal}
use Rattle.exb_trace_laws.proofs.InputLines.{told_at}
use Rattle.exb_trace_laws.proofs.Rule5Lines.{IsSilent, until_after, after_no_step}
use Rattle.exb_trace_laws.proofs.Rule5Relays.{relay_is_relay, ignore_is_ignore, plain_is_neither, relay_text, ignore_text, no_events, sends_few}

both_ways : (b : Bool) → b ≡ true → b ≡ false → ⊥
both_ways b x y = cc

-- ---- lines in which the bridge sends no data
abbrev pub IsNoData : Shape → TraceLine → Type 0
IsNoData t (Out n k f) = n ≡ 0 → is_data_at t k f ≡ false
IsNoData t _ = ⊥

quiet_no_journal : (t : Shape) (ls : List TraceLine) → Each (IsNoData t) ls → journal_in ls ≡ []
quiet_no_journal t [] all = refl
quiet_no_journal t (In n k f ∷ ls) all = absurd all.0
quiet_no_journal t (Out n k f ∷ ls) all = quiet_no_journal t ls all.1
quiet_no_journal t (line.Beat ∷ ls) all = absurd all.0
quiet_no_journal t (Journal x ∷ ls) all = absurd all.0

out_unsent : (t : Shape) (k n j : ℕ) (f : List ℕ) → (n ≡ 0 → is_data_at t j f ≡ false) → sent_at t k (Out n j f) ≡ []
out_unsent t k n j f h =
    elim (cases_Bool (n == 0)) [
      | inr e ↦ rw e refl
      | inl e ↦ elim (cases_Bool (j == k)) [
        | inr d ↦ rw (e, d) refl
        | inl d ↦ rw (e, d, h (eqb-true _ _ e)) refl
      ]
    ]

unsent : (t : Shape) (k : ℕ) (ls : List TraceLine) → Each (IsNoData t) ls → sent t k ls ≡ []
unsent t k [] all = refl
unsent t k (In n j f ∷ ls) all = absurd all.0
unsent t k (Out n j f ∷ ls) all = ap (λ zs. zs ++ sent t k ls) (out_unsent t k n j f all.0) ∙ unsent t k ls all.1
unsent t k (line.Beat ∷ ls) all = absurd all.0
unsent t k (Journal x ∷ ls) all = absurd all.0

journal_unsent : (t : Shape) (k : ℕ) (es : List Event) → sent t k (journaled es) ≡ []
journal_unsent t k [] = refl
journal_unsent t k (e ∷ es) = journal_unsent t k es

-- the events of a step, and the data that the bridge sends in it
after_texts : (e : Effect) → journal_in (all_told e.outs) ≡ [] → journal_in (after_head e) ≡ map event_text e.events
after_texts e none = flat_map-append journal_at (journaled e.events) (all_told e.outs) ∙ ap (λ zs. journal_in (journaled e.events) ++ zs) none ∙ append-nil (journal_in (journaled e.events)) ∙ journal_texts e.events

after_sent : (t : Shape) (k : ℕ) (e : Effect) → sent t k (after_head e) ≡ sent t k (all_told e.outs)
after_sent t k e = flat_map-append (sent_at t k) (journaled e.events) (all_told e.outs) ∙ ap (λ zs. zs ++ sent t k (all_told e.outs)) (journal_unsent t k e.events)

-- ---- events that relay nothing
abbrev pub IsNoRelay : Event → Type 0
IsNoRelay (event.Relay p n m f) = ⊥
IsNoRelay _ = Unit {0}

not_relay : (e : Event) → IsNoRelay e → is_relay (event_text e) ≡ false
not_relay (event.Relay p n m f) h = absurd h
not_relay (event.Ignored p n) h = (ignore_is_ignore p n).0
not_relay (event.Tick s) h = (plain_is_neither (event.Tick s) tt).0
not_relay (event.Commit n) h = (plain_is_neither (event.Commit n) tt).0
not_relay (event.Refuse n x) h = (plain_is_neither (event.Refuse n x) tt).0
not_relay (event.Up p) h = (plain_is_neither (event.Up p) tt).0
not_relay (event.NoUp p x) h = (plain_is_neither (event.NoUp p x) tt).0
not_relay event.Settled h = (plain_is_neither event.Settled tt).0

plain_no_relay : (e : Event) → IsPlain e → IsNoRelay e
plain_no_relay (event.Relay p n m f) h = h
plain_no_relay (event.Ignored p n) h = tt
plain_no_relay (event.Tick s) h = tt
plain_no_relay (event.Commit n) h = tt
plain_no_relay (event.Refuse n x) h = tt
plain_no_relay (event.Up p) h = tt
plain_no_relay (event.NoUp p x) h = tt
plain_no_relay event.Settled h = tt

none_relayed : (es : List Event) → Each IsNoRelay es → filter is_relay (map event_text es) ≡ []
none_relayed [] all = refl
none_relayed (e ∷ es) all = rw (not_relay e all.0) (none_relayed es all.1)

none_said : (es : List Event) → Each IsPlain es → filter (λ text. is_relay text || is_ignore text) (map event_text es) ≡ []
none_said [] all = refl
none_said (e ∷ es) all = let p = plain_is_neither e all.0 in rw (p.0, p.1) (none_said es all.1)

-- ---- steps without an arrival at the bridge
pub record IsQuiet (t : Shape) (e : Effect) : Type 0 where
  pub outs : Each (IsNoData t) (all_told e.outs)
  pub events : Each IsNoRelay e.events

module _ (t : Shape) (captures : ℕ → List (List ℕ)) where
  quiet_step : (l : TraceLine) (e : Effect) → is_arrival t l ≡ false → IsQuiet t e → IsStep t captures l (after_head e)
  quiet_step l e other q =
      let none : (k : ℕ) → sent t k (after_head e) ≡ [] = λ k. after_sent t k e ∙ unsent t k (all_told e.outs) q.outs in
      record {
        entered = λ is. absurd (both_ways (is_arrival t l) is other);
        relayed = λ z. ap (filter is_relay) (after_texts e (quiet_no_journal t (all_told e.outs) q.outs)) ∙ none_relayed e.events q.events;
        by_relay = λ r k. none k;
        few = λ k. subst (λ zs. length zs ≤ 2) (sym (none k)) (omega arith);
      }

  -- what a step's lines have to be
  pub record Opens (ls : List TraceLine) : Type 0 where
    pub silent : IsSilent t (until_next ls)
    pub steps : EachStep (IsStep t captures) ls

  silent_none : IsSilent t []
  silent_none = record { none = refl; relayed = refl; unsent = λ k. refl }

  opens_step : (l : TraceLine) (rest : List TraceLine) → begins l ≡ true → Each IsAfter rest → IsStep t captures l rest → Opens (l ∷ rest)
  opens_step l rest b all step =
      record {
        silent = rw b silent_none;
        steps = (λ z. subst (λ zs. IsStep t captures l zs) (sym (until_after rest all)) step, after_no_step (IsStep t captures) rest all);
      }

  opens_none : (e : Effect) → Each IsAfter (after_head e) → Each IsPlain e.events → Each (IsNoData t) (all_told e.outs) → Opens ([] ++ after_head e)
  opens_none e all plain outs =
      let texts : journal_in (after_head e) ≡ map event_text e.events = after_texts e (quiet_no_journal t (all_told e.outs) outs) in
      let silent : IsSilent t (after_head e) = record {
        none = ap (filter (λ text. is_relay text || is_ignore text)) texts ∙ none_said e.events plain;
        relayed = ap (filter is_relay) texts ∙ none_relayed e.events (each_weaker IsPlain IsNoRelay e.events plain_no_relay plain);
        unsent = λ k. after_sent t k e ∙ unsent t k (all_told e.outs) outs;
      } in
      record { silent = subst (λ zs. IsSilent t zs) (sym (until_after (after_head e) all)) silent; steps = after_no_step (IsStep t captures) (after_head e) all }

  opens_quiet : (l : TraceLine) (e : Effect) → begins l ≡ true → is_arrival t l ≡ false → Each IsAfter (after_head e) → IsQuiet t e → Opens (l ∷ [] ++ after_head e)
  opens_quiet l e b other all q = opens_step l (after_head e) b all (quiet_step l e other q)

  -- ---- an arrival at the bridge
  no_list : (x : List ℕ) → x ∷ [] ≡ [] → ⊥
  no_list x e = cc

  module _ (tree : IsTree t) (law : AtMostTwo) (w : World) (a : Arrival) (k : ℕ) (f : List ℕ) (ready : RelayReady t w) (is : is_arrival t (In 0 k f) ≡ true)
      (names : numbered (captures a.port) a.index ≡ Some a.bytes) (here : is_external t (k - 1) ≡ true → a.port ≡ k - 1) (holds : HoldsFrame t k f a.bytes) (plain : journal_in (all_told (comes t a w).outs) ≡ []) where
    one_event : (comes t a w).events ≡ arrival_event w.control.bridge a ∷ []
    one_event = ap (λ zs. arrival_event w.control.bridge a ∷ zs) (no_events t a (sends_for t w a) (passes w.control.bridge a.port a.bytes) (with_table (taught w.control.bridge a w.table) w))

    texts : journal_in (after_head (comes t a w)) ≡ event_text (arrival_event w.control.bridge a) ∷ []
    texts = after_texts (comes t a w) plain ∙ ap (map event_text) one_event

    named : (e : Event) → (e ≡ event.Relay a.port a.index a.moment a.bytes) ⊎ (e ≡ event.Ignored a.port a.index) → NamesRecord captures (event_text e) a.bytes × ((is_relay (event_text e) || is_ignore (event_text e)) ≡ true)
    named e (inl r) = (
      record { port = a.port; index = a.index; is = names; text = inl (ap event_text r ∙ relay_text a.port a.index a.moment a.bytes) },
      ap (λ (x : Event). is_relay (event_text x) || is_ignore (event_text x)) r ∙ ap (λ (b : Bool). b || is_ignore (event_text (event.Relay a.port a.index a.moment a.bytes))) (relay_is_relay a.port a.index a.moment a.bytes),
    )
    named e (inr r) = (
      record { port = a.port; index = a.index; is = names; text = inr (ap event_text r ∙ ignore_text a.port a.index) },
      ap (λ (x : Event). is_relay (event_text x) || is_ignore (event_text x)) r ∙ or_right (is_relay (event_text (event.Ignored a.port a.index))) (is_ignore (event_text (event.Ignored a.port a.index))) (ignore_is_ignore a.port a.index).1,
    )
      where
        or_right : (x y : Bool) → y ≡ true → (x || y) ≡ true
        or_right true y z = refl
        or_right false y z = z

    named_here : (e : Event) (r : (e ≡ event.Relay a.port a.index a.moment a.bytes) ⊎ (e ≡ event.Ignored a.port a.index)) → ((named e r).0).port ≡ a.port
    unfolding named
    named_here e (inl r) = refl
    named_here e (inr r) = refl

    which : (arrival_event w.control.bridge a ≡ event.Relay a.port a.index a.moment a.bytes) ⊎ (arrival_event w.control.bridge a ≡ event.Ignored a.port a.index)
    which = elim (cases_Bool (is_relayed w.control.bridge a.port a.bytes)) [ inl r ↦ inl (rw r refl) | inr r ↦ inr (rw r refl) ]

    once : entries (after_head (comes t a w)) ≡ event_text (arrival_event w.control.bridge a) ∷ []
    once = ap (filter (λ text. is_relay text || is_ignore text)) texts ∙ (rw (named (arrival_event w.control.bridge a) which).1 refl)

    -- where it is ignored nothing goes out
    no_outs : (o : Option ℕ) (xs : List SendTo) (v : World) → xs ≡ [] → (sends_all t a xs o v).outs ≡ []
    no_outs None xs v e = refl
    no_outs (Some vid) xs v e = ap (λ (ys : List SendTo). (sends_all t a ys (Some vid) v).outs) e

    by_relay : relays (after_head (comes t a w)) ≡ [] → (j : ℕ) → sent t j (after_head (comes t a w)) ≡ []
    by_relay none j =
        elim (cases_Bool (is_relayed w.control.bridge a.port a.bytes)) [
          | inl r ↦ absurd (
              let e : arrival_event w.control.bridge a ≡ event.Relay a.port a.index a.moment a.bytes = rw r refl in
              let said : relays (after_head (comes t a w)) ≡ event_text (event.Relay a.port a.index a.moment a.bytes) ∷ [] =
              ap (filter is_relay) (texts ∙ ap (λ (x : Event). event_text x ∷ []) e) ∙ (rw (relay_is_relay a.port a.index a.moment a.bytes) refl)
              in
              no_list (event_text (event.Relay a.port a.index a.moment a.bytes)) (sym said ∙ none)
              )
          | inr r ↦
              let xs : sends_for t w a ≡ [] = rw r refl in
              let outs : (comes t a w).outs ≡ [] = no_outs (passes w.control.bridge a.port a.bytes) (sends_for t w a) (with_table (taught w.control.bridge a w.table) w) xs in
              after_sent t j (comes t a w) ∙ ap (λ ls. sent t j (all_told ls)) outs
        ]

    arrival_step : IsStep t captures (In 0 k f) (after_head (comes t a w))
    arrival_step =
        record {
          entered = λ z. record {
            line = event_text (arrival_event w.control.bridge a);
            once = once;
            frame = a.bytes;
            names = (named (arrival_event w.control.bridge a) which).0;
            here = λ out. named_here (arrival_event w.control.bridge a) which ∙ here out;
            holds = holds;
          };
          relayed = λ z. absurd (both_ways (is_arrival t (In 0 k f)) is z);
          by_relay = by_relay;
          few = λ j. subst (λ zs. length zs ≤ 2) (sym (after_sent t j (comes t a w))) (sends_few t tree law w (with_table (taught w.control.bridge a w.table) w) a (passes w.control.bridge a.port a.bytes) j ready);
        }

    pub opens_arrival : Each IsAfter (after_head (comes t a w)) → Opens (In 0 k f ∷ [] ++ after_head (comes t a w))
    opens_arrival all = opens_step (In 0 k f) (after_head (comes t a w)) refl all arrival_step

-- ---- each step
module _ (t : Shape) (l : Limits) (tree : IsTree t) (few : HasFewPorts t) (law : AtMostTwo) (captures : ℕ → List (List ℕ)) where
  -- whatever is known of the lines that go out
  abbrev OpensBy : List TraceLine → Effect → Type 0
  OpensBy ls e = Each (IsOutAt t) (all_told e.outs) → Each IsAfter (after_head e) → Opens t captures (ls ++ after_head e)

  some_extender : (n : ℕ) → is_extender t n ≡ true → 0 < n
  some_extender n there = ltb-true 0 n (and_parts (nat_lt 0 n) (nat_lt 0 (slice_index t.ports n)) there).0

  no_arrival : (n k : ℕ) (f : List ℕ) → n ≢ 0 → is_arrival t (In n k f) ≡ false
  no_arrival n k f ne = rw (ne_eqb n 0 ne) refl

  by_quiet : (n k : ℕ) (f : List ℕ) (e : Effect) → n ≢ 0 → IsQuiet t e → OpensBy (In n k f ∷ []) e
  by_quiet n k f e ne q outs all = opens_quiet t captures (In n k f) e refl (no_arrival n k f ne) all q

  idle_quiet : (w : World) → IsQuiet t (only w)
  idle_quiet w = record { outs = tt; events = tt }

  -- ---- extenders
  no_data_sent : (n : ℕ) (ss : List Sent) → n ≢ 0 → Each (IsNoData t) (all_told (map (sent_line n) ss))
  no_data_sent n [] ne = tt
  no_data_sent n (s ∷ ss) ne = (λ e. absurd (ne e), no_data_sent n ss ne)

  sends_quiet : (n : ℕ) (stamp : Option Stamp) (ss : List Sent) (w : World) → n ≢ 0 → IsQuiet t (each (Rattle.exb_world_spec.specs.ExtenderSteps.sends t n stamp) ss w)
  sends_quiet n stamp ss w ne =
      record {
        outs = subst (λ (ls : List Rattle.exb_world_spec.specs.Worlds.Line). Each (IsNoData t) (all_told ls)) (sym (each_out t n stamp ss w)) (no_data_sent n ss ne);
        events = subst (λ (es : List Event). Each IsNoRelay es) (sym (none_happen t n stamp ss w)) tt;
      }

  reacts_quiet : (n : ℕ) (stamp : Option Stamp) (i : Input) (w : World) → n ≢ 0 → IsQuiet t (reacts t n stamp i w)
  reacts_quiet n stamp i w ne = sends_quiet n stamp (react i (w.far n)).1 (with_far n (react i (w.far n)).0 w) ne

  -- ---- words
  deep_opens : (n : ℕ) (x : LinkFrame) (v : World) → is_extender t n ≡ true → 64 ≤ on t n → OpensBy (told (line_at (on t n) x.bytes) ∷ []) (takes_from_below t (device (on t n)) (port_number (on t n)) x v)
  deep_opens n x v there deep =
      let p : ℕ = on t n in
      let ne : device p ≢ 0 = λ e. omega arith in
      subst (λ z. OpensBy (z ∷ []) (takes_from_below t (device p) (port_number p) x v)) (sym (told_at p x.bytes)) (
      elim (cases_Bool ((v.far (device p)).tables.cascade (port_number p))) [
        | inl c ↦ rw c (by_quiet (device p) (port_number p) x.bytes (reacts t (device p) x.stamp (Arrives (side.Port (port_number p)) x.bytes) v) ne (reacts_quiet (device p) x.stamp (Arrives (side.Port (port_number p)) x.bytes) v ne))
        | inr c ↦ rw c (by_quiet (device p) (port_number p) x.bytes (only v) ne (idle_quiet v))
      ])

  down_opens : (n : ℕ) (x : LinkFrame) (v : World) → is_extender t n ≡ true → OpensBy (told (line_of t n Down x.bytes) ∷ []) (takes t l n Down x v)
  down_opens n x v there = by_quiet n 0 x.bytes (reacts t n x.stamp (Arrives side.Up x.bytes) v) (λ e. (let s = some_extender n there in omega (arith, s))) (reacts_quiet n x.stamp (Arrives side.Up x.bytes) v (λ e. (let s = some_extender n there in omega (arith, s))))

  -- at the bridge
  told_low : (p : ℕ) (f : List ℕ) → p < 64 → told (line_at p f) ≡ In 0 (p + 1) f
  told_low p f low = rw (lt-ltb p 64 low) refl

  not_external_on : (n : ℕ) → is_extender t n ≡ true → is_external t (on t n + 1 - 1) ≡ false
  not_external_on n there =
      let same : on t n + 1 - 1 ≡ on t n = omega arith in
      subst (λ (p : ℕ). is_external t p ≡ false) (sym same)
      (elim (cases_Bool (is_external t (on t n))) [ inr e ↦ e | inl e ↦ absurd (not_on_external t tree n (on t n) there e refl) ])

  control_down : (m : ℕ) (f : List ℕ) → is_extender t m ≡ true → on t m < 64 → is_control_frame f ≡ true → IsNoData t (line.Out 0 (on t m + 1) f)
  control_down m f there low control zero_is = rw (not_external_on m there, control) refl

  control_opens : (n : ℕ) (x : LinkFrame) (v : World) → is_extender t n ≡ true → on t n < 64 → is_control x ≡ true → Knows t v.control → OpensBy (told (line_at (on t n) x.bytes) ∷ []) (bridge_takes t l (on t n) n x v)
  control_opens n x v there low control knows =
      let p : ℕ = on t n in
      let tells : Tells t (IsNoData t) IsPlain v (takes_control t l p n x.bytes v) = control_word_tells t l tree (IsNoData t) control_down IsPlain (λ e h. h) p n x.bytes v there knows in
      let is : bridge_takes t l p n x v ≡ takes_control t l p n x.bytes v = rw control refl in
      let other : is_arrival t (In 0 (p + 1) x.bytes) ≡ false = rw (not_external_on n there, control) refl in
      let q : IsQuiet t (takes_control t l p n x.bytes v) = record { outs = tells.shows.lines; events = each_weaker IsPlain IsNoRelay (takes_control t l p n x.bytes v).events plain_no_relay tells.shows.happens } in
      subst (λ e. OpensBy (told (line_at p x.bytes) ∷ []) e) (sym is)
      (subst (λ z. OpensBy (z ∷ []) (takes_control t l p n x.bytes v)) (sym (told_low p x.bytes low)) (λ outs all. opens_quiet t captures (In 0 (p + 1) x.bytes) (takes_control t l p n x.bytes v) refl other all q))

  arrival_opens : (k : ℕ) (f : List ℕ) (w : World) (a : Arrival) → RelayReady t w → is_arrival t (In 0 k f) ≡ true → numbered (captures a.port) a.index ≡ Some a.bytes → (is_external t (k - 1) ≡ true → a.port ≡ k - 1) → HoldsFrame t k f a.bytes → OpensBy (In 0 k f ∷ []) (comes t a w)
  arrival_opens k f w a ready is names here holds outs all = opens_arrival t captures tree law w a k f ready is names here holds (no_journal t (all_told (comes t a w).outs) outs) all

  data_opens : (n : ℕ) (x : LinkFrame) (v : World) → is_extender t n ≡ true → on t n < 64 → is_control x ≡ false → RelayReady t v → NamesSource t v captures (on t n) x → OpensBy (told (line_at (on t n) x.bytes) ∷ []) (bridge_takes t l (on t n) n x v)
  data_opens n x v there low plain ready source =
      let p : ℕ = on t n in
      let f : List ℕ = stripped x.bytes in
      let s : Stamp = source.stamp in
      let a : Arrival = arrival_by s.port s f in
      let one : bridge_takes t l p n x v ≡ comes_from t (holder_by v p (read_etag x.bytes)) x.stamp f v = rw plain refl in
      let two : comes_from t (holder_by v p (read_etag x.bytes)) x.stamp f v ≡ comes_from t (Some s.port) (Some s) f v =
      ap (λ (o : Option ℕ). comes_from t o x.stamp f v) source.holder ∙ ap (λ (o : Option Stamp). comes_from t (Some s.port) o f v) source.is
      in
      let three : comes_from t (Some s.port) (Some s) f v ≡ comes t a v = rw source.external refl in
      let is : is_arrival t (In 0 (p + 1) x.bytes) ≡ true = rw (not_external_on n there, plain) refl in
      let holds : HoldsFrame t (p + 1) x.bytes f = record { local = λ e. absurd (both_ways (is_external t (p + 1 - 1)) e (not_external_on n there)); cascade = λ e. (refl, reads (read_etag x.bytes) source.holder) } in
      subst (λ e. OpensBy (told (line_at p x.bytes) ∷ []) e) (sym (one ∙ two ∙ three))
      (subst (λ z. OpensBy (z ∷ []) (comes t a v)) (sym (told_low p x.bytes low)) (arrival_opens (p + 1) x.bytes v a ready is source.frame (λ e. absurd (both_ways (is_external t (p + 1 - 1)) e (not_external_on n there))) holds))
    where
      none_some : {y : ℕ} → None ≡ Some y → ⊥
      none_some e = cc

      reads : (o : Option Tag) → holder_by v (on t n) o ≡ Some source.stamp.port → is_some o ≡ true
      reads None e = absurd (none_some e)
      reads (Some tag) e = refl

  -- ---- arrivals
  station_opens : (a : Arrival) (s : ExtenderState) (ss : List Sent) (v : World) → device a.port ≢ 0 → OpensBy (In (device a.port) (port_number a.port) a.bytes ∷ []) (does_or_ignores t a (s, ss) v)
  station_opens a s [] v ne = by_quiet (device a.port) (port_number a.port) a.bytes (ignored a v) ne (record { outs = tt; events = (tt, tt) })
  station_opens a s (x ∷ xs) v ne =
      by_quiet (device a.port) (port_number a.port) a.bytes (does t (device a.port) (Some (stamp_of a)) (s, x ∷ xs) v) ne (sends_quiet (device a.port) (Some (stamp_of a)) (x ∷ xs) (with_far (device a.port) s v) ne)

  external_at : (p : ℕ) → is_external t p ≡ true → is_external t (p + 1 - 1) ≡ true
  external_at p out = let same : p + 1 - 1 ≡ p = omega arith in subst (λ (q : ℕ). is_external t q ≡ true) (sym same) out

  arrive_opens : (a : Arrival) (w : World) → RelayReady t w → is_external t a.port ≡ true → numbered (captures a.port) a.index ≡ Some a.bytes → OpensBy (told (line_at a.port a.bytes) ∷ []) (arrives t a w)
  arrive_opens a w ready out names =
      let v : World = counted a w in
      elim (cases_lt a.port 64) [
        | inl low ↦
            let is : arrives t a w ≡ comes t a v = rw (lt-ltb a.port 64 low) refl in
            let arrival : is_arrival t (In 0 (a.port + 1) a.bytes) ≡ true = rw (external_at a.port out) refl in
            let holds : HoldsFrame t (a.port + 1) a.bytes a.bytes = record { local = λ e. refl; cascade = λ e. absurd (both_ways (is_external t (a.port + 1 - 1)) (external_at a.port out) e) } in
            subst (λ e. OpensBy (told (line_at a.port a.bytes) ∷ []) e) (sym is)
            (subst (λ z. OpensBy (z ∷ []) (comes t a v)) (sym (told_low a.port a.bytes low)) (arrival_opens (a.port + 1) a.bytes v a (record { ready = ready.ready; numbering = ready.numbering; pvids = ready.pvids }) arrival names (λ e. omega arith) holds))
        | inr high ↦
            let n : ℕ = device a.port in
            let ne : n ≢ 0 = λ e. omega arith in
            let is : arrives t a w ≡ arrives_at t a v = rw (le-ltb a.port 64 high) refl in
            subst (λ e. OpensBy (told (line_at a.port a.bytes) ∷ []) e) (sym is)
            (subst (λ z. OpensBy (z ∷ []) (arrives_at t a v)) (sym (told_at a.port a.bytes)) (
            elim (cases_Bool ((w.far n).tables.cascade (port_number a.port))) [
              | inl c ↦ rw c (by_quiet n (port_number a.port) a.bytes (ignored a v) ne (record { outs = tt; events = (tt, tt) }))
              | inr c ↦ rw c (station_opens a (w.far n) (emitted (w.far n).tables (side.Port (port_number a.port)) a.bytes) v ne)
            ]))
      ]

  -- ---- words on any way
  brings_knows : (n : ℕ) (way : Way) (ws : List LinkFrame) (w : World) → Brings t w → Knows t (with_words n way ws w).control × RelayReady t (with_words n way ws w)
  brings_knows n Up ws w b = (b.knows, record { ready = b.ready.ready; numbering = b.ready.numbering; pvids = b.ready.pvids })
  brings_knows n Down ws w b = (b.knows, record { ready = b.ready.ready; numbering = b.ready.numbering; pvids = b.ready.pvids })

  source_with : (n : ℕ) (ws : List LinkFrame) (w : World) (k : ℕ) (x : LinkFrame) → NamesSource t w captures k x → NamesSource t (with_words n Up ws w) captures k x
  source_with n ws w k x s = record { stamp = s.stamp; is = s.is; external = s.external; holder = s.holder; frame = s.frame }

  up_opens : (n : ℕ) (x : LinkFrame) (rest : List LinkFrame) (w : World) → Brings t w → is_extender t n ≡ true → (on t n < 64 → is_control x ≡ false → NamesSource t w captures (on t n) x) → OpensBy (told (line_of t n Up x.bytes) ∷ []) (takes t l n Up x (with_words n Up rest w))
  up_opens n x rest w b there source =
      let v : World = with_words n Up rest w in
      let k = brings_knows n Up rest w b in
      elim (cases_lt (on t n) 64) [
        | inr deep ↦ (
            let is : takes t l n Up x v ≡ takes_from_below t (device (on t n)) (port_number (on t n)) x v = rw (le-ltb (on t n) 64 deep) refl in
            subst (λ e. OpensBy (told (line_at (on t n) x.bytes) ∷ []) e) (sym is) (deep_opens n x v there deep)
            )
        | inl low ↦ (
            let is : takes t l n Up x v ≡ bridge_takes t l (on t n) n x v = rw (lt-ltb (on t n) 64 low) refl in
            subst (λ e. OpensBy (told (line_at (on t n) x.bytes) ∷ []) e) (sym is)
            (elim (cases_Bool (is_control x)) [
              | inl c ↦ control_opens n x v there low c k.0
              | inr c ↦ data_opens n x v there low c k.1 (source_with n rest w (on t n) x (source low c))
            ])
            )
      ]

  any_opens : (n : ℕ) (way : Way) (o : Option LinkFrame) (rest : List LinkFrame) (w : World) → Brings t w → is_extender t n ≡ true → ((x : LinkFrame) → o ≡ Some x → way ≡ Up → on t n < 64 → is_control x ≡ false → NamesSource t w captures (on t n) x) →
      ((e : o ≡ None) → ⊥) → OpensBy (all_told (line_of_any t n way o)) (takes_any t l n way o rest w)
  any_opens n way None rest w b there source some = absurd (some refl)
  any_opens n Down (Some x) rest w b there source some = down_opens n x (with_words n Down rest w) there
  any_opens n Up (Some x) rest w b there source some = up_opens n x rest w b there (source x refl refl)

  -- ---- beats
  beat_quiet : (w : World) → Brings t w → IsQuiet t (beats_all t w)
  beat_quiet w b =
      let shows : Shows t (IsNoData t) IsPlain w (beats_all t w) = beat_shows t l tree few (IsNoData t) IsPlain (λ n there s fits e. absurd (let k = some_extender n there in omega (arith, k, e))) control_down (λ e h. h) w b.knows b.ports in
      record { outs = shows.lines; events = each_weaker IsPlain IsNoRelay (beats_all t w).events plain_no_relay shows.happens }

  -- ---- the step
  some_first : (ws : List LinkFrame) (test : LinkFrame → Bool) (k : ℕ) → k < length (filter test ws) → slice_get (filter test ws) k ≡ None → ⊥
  some_first ws test k some = within (filter test ws) k some
    where
      some_none : {y : LinkFrame} → Some y ≡ None → ⊥
      some_none e = cc

      within : (xs : List LinkFrame) (j : ℕ) → j < length xs → slice_get xs j ≡ None → ⊥
      within [] j low e = omega (arith, low)
      within (y ∷ ys) zero low e = some_none e
      within (y ∷ ys) (suc j) low e = within ys j (omega (arith, low)) e

  some_leading : (ws : List LinkFrame) (k : ℕ) → k < leading ws → k < length (filter is_control ws)
  some_leading [] k low = low
  some_leading (w ∷ ws) zero low = elim (cases_Bool (is_control w)) [ inl c ↦ rw c (omega arith) | inr c ↦ absurd (let z : 0 < 0 = rw c at low in omega (arith, z)) ]
  some_leading (w ∷ ws) (suc k) low =
      elim (cases_Bool (is_control w)) [
        | inl c ↦
            let z : suc k < suc (leading ws) = rw c at low in
            let more : k < length (filter is_control ws) = some_leading ws k (omega arith) in
            rw c (omega (arith, more))
        | inr c ↦ absurd (let z : suc k < 0 = rw c at low in omega (arith, z))
      ]

  pub step_opens : (w : World) (step : Step) → Brings t w → Can t w step → NameSources t w captures → ((a : Arrival) → step ≡ Arrive a → numbered (captures a.port) a.index ≡ Some a.bytes) →
      OpensBy (all_told (lines_in t step w)) (done_by t l step w)
  step_opens w (Arrive a) b can sources names = arrive_opens a w b.ready can.external (names a refl)
  step_opens w (Carry n Up) b can sources names =
      any_opens n Up (first_data (words_on n Up w)) (without_data (words_on n Up w)) w b can.0 (λ x e up low c. sources n x can.0 low e) (some_first (words_on n Up w) is_data 0 can.1)
  step_opens w (Carry n Down) b can sources names =
      any_opens n Down (first_data (words_on n Down w)) (without_data (words_on n Down w)) w b can.0 (λ x e up low c. absurd (down_up up)) (some_first (words_on n Down w) is_data 0 can.1)
    where
      down_up : Down ≡ Up → ⊥
      down_up e = cc
  step_opens w (Control n way k keep) b can sources names =
      any_opens n way (control_at (words_on n way w) k) (rest_of keep (words_on n way w) k) w b can.0 (λ x e up low c. absurd (both_ways (is_control x) (at_is_control (words_on n way w) k x e) c))
      (some_first (words_on n way w) is_control k (some_leading (words_on n way w) k can.1))
  step_opens w (Lose n way k) b can sources names = λ outs all. opens_none t captures (only (with_words n way (without_control (words_on n way w) k) w)) all tt tt
  step_opens w Beat b can sources names = λ outs all. opens_quiet t captures line.Beat (beats_all t w) refl refl all (beat_quiet w b)
  step_opens w (Tick seconds) b can sources names = λ outs all. opens_none t captures (done_by t l (Tick seconds) w) all (tt, tt) tt
  step_opens w (Order c) b can sources names =
      let tells : Tells t (IsNoData t) IsPlain w (done_by t l (Order c) w) = ordered_tells t tree (IsNoData t) IsPlain control_down (λ e h. h) l c w can.0 b.knows in
      λ outs all. opens_none t captures (done_by t l (Order c) w) all tells.shows.happens tells.shows.lines
  step_opens w Mark b can sources names = λ outs all. opens_none t captures (done_by t l Mark w) all (tt, tt) tt
