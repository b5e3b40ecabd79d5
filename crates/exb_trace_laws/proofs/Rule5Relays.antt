-- Rule 5 for a frame that comes to the bridge.
use Rattle.std.proofs.Common.{◌≡◌, ℕ, ◌+◌, ◌-◌, ◌≤◌, ◌==◌, Bool, true, false, cond, List, [], ◌∷◌, ◌++◌, length, Option, Some, None, refl, ap, ◌∙◌, arith, inl, inr}
use Rattle.std.specs.List.{count_by}
use Rattle.std.proofs.lemmas.Bool.{cases_Bool, and_parts}
use Rattle.std.proofs.lemmas.List.Recursion.{is_count_by}
use Rattle.std.proofs.lemmas.List.Concat.{flat_map-append}
use Rattle.exb_model.specs.declared.event.Event.{Event}
use Rattle.exb_model.specs.declared.event.Event.TheVariants as event
use Rattle.exb_model.specs.Texts.{line_of as event_text}
use Rattle.exb_model.specs.Tree.{Shape, IsTree}
use Rattle.exb_model.specs.Frames.{egress, kind_of}
use Rattle.exb_model.specs.ETags.{tagged}
use Rattle.exb_model.specs.declared.arrival.Arrival.{Arrival}
use Rattle.exb_model.specs.EagerHistory.{is_relayed, is_relayed_kind}
use Rattle.exb_frame.specs.declared.etag.ETag.{ETag}
use Rattle.exb_frame.specs.TagValues.{tag_of}
use Rattle.exb_link.specs.declared.link_frame.LinkFrame.{LinkFrame}
use Rattle.exb_learn.specs.Calls.{look_in}
use Rattle.exb_relay.specs.declared.send.SendTo.{SendTo}
use Rattle.exb_relay.specs.Laws.{AtMostTwo}
use Rattle.exb_world_spec.specs.Worlds.{World}
use Rattle.exb_world_spec.specs.Effects.{Effect, each}
use Rattle.exb_world_spec.specs.ExtenderSteps.{hung_on, stamp_of}
use Rattle.exb_control_spec.specs.Plans.HeldNumbers.{numbers_in}
use Rattle.exb_world_spec.specs.DataFrames.{puts_word, sent_by, sends_in, sends_all, sends_for}
use Rattle.exb_model.specs.Traces.{Out}
use Rattle.exb_world_spec.specs.TraceLines.{all_told}
use Rattle.exb_trace_spec.specs.Rule5Relays.{is_relay, is_ignore, sent_at, sent, is_data_at, record_text}
use Rattle.exb_trace_laws.proofs.ReachablePorts.{RelayReady}
use Rattle.exb_trace_laws.proofs.ControlEvents.{IsPlain}
use Rattle.exb_trace_laws.proofs.EffectLines.{told_append}

-- ---- texts
pub relay_is_relay : (p n m : ℕ) (f : List ℕ) → is_relay (event_text (event.Relay p n m f)) ≡ true
unfolding is_relay event_text
relay_is_relay p n m f = refl

pub ignore_is_ignore : (p n : ℕ) → (is_relay (event_text (event.Ignored p n)) ≡ false) × (is_ignore (event_text (event.Ignored p n)) ≡ true)
unfolding is_relay is_ignore event_text
ignore_is_ignore p n = (refl, refl)

pub plain_is_neither : (e : Event) → IsPlain e → (is_relay (event_text e) ≡ false) × (is_ignore (event_text e) ≡ false)
unfolding is_relay is_ignore event_text
plain_is_neither (event.Relay p n m f) h = absurd h
plain_is_neither (event.Ignored p n) h = absurd h
plain_is_neither (event.Tick s) h = (refl, refl)
plain_is_neither (event.Commit n) h = (refl, refl)
plain_is_neither (event.Refuse n x) h = (refl, refl)
plain_is_neither (event.Up p) h = (refl, refl)
plain_is_neither (event.NoUp p x) h = (refl, refl)
plain_is_neither event.Settled h = (refl, refl)

pub relay_text : (p n m : ℕ) (f : List ℕ) → event_text (event.Relay p n m f) ≡ record_text (Rattle.std.specs.Prelude.codes "relay ") p n
unfolding event_text
relay_text p n m f = refl

pub ignore_text : (p n : ℕ) → event_text (event.Ignored p n) ≡ record_text (Rattle.std.specs.Prelude.codes "ignore ") p n
unfolding event_text
ignore_text p n = refl

-- ---- what is sent
no_event : (t : Shape) (a : Arrival) (vid : ℕ) (x : SendTo) (w : World) → (sends_in t a vid x w).events ≡ []
no_event t a vid x w = by_tag x.tag
  where
    by_hung : (o : Option ℕ) (y : LinkFrame) → (puts_word x.bridge_port o y w).events ≡ []
    by_hung None y = refl
    by_hung (Some m) y = refl

    by_tag : (o : Option ETag) → (sent_by t a (egress a.bytes x.kind vid) x.bridge_port o w).events ≡ []
    by_tag None = refl
    by_tag (Some tag) = by_hung (hung_on t (x.bridge_port - 1)) (record { bytes = tagged (egress a.bytes x.kind vid) (tag_of tag); stamp = Some (stamp_of a) })

pub no_events : (t : Shape) (a : Arrival) (xs : List SendTo) (o : Option ℕ) (w : World) → (sends_all t a xs o w).events ≡ []
no_events t a xs None w = refl
no_events t a [] (Some vid) w = refl
no_events t a (x ∷ xs) (Some vid) w =
    ap (λ zs. zs ++ (each (sends_in t a vid) xs (sends_in t a vid x w).world).events) (no_event t a vid x w) ∙ no_events t a xs (Some vid) (sends_in t a vid x w).world

-- as many frames at a bridge port as there are sends, at most
pub sends_at_port : ℕ → List SendTo → ℕ
sends_at_port k [] = 0
sends_at_port k (x ∷ xs) = cond (x.bridge_port == k) (1 + sends_at_port k xs) (sends_at_port k xs)

counted_as : (k : ℕ) (xs : List SendTo) → sends_at_port k xs ≡ count_by (λ (x : SendTo). x.bridge_port == k) xs
unfolding sends_at_port
counted_as k xs = is_count_by (sends_at_port k) (λ (x : SendTo). x.bridge_port == k) refl (λ x xs. refl) xs

one_line : (t : Shape) (k port : ℕ) (f : List ℕ) → length (sent t k (Out 0 port f ∷ [])) ≤ cond (port == k) 1 0
one_line t k port f =
    elim (cases_Bool (port == k)) [
      | inl e ↦ elim (cases_Bool (is_data_at t port f)) [ inl d ↦ rw (e, d) (omega arith) | inr d ↦ rw (e, d) (omega arith) ]
      | inr e ↦ rw e (omega arith)
    ]

one_few : (t : Shape) (a : Arrival) (vid k : ℕ) (x : SendTo) (w : World) → length (sent t k (all_told (sends_in t a vid x w).outs)) ≤ cond (x.bridge_port == k) 1 0
one_few t a vid k x w = by_tag x.tag
  where
    nothing : 0 ≤ cond (x.bridge_port == k) 1 0
    nothing = omega arith

    by_hung : (o : Option ℕ) (y : LinkFrame) → length (sent t k (all_told (puts_word x.bridge_port o y w).outs)) ≤ cond (x.bridge_port == k) 1 0
    by_hung None y = nothing
    by_hung (Some m) y = one_line t k x.bridge_port y.bytes

    by_tag : (o : Option ETag) → length (sent t k (all_told (sent_by t a (egress a.bytes x.kind vid) x.bridge_port o w).outs)) ≤ cond (x.bridge_port == k) 1 0
    by_tag None = one_line t k x.bridge_port (egress a.bytes x.kind vid)
    by_tag (Some tag) = by_hung (hung_on t (x.bridge_port - 1)) (record { bytes = tagged (egress a.bytes x.kind vid) (tag_of tag); stamp = Some (stamp_of a) })

each_few : (t : Shape) (a : Arrival) (vid k : ℕ) (xs : List SendTo) (w : World) → length (sent t k (all_told (each (sends_in t a vid) xs w).outs)) ≤ sends_at_port k xs
unfolding sends_at_port
each_few t a vid k [] w = omega arith
each_few t a vid k (x ∷ xs) w =
    let e : Effect = sends_in t a vid x w in
    let rest : Effect = each (sends_in t a vid) xs e.world in
    let split : sent t k (all_told (e.outs ++ rest.outs)) ≡ sent t k (all_told e.outs) ++ sent t k (all_told rest.outs) = ap (sent t k) (told_append e.outs rest.outs) ∙ flat_map-append (sent_at t k) (all_told e.outs) (all_told rest.outs) in
    let both : length (sent t k (all_told (e.outs ++ rest.outs))) ≡ length (sent t k (all_told e.outs)) + length (sent t k (all_told rest.outs)) = ap length split ∙ Rattle.std.proofs.Common.length-append (sent t k (all_told e.outs)) (sent t k (all_told rest.outs)) in
    by_test (x.bridge_port == k) (length (sent t k (all_told e.outs))) (length (sent t k (all_told rest.outs))) (length (sent t k (all_told (e.outs ++ rest.outs)))) (sends_at_port k xs) both (one_few t a vid k x w) (each_few t a vid k xs e.world)
  where
    by_test : (b : Bool) (p q r s : ℕ) → r ≡ p + q → p ≤ cond b 1 0 → q ≤ s → r ≤ cond b (1 + s) s
    by_test true p q r s e a c = omega (arith, e, a, c)
    by_test false p q r s e a c = omega (arith, e, a, c)

module _ (t : Shape) (tree : IsTree t) (law : AtMostTwo) where
  pub sends_few : (w v : World) (a : Arrival) (o : Option ℕ) (k : ℕ) → RelayReady t w → length (sent t k (all_told (sends_all t a (sends_for t w a) o v).outs)) ≤ 2
  sends_few w v a None k ready = omega arith
  sends_few w v a (Some vid) k ready =
      let xs : List SendTo = sends_for t w a in
      let some : length (sent t k (all_told (each (sends_in t a vid) xs v).outs)) ≤ sends_at_port k xs = each_few t a vid k xs v in
      let two : count_by (λ (x : SendTo). x.bridge_port == k) xs ≤ 2 = counted_two in
      let same : sends_at_port k xs ≡ count_by (λ (x : SendTo). x.bridge_port == k) xs = counted_as k xs in
      omega (arith, some, two, same)
    where
      counted_two : count_by (λ (x : SendTo). x.bridge_port == k) (sends_for t w a) ≤ 2
      counted_two =
          elim (cases_Bool (is_relayed w.control.bridge a.port a.bytes)) [
            | inl e ↦ rw e (law t w.control.bridge (look_in w.table) (numbers_in w.control.held) a.port a.bytes tree ready.ready (and_parts (w.control.bridge.present a.port) (is_relayed_kind (kind_of a.bytes)) e).0 k)
            | inr e ↦ rw e (omega arith)
          ]
