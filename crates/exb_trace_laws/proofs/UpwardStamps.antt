-- Data words on their way up keep the stamps of their records.
use Rattle.std.proofs.Common.{◌≡◌, ◌≢◌, ℕ, ◌+◌, ◌<◌, ◌≤◌, ◌==◌, ◌&&◌, ◌||◌, nat_lt, Bool, true, false, List, [], ◌∷◌, ◌++◌, filter, length, slice_get, slice_index, append-nil, Option, Some, None, refl, ap, sym, ◌∙◌, subst, arith, inl, inr}
use Rattle.std.proofs.lemmas.Bool.{cases_Bool, cases_lt, and_parts, ltb-true, lt-ltb, le-ltb, ne_eqb, false≢true}
use Rattle.exb_model.specs.Lists.{numbered}
use Rattle.exb_model.specs.Frames.{kind_of, is_control_frame, IsBytes}
use Rattle.exb_model.specs.Tree.{Shape, IsTree, device, on, is_extender, is_port, is_external, port_number}
use Rattle.exb_model.specs.Setup.{Limits}
use Rattle.exb_model.specs.declared.arrival.Arrival.{Arrival}
use Rattle.exb_model.specs.ETags.{read_etag, tagged}
use Rattle.exb_frame.specs.TagValues.{TagRoundTrip}
use Rattle.exb_extender.specs.declared.sends.Side.{Side}
use Rattle.exb_extender.specs.declared.sends.Side.TheVariants as side
use Rattle.exb_csp.specs.AllTables.{port_of}
use Rattle.exb_extender.specs.Forwarding.{Sent, names_channel, is_bare_control, sent_from_cascade, sent_from_external, is_ignored, is_refused_kind, emitted, channel_tag}
use Rattle.exb_extender.specs.Machine.{ExtenderState, IsExtender, Input, Arrives, Beats, react}
use Rattle.exb_link.specs.declared.link_frame.Stamp.{Stamp}
use Rattle.exb_link.specs.declared.link_frame.LinkFrame.{LinkFrame}
use Rattle.exb_link.specs.LinkFrames.{is_control, is_data, without_data, without_control}
use Rattle.exb_relay.specs.Laws.{SendsAreWords}
use Rattle.exb_world_spec.specs.Worlds.{World, Way, Up, Down, Step, Arrive, Carry, Control, Lose, Beat, Tick, Order, Mark, with_far, next_beat}
use Rattle.exb_world_spec.specs.Effects.{Effect, then_do, each}
use Rattle.exb_world_spec.specs.ExtenderSteps.{hung_on, sent_at, sent_to, sends, reacts, takes_from_below, stamp_of, does_or_ignores}
use Rattle.exb_world_spec.specs.ControlFrames.{beats_near, beats_control}
use Rattle.exb_world_spec.specs.DataFrames.{comes, bridge_takes}
use Rattle.exb_world_spec.specs.Steps.{with_words, takes, takes_any, first_data, control_at, rest_of, counted, arrives, if_there, all_extenders, beats_all, done_by}
use Rattle.exb_world_spec.specs.AllowedSteps.{Can}
use Rattle.exb_world_spec.specs.Runs.Sessions.{Each}
use Rattle.exb_world_spec.specs.Runs.SessionLaws.{HasBytes}
use Rattle.exb_world_spec.proofs.LinkFrames.{each_append, each_weaker, each_filter, each_get, each_without_data, each_without_control, at_same}
use Rattle.exb_world_spec.proofs.Frames.{tag_fits}
use Rattle.exb_model.specs.Traces.{TraceLine, In, Out, Journal}
use Rattle.exb_world_spec.specs.TraceLines.{all_told}
use Rattle.exb_model.specs.Traces as line
use Rattle.exb_trace_spec.specs.Rule3Links.{upstream_of, outs}
use Rattle.exb_trace_laws.specs.TraceRelation.{bytes_of}
use Rattle.exb_trace_laws.specs.TraceConditions.{IsRecord}
use Rattle.exb_trace_laws.proofs.EffectLines.{Any, Tells, tells_then}
use Rattle.exb_trace_laws.proofs.RequestLines.{ordered_tells, control_tells}
use Rattle.exb_trace_laws.proofs.RelayLines.{comes_tells}
use Rattle.exb_trace_laws.proofs.BridgeLines.{bridge_tells}
use Rattle.exb_trace_laws.proofs.StepLines.{Brings, BringsBytes, home}
use Rattle.exb_trace_laws.proofs.Rule2Steps.{IsByBridge, near_part}
use Rattle.exb_trace_laws.proofs.UpwardControlFrames.{UpIsControl, AllControl, above_up, beaten_up, bare_tagged}

both_ways : (b : Bool) → b ≡ true → b ≡ false → ⊥
both_ways b x y = cc

-- ---- the bridge puts nothing there
none_up : (n : ℕ) → 0 < n → (ls : List TraceLine) → Each IsByBridge ls → outs (upstream_of n) ls ≡ []
none_up n some [] all = refl
none_up n some (In m k f ∷ ls) all = absurd all.0
none_up n some (Out m k f ∷ ls) all = let ne : m ≢ n = λ e. omega (arith, some, all.0, e) in rw (ne_eqb m n ne) (none_up n some ls all.1)
none_up n some (line.Beat ∷ ls) all = absurd all.0
none_up n some (Journal x ∷ ls) all = absurd all.0

no_words : (ws : List LinkFrame) → bytes_of ws ≡ [] → ws ≡ []
no_words [] e = refl
no_words (w ∷ ws) e = absurd (cons_nil e)
  where
    cons_nil : {x : List ℕ} {xs : List (List ℕ)} → x ∷ xs ≡ [] → ⊥
    cons_nil f = cc

module _ (t : Shape) (P : LinkFrame → Type 0) where
  abbrev pub AllUps : World → Type 0
  AllUps w = (n : ℕ) → is_extender t n ≡ true → Each P (w.up n)

  some_extender : (n : ℕ) → is_extender t n ≡ true → 0 < n
  some_extender n there = ltb-true 0 n (and_parts (nat_lt 0 n) (nat_lt 0 (slice_index t.ports n)) there).0

  bridge_ups : (w : World) (e : Effect) → Tells t IsByBridge Any w e → AllUps w → AllUps e.world
  bridge_ups w e tells all n there =
      let put = tells.shows.puts n Up there in
      let none : put.words ≡ [] = no_words put.words (put.bytes ∙ none_up n (some_extender n there) (all_told e.outs) tells.shows.lines) in
      let same : e.world.up n ≡ w.up n = put.is ∙ ap (λ ws. w.up n ++ ws) none ∙ append-nil (w.up n) in
      subst (Each P) (sym same) (all n there)

  -- ---- an extender sends
  abbrev Rises : Option Stamp → Sent → Type 0
  Rises stamp s = s.side ≡ side.Up → P (record { bytes = s.bytes; stamp = stamp })

  one_up : (n : ℕ) (stamp : Option Stamp) (s : Side) (f : List ℕ) (w : World) → (s ≡ side.Up → P (record { bytes = f; stamp = stamp })) → AllUps w → AllUps (sent_to t n stamp s f w).world
  one_up n stamp side.Up f w fits all =
      let x : LinkFrame = record { bytes = f; stamp = stamp } in
      at_same (λ m ws. is_extender t m ≡ true → Each P ws) n (w.up n ++ x ∷ []) w.up (λ there. each_append P (w.up n) (x ∷ []) (all n there) (fits refl, tt)) all
  one_up n stamp (side.Port k) f w fits all = by_hung (hung_on t (port_of n k))
    where
      by_hung : (o : Option ℕ) → AllUps (sent_at n k o stamp f w).world
      by_hung None = all
      by_hung (Some m) = all

  sends_ups : (n : ℕ) (stamp : Option Stamp) (ss : List Sent) (w : World) → Each (Rises stamp) ss → AllUps w → AllUps (each (sends t n stamp) ss w).world
  sends_ups n stamp [] w fits all = all
  sends_ups n stamp (s ∷ ss) w fits all = sends_ups n stamp ss (sends t n stamp s w).world fits.1 (one_up n stamp s.side s.bytes w fits.0 all)

  pub reacts_ups : (n : ℕ) (stamp : Option Stamp) (i : Input) (w : World) → Each (Rises stamp) (react i (w.far n)).1 → AllUps w → AllUps (reacts t n stamp i w).world
  reacts_ups n stamp i w fits all = sends_ups n stamp (react i (w.far n)).1 (with_far n (react i (w.far n)).0 w) fits all

-- ---- records
module _ (t : Shape) (l : Limits) (tree : IsTree t) (law : SendsAreWords) (round : TagRoundTrip) (captures : ℕ → List (List ℕ)) where
  abbrev Fits : LinkFrame → Type 0
  Fits x = is_control x ≡ false → IsRecord t captures x

  control_rises : (stamp : Option Stamp) (ss : List Sent) → AllControl ss → Each (Rises t Fits stamp) ss
  control_rises stamp ss all = each_weaker UpIsControl (Rises t Fits stamp) ss (λ s k e plain. absurd (both_ways (is_control_frame s.bytes) (k e) plain)) all

  -- from a cascade port
  cascade_rises : (channel : ℕ) (x : LinkFrame) → IsBytes x.bytes → Fits x → Each (Rises t Fits x.stamp) (sent_from_cascade channel x.bytes)
  cascade_rises channel x bytes fits =
      elim (cases_Bool (names_channel (read_etag x.bytes))) [
        | inl e ↦ rw e (λ z. fits, tt)
        | inr e ↦ elim (cases_Bool (is_bare_control x.bytes && nat_lt 0 channel)) [
          | inr c ↦ rw (e, c) tt
          | inl c ↦
              let bare : is_bare_control x.bytes ≡ true = (and_parts (is_bare_control x.bytes) (nat_lt 0 channel) c).0 in
              rw (e, c) (λ z plain. absurd (both_ways (is_control_frame (tagged x.bytes (channel_tag channel))) (bare_tagged x.bytes (channel_tag channel) bytes bare) plain), tt)
        ]
      ]

  below_ups : (m k : ℕ) (x : LinkFrame) (w : World) → IsBytes x.bytes → Fits x → AllUps t Fits w → AllUps t Fits (takes_from_below t m k x w).world
  unfolding emitted
  below_ups m k x w bytes fits all =
      elim (cases_Bool ((w.far m).tables.cascade k)) [
        | inr e ↦ rw e all
        | inl e ↦ rw e (sends_ups t Fits m x.stamp (sent_from_cascade ((w.far m).tables.own k) x.bytes) (with_far m (w.far m) w) (cascade_rises ((w.far m).tables.own k) x bytes fits) all)
      ]

  -- ---- arrivals
  long_enough : (f : List ℕ) → is_refused_kind (kind_of f) ≡ false → 12 ≤ length f
  unfolding kind_of
  long_enough f h =
      elim (cases_lt (length f) 14) [
        | inr long ↦ omega (arith, long)
        | inl short ↦ absurd (let k = rw (lt-ltb (length f) 14 short) at h in false≢true (sym k))
      ]

  external_rises : (a : Arrival) (channel : ℕ) → channel < 4095 → is_external t a.port ≡ true → numbered (captures a.port) a.index ≡ Some a.bytes → Each (Rises t Fits (Some (stamp_of a))) (sent_from_external channel a.bytes)
  external_rises a channel small out names =
      elim (cases_Bool (is_ignored channel a.bytes)) [
        | inl e ↦ rw e tt
        | inr e ↦
            let kind : is_refused_kind (kind_of a.bytes) ≡ false = right_false (channel == 0) (is_refused_kind (kind_of a.bytes)) e in
            let r = round a.bytes (channel_tag channel) (long_enough a.bytes kind) (tag_fits channel small) in
            rw e (λ z plain. record { stamp = stamp_of a; is = refl; external = out; frame = names ∙ ap (λ (f : List ℕ). Some f) (sym r.1) }, tt)
      ]
    where
      right_false : (x y : Bool) → (x || y) ≡ false → y ≡ false
      right_false true y e = absurd (false≢true (sym e))
      right_false false y e = e

  station_ups : (a : Arrival) (s : ExtenderState) (ss : List Sent) (w : World) → Each (Rises t Fits (Some (stamp_of a))) ss → AllUps t Fits w → AllUps t Fits (does_or_ignores t a (s, ss) w).world
  station_ups a s [] w fits all = all
  station_ups a s (x ∷ xs) w fits all = sends_ups t Fits (device a.port) (Some (stamp_of a)) (x ∷ xs) (with_far (device a.port) s w) fits all

  down : (n : ℕ) (f : List ℕ) → is_extender t n ≡ true → on t n < 64 → is_control_frame f ≡ true → IsByBridge (line.Out 0 (on t n + 1) f)
  down n f a b c = refl

  out : (k : ℕ) (f : List ℕ) → k < 64 → is_port t k ≡ true → IsByBridge (line.Out 0 (k + 1) f)
  out k f a b = refl

  arrival_ups : (a : Arrival) (w : World) → Brings t w → ((n : ℕ) → is_extender t n ≡ true → IsExtender (w.far n)) → is_external t a.port ≡ true → IsBytes a.bytes → numbered (captures a.port) a.index ≡ Some a.bytes → AllUps t Fits w → AllUps t Fits (arrives t a w).world
  unfolding emitted
  arrival_ups a w b are external bytes names all =
      let v : World = counted a w in
      elim (cases_lt a.port 64) [
        | inl low ↦
            rw (lt-ltb a.port 64 low) (bridge_ups t Fits v (comes t a v) (comes_tells t tree IsByBridge Any out law a v (record { ready = b.ready.ready; numbering = b.ready.numbering; pvids = b.ready.pvids }) bytes tt) all)
        | inr high ↦
            let n : ℕ = device a.port in
            let k : ℕ = port_number a.port in
            let is : IsExtender (w.far n) = are n (home t a.port high external) in
            rw (le-ltb a.port 64 high) (
            elim (cases_Bool ((w.far n).tables.cascade k)) [
              | inl c ↦ rw c all
              | inr c ↦ rw c (station_ups a (w.far n) (sent_from_external ((w.far n).tables.own k) a.bytes) v (external_rises a ((w.far n).tables.own k) (is.channels k) external names) all)
            ])
      ]

  -- ---- words
  with_ups : (n : ℕ) (ws : List LinkFrame) (w : World) → (Each Fits (w.up n) → Each Fits ws) → AllUps t Fits w → AllUps t Fits (with_words n Up ws w)
  with_ups n ws w fewer all = at_same (λ m xs. is_extender t m ≡ true → Each Fits xs) n ws w.up (λ there. fewer (all n there)) all

  up_taken : (n : ℕ) (x : LinkFrame) (w : World) → Brings t w → is_extender t n ≡ true → IsBytes x.bytes → Fits x → AllUps t Fits w → AllUps t Fits (takes t l n Up x w).world
  up_taken n x w b there bytes fits all =
      elim (cases_lt (on t n) 64) [
        | inl low ↦ rw (lt-ltb (on t n) 64 low) (bridge_ups t Fits w (bridge_takes t l (on t n) n x w) (bridge_tells t l tree IsByBridge down law out (on t n) n x w there b.knows b.ready bytes) all)
        | inr deep ↦ rw (le-ltb (on t n) 64 deep) (below_ups (device (on t n)) (port_number (on t n)) x w bytes fits all)
      ]

  brings_with : (n : ℕ) (ws : List LinkFrame) (w : World) → Brings t w → Brings t (with_words n Up ws w)
  brings_with n ws w b = record { knows = b.knows; ready = record { ready = b.ready.ready; numbering = b.ready.numbering; pvids = b.ready.pvids }; ports = b.ports }

  any_taken : (n : ℕ) (way : Way) (o : Option LinkFrame) (rest : List LinkFrame) (w : World) → Brings t w → is_extender t n ≡ true → ((x : LinkFrame) → o ≡ Some x → IsBytes x.bytes) → ((x : LinkFrame) → o ≡ Some x → way ≡ Up → Fits x) →
      (Each Fits (w.up n) → way ≡ Up → Each Fits rest) → AllUps t Fits w → AllUps t Fits (takes_any t l n way o rest w).world
  any_taken n way None rest w b there bytes fits fewer all = all
  any_taken n Down (Some x) rest w b there bytes fits fewer all =
      reacts_ups t Fits n x.stamp (Arrives side.Up x.bytes) (with_words n Down rest w) (control_rises x.stamp (react (Arrives side.Up x.bytes) (w.far n)).1 (above_up x.bytes (w.far n))) all
  any_taken n Up (Some x) rest w b there bytes fits fewer all =
      up_taken n x (with_words n Up rest w) (brings_with n rest w b) there (bytes x refl) (fits x refl refl) (with_ups n rest w (λ k. fewer k refl) all)

  -- ---- beats
  far_ups : (ns : List ℕ) (w : World) → AllUps t Fits w → AllUps t Fits (each (if_there t (λ n. reacts t n None Beats)) ns w).world
  far_ups [] w all = all
  far_ups (n ∷ ns) w all = far_ups ns (if_there t (λ m. reacts t m None Beats) n w).world one
    where
      one : AllUps t Fits (if_there t (λ m. reacts t m None Beats) n w).world
      one = elim (cases_Bool (is_extender t n)) [
        | inl there ↦ rw there (reacts_ups t Fits n None Beats w (control_rises None (react Beats (w.far n)).1 (beaten_up (w.far n))) all)
        | inr other ↦ rw other all
      ]

  beat_ups : (m : ℕ) → is_extender t m ≡ true → (w : World) → Brings t w → AllUps t Fits w → AllUps t Fits (beats_all t w).world
  unfolding beats_all
  beat_ups m there w b all =
      let v : World = record w { beats = next_beat w.beats } in
      let near : Effect = each (if_there t (beats_near t)) all_extenders v in
      let one = near_part t l tree law m there all_extenders v b.knows in
      let first : Effect = then_do near (beats_control t) in
      let told : Tells t IsByBridge Any v first = tells_then t IsByBridge Any v near (beats_control t) one.0 (control_tells t tree IsByBridge Any down (λ e p. tt) l near.world one.1) in
      far_ups all_extenders first.world (bridge_ups t Fits v first told all)

  -- ---- each step
  get_up : (test : LinkFrame → Bool) (ws : List LinkFrame) (k : ℕ) (x : LinkFrame) (Q : LinkFrame → Type 0) → Each Q ws → slice_get (filter test ws) k ≡ Some x → Q x
  get_up test ws k x Q all e = each_get Q (filter test ws) k x (each_filter Q test ws all) e

  kept : (keep : Bool) (ws : List LinkFrame) (k : ℕ) → Each Fits ws → Each Fits (rest_of keep ws k)
  kept true ws k all = all
  kept false ws k all = each_without_control Fits ws k all

  pub records_kept : (w : World) (step : Step) → Brings t w → ((n : ℕ) → is_extender t n ≡ true → IsExtender (w.far n)) → BringsBytes w → HasBytes step → Can t w step →
      ((a : Arrival) → step ≡ Arrive a → numbered (captures a.port) a.index ≡ Some a.bytes) → AllUps t Fits w → AllUps t Fits (done_by t l step w).world
  records_kept w (Arrive a) b are bytes has can names all = arrival_ups a w b are can.external has (names a refl) all
  records_kept w (Carry n Up) b are bytes has can names all =
      any_taken n Up (first_data (w.up n)) (without_data (w.up n)) w b can.0 (λ x e. get_up is_data (w.up n) 0 x (λ y. IsBytes y.bytes) (bytes.words n Up) e) (λ x e u. get_up is_data (w.up n) 0 x Fits (all n can.0) e)
      (λ k u. each_without_data Fits (w.up n) k) all
  records_kept w (Carry n Down) b are bytes has can names all =
      any_taken n Down (first_data (w.down n)) (without_data (w.down n)) w b can.0 (λ x e. get_up is_data (w.down n) 0 x (λ y. IsBytes y.bytes) (bytes.words n Down) e) (λ x e u. absurd (down_up u)) (λ k u. absurd (down_up u)) all
    where
      down_up : Down ≡ Up → ⊥
      down_up e = cc
  records_kept w (Control n Up k keep) b are bytes has can names all =
      any_taken n Up (control_at (w.up n) k) (rest_of keep (w.up n) k) w b can.0 (λ x e. get_up is_control (w.up n) k x (λ y. IsBytes y.bytes) (bytes.words n Up) e) (λ x e u. get_up is_control (w.up n) k x Fits (all n can.0) e)
      (λ j u. kept keep (w.up n) k j) all
  records_kept w (Control n Down k keep) b are bytes has can names all =
      any_taken n Down (control_at (w.down n) k) (rest_of keep (w.down n) k) w b can.0 (λ x e. get_up is_control (w.down n) k x (λ y. IsBytes y.bytes) (bytes.words n Down) e) (λ x e u. absurd (down_up u)) (λ j u. absurd (down_up u)) all
    where
      down_up : Down ≡ Up → ⊥
      down_up e = cc
  records_kept w (Lose n Up k) b are bytes has can names all = with_ups n (without_control (w.up n) k) w (each_without_control Fits (w.up n) k) all
  records_kept w (Lose n Down k) b are bytes has can names all = all
  records_kept w Beat b are bytes has can names all = λ m there. beat_ups m there w b all m there
  records_kept w (Tick seconds) b are bytes has can names all = all
  records_kept w (Order c) b are bytes has can names all = bridge_ups t Fits w (done_by t l (Order c) w) (ordered_tells t tree IsByBridge Any down (λ e p. tt) l c w can.0 b.knows) all
  records_kept w Mark b are bytes has can names all = all
