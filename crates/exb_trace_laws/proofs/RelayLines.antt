-- What the bridge relays is told: each frame and each word that it sends has its line.
use Rattle.std.proofs.Common.{◌≡◌, ℕ, ◌+◌, ◌-◌, ◌<◌, true, List, [], ◌∷◌, Option, Some, None, refl, ap, sym, ◌∙◌, subst, arith, inl, inr}
use Rattle.std.specs.List.{All}
use Rattle.std.proofs.lemmas.Bool.{cases_Bool, and_parts}
use Rattle.std.proofs.lemmas.List.Elements.{All-head, All-tail}
use Rattle.exb_model.specs.declared.event.Event.{Event}
use Rattle.exb_model.specs.Frames.{egress, kind_of, IsBytes}
use Rattle.exb_model.specs.ETags.{tagged}
use Rattle.exb_model.specs.Tree.{Shape, HangsOn, IsTree, device, on, is_extender, is_port, is_external, port_number}
use Rattle.exb_model.specs.Configuration.{Bridge}
use Rattle.exb_model.specs.Learning.{passes}
use Rattle.exb_model.specs.declared.arrival.Arrival.{Arrival}
use Rattle.exb_model.specs.EagerHistory.{is_relayed, is_relayed_kind, arrival_event}
use Rattle.exb_frame.specs.declared.etag.ETag.{ETag}
use Rattle.exb_frame.specs.TagValues.{tag_of}
use Rattle.exb_link.specs.declared.link_frame.LinkFrame.{LinkFrame}
use Rattle.exb_learn.specs.Calls.{look_in}
use Rattle.exb_relay.specs.declared.send.SendTo.{SendTo}
use Rattle.exb_model.specs.Numbers.{Numbers}
use Rattle.exb_relay.specs.Sends.{sends_of}
use Rattle.exb_relay.specs.Laws.{IsSent, IsAt, SendsAreWords}
use Rattle.exb_world_spec.specs.Worlds.{World, BridgeOut, with_table}
use Rattle.exb_world_spec.specs.Effects.{Effect, only}
use Rattle.exb_world_spec.specs.ExtenderSteps.{hung_on, stamp_of}
use Rattle.exb_control_spec.specs.Plans.HeldNumbers.{numbers_in}
use Rattle.exb_world_spec.specs.BridgeLearning.{taught}
use Rattle.exb_world_spec.specs.DataFrames.{puts_word, sent_by, sends_in, sends_all, passed_by, sends_for, comes}
use Rattle.exb_world_spec.specs.Runs.Sessions.{Each}
use Rattle.exb_world_spec.proofs.Trunks.{hung_is, extender_there}
use Rattle.exb_model.specs.Traces.{TraceLine}
use Rattle.exb_model.specs.Traces as line
use Rattle.exb_trace_laws.proofs.ReachablePorts.{RelayReady}
use Rattle.exb_trace_laws.proofs.EffectLines.{Tells, tells_then, tells_none, tells_each, put_down, let_out, on_is_port}

pub each_from_all : {A : Type 0} (P : A → Type 0) (xs : List A) → All P xs → Each P xs
each_from_all P [] all = tt
each_from_all P (x ∷ xs) all = (All-head P x xs all, each_from_all P xs (All-tail P x xs all))

module _ (t : Shape) (tree : IsTree t) (C : TraceLine → Type 0) (D : Event → Type 0) (out : (k : ℕ) (f : List ℕ) → k < 64 → is_port t k ≡ true → C (line.Out 0 (k + 1) f)) where
  same_line : (k p : ℕ) (f : List ℕ) → p < 64 → k ≡ p + 1 → line.Out 0 k f ≡ line.Out (device p) (port_number p) f
  same_line k p f low e =
      let d : 0 ≡ device p = omega arith in
      let m : k ≡ port_number p = omega arith in
      ap (λ (i : ℕ). line.Out i k f) d ∙ ap (λ (j : ℕ). line.Out (device p) j f) m

  word_tells : (k p : ℕ) (o : Option ℕ) (x : LinkFrame) (w : World) → k ≡ p + 1 → p < 64 → hung_on t (k - 1) ≡ o → Tells t C D w (puts_word k o x w)
  word_tells k p None x w e low hung = tells_none t C D w (only w) refl refl refl refl refl tt refl
  word_tells k p (Some m) x w e low hung =
      let h : HangsOn t m (k - 1) = hung_is t (k - 1) m hung in
      let at : p ≡ on t m = omega (arith, h.at, e) in
      let there : is_extender t m ≡ true = extender_there t m (k - 1) h in
      let is : line.Out 0 k x.bytes ≡ line.Out (device (on t m)) (port_number (on t m)) x.bytes = same_line k p x.bytes low e ∙ ap (λ (q : ℕ). line.Out (device q) (port_number q) x.bytes) at in
      let holds : C (line.Out 0 (p + 1) x.bytes) = out p x.bytes low (subst (λ (q : ℕ). is_port t q ≡ true) (sym at) (on_is_port t tree m there)) in
      put_down t C D tree m x (BridgeOut k x.bytes) w there is (subst (λ (j : ℕ). C (line.Out 0 j x.bytes)) (sym e) holds)

  send_tells : (b : Bridge) (m : Numbers) (a : Arrival) (vid : ℕ) (x : SendTo) (w : World) → IsAt t b m a.port a.bytes x → Tells t C D w (sends_in t a vid x w)
  send_tells b m a vid x w is = by_tag x.tag is.sent
    where
      f : List ℕ
      f = egress a.bytes x.kind vid

      by_tag : (o : Option ETag) → IsSent t b m a.port a.bytes is.port o → Tells t C D w (sent_by t a (egress a.bytes x.kind vid) x.bridge_port o w)
      by_tag (Some tag) sent = word_tells x.bridge_port is.port (hung_on t (x.bridge_port - 1)) (record { bytes = tagged (egress a.bytes x.kind vid) (tag_of tag); stamp = Some (stamp_of a) }) w is.at is.low refl
      by_tag None external =
          let p : is.port ≡ x.bridge_port - 1 = omega (arith, is.at) in
          let out_there : is_external t (x.bridge_port - 1) ≡ true = subst (λ (q : ℕ). is_external t q ≡ true) p external in
          let same : line.Out 0 x.bridge_port (egress a.bytes x.kind vid) ≡ line.Out (device (x.bridge_port - 1)) (port_number (x.bridge_port - 1)) (egress a.bytes x.kind vid) =
          same_line x.bridge_port is.port (egress a.bytes x.kind vid) is.low is.at ∙ ap (λ (q : ℕ). line.Out (device q) (port_number q) (egress a.bytes x.kind vid)) p
          in
          let port : is_port t is.port ≡ true = (and_parts (is_port t is.port) _ external).0 in
          let_out t C D tree (record { port = x.bridge_port - 1; moment = a.moment; bytes = egress a.bytes x.kind vid }) (BridgeOut x.bridge_port (egress a.bytes x.kind vid)) w out_there same
          (subst (λ (j : ℕ). C (line.Out 0 j (egress a.bytes x.kind vid))) (sym is.at) (out is.port (egress a.bytes x.kind vid) is.low port))

  all_tells : (b : Bridge) (m : Numbers) (a : Arrival) (xs : List SendTo) (o : Option ℕ) (w : World) → Each (IsAt t b m a.port a.bytes) xs → Tells t C D w (sends_all t a xs o w)
  all_tells b m a xs None w all = tells_none t C D w (only w) refl refl refl refl refl tt refl
  all_tells b m a xs (Some vid) w all = tells_each t C D (IsAt t b m a.port a.bytes) (λ v. Unit {0}) (sends_in t a vid) xs w (λ x v is s. (send_tells b m a vid x v is, tt)) tt all

  -- what is sent for a frame
  module _ (law : SendsAreWords) where
    pub sends_are_at : (w : World) (a : Arrival) → RelayReady t w → IsBytes a.bytes → Each (IsAt t w.control.bridge (numbers_in w.control.held) a.port a.bytes) (sends_for t w a)
    sends_are_at w a ready bytes =
        elim (cases_Bool (is_relayed w.control.bridge a.port a.bytes)) [
          | inr e ↦ rw e tt
          | inl e ↦
              let present : w.control.bridge.present a.port ≡ true = (and_parts (w.control.bridge.present a.port) (is_relayed_kind (kind_of a.bytes)) e).0 in
              rw e (each_from_all (IsAt t w.control.bridge (numbers_in w.control.held) a.port a.bytes) (sends_of t w.control.bridge (look_in w.table) (numbers_in w.control.held) a.port a.bytes)
              (law t w.control.bridge (look_in w.table) (numbers_in w.control.held) a.port a.bytes tree ready.ready ready.numbering ready.pvids bytes present))
        ]

    pub comes_tells : (a : Arrival) (w : World) → RelayReady t w → IsBytes a.bytes → D (arrival_event w.control.bridge a) → Tells t C D w (comes t a w)
    comes_tells a w ready bytes holds =
        let first : Effect = record (only (with_table (taught w.control.bridge a w.table) w)) {
          events = arrival_event w.control.bridge a ∷ [];
          passed = passed_by (is_relayed w.control.bridge a.port a.bytes) (passes w.control.bridge a.port a.bytes);
        } in
        tells_then t C D w first (sends_all t a (sends_for t w a) (passes w.control.bridge a.port a.bytes)) (tells_none t C D w first refl refl refl refl refl (holds, tt) refl)
        (all_tells w.control.bridge (numbers_in w.control.held) a (sends_for t w a) (passes w.control.bridge a.port a.bytes) first.world (sends_are_at w a ready bytes))
