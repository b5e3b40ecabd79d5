-- What leaves for one event, and that it may arrive elsewhere.
use Rattle.std.proofs.Common.{◌≡◌, ℕ, ◌≤◌, Bool, true, cond, List, [], ◌∷◌, length, Option, Some, None, refl, ap, sym, ◌∙◌, subst, arith, inl, inr}
use Rattle.std.proofs.lemmas.Bool.{cases_Bool, and_parts, eq-eqb}
use Rattle.exb_model.specs.declared.event.Cause.{Cause}
use Rattle.exb_model.specs.declared.setup.Setup.{Setup}
use Rattle.exb_model.specs.declared.vlan.Kind.{Kind}
use Rattle.exb_model.specs.Configuration.{Bridge}
use Rattle.exb_model.specs.EagerHistory.{is_relayed, is_relayed_kind, arrival_event, decided}
use Rattle.exb_model.specs.FlatBridge.{Sent, sent_as, sent_by}
use Rattle.exb_model.specs.Frames.{kind_of}
use Rattle.exb_model.specs.History.{bridge_after}
use Rattle.exb_model.specs.declared.arrival.Arrival.{Arrival}
use Rattle.exb_model.specs.Learning.{Look, passes, learned}
use Rattle.exb_model.specs.Refusals.{refusal}
use Rattle.exb_model.specs.Setup.{Limits, shape_of, limits_of}
use Rattle.exb_model.specs.Targets.{target}
use Rattle.exb_model.specs.Tree.{Shape, is_external}
use Rattle.exb_frame.specs.TagValues.{TagRoundTrip}
use Rattle.exb_relay.specs.Laws.{SendsAreWords, SendsLeaveAsFlat}
use Rattle.exb_control_spec.specs.Runs.Journal.{StepsTell}
use Rattle.exb_world_spec.specs.Worlds.{World, Step, Arrive, Order, Left, left_at}
use Rattle.exb_world_spec.specs.Runs.Sessions.{Each}
use Rattle.exb_world_spec.specs.Runs.FrameBytes.{StepsStayWritten}
use Rattle.exb_world_spec.proofs.Bytes.{egress_short, relayed_short}
use Rattle.exb_world_laws.specs.WorldInput.{basis_with}
use Rattle.exb_world_laws.specs.WorldInvariant.{MayStart, basis_of}
use Rattle.exb_world_laws.specs.OneBridgeSteps.{IsGiving, told_of, IsOneEvent}
use Rattle.exb_world_laws.proofs.FrameBytes.{going}
use Rattle.exb_world_laws.proofs.OneEvent.{events_go_alone}
use Rattle.exb_world_laws.proofs.OneBridgeSteps.{kept_ageing}
use Rattle.exb_world_laws.proofs.Setups.{setups_may_start}
use Rattle.exb_world_laws.proofs.OneBridge.{kept_stands}
use Rattle.exb_world_laws.specs.Runs.Crossings.{IsAlone, left_by, MayCross, LeavesMayCross, CommandsSendNothing, CrossingsMayArrive}
use Rattle.exb_world_spec.specs.Runs.ReachedWorlds.{beginning, reached_by}
use Rattle.exb_world_laws.proofs.Runs.Copies.{left_each}
use Rattle.exb_world_laws.proofs.Runs.ExternalPorts.{IsOutside}
use Rattle.exb_world_laws.proofs.Runs.Settling.{IsRun, begins, run_after, go_after}
use Rattle.exb_world_laws.proofs.Runs.PartialRuns.{run_passes}

-- ---- what the one bridge sends for an arrival
abbrev IsShort : Arrival → ℕ → List ℕ → Type 0
IsShort a moment bytes = (moment ≡ a.moment) × (length bytes ≤ 9220)

abbrev IsShortSent : Arrival → Sent → Type 0
IsShortSent a x = IsShort a x.0 x.1

-- so few, and each so
record AreSent (a : Arrival) (xs : List Sent) : Type 0 where
  each : Each (λ (x : Sent). IsShort a x.0 x.1) xs
  few : length xs ≤ 1

none_sent : (a : Arrival) → AreSent a []
none_sent a = record { each = tt; few = omega arith }

sent_few : (b : Bridge) (look : Look) (a : Arrival) (q : ℕ) → AreSent a (sent_by b look (arrival_event b a) q)
sent_few b look a q =
    elim (cases_Bool (is_relayed b a.port a.bytes)) [
      | inl e ↦ rw e (by_options (and_parts (b.present a.port) (is_relayed_kind (kind_of a.bytes)) e).1 (passes b a.port a.bytes) (target b look a.port a.bytes q))
      | inr e ↦ rw e (none_sent a)
    ]
  where
    by_options : is_relayed_kind (kind_of a.bytes) ≡ true → (o : Option ℕ) (k : Option Kind) → AreSent a (sent_as a.moment a.bytes o k)
    by_options kind None k = none_sent a
    by_options kind (Some v) None = none_sent a
    by_options kind (Some v) (Some k) =
        let s = relayed_short a.bytes kind in
        let e = egress_short a.bytes k v in
        record { each = ((refl, omega (arith, s, e)), tt); few = omega arith }

sent_none : (b : Bridge) (look : Look) (n : ℕ) (o : Option Cause) (q : ℕ) → sent_by b look (decided n o) q ≡ []
sent_none b look n None q = refl
sent_none b look n (Some x) q = refl

-- ---- from a world that a run reaches
module _ (round : TagRoundTrip) (words : SendsAreWords) (leave : SendsLeaveAsFlat) (law : StepsTell) (stay : StepsStayWritten) where
  module _ (s : Setup) (before : List Step) (step : Step) (moves : List Step) (gives : IsGiving step) (k : IsAlone s before step moves) where
    begun : MayStart (shape_of s) (limits_of s) (basis_of s)
    begun = setups_may_start s k.valid k.vids

    reached : IsRun (shape_of s) (limits_of s) (basis_of s) (reached_by s before)
    reached = run_after round words leave law stay (shape_of s) (limits_of s) (basis_of s) begun before (beginning s) k.reached (begins round words leave law stay s k.valid begun)

    one : IsOneEvent (shape_of s) (limits_of s) (basis_of s) (reached_by s before) reached.given reached.history reached.left step moves
    one =
        let t : Shape = shape_of s in
        let l : Limits = limits_of s in
        let w : World = reached_by s before in
        let go = go_after round words leave law stay t l (basis_of s) begun (step ∷ moves) w k.may reached in
        let do_all = (going round words leave law stay t l (basis_of s) begun (step ∷ moves) w reached.given reached.history reached.left reached.kept reached.written go).0 in
        events_go_alone round words leave law t l (basis_of s) begun w reached.given reached.history reached.left reached.kept k.settled step moves gives do_all k.moves_alone k.after
        (basis_of s) (sym (kept_ageing t l (basis_of s) begun w reached.given reached.history reached.left reached.kept)) reached.given reached.history reached.left
        (kept_stands t l (basis_of s) begun w reached.given reached.history reached.left reached.kept)

    outside : Each (IsOutside (shape_of s)) (left_by s before step moves)
    outside = (run_passes round words leave law stay (shape_of s) (limits_of s) (basis_of s) begun (step ∷ moves) (reached_by s before) k.may reached).outside

    bridge_is : bridge_after (basis_with (basis_of s) reached.given) reached.history ≡ (reached_by s before).control.bridge
    bridge_is = sym (kept_stands (shape_of s) (limits_of s) (basis_of s) begun (reached_by s before) reached.given reached.history reached.left reached.kept).force.bridge

  pub leaves_may_cross : LeavesMayCross
  leaves_may_cross s before a moves k =
      let x = one s before (Arrive a) moves tt k in
      let r = reached s before (Arrive a) moves tt k in
      let look : Look = learned (basis_with (basis_of s) r.given) r.history in
      let at : (q : ℕ) → is_external (shape_of s) q ≡ true → AreSent a (left_at q (left_by s before (Arrive a) moves)) = λ q ext.
      subst (AreSent a) (sym (x.leaves q ext ∙ ap (λ (b : Bridge). sent_by b look (told_of (shape_of s) (limits_of s) (reached_by s before) (Arrive a)) q) (bridge_is s before (Arrive a) moves tt k))) (sent_few (reached_by s before).control.bridge look a q) in
      record {
        each = crossing (left_by s before (Arrive a) moves)
            (left_each (IsShort a) (λ (q : ℕ). is_external (shape_of s) q ≡ true) (left_by s before (Arrive a) moves) (λ q ext. (at q ext).each) (outside s before (Arrive a) moves tt k));
        few = λ q ext. (at q ext).few;
      }
    where
      crossing : (xs : List Left) → Each (λ (x : Left). (is_external (shape_of s) x.port ≡ true) × IsShort a x.moment x.bytes) xs → Each (MayCross (shape_of s) a) xs
      crossing [] all = tt
      crossing (x ∷ xs) all = (record { port = all.0.0; moment = all.0.1.0; short = all.0.1.1 }, crossing xs all.1)

  pub commands_send_nothing : CommandsSendNothing
  commands_send_nothing s before c moves k =
      let x = one s before (Order c) moves tt k in
      let r = reached s before (Order c) moves tt k in
      none (left_by s before (Order c) moves) (outside s before (Order c) moves tt k)
      (λ q ext. x.leaves q ext ∙ sent_none (bridge_after (basis_with (basis_of s) r.given) r.history) (learned (basis_with (basis_of s) r.given) r.history) _ (refusal (shape_of s) (limits_of s) (reached_by s before).control.bridge c) q)
    where
      cons_nil : {A : Type 0} {x : A} {xs : List A} → x ∷ xs ≡ [] → ⊥
      cons_nil e = cc

      none : (xs : List Left) → Each (IsOutside (shape_of s)) xs → ((q : ℕ) → is_external (shape_of s) q ≡ true → left_at q xs ≡ []) → xs ≡ []
      none [] all at = refl
      none (y ∷ ys) all at = absurd (cons_nil (sym (ap (λ (b : Bool). cond b ((y.moment, y.bytes) ∷ left_at y.port ys) (left_at y.port ys)) (eq-eqb y.port y.port refl)) ∙ at y.port all.0))

pub crossings_may_arrive : CrossingsMayArrive
crossings_may_arrive t w p moment bytes ext few short = record { external = ext; next = refl; few = few; short = omega (arith, short) }
