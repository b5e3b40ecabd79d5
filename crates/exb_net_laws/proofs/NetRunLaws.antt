-- Queues and events: bridge by bridge a run shows the histories that the net gives.
use Rattle.std.proofs.Common.{◌≡◌, ◌≢◌, ℕ, zero, suc, ◌+◌, ◌-◌, ◌<◌, ◌==◌, ◌++◌, Bool, true, false, cond, List, [], ◌∷◌, filter, Option, Some, None, refl, ap, sym, ◌∙◌, subst, arith, inl, inr}
use Rattle.std.specs.Prelude.{flat_map, All}
use Rattle.std.proofs.lemmas.Bool.{cases_Bool, cases_eq, eq-eqb, ne_eqb}
use Rattle.exb_model.specs.declared.command.Command.{Command}
use Rattle.exb_model.specs.declared.event.Event.{Event}
use Rattle.exb_model.specs.declared.event.Event.TheVariants as event
use Rattle.exb_model.specs.declared.setup.Setup.{Setup}
use Rattle.exb_model.specs.Configuration.{Bridge}
use Rattle.exb_model.specs.EagerHistory.{arrival_event, decided, refusal_of}
use Rattle.exb_model.specs.FlatBridge.{Sent, sent_by, flat}
use Rattle.exb_model.specs.History.{Basis, History, ◌then◌, command_of, bridge_after}
use Rattle.exb_model.specs.declared.arrival.Arrival.{Arrival}
use Rattle.exb_model.specs.Input.{Coming, Ordered, Captured}
use Rattle.exb_model.specs.Learning.{learned}
use Rattle.exb_model.specs.Ports.{all_ports}
use Rattle.exb_model.specs.Refusals.{refusal}
use Rattle.exb_model.specs.Tree.{Shape, is_external, external_ports}
use Rattle.exb_frame.specs.TagValues.{TagRoundTrip}
use Rattle.exb_relay.specs.Laws.{SendsAreWords, SendsLeaveAsFlat}
use Rattle.exb_control_spec.specs.Runs.Journal.{StepsTell}
use Rattle.exb_world_spec.specs.AllowedSteps.{Can, IsSettled}
use Rattle.exb_world_spec.specs.Settling.{run, followed_by}
use Rattle.exb_world_spec.specs.Steps.{Stepped}
use Rattle.exb_world_spec.specs.Worlds.{World, Step, Arrive, Order, Tick, Mark, left_at}
use Rattle.exb_world_spec.specs.Runs.PassedFrames.{passed_over}
use Rattle.exb_world_spec.specs.Runs.Sessions.{Each}
use Rattle.exb_world_spec.specs.Runs.FrameBytes.{StepsStayWritten}
use Rattle.exb_world_spec.proofs.Rounds.{run_then}
use Rattle.exb_world_spec.specs.Runs.ReachedWorlds.{HasVid, MayTakeAll, beginning}
use Rattle.exb_world_laws.specs.OneBridgeSteps.{told_of}
use Rattle.exb_net_spec.specs.declared.wires.End.{End}
use Rattle.exb_net_spec.specs.declared.wires.Wire.{Wire}
use Rattle.exb_net_spec.specs.Nets.{Net, IsEnd, IsNet, across, far_end, first_or, is_at, ends_of}
use Rattle.exb_net_spec.specs.NetHistory.{Crossing, Due, Histories, IsDrained, arrival_of, basis_in, comes, crosses, delivered, delivered_times, due_second, dues, event_of, grown_by, named_at, openings, ticked, with_history, GoesSince}
use Rattle.exb_net_laws.specs.NetRuns.{Dones, Between, Handles, Delivers, Empties, MayPass, IsStepFor, PlaysOne, PlaysSince, Plays, Opens, tree_in, limits_in, does, goes_on, crossed, coming_at, pass}
use Rattle.exb_net_laws.specs.Deliveries.{DeliversTimes}
use Rattle.exb_net_spec.specs.InputOrder.{AreHere, IsNext, AreInOrder, taken_by, taken_after}
use Rattle.exb_net_spec.proofs.InputOrder.{dues_are_here, dues_in_order}
use Rattle.exb_net_laws.specs.NetRunLaws.{IsShown, ArePlayed, NetsArePlayed, NetsArePlayedEagerly}
use Rattle.exb_net_laws.proofs.BridgeRuns.{Facts, arrived, bridge_is, leaves_is, left_is, next_command, number_is, opened, opened_told, ordered, passed_is, ticked_told, told_is}
use Rattle.exb_net_laws.proofs.BridgeRuns as bridge

-- ---- lists
pub each_join : {A : Type 0} (P : A → Type 0) (xs ys : List A) → Each P xs → Each P ys → Each P (xs ++ ys)
each_join P [] ys a b = b
each_join P (x ∷ xs) ys a b = (a.0, each_join P xs ys a.1 b)

pub each_flat : {A B : Type 0} (P : B → Type 0) (f : A → List B) → ((x : A) → Each P (f x)) → (xs : List A) → Each P (flat_map f xs)
each_flat P f all [] = tt
each_flat P f all (x ∷ xs) = each_join P (f x) (flat_map f xs) (all x) (each_flat P f all xs)

same_map : {B : Type 0} (p : ℕ → Bool) (f g : ℕ → List B) → ((q : ℕ) → p q ≡ true → f q ≡ g q) → (qs : List ℕ) → flat_map f (filter p qs) ≡ flat_map g (filter p qs)
same_map p f g all [] = refl
same_map p f g all (q ∷ qs) =
    elim (cases_Bool (p q)) [
      | inl e ↦ rw e (ap (λ (xs : List _). xs ++ flat_map f (filter p qs)) (all q e) ∙ ap (λ (xs : List _). g q ++ xs) (same_map p f g all qs))
      | inr e ↦ rw e (same_map p f g all qs)
    ]

same_at_external : {B : Type 0} (t : Shape) (f g : ℕ → List B) → ((q : ℕ) → is_external t q ≡ true → f q ≡ g q) → flat_map f (external_ports t) ≡ flat_map g (external_ports t)
unfolding external_ports
same_at_external t f g all = same_map (is_external t) f g all all_ports

-- ---- far ends are of the net
module _ (n : Net) where
  abbrev IsHere : End → Type 0
  IsHere e = e.bridge < n.count

  abbrev pub InRange : Crossing → Type 0
  InRange x = x.bridge < n.count

  some_same : {A : Type 0} {x y : A} → Some x ≡ Some y → x ≡ y
  some_same e = cc

  none_some : {A : Type 0} {x : A} → None ≡ Some x → ⊥
  none_some e = cc

  across_here : (x : Wire) (b q : ℕ) (e : End) → IsHere x.a → IsHere x.b → across x b q ≡ Some e → IsHere e
  across_here x b q e a z same = by_flags (is_at x.a b q) (is_at x.b b q) same
    where
      by_flags : (c d : Bool) → cond c (Some x.b) (cond d (Some x.a) None) ≡ Some e → IsHere e
      by_flags true d k = subst IsHere (some_same k) z
      by_flags false true k = subst IsHere (some_same k) a
      by_flags false false k = absurd (none_some k)

  far_here : (ws : List Wire) → All (IsEnd n) (ends_of ws) → (b q : ℕ) (e : End) → far_end ws b q ≡ Some e → IsHere e
  unfolding far_end
  far_here [] all b q e same = absurd (none_some same)
  far_here (x ∷ ws) all b q e same = by_first (across x b q) refl same (λ k. far_here ws tail b q e k)
    where
      tail : All (IsEnd n) (ends_of ws)
      tail k d h = all (suc (suc k)) d (omega (arith, h))

      by_first : (o : Option End) → across x b q ≡ o → first_or o (far_end ws b q) ≡ Some e → (far_end ws b q ≡ Some e → IsHere e) → IsHere e
      by_first (Some y) is k rest = across_here x b q e (all 0 x.a (omega arith)).bridge (all 1 x.a (omega arith)).bridge (is ∙ k)
      by_first None is k rest = rest k

  crosses_here : (o : Option End) (xs : List Sent) → ((e : End) → o ≡ Some e → IsHere e) → Each InRange (crosses o xs)
  crosses_here None xs all = tt
  crosses_here (Some e) [] all = tt
  crosses_here (Some e) (x ∷ xs) all = (all e refl, crosses_here (Some e) xs all)

  pub grown_here : IsNet n → (b : ℕ) (h : History) (e : Event) → Each InRange (grown_by n b h e)
  unfolding grown_by
  grown_here net b h e =
      each_flat InRange (λ q. crosses (far_end n.wires b q) (sent_by (bridge_after (basis_in n b) h) (learned (basis_in n b) h) e q))
      (λ q. crosses_here (far_end n.wires b q) (sent_by (bridge_after (basis_in n b) h) (learned (basis_in n b) h) e q) (λ z same. far_here n.wires net.ends b q z same)) (external_ports (tree_in n b))

-- ---- a bridge after what it did
pub record IsAt (n : Net) (taken b : ℕ) (d : Stepped) (h : History) : Type 0 where
  pub steps : List Step
  pub is : d ≡ run (tree_in n b) (limits_in n b) steps (beginning (n.input b).setup)
  pub told : h ≡ ([] then (run (tree_in n b) (limits_in n b) steps (beginning (n.input b).setup)).events)
  pub facts : Facts (n.input b).setup (basis_in n b) taken steps

abbrev pub AllAt : Net → (ℕ → ℕ) → Dones → Histories → Type 0
AllAt n taken s hs = (b : ℕ) → b < n.count → IsAt n (taken b) b (s b) (hs b)

module _ (round : TagRoundTrip) (words : SendsAreWords) (leave : SendsLeaveAsFlat) (law : StepsTell) (stay : StepsStayWritten) (n : Net) (net : IsNet n) (vids : (b : ℕ) → b < n.count → All HasVid (n.input b).setup.start) where
  -- ---- the opening
  pub opened_at : (b : ℕ) → b < n.count → (d : Stepped) → Opens n b d → IsAt n 0 b d (openings n b)
  opened_at b here d o =
      record {
        steps = o.moves ++ Mark ∷ [];
        is = o.is;
        told = sym (opened_told round words leave law stay (n.input b).setup (net.setups b here) (vids b here) (basis_in n b).commands o.moves o.may o.moves_alone o.settled);
        facts = opened round words leave law stay (n.input b).setup (net.setups b here) (vids b here) (basis_in n b).commands o.moves o.may o.moves_alone o.settled;
      }

  -- ---- one bridge is given something
  pub record IsHandled (taken : ℕ → ℕ) (b : ℕ) (e : History → Event) (s v : Between) (hs : Histories) : Type 0 where
    pub all : AllAt n taken v.dones (with_history b (event.Settled ∷ e (hs b) ∷ hs b) hs)
    pub queue : v.queue ≡ s.queue ++ grown_by n b (hs b) (e (hs b))

  module _ (taken : ℕ → ℕ) (b : ℕ) (here : b < n.count) (step : Step) (s v : Between) (hs : Histories) (k : IsAt n (taken b) b (s.dones b) (hs b)) (h : Handles n b step s v) where
    abbrev steps : List Step
    steps = k.steps

    abbrev w : World
    w = (run (tree_in n b) (limits_in n b) k.steps (beginning (n.input b).setup)).world

    abbrev H : History
    H = [] then (run (tree_in n b) (limits_in n b) k.steps (beginning (n.input b).setup)).events

    abbrev xs : List Step
    xs = step ∷ h.moves

    abbrev ys : List Step
    ys = (step ∷ h.moves) ++ Mark ∷ []

    may_here : MayTakeAll (tree_in n b) (limits_in n b) w xs
    may_here = subst (λ (z : Stepped). MayTakeAll (tree_in n b) (limits_in n b) z.world xs) k.is h.may

    settled_here : IsSettled (tree_in n b) (run (tree_in n b) (limits_in n b) xs w).world
    settled_here = subst (λ (z : Stepped). IsSettled (tree_in n b) (run (tree_in n b) (limits_in n b) xs z.world).world) k.is h.settled

    bridge_here : bridge_after (basis_in n b) H ≡ w.control.bridge
    bridge_here = bridge_is round words leave law stay (n.input b).setup (net.setups b here) (vids b here) (basis_in n b) (taken b) steps k.facts

    handled : (all : (c : ℕ) → c < n.count → IsAt n (taken c) c (s.dones c) (hs c)) (next : ℕ → ℕ) → ((c : ℕ) → c ≢ b → next c ≡ taken c) → (e : History → Event) → told_of (tree_in n b) (limits_in n b) w step ≡ e H →
        Facts (n.input b).setup (basis_in n b) (next b) (steps ++ ys) → IsHandled next b e s v hs
    unfolding grown_by
    handled all next others e same facts =
        record {
          all = λ c c_here. subst (λ (z : Dones). IsAt n (next c) c (z c) (with_history b new hs c)) (sym h.done) (by_bridge c c_here);
          queue = h.queue ∙ ap (λ (zs : List Crossing). s.queue ++ zs) grows;
        }
      where
        new : History
        new = event.Settled ∷ e (hs b) ∷ hs b

        new_told : event.Settled ∷ e (hs b) ∷ hs b ≡ ([] then (run (tree_in n b) (limits_in n b) (k.steps ++ ((step ∷ h.moves) ++ Mark ∷ [])) (beginning (n.input b).setup)).events)
        new_told =
            ap (λ (z : History). event.Settled ∷ e z ∷ z) k.told
            ∙ (ap (λ (x : Event). event.Settled ∷ x ∷ H) (sym same)
            ∙ sym (told_is round words leave law stay (n.input b).setup (net.setups b here) (vids b here) (basis_in n b) (taken b) steps k.facts step h.moves h.gives may_here h.moves_alone settled_here))

        mine : IsAt n (next b) b (followed_by (s.dones b) (does n b ((step ∷ h.moves) ++ Mark ∷ []) s.dones)) (event.Settled ∷ e (hs b) ∷ hs b)
        mine =
            record {
              steps = steps ++ ys;
              is = ap (λ (z : Stepped). followed_by z (run (tree_in n b) (limits_in n b) ys z.world)) k.is ∙ sym (run_then (tree_in n b) (limits_in n b) steps ys (beginning (n.input b).setup));
              told = new_told;
              facts = facts;
            }

        by_bridge : (c : ℕ) → c < n.count → IsAt n (next c) c (goes_on n b ((step ∷ h.moves) ++ Mark ∷ []) s.dones c) (with_history b (event.Settled ∷ e (hs b) ∷ hs b) hs c)
        by_bridge c c_here =
            elim (cases_eq c b) [
              | inl is ↦ rw (eq-eqb c b is)
                  (subst (λ (z : ℕ). IsAt n (next z) z (followed_by (s.dones b) (does n b ((step ∷ h.moves) ++ Mark ∷ []) s.dones)) (event.Settled ∷ e (hs b) ∷ hs b)) (sym is) mine)
              | inr other ↦ rw (ne_eqb c b other) (subst (λ (m : ℕ). IsAt n m c (s.dones c) (hs c)) (sym (others c other)) (all c c_here))
            ]

        grows : crossed n b (does n b (step ∷ h.moves) s.dones).left ≡ grown_by n b (hs b) (e (hs b))
        grows =
            ap (λ (z : Stepped). crossed n b (run (tree_in n b) (limits_in n b) xs z.world).left) k.is
            ∙ (same_at_external (tree_in n b) (λ q. crosses (far_end n.wires b q) (left_at q (run (tree_in n b) (limits_in n b) xs w).left))
            (λ q. crosses (far_end n.wires b q) (sent_by (bridge_after (basis_in n b) H) (learned (basis_in n b) H) (told_of (tree_in n b) (limits_in n b) w step) q))
            (λ q ext. ap (crosses (far_end n.wires b q)) (leaves_is round words leave law stay (n.input b).setup (net.setups b here) (vids b here) (basis_in n b) (taken b) steps k.facts step h.moves h.gives may_here h.moves_alone settled_here q ext))
            ∙ (ap (λ (x : Event). grown_by n b H x) same ∙ ap (λ (z : History). grown_by n b z (e z)) (sym k.told)))

  -- an arrival
  pub handled_arrival : (taken next : ℕ → ℕ) (b : ℕ) → b < n.count → next b ≡ taken b → ((c : ℕ) → c ≢ b → next c ≡ taken c) → (a : Arrival) (s v : Between) (hs : Histories) → AllAt n taken s.dones hs → Handles n b (Arrive a) s v →
      IsHandled next b (λ h. arrival_event (bridge_after (basis_in n b) h) a) s v hs
  handled_arrival taken next b here same others a s v hs all h =
      let k = all b here in
      handled taken b here (Arrive a) s v hs k h all next others (λ z. arrival_event (bridge_after (basis_in n b) z) a)
      (ap (λ (c : Bridge). arrival_event c a) (sym (bridge_here taken b here (Arrive a) s v hs k h)))
      (subst (λ (m : ℕ). Facts (n.input b).setup (basis_in n b) m (k.steps ++ ((Arrive a ∷ h.moves) ++ Mark ∷ []))) (sym same)
      (arrived round words leave law stay (n.input b).setup (net.setups b here) (vids b here) (basis_in n b) (taken b) k.steps k.facts a h.moves (may_here taken b here (Arrive a) s v hs k h) h.moves_alone (settled_here taken b here (Arrive a) s v hs k h)))

  -- a command
  handled_order : (taken next : ℕ → ℕ) (b : ℕ) → b < n.count → next b ≡ suc (taken b) → ((c : ℕ) → c ≢ b → next c ≡ taken c) → (moment j : ℕ) (c : Command) → j ≡ suc (taken b) → command_of (basis_in n b) j ≡ Some c →
      (s v : Between) (hs : Histories) → AllAt n taken s.dones hs → Handles n b (Order c) s v → IsHandled next b (λ h. event_of n b h (Ordered moment j)) s v hs
  handled_order taken next b here same others moment j c number found s v hs all h =
      let k = all b here in
      let full : Basis = basis_in n b in
      let there : command_of full (suc (taken b)) ≡ Some c = ap (command_of full) (sym number) ∙ found in
      let rest = next_command round words leave law stay (n.input b).setup (net.setups b here) (vids b here) full (taken b) k.steps k.facts c there in
      let counted : (run (tree_in n b) (limits_in n b) k.steps (beginning (n.input b).setup)).world.control.given + 1 ≡ j = number_is round words leave law stay (n.input b).setup (net.setups b here) (vids b here) full (taken b) k.steps k.facts ∙ sym number in
      let H : History = [] then (run (tree_in n b) (limits_in n b) k.steps (beginning (n.input b).setup)).events in
      let K : Bridge = (run (tree_in n b) (limits_in n b) k.steps (beginning (n.input b).setup)).world.control.bridge in
      handled taken b here (Order c) s v hs k h all next others (λ z. event_of n b z (Ordered moment j))
      (ap (λ (m : ℕ). decided m (refusal (tree_in n b) (limits_in n b) K c)) counted
      ∙ (ap (λ (z : Bridge). decided j (refusal (tree_in n b) (limits_in n b) z c)) (sym (bridge_here taken b here (Order c) s v hs k h))
      ∙ ap (λ (o : Option Command). decided j (refusal_of (tree_in n b) (limits_in n b) (bridge_after full H) o)) (sym found)))
      (subst (λ (m : ℕ). Facts (n.input b).setup full m (k.steps ++ ((Order c ∷ h.moves) ++ Mark ∷ []))) (sym same)
      (ordered round words leave law stay (n.input b).setup (net.setups b here) (vids b here) full (taken b) k.steps k.facts c h.moves rest.0 rest.1 (may_here taken b here (Order c) s v hs k h) h.moves_alone (settled_here taken b here (Order c) s v hs k h)))

  -- ---- the queue
  pub record IsDelivered (k : ℕ) (taken : ℕ → ℕ) (u v : Between) (hs : Histories) : Type 0 where
    pub next : Histories
    pub is : delivered_times n k (record { histories = hs; queue = u.queue }) ≡ record { histories = next; queue = v.queue }
    pub all : AllAt n taken v.dones next

  pub delivered_on : (k : ℕ) (taken : ℕ → ℕ) (u v : Between) (hs : Histories) → AllAt n taken u.dones hs → Each (InRange n) u.queue → DeliversTimes n k u v → IsDelivered k taken u v hs
  unfolding delivered_times
  delivered_on zero taken u v hs all range e =
      record {
        next = hs;
        is = ap (λ (z : Between). record { histories = hs; queue = z.queue }) e;
        all = subst (λ (z : Between). AllAt n taken z.dones hs) e all;
      }
  delivered_on (suc k) taken u v hs all range e =
      let m : Between = e.0 in
      let del : Delivers n u m = e.1 in
      let x : Crossing = del.first in
      let b : ℕ = x.bridge in
      let first : Each (InRange n) (x ∷ del.rest) = subst (Each (InRange n)) del.is range in
      let s : Between = record { dones = u.dones; queue = del.rest } in
      let at : IsAt n (taken b) b (u.dones b) (hs b) = all b first.0 in
      let a : Arrival = coming_at x (u.dones b).world in
      let z = handled_arrival taken taken b first.0 refl (λ c other. refl) a s m hs all del.handles in
      let index : (u.dones b).world.next x.port ≡ suc (named_at (hs b) x.port) =
      ap (λ (y : Stepped). y.world.next x.port) at.is ∙ (at.facts.named x.port ∙ ap (λ (h : History). suc (named_at h x.port)) (sym at.told)) in
      let same : a ≡ arrival_of x (hs b) = ap (λ (i : ℕ). record { port = x.port; index = i; moment = x.moment; bytes = x.bytes }) index in
      let ev : Event = arrival_event (bridge_after (basis_in n b) (hs b)) a in
      let hs1 : Histories = with_history b (event.Settled ∷ ev ∷ hs b) hs in
      let range1 : Each (InRange n) m.queue = subst (Each (InRange n)) (sym z.queue) (each_join (InRange n) del.rest (grown_by n b (hs b) ev) first.1 (grown_here n net b (hs b) ev)) in
      let rest = delivered_on k taken m v hs1 z.all range1 e.2 in
      let once : delivered n hs u.queue ≡ record { histories = hs1; queue = m.queue } =
      ap (delivered n hs) del.is
      ∙ (ap (λ (y : Arrival). record { histories = with_history b (event.Settled ∷ arrival_event (bridge_after (basis_in n b) (hs b)) y ∷ hs b) hs; queue = del.rest ++ grown_by n b (hs b) (arrival_event (bridge_after (basis_in n b) (hs b)) y) }) (sym same)
      ∙ ap (λ (q : List Crossing). record { histories = hs1; queue = q }) (sym z.queue)) in
      record { next = rest.next; is = ap (delivered_times n k) once ∙ rest.is; all = rest.all }

  record IsEmptied (k : ℕ) (taken : ℕ → ℕ) (u v : Between) (hs : Histories) : Type 0 where
    next : Histories
    is : delivered_times n k (record { histories = hs; queue = u.queue }) ≡ record { histories = next; queue = [] }
    all : AllAt n taken v.dones next

  emptied : (k : ℕ) (taken : ℕ → ℕ) (u v : Between) (hs : Histories) → AllAt n taken u.dones hs → Each (InRange n) u.queue → Empties n k u v → IsEmptied k taken u v hs
  emptied k taken u v hs all range e =
      let times = made k u v e in
      let z = delivered_on k taken u v hs all range times.0 in
      record { next = z.next; is = z.is ∙ ap (λ (q : List Crossing). record { histories = z.next; queue = q }) times.1; all = z.all }
    where
      made : (k : ℕ) (u v : Between) → Empties n k u v → DeliversTimes n k u v × (v.queue ≡ [])
      made zero u v e = e
      made (suc k) u v e = (let r = made k e.0 v e.2 in ((e.0, e.1, r.0), r.1))

  -- ---- seconds
  all_pass : (taken : ℕ → ℕ) (seconds : ℕ) (s : Dones) (hs : Histories) → AllAt n taken s hs → MayPass n seconds s → AllAt n taken (pass n seconds s) (ticked seconds hs)
  all_pass taken seconds s hs all may b here =
      elim (cases_Bool (seconds == 0)) [
        | inl e ↦ rw e (all b here)
        | inr e ↦ rw e (passes (all b here) (may e b here))
      ]
    where
      passes : IsAt n (taken b) b (s b) (hs b) → Can (tree_in n b) (s b).world (Tick seconds) → IsAt n (taken b) b (followed_by (s b) (does n b (Tick seconds ∷ []) s)) (event.Tick seconds ∷ hs b)
      passes k can =
          let t : Shape = tree_in n b in
          let there : Can t (run t (limits_in n b) k.steps (beginning (n.input b).setup)).world (Tick seconds) = subst (λ (z : Stepped). Can t z.world (Tick seconds)) k.is can in
          record {
            steps = k.steps ++ Tick seconds ∷ [];
            is = ap (λ (z : Stepped). followed_by z (run t (limits_in n b) (Tick seconds ∷ []) z.world)) k.is ∙ sym (run_then t (limits_in n b) k.steps (Tick seconds ∷ []) (beginning (n.input b).setup));
            told = ap (λ (z : History). event.Tick seconds ∷ z) k.told ∙ sym (ticked_told round words leave law stay (n.input b).setup (net.setups b here) (vids b here) (basis_in n b) (taken b) k.steps k.facts seconds);
            facts = bridge.ticked round words leave law stay (n.input b).setup (net.setups b here) (vids b here) (basis_in n b) (taken b) k.steps k.facts seconds there;
          }

  -- ---- events
  record IsPlayed (seconds : ℕ) (taken : ℕ → ℕ) (d : Due) (e : Dones) (hs : Histories) : Type 0 where
    next : Histories
    drained : IsDrained n (comes n d (ticked seconds hs)) next
    all : AllAt n (taken_after d taken) e next

  at_it : (d : Due) (taken : ℕ → ℕ) → taken_after d taken d.bridge ≡ taken_by d.coming (taken d.bridge)
  at_it d taken = rw (eq-eqb d.bridge d.bridge refl) refl

  at_others : (d : Due) (taken : ℕ → ℕ) (c : ℕ) → c ≢ d.bridge → taken_after d taken c ≡ taken c
  at_others d taken c other = rw (ne_eqb c d.bridge other) refl

  one_handled : (taken : ℕ → ℕ) (b : ℕ) (coming : Coming) → b < n.count → IsNext (taken b) coming → (step : Step) → IsStepFor n b coming step → (s v : Between) (hs : Histories) → AllAt n taken s.dones hs → Handles n b step s v →
      IsHandled (taken_after (record { bridge = b; coming = coming }) taken) b (λ h. event_of n b h coming) s v hs
  one_handled taken b (Captured a) here next step is s v hs all h =
      let d : Due = record { bridge = b; coming = Captured a } in
      handled_arrival taken (taken_after d taken) b here (at_it d taken) (at_others d taken) a s v hs all (subst (λ (x : Step). Handles n b x s v) is h)
  one_handled taken b (Ordered moment j) here next step is s v hs all h =
      let d : Due = record { bridge = b; coming = Ordered moment j } in
      handled_order taken (taken_after d taken) b here (at_it d taken) (at_others d taken) moment j is.0 next is.1 s v hs all (subst (λ (x : Step). Handles n b x s v) is.2 h)

  one_played : (seconds : ℕ) (taken : ℕ → ℕ) (d : Due) (s e : Dones) (hs : Histories) → d.bridge < n.count → IsNext (taken d.bridge) d.coming → AllAt n taken s hs → PlaysOne n seconds d s e → IsPlayed seconds taken d e hs
  one_played seconds taken d s e hs here next all p =
      let b : ℕ = d.bridge in
      let hs1 : Histories = ticked seconds hs in
      let u : Between = record { dones = pass n seconds s; queue = [] } in
      let z = one_handled taken b d.coming here next p.step p.is u p.given hs1 (all_pass taken seconds s hs all p.may) p.handles in
      let ev : Event = event_of n b (hs1 b) d.coming in
      let hs2 : Histories = with_history b (event.Settled ∷ ev ∷ hs1 b) hs1 in
      let q = emptied p.times (taken_after d taken) p.given p.end hs2 z.all (subst (Each (InRange n)) (sym z.queue) (grown_here n net b (hs1 b) ev)) p.empties in
      record {
        next = q.next;
        drained = record { times = p.times; is = ap (λ (c : List Crossing). delivered_times n p.times (record { histories = hs2; queue = c })) (sym z.queue) ∙ q.is };
        all = subst (λ (y : Dones). AllAt n (taken_after d taken) y q.next) (sym p.done) q.all;
      }

  record ArePlayedSince (second : ℕ) (ds : List Due) (e : Dones) (hs : Histories) : Type 0 where
    last : ℕ → ℕ
    histories : Histories
    goes : GoesSince n second ds hs histories
    all : AllAt n last e histories

  all_played : (second : ℕ) (taken : ℕ → ℕ) (ds : List Due) (s e : Dones) (hs : Histories) → AreHere n ds → AreInOrder taken ds → AllAt n taken s hs → PlaysSince n second ds s e → ArePlayedSince second ds e hs
  all_played second taken [] s e hs here order all p = record { last = taken; histories = hs; goes = refl; all = subst (λ (z : Dones). AllAt n taken z hs) p all }
  all_played second taken (d ∷ ds) s e hs here order all p =
      let one = one_played (due_second d - second) taken d s p.0 hs here.0 order.0 all p.1 in
      let rest = all_played (due_second d) (taken_after d taken) ds p.0 e one.next here.1 order.1 one.all p.2 in
      record { last = rest.last; histories = rest.histories; goes = (one.next, one.drained, rest.goes); all = rest.all }

  shown_at : (taken : ℕ → ℕ) (e : Dones) (hs : Histories) → AllAt n taken e hs → (b : ℕ) → b < n.count → IsShown n hs e b
  shown_at taken e hs all b here =
      let k = all b here in
      let s : Setup = (n.input b).setup in
      record {
        told = k.told ∙ ap (λ (z : Stepped). [] then z.events) (sym k.is);
        left = λ q ext.
            ap (λ (z : Stepped). left_at q z.left) k.is
            ∙ (left_is round words leave law stay s (net.setups b here) (vids b here) (basis_in n b) (taken b) k.steps k.facts q ext ∙ ap (λ (h : History). flat (basis_in n b) h q) (sym k.told));
        passed = subst (λ (z : Stepped). z.passed ≡ passed_over (basis_in n b) [] z.events) (sym k.is) (passed_is round words leave law stay s (net.setups b here) (vids b here) (basis_in n b) (taken b) k.steps k.facts);
      }

pub nets_are_played : TagRoundTrip → SendsAreWords → SendsLeaveAsFlat → StepsTell → StepsStayWritten → NetsArePlayed
nets_are_played round words leave law stay n ds s e net vids here order opens plays = by_list ds here order plays
  where
    begun : AllAt n (λ b. 0) s (openings n)
    begun b b_here = opened_at round words leave law stay n net vids b b_here (s b) (opens b b_here)

    by_list : (ds : List Due) → AreHere n ds → AreInOrder (λ b. 0) ds → Plays n ds s e → ArePlayed n ds e
    by_list [] here order p = record { histories = openings n; goes = refl; shown = shown_at round words leave law stay n net vids (λ b. 0) e (openings n) (subst (λ (z : Dones). AllAt n (λ b. 0) z (openings n)) p begun) }
    by_list (d ∷ ds) here order p =
        let r = all_played round words leave law stay n net vids (due_second d) (λ b. 0) (d ∷ ds) s e (openings n) here order begun p in
        record { histories = r.histories; goes = r.goes; shown = shown_at round words leave law stay n net vids r.last e r.histories r.all }

-- ---- all that comes
pub nets_are_played_eagerly : TagRoundTrip → SendsAreWords → SendsLeaveAsFlat → StepsTell → StepsStayWritten → NetsArePlayedEagerly
nets_are_played_eagerly round words leave law stay n s e net vids timely opens plays =
    let r = nets_are_played round words leave law stay n (dues n) s e net vids (dues_are_here n) (dues_in_order n timely) opens plays in
    record { histories = r.histories; eager = record { goes = r.goes }; shown = r.shown }
