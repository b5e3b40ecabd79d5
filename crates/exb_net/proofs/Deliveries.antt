-- A frame arrives, and then each that crosses a wire for it.
use Rattle.std.proofs.Common.{◌≡◌, ◌≢◌, ℕ, zero, suc, ◌+◌, ◌<◌, ◌≤◌, ◌==◌, true, cond, List, [], ◌∷◌, length, map, set, refl, ap, sym, ◌∙◌, subst, arith, inl, inr}
use Rattle.std.specs.Prelude.{Some, slice_get}
use Rattle.std.proofs.lemmas.Bool.{cases_eq, eq-eqb, ne_eqb, true≢false}
use Rattle.exb_model.specs.declared.arrival.Arrival.{Arrival}
use Rattle.exb_model.specs.Tree.{Shape, external_ports, is_external}
use Rattle.exb_world_spec.specs.AllowedSteps.{Can}
use Rattle.exb_world_spec.specs.Worlds.{World, Arrive}
use Rattle.exb_world_spec.specs.Runs.Sessions.{Each}
use Rattle.exb_world.specs.WorldContracts.{Network, tree_of, world_of}
use Rattle.exb_net_spec.specs.Nets.{Net, is_wired}
use Rattle.exb_net_laws.specs.NetRuns.{Between, Delivers, Dones, Empties, Handles, coming_at, tree_in}
use Rattle.exb_net_laws.specs.Deliveries.{BridgesHandle, DeliveriesEndSoon, DeliversTimes, IsHandledOn, IsSoon, MayCome}
use Rattle.exb_net.specs.declared.crossing.Crossing.{Crossing as Queued}
use Rattle.exb_net.specs.declared.wired_ports.WiredPort.{WiredPort}
use Rattle.exb_net.specs.declared.node.Node.{Node}
use Rattle.exb_net.specs.Crossings.{all_crossing, crossing_of}
use Rattle.exb_net.specs.WiredPorts.{ends_over, next_in, with_next}
use Rattle.exb_net.specs.NodeViews.{IsAt}
use Rattle.exb_net.specs.Nodes.{HasEntered, come_as}
use Rattle.exb_net.specs.Deliveries.{Begins, HasDelivered, HasPlayed, IsComing, IsTurn, Turn}
use Rattle.exb_net.proofs.BridgeSteps.{at_after, given, handled, holds_on, sent_here, there}
use Rattle.exb_net.proofs.WiredPorts.{all_same, all_set, external_among, next_found}

-- ---- deliveries
module _ (n : Net) where
  one_further : (k : ℕ) (s u e : Between) → DeliversTimes n k s u → Delivers n u e → DeliversTimes n (suc k) s e
  one_further zero s u e d x = (e, subst (λ (z : Between). Delivers n z e) (sym d) x, refl)
  one_further (suc k) s u e d x = (d.0, d.1, one_further k d.0 u e d.2 x)

  emptied : (k : ℕ) (s e : Between) → DeliversTimes n k s e → e.queue ≡ [] → Empties n k s e
  emptied zero s e d q = (d, q)
  emptied (suc k) s e d q = (d.0, d.1, emptied k d.0 e d.2 q)

none_waits : (xs : List Queued) → all_crossing xs ≡ [] → xs ≡ []
none_waits [] e = refl
none_waits (x ∷ xs) e = absurd (let z : crossing_of x ∷ all_crossing xs ≡ [] = e in cc)

-- ---- where a frame may come
pub coming_here : {V : Type 0} {X : V → Type 0} (n : Net) (b : ℕ) (a : Arrival) (s told : Dones) (nodes : List (Node V X)) (before : List Queued) → IsComing n b a s told nodes before → b < length nodes
coming_here n b a s told nodes before c = subst (λ (z : ℕ). b < z) (sym c.holds.count) c.here

pub coming_can : {V : Type 0} {X : V → Type 0} (n : Net) (b : ℕ) (a : Arrival) (s told : Dones) (nodes : List (Node V X)) (before : List Queued) (x : Node V X) → IsComing n b a s told nodes before → slice_get nodes b ≡ Some x →
    Can (tree_of x.world) (world_of x.world) (Arrive a)
coming_can n b a s told nodes before x c is = there n b (s b) (told b) x.world x.ends.items (c.holds.at b x is) (λ t l w. Can t w (Arrive a)) c.can

module _ (law : BridgesHandle) where
  -- ---- the first arrival
  pub begins_so : {V : Type 0} {X : V → Type 0} (n : Net) (b : ℕ) (a : Arrival) (s told : Dones) (nodes : List (Node V X)) (x y : Node V X) (before after : List Queued) → IsComing n b a s told nodes before → slice_get nodes b ≡ Some x →
      HasEntered a x.ends.items x.world y.world before after → y.ends.items ≡ x.ends.items → Begins n b a s told (set nodes b y) after
  begins_so n b a s told nodes x y before after c is entered same =
      let old : Network = x.world in
      let new : Network = y.world in
      let ports : List ℕ = external_ports (tree_in n b) in
      let at : IsAt n b (s b) (told b) old x.ends.items = c.holds.at b x is in
      let p = entered.played in
      let e : Between = given n b s (told b) old new x.ends.items at (Arrive a) [] p in
      let h : Handles n b (Arrive a) (record { dones = s; queue = [] }) e = handled n b s (told b) old new x.ends.items at (Arrive a) [] p tt in
      let on : IsHandledOn n b (Arrive a) (record { dones = s; queue = [] }) e = law n b (Arrive a) (record { dones = s; queue = [] }) e c.net c.vids c.run c.here h in
      let next : (q : ℕ) → is_wired n.wires b q ≡ true → (e.dones b).world.next q ≡ (s b).world.next q = λ q wired.
      (let ne : a.port ≢ q = λ z. true≢false (sym wired ∙ (ap (is_wired n.wires b) (sym z) ∙ c.free)) in on.next q ∙ rw (ne_eqb a.port q ne) refl) in
      let wired_now : y.ends.items ≡ ends_over n.wires b (e.dones b).world.next ports = same ∙ (at.ends ∙ all_same n.wires b (s b).world.next (e.dones b).world.next next ports) in
      record {
        given = e;
        turn = record { net = c.net; vids = c.vids; run = c.run; here = c.here; handles = h; low = c.low };
        delivered = record {
          now = e;
          delivered = refl;
          run = on.run;
          may = on.queue tt;
          holds = holds_on n b s told e.dones nodes y c.holds on.others (at_after n b s (told b) old new x.ends.items at (Arrive a) [] p y.ends.items wired_now);
          queue = sent_here n b s (told b) old new x.ends.items at (Arrive a) [] p before after entered.sent (ap all_crossing c.none);
        };
      }

  -- ---- a delivery
  module _ (soon : DeliveriesEndSoon) {V : Type 0} {X : V → Type 0} (m : Turn) (k : ℕ) (nodes : List (Node V X)) (crossing : Queued) (before : List Queued) (turn : IsTurn m) (d : HasDelivered m k nodes (crossing ∷ before)) where
    all_may : Each (MayCome m.net) (all_crossing (crossing ∷ before))
    all_may = subst (Each (MayCome m.net)) d.queue d.may

    pub is_here : crossing.to.bridge < length nodes
    is_here = subst (λ (z : ℕ). crossing.to.bridge < z) (sym d.holds.count) all_may.0.here

    module _ (x : Node V X) (is : slice_get nodes crossing.to.bridge ≡ Some x) (low : crossing.to.port < 4160) where
      at : IsAt m.net crossing.to.bridge (d.now.dones crossing.to.bridge) (m.told crossing.to.bridge) x.world x.ends.items
      at = d.holds.at crossing.to.bridge x is

      index : next_in x.ends.items crossing.to.port ≡ (d.now.dones crossing.to.bridge).world.next crossing.to.port
      index =
          ap (λ (zs : List WiredPort). next_in zs crossing.to.port) at.ends
          ∙ next_found m.net.wires crossing.to.bridge (d.now.dones crossing.to.bridge).world.next crossing.to.port all_may.0.wired (external_ports (tree_in m.net crossing.to.bridge))
          (external_among (tree_in m.net crossing.to.bridge) crossing.to.port all_may.0.external low)

      comes : come_as x.ends.items crossing ≡ coming_at (crossing_of crossing) (d.now.dones crossing.to.bridge).world
      comes = ap (λ (i : ℕ). record { port = crossing.to.port; index = i; moment = crossing.moment; bytes = crossing.bytes }) index

      pub may_come : k < length m.net.wires → Can (tree_of x.world) (world_of x.world) (Arrive (come_as x.ends.items crossing))
      may_come room =
          let is_soon : IsSoon m.net k m.dones d.now = soon m.net m.bridge k m.arrival m.dones m.given d.now turn.net turn.vids turn.run turn.here turn.handles d.delivered (omega (arith, room)) in
          let few = is_soon.few crossing.to.bridge crossing.to.port all_may.0.here in
          let first = turn.low crossing.to.bridge crossing.to.port all_may.0.here all_may.0.wired in
          let short = all_may.0.short in
          record {
            external = ap (λ (t : Shape). is_external t crossing.to.port) at.tree ∙ all_may.0.external;
            next = index ∙ ap (λ (z : World). z.next crossing.to.port) (sym at.world);
            few = (let i = index in omega (arith, few, first, i));
            short = omega (arith, short);
          }

      pub delivered_so : (y : Node V X) (after : List Queued) → HasEntered (come_as x.ends.items crossing) x.ends.items x.world y.world before after →
          y.ends.items ≡ map (with_next crossing.to.port (next_in x.ends.items crossing.to.port + 1)) x.ends.items → HasDelivered m (k + 1) (set nodes crossing.to.bridge y) after
      delivered_so y after entered more =
          let s : Dones = d.now.dones in
          let told = m.told crossing.to.bridge in
          let old : Network = x.world in
          let new : Network = y.world in
          let ports : List ℕ = external_ports (tree_in m.net crossing.to.bridge) in
          let a : Arrival = coming_at (crossing_of crossing) (s crossing.to.bridge).world in
          let here : HasEntered a x.ends.items old new before after = subst (λ (z : Arrival). HasEntered z x.ends.items old new before after) comes entered in
          let p = here.played in
          let e : Between = given m.net crossing.to.bridge s told old new x.ends.items at (Arrive a) (all_crossing before) p in
          let h : Handles m.net crossing.to.bridge (Arrive a) (record { dones = s; queue = all_crossing before }) e = handled m.net crossing.to.bridge s told old new x.ends.items at (Arrive a) (all_crossing before) p tt in
          let on : IsHandledOn m.net crossing.to.bridge (Arrive a) (record { dones = s; queue = all_crossing before }) e =
          law m.net crossing.to.bridge (Arrive a) (record { dones = s; queue = all_crossing before }) e turn.net turn.vids d.run all_may.0.here h in
          let wired_now : y.ends.items ≡ ends_over m.net.wires crossing.to.bridge (e.dones crossing.to.bridge).world.next ports =
          more
          ∙ (ap (map (with_next crossing.to.port (next_in x.ends.items crossing.to.port + 1))) at.ends
          ∙ all_set m.net.wires crossing.to.bridge (s crossing.to.bridge).world.next (e.dones crossing.to.bridge).world.next crossing.to.port (next_in x.ends.items crossing.to.port + 1)
          (λ (r : ℕ). on.next r ∙ by_port (s crossing.to.bridge).world.next crossing.to.port r (next_in x.ends.items crossing.to.port) index) ports) in
          record {
            now = e;
            delivered = subst (λ (j : ℕ). DeliversTimes m.net j m.given e) (one_more k)
                (one_further m.net k m.given d.now e d.delivered (record { first = crossing_of crossing; rest = all_crossing before; is = d.queue; handles = h }));
            run = on.run;
            may = on.queue all_may.1;
            holds = holds_on m.net crossing.to.bridge s m.told e.dones nodes y d.holds on.others (at_after m.net crossing.to.bridge s told old new x.ends.items at (Arrive a) (all_crossing before) p y.ends.items wired_now);
            queue = sent_here m.net crossing.to.bridge s told old new x.ends.items at (Arrive a) (all_crossing before) p before after here.sent refl;
          }
        where
          one_more : (j : ℕ) → suc j ≡ j + 1
          one_more j = omega arith

          by_port : (next : ℕ → ℕ) (p r i : ℕ) → i ≡ next p → cond (p == r) (suc (next r)) (next r) ≡ cond (r == p) (i + 1) (next r)
          by_port next p r i e = elim (cases_eq p r) [
            | inl same ↦ rw (eq-eqb p r same, eq-eqb r p (sym same)) (ap suc (ap next (sym same) ∙ sym e) ∙ one_more i)
            | inr ne ↦ rw (ne_eqb p r ne, ne_eqb r p (λ z. ne (sym z))) refl
          ]

-- ---- the end
module _ (soon : DeliveriesEndSoon) {V : Type 0} {X : V → Type 0} (m : Turn) (k : ℕ) (nodes : List (Node V X)) (waiting : List Queued) (turn : IsTurn m) (d : HasDelivered m k nodes waiting) (within : k ≤ length m.net.wires) where
  is_soon : IsSoon m.net k m.dones d.now
  is_soon = soon m.net m.bridge k m.arrival m.dones m.given d.now turn.net turn.vids turn.run turn.here turn.handles d.delivered within

  pub none_left : k ≡ length m.net.wires → waiting ≡ []
  none_left e = none_waits waiting (sym d.queue ∙ is_soon.empty e)

  pub played_so : waiting ≡ [] → HasPlayed m.net m.bridge m.arrival m.dones m.told nodes waiting
  played_so none =
      record {
        given = m.given;
        end = d.now;
        times = k;
        handles = turn.handles;
        empties = emptied m.net k m.given d.now d.delivered (d.queue ∙ ap all_crossing none);
        run = d.run;
        few = is_soon.few;
        holds = d.holds;
        none = none;
      }
