-- A whole net: it is opened, seconds pass, a frame comes or a command is given, and what was told is forgotten.
use Rattle.std.proofs.Common.{◌≡◌, ℕ, ◌+◌, ◌<◌, ◌^◌, ◌==◌, ◌++◌, false, List, [], ◌∷◌, length, set, refl, ap, sym, ◌∙◌, subst, arith, inl, inr}
use Rattle.std.specs.Prelude.{All, Some, slice_get}
use Rattle.std.proofs.lemmas.Bool.{cases_eq, true≢false}
use Rattle.std.proofs.lemmas.List.{append-nil}
use Rattle.std.proofs.lemmas.Option.{same_Some, slice_get_within}
use Rattle.exb_model.specs.declared.command.Command.{Command}
use Rattle.exb_model.specs.declared.arrival.Arrival.{Arrival}
use Rattle.exb_model.specs.Tree.{external_ports}
use Rattle.exb_world_spec.specs.AllowedSteps.{Can, IsSettled}
use Rattle.exb_world_spec.specs.Settling.{run, followed_by}
use Rattle.exb_world_spec.specs.Steps.{Stepped}
use Rattle.exb_world_spec.specs.Worlds.{Step, Arrive, Order, Tick, Mark}
use Rattle.exb_world.specs.WorldContracts.{Network, bounds_of, tree_of, world_of}
use Rattle.exb_bridge.specs.TreeIndexes.{Site}
use Rattle.exb_bridge.specs.TreeIndexes.{limits_in as limits_at}
use Rattle.exb_bridge.specs.BridgeWorlds.{all_left}
use Rattle.exb_world_spec.specs.Runs.ReachedWorlds.{MayTakeAll}
use Rattle.exb_schedule.specs.StepSequences.{IsMoved}
use Rattle.exb_net_spec.specs.Nets.{Net, is_wired}
use Rattle.exb_net_laws.specs.NetRuns.{Between, Dones, Handles, MayPass, does, limits_in, pass, tree_in}
use Rattle.exb_net_laws.specs.NetRuns.{Opens as OpensAt}
use Rattle.exb_net_laws.specs.Deliveries.{BridgesHandle, HaveBegun, HavePassed, IsHandledOn, OpenedNetsRun, SecondsPass}
use Rattle.exb_net.specs.declared.net.Net.{Net as Bridges}
use Rattle.exb_net.specs.declared.node.Node.{Node}
use Rattle.exb_net.specs.WiredPorts.{ends_over}
use Rattle.exb_net.specs.NodeViews.{Holds, IsAt}
use Rattle.exb_net.specs.PairedLists.{AreEach}
use Rattle.exb_net.specs.NetStates.{Handled, IsBegun, IsPlaying, Opens, Passes, no_dones}
use Rattle.exb_net.specs.Nodes.{HasDone, HasForgotten, HasPassed}
use Rattle.exb_net.specs.Deliveries.{HasPlayed, IsComing}
use Rattle.exb_net.proofs.BridgeSteps.{at_after, by_step, given, gone_on, handled, here, holds_on, may_front, run_here}
use Rattle.exb_net.proofs.ListPlaces.{choose, is_there, of_all}
use Rattle.exb_net.proofs.WiredPorts.{all_same}

-- beside its bridges the net is as before
pub record IsKept {V : Type 0} {X : V → Type 0} (x y : Bridges V X) : Type 0 where
  pub queue : y.queue.items ≡ x.queue.items
  pub wires : y.wires ≡ x.wires
  pub came : y.came ≡ x.came

-- ---- the opening
-- what a bridge did in it
record IsOpened {V : Type 0} {X : V → Type 0} (n : Net) (xs ys : List (Node V X)) (b : ℕ) (d : Stepped) : Type 0 where
  opens : OpensAt n b d
  moved : (x y : Node V X) → slice_get xs b ≡ Some x → slice_get ys b ≡ Some y → IsMoved d x.world y.world

module _ {V : Type 0} {X : V → Type 0} (n : Net) (x y : Bridges V X) (begun : IsBegun n x)
    (all : AreEach (λ b u v. HasDone [] u.world v.world u.ends.items v.ends.items) x.nodes.items y.nodes.items) where
  opened_one : (b : ℕ) → b < n.count → (d : Stepped) × IsOpened n x.nodes.items y.nodes.items b d
  opened_one b low =
      let same = begun.holds.count in
      let longer = all.long in
      let u = is_there x.nodes.items b (omega (arith, low, same)) in
      let v = is_there y.nodes.items b (omega (arith, low, same, longer)) in
      let at : IsAt n b (no_dones n b) (no_dones n b) u.0.world u.0.ends.items = begun.holds.at b u.0 u.1 in
      let p = (all.each b u.0 v.0 u.1 v.1).played in
      let whole : List Step = p.moves ++ Mark ∷ [] in (
        run (tree_in n b) (limits_in n b) whole (no_dones n b).world,
        record {
          opens = record {
            moves = p.moves;
            may = may_front (tree_in n b) (limits_in n b) p.moves (Mark ∷ []) (no_dones n b).world
                (here n b (no_dones n b) (no_dones n b) u.0.world u.0.ends.items at (λ t l w. MayTakeAll t l w (p.moves ++ Mark ∷ [])) p.made.may);
            moves_alone = p.only;
            settled = here n b (no_dones n b) (no_dones n b) u.0.world u.0.ends.items at (λ t l w. IsSettled t (run t l p.moves w).world) p.settled;
            is = refl;
          };
          moved = λ r s r_is s_is.
              subst (λ (z : Node V X). IsMoved (run (tree_in n b) (limits_in n b) whole (no_dones n b).world) z.world s.world) (same_Some u.0 r (sym u.1 ∙ r_is))
              (subst (λ (z : Node V X). IsMoved (run (tree_in n b) (limits_in n b) whole (no_dones n b).world) u.0.world z.world) (same_Some v.0 s (sym v.1 ∙ s_is))
              (subst (λ (z : Stepped). IsMoved z u.0.world v.0.world) (run_here n b (no_dones n b) (no_dones n b) u.0.world u.0.ends.items at whole) p.made.moved));
        },
      )

  pub opened_so : OpenedNetsRun → IsKept x y → Opens n y
  opened_so law kept =
      let chosen = choose (IsOpened n x.nodes.items y.nodes.items) (no_dones n 0) n.count opened_one in
      let s : Dones = chosen.0 in
      let one = chosen.1 in
      let opens = λ (b : ℕ) (low : b < n.count). (one b low).opens in
      let first : HaveBegun n s = law n s begun.net begun.vids opens in
      record {
        dones = s;
        opened = opens;
        playing = record {
          net = begun.net;
          vids = begun.vids;
          holds = record {
            count = all.long ∙ begun.holds.count;
            at = λ b v v_is.
                (let low_y = slice_get_within y.nodes.items b v v_is in
                let same = begun.holds.count in
                let longer = all.long in
                let low : b < n.count = omega (arith, low_y, same, longer) in
                let u = is_there x.nodes.items b (omega (arith, low, same)) in
                let at : IsAt n b (no_dones n b) (no_dones n b) u.0.world u.0.ends.items = begun.holds.at b u.0 u.1 in
                let ends : v.ends.items ≡ ends_over n.wires b (no_dones n b).world.next (external_ports (tree_in n b)) = (all.each b u.0 v u.1 v_is).ends ∙ at.ends in
                gone_on n b (no_dones n b) (no_dones n b) u.0.world u.0.ends.items at (s b) v.world v.ends.items ((one b low).moved u.0 v u.1 v_is)
                (ends ∙ same_next b (no_dones n b).world.next (s b).world.next (λ q. sym (first.next b q low))));
          };
          run = first.run;
          few = λ c p low wired. (let e = first.next c p low in omega (arith, e));
          queue = kept.queue ∙ begun.queue;
          wires = kept.wires ∙ begun.wires;
        };
      }
    where
      same_next : (b : ℕ) (f g : ℕ → ℕ) → ((q : ℕ) → f q ≡ g q) → ends_over n.wires b f (external_ports (tree_in n b)) ≡ ends_over n.wires b g (external_ports (tree_in n b))
      same_next b f g e = all_same n.wires b f g (λ q wired. sym (e q)) (external_ports (tree_in n b))

-- ---- while it plays
module _ {V : Type 0} {X : V → Type 0} (n : Net) (s told : Dones) (x : Bridges V X) (k : IsPlaying n s told x) where
  -- no seconds
  pub none_passed : (seconds : ℕ) → seconds ≡ 0 → Passes n seconds s told x
  none_passed seconds none =
      subst (λ (z : ℕ). Passes n z s told x) (sym none)
      (record {
        may = λ e. absurd (true≢false e);
        playing = record { net = k.net; vids = k.vids; holds = record { count = k.holds.count; at = k.holds.at }; run = k.run; few = k.few; queue = k.queue; wires = k.wires };
      })

  -- seconds may pass at each bridge
  may_pass : (seconds : ℕ) → All (λ u. Can (tree_of u.world) (world_of u.world) (Tick seconds)) x.nodes.items → MayPass n seconds s
  may_pass seconds can some b low =
      let same = k.holds.count in
      let u = is_there x.nodes.items b (omega (arith, low, same)) in
      here n b (s b) (told b) u.0.world u.0.ends.items (k.holds.at b u.0 u.1) (λ t l w. Can t w (Tick seconds))
      (of_all (λ (z : Node V X). Can (tree_of z.world) (world_of z.world) (Tick seconds)) x.nodes.items b u.0 can u.1)

  pub passed_so : SecondsPass → (y : Bridges V X) → IsKept x y → (seconds : ℕ) → (seconds == 0) ≡ false → All (λ u. Can (tree_of u.world) (world_of u.world) (Tick seconds)) x.nodes.items →
      AreEach (λ b u v. HasPassed seconds u.world v.world u.ends.items v.ends.items) x.nodes.items y.nodes.items → Passes n seconds s told y
  passed_so law y kept seconds some can all =
      let may : MayPass n seconds s = may_pass seconds can in
      let passed : HavePassed n s (pass n seconds s) = law n seconds s k.net k.vids k.run may in
      record {
        may = may;
        playing = record {
          net = k.net;
          vids = k.vids;
          holds = record {
            count = all.long ∙ k.holds.count;
            at = λ b v v_is.
                (let low = slice_get_within y.nodes.items b v v_is in
                let longer = all.long in
                let u = is_there x.nodes.items b (omega (arith, low, longer)) in
                passed_at passed b u.0 v (k.holds.at b u.0 u.1) (all.each b u.0 v u.1 v_is)
                (let same = k.holds.count in omega (arith, low, longer, same)));
          };
          run = passed.run;
          few = λ c p low wired. (let e = passed.next c p low in let before = k.few c p low wired in let same = kept.came in omega (arith, e, before, same));
          queue = kept.queue ∙ k.queue;
          wires = kept.wires ∙ k.wires;
        };
      }
    where
      is_pass : (b : ℕ) → pass n seconds s b ≡ followed_by (s b) (does n b (Tick seconds ∷ []) s)
      is_pass b = rw some refl

      passed_at : HavePassed n s (pass n seconds s) → (b : ℕ) (u v : Node V X) → IsAt n b (s b) (told b) u.world u.ends.items → HasPassed seconds u.world v.world u.ends.items v.ends.items → b < n.count →
          IsAt n b (pass n seconds s b) (told b) v.world v.ends.items
      passed_at passed b u v at h low =
          let old : Network = u.world in
          let d : Stepped = run (tree_of old) (bounds_of old) (Tick seconds ∷ []) (world_of old) in
          let whole : pass n seconds s b ≡ followed_by (s b) d = is_pass b ∙ ap (λ (z : Stepped). followed_by (s b) z) (sym (run_here n b (s b) (told b) old u.ends.items at (Tick seconds ∷ []))) in
          let next : (q : ℕ) → d.world.next q ≡ (s b).world.next q = λ q. ap (λ (z : Stepped). z.world.next q) (sym whole) ∙ passed.next b q low in
          subst (λ (z : Stepped). IsAt n b z (told b) v.world v.ends.items) (sym whole)
          (gone_on n b (s b) (told b) old u.ends.items at d v.world v.ends.items (by_step (Tick seconds) old v.world h.stepped)
          (h.ends ∙ (at.ends ∙ all_same n.wires b (s b).world.next d.world.next (λ q wired. next q) (external_ports (tree_in n b)))))

  -- what was told is forgotten
  pub cleared_so : (y : Bridges V X) → IsKept x y → AreEach (λ b u v. HasForgotten u.world v.world u.ends.items v.ends.items) x.nodes.items y.nodes.items → IsPlaying n s s y
  cleared_so y kept all =
      record {
        net = k.net;
        vids = k.vids;
        holds = record {
          count = all.long ∙ k.holds.count;
          at = λ b v v_is.
              (let low = slice_get_within y.nodes.items b v v_is in
              let longer = all.long in
              let u = is_there x.nodes.items b (omega (arith, low, longer)) in
              forgotten_at b u.0 v (k.holds.at b u.0 u.1) (all.each b u.0 v u.1 v_is));
        };
        run = k.run;
        few = λ c p low wired. (let before = k.few c p low wired in let same = kept.came in omega (arith, before, same));
        queue = kept.queue ∙ k.queue;
        wires = kept.wires ∙ k.wires;
      }
    where
      ends_with : {A : Type 0} (xs ys : List A) → ys ≡ [] → xs ≡ xs ++ ys
      ends_with xs ys e = sym (append-nil xs) ∙ ap (λ (zs : List _). xs ++ zs) (sym e)

      forgotten_at : (b : ℕ) (u v : Node V X) → IsAt n b (s b) (told b) u.world u.ends.items → HasForgotten u.world v.world u.ends.items v.ends.items → IsAt n b (s b) (s b) v.world v.ends.items
      forgotten_at b u v at h =
          let now : Network = v.world in
          record {
            tree = ap (λ (z : Site). z.tree) h.same.site ∙ at.tree;
            limits = ap limits_at h.same.site ∙ at.limits;
            world = h.world ∙ at.world;
            events = ends_with (s b).events now.log.events h.quiet.events;
            passed = ends_with (s b).passed now.log.passed h.quiet.passed;
            left = ends_with (s b).left (all_left now.log.left) (ap all_left h.quiet.left);
            ends = h.ends ∙ at.ends;
            awake = h.same.failed ∙ at.awake;
          }

  -- ---- an arrival
  pub is_coming : (b : ℕ) (a : Arrival) → x.came < 2 ^ 62 → b < length x.nodes.items → is_wired n.wires b a.port ≡ false →
      ((u : Node V X) → slice_get x.nodes.items b ≡ Some u → Can (tree_of u.world) (world_of u.world) (Arrive a)) → IsComing n b a s told x.nodes.items x.queue.items
  is_coming b a room low free can =
      let u = is_there x.nodes.items b low in
      record {
        net = k.net;
        vids = k.vids;
        run = k.run;
        here = subst (λ (z : ℕ). b < z) k.holds.count low;
        can = here n b (s b) (told b) u.0.world u.0.ends.items (k.holds.at b u.0 u.1) (λ t l w. Can t w (Arrive a)) (can u.0 u.1);
        free = free;
        low = λ c p here wired. (let before = k.few c p here wired in omega (arith, before, room));
        holds = k.holds;
        none = k.queue;
      }

  pub arrived_so : (b : ℕ) (a : Arrival) (y : Bridges V X) → y.came ≡ x.came + 1 → y.wires ≡ x.wires → HasPlayed n b a s told y.nodes.items y.queue.items → Handled n b (Arrive a) s told y
  arrived_so b a y came wires p =
      record {
        given = p.given;
        end = p.end;
        times = p.times;
        handles = p.handles;
        empties = p.empties;
        playing = record {
          net = k.net;
          vids = k.vids;
          holds = p.holds;
          run = p.run;
          few = λ c q low wired. (let before = k.few c q low wired in let more = p.few c q low in omega (arith, before, more, came));
          queue = p.none;
          wires = wires ∙ k.wires;
        };
      }

  -- ---- a command
  pub ordered_so : BridgesHandle → (b : ℕ) (c : Command) (u v : Node V X) (y : Bridges V X) → b < length x.nodes.items → slice_get x.nodes.items b ≡ Some u → HasDone (Order c ∷ []) u.world v.world u.ends.items v.ends.items →
      y.nodes.items ≡ set x.nodes.items b v → IsKept x y → Handled n b (Order c) s told y
  ordered_so law b c u v y low is h nodes kept =
      let old : Network = u.world in
      let new : Network = v.world in
      let at : IsAt n b (s b) (told b) old u.ends.items = k.holds.at b u is in
      let in_net : b < n.count = subst (λ (z : ℕ). b < z) k.holds.count low in
      let e : Between = given n b s (told b) old new u.ends.items at (Order c) [] h.played in
      let g : Handles n b (Order c) (record { dones = s; queue = [] }) e = handled n b s (told b) old new u.ends.items at (Order c) [] h.played tt in
      let on : IsHandledOn n b (Order c) (record { dones = s; queue = [] }) e = law n b (Order c) (record { dones = s; queue = [] }) e k.net k.vids k.run in_net g in
      let wired_now : v.ends.items ≡ ends_over n.wires b (e.dones b).world.next (external_ports (tree_in n b)) =
      h.ends ∙ (at.ends ∙ all_same n.wires b (s b).world.next (e.dones b).world.next (λ q wired. on.next q) (external_ports (tree_in n b))) in
      record {
        given = e;
        end = e;
        times = 0;
        handles = g;
        empties = (refl, on.quiet c refl);
        playing = record {
          net = k.net;
          vids = k.vids;
          holds = subst (λ (zs : List (Node V X)). Holds n e.dones told zs) (sym nodes) (holds_on n b s told e.dones x.nodes.items v k.holds on.others (at_after n b s (told b) old new u.ends.items at (Order c) [] h.played v.ends.items wired_now));
          run = on.run;
          few = λ d q d_low wired.
              (let before = k.few d q d_low wired in
              let same = kept.came in
              let next : (e.dones d).world.next q ≡ (s d).world.next q = next_same e on d q in
              omega (arith, before, same, next));
          queue = kept.queue ∙ k.queue;
          wires = kept.wires ∙ k.wires;
        };
      }
    where
      next_same : (e : Between) → IsHandledOn n b (Order c) (record { dones = s; queue = [] }) e → (d q : ℕ) → (e.dones d).world.next q ≡ (s d).world.next q
      next_same e on d q = elim (cases_eq d b) [
        | inl same ↦ subst (λ (z : ℕ). (e.dones z).world.next q ≡ (s z).world.next q) (sym same) (on.next q)
        | inr ne ↦ ap (λ (z : Stepped). z.world.next q) (on.others d ne)
      ]
