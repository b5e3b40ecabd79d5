-- What comes next can be given to its bridge; and the programmes go on behind it.
use Rattle.std.proofs.Common.{◌≡◌, ℕ, zero, suc, ◌+◌, ◌-◌, ◌*◌, ◌^◌, ◌<◌, ◌≤◌, ◌==◌, true, false, List, map, Option, Some, None, refl, ap, sym, subst, ◌∙◌, arith}
use Rattle.std.specs.Prelude.{All, slice_get}
use Rattle.std.proofs.lemmas.Option.{same_Some, slice_get_within}
use Rattle.exb_model.specs.declared.setup.Timed.{Timed}
use Rattle.exb_model.specs.History.{command_of}
use Rattle.exb_model.specs.Input.{given_by, moment_of, seconds_after}
use Rattle.exb_model.specs.Setup.{NamesExternal}
use Rattle.exb_model.specs.Tree.{Shape}
use Rattle.exb_world_spec.specs.AllowedSteps.{Can}
use Rattle.exb_world_spec.specs.Steps.{Stepped}
use Rattle.exb_world_spec.specs.Worlds.{World, Step, Arrive, Order, Tick}
use Rattle.exb_world.specs.WorldContracts.{tree_of, world_of}
use Rattle.exb_shelf.specs.Files.{Files}
use Rattle.exb_shelf.specs.Shelf.{Id}
use Rattle.exb_timeline.specs.declared.net_timeline.NetNext.{NetNext}
use Rattle.exb_timeline.specs.declared.bridge_timeline.Next.{Next}
use Rattle.exb_timeline.specs.declared.bridge_timeline.Next.TheVariants as next
use Rattle.exb_timeline.specs.declared.bridge_timeline.Timeline.{Timeline}
use Rattle.exb_timeline.specs.NetMergeOrder.{due_of}
use Rattle.exb_timeline.specs.Timelines.{IsOf, what}
use Rattle.exb_timeline.proofs.TimelineProgress.{command_is, second_high}
use Rattle.exb_net_spec.specs.Nets.{Net}
use Rattle.exb_net_spec.specs.NetHistory.{basis_in}
use Rattle.exb_net_file.specs.declared.net_parts.BridgeInputs.{BridgeInputs}
use Rattle.exb_net_laws.specs.NetRuns.{Dones, IsStepFor, PlaysOne, pass, tree_in}
use Rattle.exb_net_laws.specs.Deliveries.{HavePassed}
use Rattle.exb_net.specs.declared.net.Net.{Net as Bridges}
use Rattle.exb_net.specs.declared.node.Node.{Node}
use Rattle.exb_net.specs.NodeViews.{IsAt as IsAtNode}
use Rattle.exb_net.specs.NetStates.{Handled, IsPlaying, Passes}
use Rattle.exb_net.proofs.ListPlaces.{all_by, is_there, of_all}
use Rattle.exb_net.specs.declared.net_player.NetPlayer.{NetPlayer}
use Rattle.exb_net.specs.NetInvariants.{AreOfRests, CanGive, GoesOnAt, IsDue, IsFree, IsLast, IsSince, IsStepOf, NetRun}
use Rattle.exb_net.proofs.PassedSeconds.{pass_given}

-- ---- the step of what comes
-- It may be made in the world of its bridge.
pub record HasStep (n : Net) (b : ℕ) (cs : List Timed) (x : Next) (t : Shape) (w : World) : Type 0 where
  pub step : Step
  pub is : IsStepOf cs x step
  pub can : Can t w step
  pub free : IsFree n b x

pub has-step : (n : Net) (b start : ℕ) (last : Option ℕ) (d : Stepped) (a : Timeline) (x : Next) (e : Timeline) (cs : List Timed) (w : World) → GoesOnAt n b start last d a → IsOf a x e → a.commands.now ≡ cs →
    w.control.given ≡ d.world.control.given → ((q : ℕ) → w.next q ≡ d.world.next q) → HasStep n b cs x (tree_in n b) w
has-step n b start last d a (next.Command number moment) e cs w goes (numbered, within, more, same) commands given nexts =
    let there = is_there a.commands.now a.taken within in
    let place : number - 1 ≡ a.taken = omega (arith, numbered) in
    record {
      step = Order there.0.command;
      is = (
        omega (arith, numbered),
        (there.0, ap (λ (k : ℕ). slice_get cs k) place ∙ ap (λ (xs : List Timed). slice_get xs a.taken) (sym commands) ∙ there.1, refl),
      );
      can = (
        of_all (λ (c : Timed). NamesExternal (tree_in n b) c.command) a.commands.now a.taken there.0 goes.names there.1,
        (let own = goes.taken in let few = goes.few_commands in omega (arith, given, own, few, within)),
      );
      free = tt;
    }
has-step n b start last d a (next.Record c) e cs w goes is commands given nexts =
    let come = is.0 in
    let free = goes.free c.port come.port in
    record {
      step = Arrive c;
      is = refl;
      can = record {
        external = free.0;
        next = come.number ∙ sym (nexts c.port ∙ goes.next c.port free.1);
        few = come.numbers;
        short = come.bytes;
      };
      free = free.1;
    }

-- it is the one that the net is given
step-for : (n : Net) (b : ℕ) (cs : List Timed) (x : Next) (step : Step) → (n.input b).commands ≡ map given_by cs → IsStepOf cs x step → IsStepFor n b (what x) step
step-for n b cs (next.Command number moment) step given is =
    let k : ℕ = number - 1 in
    let own : suc (number - 1) ≡ number = (let low = is.0 in omega (arith, low)) in
    let c : Timed = is.1.0 in
    (c.command, ap (command_of (basis_in n b)) (sym own) ∙ command_is (n.input b) cs (number - 1) c given is.1.1, is.1.2)
step-for n b cs (next.Record c) step given is = is

-- ---- what comes next
module _ {V : Type 0} {X : V → Type 0} (tells : Type 0) (r : NetRun) (now : Files) (ids : ℕ → Id) (seconds second : ℕ) (g : NetPlayer V X) (d : NetNext) (ps : List Timeline) (p : IsDue tells r now ids seconds second g d ps) where
  pub here : d.bridge < r.net.count
  here = (let low = slice_get_within p.old d.bridge p.comes.was p.comes.was_there in let all = p.going.goes.count in omega (arith, low, all))

  pub at_it : GoesOnAt r.net d.bridge p.going.goes.start p.last (p.going.dones d.bridge) p.comes.was
  at_it = p.going.goes.each d.bridge p.comes.was p.comes.was_there

  -- the programme of a bridge
  programme-of : (c : ℕ) → c < r.net.count → (q : Timeline) × (slice_get p.old c ≡ Some q)
  programme-of c low = is_there p.old c (let all = p.going.goes.count in omega (arith, low, all))

  begins : p.going.goes.start ≤ second
  begins = (let from = p.comes.coming.from in let own = at_it.start_is in let is = p.second_is in omega (arith, from, own, is))

  pub ends : second < p.going.goes.start + 2 ^ 32
  ends = (let before = p.comes.coming.before in let own = at_it.start_is in let is = p.second_is in omega (arith, before, own, is))

  clock-by : (l : Option ℕ) (clock : ℕ) → IsLast p.going.goes.start l p.old → IsSince p.going.goes.start l clock → seconds ≡ seconds_after l second → clock + seconds + p.going.goes.start ≤ second
  clock-by None clock last since is = (let b = begins in omega (arith, since, is, b))
  clock-by (Some l) clock last since is =
      let later = second_high (moment_of (what d.next)) l (p.comes.fell (l * 1_000_000_000) last.1) in
      let own = p.second_is in
      omega (arith, since, is, later, own)

  -- no clock passes the second of what comes
  pub clock-on : (c : ℕ) → c < r.net.count → (p.going.dones c).world.table.clock + seconds + p.going.goes.start ≤ second
  clock-on c low =
      let q = programme-of c low in
      clock-by p.last (p.going.dones c).world.table.clock p.going.goes.last_is (p.going.goes.each c q.0 q.1).since p.seconds_are

  -- so the seconds are few, and may pass
  seconds-by : (l : Option ℕ) → seconds ≡ seconds_after l second → seconds ≤ second
  seconds-by None is = omega (arith, is)
  seconds-by (Some l) is = omega (arith, is)

  may-tick : (c : ℕ) → c < r.net.count → (seconds == 0) ≡ false → (t : Shape) (w : World) → w ≡ (p.going.dones c).world → Can t w (Tick seconds)
  may-tick c low some t w is =
      let clock = clock-on c low in
      let high = ends in
      let same = ap (λ (x : World). x.table.clock) is in
      (positive seconds some, omega (arith, clock, high, same))
    where
      positive : (k : ℕ) → (k == 0) ≡ false → 1 ≤ k
      positive zero e = absurd (let z : true ≡ false = e in cc)
      positive (suc k) e = omega arith

  -- at each node
  node-at : (x : Bridges V X) (t told : Dones) → IsPlaying r.net t told x → (b : ℕ) (y : Node V X) → slice_get x.nodes.items b ≡ Some y → b < r.net.count
  node-at x t told playing b y is = (let low = slice_get_within x.nodes.items b y is in let all = playing.holds.count in omega (arith, low, all))

  pub tick-can : (seconds == 0) ≡ false → All (λ (y : Node V X). Can (tree_of y.world) (world_of y.world) (Tick seconds)) g.net.nodes.items
  tick-can some =
      all_by (λ (y : Node V X). Can (tree_of y.world) (world_of y.world) (Tick seconds)) g.net.nodes.items
      (λ b y is. may-tick b (node-at g.net p.going.dones p.going.dones p.going.is.playing b y is) some (tree_of y.world) (world_of y.world) (p.going.is.playing.holds.at b y is).world)

  -- after them it can be given
  module _ (rests : List BridgeInputs) (of : AreOfRests rests ps) (x : Bridges V X) (passes : Passes r.net seconds p.going.dones p.going.dones x) (passed : HavePassed r.net p.going.dones (pass r.net seconds p.going.dones)) where
    the-rest : (y : BridgeInputs) × (slice_get rests d.bridge ≡ Some y)
    the-rest = is_there rests d.bridge (let low = slice_get_within ps d.bridge p.comes.is p.comes.is_there in let all = of.whole in omega (arith, low, all))

    the-node : (y : Node V X) × (slice_get x.nodes.items d.bridge ≡ Some y)
    the-node = is_there x.nodes.items d.bridge (let low = here in let all = passes.playing.holds.count in omega (arith, low, all))

    node-is : IsAtNode r.net d.bridge (pass r.net seconds p.going.dones d.bridge) (p.going.dones d.bridge) the-node.0.world the-node.0.ends.items
    node-is = passes.playing.holds.at d.bridge the-node.0 the-node.1

    commands-are : p.comes.was.commands.now ≡ the-rest.0.commands
    commands-are = sym p.comes.coming.commands ∙ of.each d.bridge the-rest.0 p.comes.is the-rest.1 p.comes.is_there

    its-step : HasStep r.net d.bridge the-rest.0.commands d.next (tree_in r.net d.bridge) (pass r.net seconds p.going.dones d.bridge).world
    its-step =
        has-step r.net d.bridge p.going.goes.start p.last (p.going.dones d.bridge) p.comes.was d.next p.comes.is the-rest.0.commands (pass r.net seconds p.going.dones d.bridge).world at_it p.comes.coming.is commands-are
        (pass_given r.net seconds p.going.dones d.bridge) (λ q. passed.next d.bridge q here)

    pub can-give : x.came ≡ g.net.came → CanGive r.net (pass r.net seconds p.going.dones) p.going.dones rests d x
    can-give came = record {
      playing = passes.playing;
      rest = the-rest.0;
      node = the-node.0;
      rest_there = the-rest.1;
      node_there = the-node.1;
      free = its-step.free;
      step = its-step.step;
      is = its-step.is;
      can =
          (let P : Shape → Type 0 = λ t. Can t (world_of the-node.0.world) its-step.step in
          let Q : World → Type 0 = λ w. Can (tree_in r.net d.bridge) w its-step.step in
          subst P (sym node-is.tree) (subst Q (sym node-is.world) its-step.can));
      came = (let few = p.going.goes.few_bytes in omega (arith, came, few));
    }

    -- so the net plays one event
    pub plays-one : (can : CanGive r.net (pass r.net seconds p.going.dones) p.going.dones rests d x) (y : Bridges V X) (h : Handled r.net d.bridge can.step (pass r.net seconds p.going.dones) p.going.dones y) →
        PlaysOne r.net seconds (due_of d) p.going.dones h.end.dones
    plays-one can y h =
        let same : can.rest ≡ the-rest.0 = same_Some can.rest the-rest.0 (sym can.rest_there ∙ the-rest.1) in
        let own : p.comes.was.commands.now ≡ can.rest.commands = commands-are ∙ ap (λ (z : BridgeInputs). z.commands) (sym same) in
        record {
          step = can.step;
          given = h.given;
          end = h.end;
          times = h.times;
          may = passes.may;
          is = step-for r.net d.bridge can.rest.commands d.next can.step (at_it.given ∙ ap (map given_by) own) can.is;
          handles = h.handles;
          empties = h.empties;
          done = refl;
        }
