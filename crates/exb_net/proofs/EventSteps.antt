-- What comes is given to its bridge as the step that it is.
use Rattle.std.proofs.Common.{◌≡◌, ℕ, ◌+◌, ◌-◌, ◌<◌, ◌≤◌, ◌==◌, Bool, true, false, List, length, get_or, Option, Some, eqb-true, refl, ap, sym, subst, ◌∙◌, arith}
use Rattle.std.specs.Prelude.{if◌then◌else◌, slice_get}
use Rattle.std.proofs.lemmas.Bool.{eq-eqb}
use Rattle.std.proofs.lemmas.Option.{same_Some, slice_get_within}
use Rattle.exb_model.specs.declared.setup.Timed.{Timed}
use Rattle.exb_model.specs.declared.arrival.Arrival.{Arrival}
use Rattle.exb_world_spec.specs.AllowedSteps.{Can}
use Rattle.exb_world_spec.specs.Worlds.{Step, Arrive, Order}
use Rattle.exb_timeline.specs.declared.net_timeline.NetNext.{NetNext}
use Rattle.exb_timeline.specs.declared.bridge_timeline.Next.{Next}
use Rattle.exb_timeline.specs.declared.bridge_timeline.Next.TheVariants as next
use Rattle.exb_world.specs.WorldContracts.{tree_of, world_of}
use Rattle.exb_net_spec.specs.Nets.{Net, is_wired}
use Rattle.exb_net_file.specs.declared.net_parts.BridgeInputs.{BridgeInputs}
use Rattle.exb_net_laws.specs.NetRuns.{Dones}
use Rattle.exb_net.specs.declared.net.Net.{Net as Bridges}
use Rattle.exb_net.specs.declared.node.Node.{Node}
use Rattle.exb_net.specs.PairedLists.{AreEach}
use Rattle.exb_net.specs.NetStates.{Handled, IsPlaying}
use Rattle.exb_net.specs.NetInvariants.{CanGive, IsFree, IsStepOf, commands_in, letters_at, letters_for, letters_of}
use Rattle.exb_net.proofs.ListPlaces.{at_place}

-- a command at its place among those of its bridge
pub record IsPlaced (rests : List BridgeInputs) (d : NetNext) (number : ℕ) (rest : BridgeInputs) (c : Timed) : Type 0 where
  pub there : slice_get rests d.bridge ≡ Some rest
  pub place : slice_get rest.commands (number - 1) ≡ Some c

module _ {V : Type 0} {X : V → Type 0} (n : Net) (s told : Dones) (rests : List BridgeInputs) (d : NetNext) (x : Bridges V X) (can : CanGive n s told rests d x) where
  pub bridge-low : d.bridge < length x.nodes.items
  bridge-low = slice_get_within x.nodes.items d.bridge can.node can.node_there

  pub rest-low : d.bridge < length rests
  rest-low = slice_get_within rests d.bridge can.rest can.rest_there

  can-step : (step : Step) → can.step ≡ step → (z : Node V X) → slice_get x.nodes.items d.bridge ≡ Some z → Can (tree_of z.world) (world_of z.world) step
  can-step step is z here =
      subst (λ (u : Node V X). Can (tree_of u.world) (world_of u.world) step) (same_Some can.node z (sym can.node_there ∙ here)) (subst (λ (q : Step). Can (tree_of can.node.world) (world_of can.node.world) q) is can.can)

  -- ---- a record
  record-step : (came : Arrival) → d.next ≡ next.Record came → can.step ≡ Arrive came
  record-step came is = subst (λ (z : Next). IsStepOf can.rest.commands z can.step) is can.is

  pub record-free : (came a : Arrival) → d.next ≡ next.Record came → a ≡ came → is_wired n.wires d.bridge a.port ≡ false
  record-free came a is same = ap (λ (z : Arrival). is_wired n.wires d.bridge z.port) same ∙ subst (λ (z : Next). IsFree n d.bridge z) is can.free

  pub can-arrive : (came a : Arrival) → d.next ≡ next.Record came → a ≡ came → (z : Node V X) → slice_get x.nodes.items d.bridge ≡ Some z → Can (tree_of z.world) (world_of z.world) (Arrive a)
  can-arrive came a is same = can-step (Arrive a) (record-step came is ∙ ap Arrive (sym same))

  pub gives-record : (y : Bridges V X) (came a : Arrival) → d.next ≡ next.Record came → a ≡ came →
      ((m : Net) (u v : Dones) → IsPlaying m u v x → is_wired m.wires d.bridge a.port ≡ false → Handled m d.bridge (Arrive a) u v y) → Handled n d.bridge can.step s told y
  gives-record y came a is same plays = subst (λ (z : Step). Handled n d.bridge z s told y) (ap Arrive same ∙ sym (record-step came is)) (plays n s told can.playing (record-free came a is same))

  -- ---- a command
  module _ (number moment : ℕ) (is : d.next ≡ next.Command number moment) where
    command-step : (rest : BridgeInputs) → slice_get rests d.bridge ≡ Some rest → IsStepOf rest.commands (next.Command number moment) can.step
    command-step rest there =
        subst (λ (r : BridgeInputs). IsStepOf r.commands (next.Command number moment) can.step) (same_Some can.rest rest (sym can.rest_there ∙ there)) (subst (λ (z : Next). IsStepOf can.rest.commands z can.step) is can.is)

    -- the place of its command is one
    pub number-high : 1 ≤ number
    number-high = (command-step can.rest can.rest_there).0

    number-low : (rest : BridgeInputs) → slice_get rests d.bridge ≡ Some rest → number - 1 < length rest.commands
    number-low rest there = (let step = command-step rest there in slice_get_within rest.commands (number - 1) step.1.0 step.1.1)

    module _ (rest : BridgeInputs) (cs : List Timed) (rest_is : rest ≡ get_or rests d.bridge rest) (cs_are : cs ≡ (get_or rests d.bridge rest).commands) where
      there : slice_get rests d.bridge ≡ Some rest
      there = at_place rests d.bridge rest rest-low rest_is

      own : cs ≡ rest.commands
      own = cs_are ∙ ap (λ (z : BridgeInputs). z.commands) (sym rest_is)

      pub place-low : number - 1 < length cs
      place-low = (let low = number-low rest there in let same = ap (λ (xs : List Timed). length xs) own in omega (arith, low, same))

      pub is-placed : (c : Timed) → c ≡ get_or cs (number - 1) c → IsPlaced rests d number rest c
      is-placed c c_is = record { there = there; place = ap (λ (xs : List Timed). slice_get xs (number - 1)) (sym own) ∙ at_place cs (number - 1) c place-low c_is }

    module _ (rest : BridgeInputs) (c : Timed) (p : IsPlaced rests d number rest c) where
      step-is : can.step ≡ Order c.command
      step-is = (let step = command-step rest p.there in step.1.2 ∙ ap (λ (z : Timed). Order z.command) (same_Some step.1.0 c (sym step.1.1 ∙ p.place)))

      pub can-order : (z : Node V X) → slice_get x.nodes.items d.bridge ≡ Some z → Can (tree_of z.world) (world_of z.world) (Order c.command)
      can-order = can-step (Order c.command) step-is

      pub gives-command : (y : Bridges V X) → ((m : Net) (u v : Dones) → IsPlaying m u v x → Handled m d.bridge (Order c.command) u v y) → Handled n d.bridge can.step s told y
      gives-command y plays = subst (λ (z : Step). Handled n d.bridge z s told y) (sym step-is) (plays n s told can.playing)

-- ---- letters
module _ (rests : List BridgeInputs) (d : NetNext) (number moment : ℕ) (is : d.next ≡ next.Command number moment) (rest : BridgeInputs) (c : Timed) (p : IsPlaced rests d number rest c) where
  planned : (b : ℕ) → b ≡ d.bridge → letters_for (commands_in (slice_get rests b)) d.next ≡ length c.fate
  planned b e =
      ap (λ (k : ℕ). letters_for (commands_in (slice_get rests k)) d.next) e ∙ ap (λ (o : Option BridgeInputs). letters_for (commands_in o) d.next) p.there ∙ ap (letters_for rest.commands) is ∙ ap letters_of p.place

  pub letters-here : letters_at rests d d.bridge ≡ length c.fate
  letters-here = rw (eq-eqb d.bridge d.bridge refl) (planned d.bridge refl)

  by_test : (b : ℕ) (t : Bool) → (b == d.bridge) ≡ t → (if t then length c.fate else 0) ≡ (if t then letters_for (commands_in (slice_get rests b)) d.next else 0)
  by_test b true e = sym (planned b (eqb-true b d.bridge e))
  by_test b false e = refl

  pub letters-given : {V : Type 0} {X : V → Type 0} (verdicts : Node V X → ℕ) (xs ys : List (Node V X)) → AreEach (λ b x y. verdicts y ≤ verdicts x + (if b == d.bridge then length c.fate else 0)) xs ys → AreEach (λ b x y. verdicts y ≤ verdicts x + letters_at rests d b) xs ys
  letters-given verdicts xs ys all = record { long = all.long; each = λ b x y here now. subst (λ (k : ℕ). verdicts y ≤ verdicts x + k) (by_test b (b == d.bridge) refl) (all.each b x y here now) }

-- none are
pub letters-none : {V : Type 0} {X : V → Type 0} (rests : List BridgeInputs) (d : NetNext) (verdicts : Node V X → ℕ) (xs ys : List (Node V X)) → AreEach (λ b x y. verdicts y ≤ verdicts x) xs ys → AreEach (λ b x y. verdicts y ≤ verdicts x + letters_at rests d b) xs ys
letters-none rests d verdicts xs ys all = record { long = all.long; each = λ b x y here now. (let own = all.each b x y here now in omega (arith, own)) }
