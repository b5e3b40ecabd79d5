-- What a step on a link does to the control, by its acts: nothing, or something that was planned is done.
use Rattle.std.proofs.Common.{◌≡◌, ℕ, ◌<◌, Option, Some, None, refl, sym, ◌∙◌, ap, subst, inl, inr}
use Rattle.exb_model.specs.declared.command.Command.{Command}
use Rattle.exb_model.specs.Tree.{Shape, IsTree, is_extender}
use Rattle.exb_model.specs.Setup.{Limits}
use Rattle.std.specs.Prelude.{true, List}
use Rattle.exb_link.specs.declared.link_frame.LinkFrame.{LinkFrame}
use Rattle.exb_world_spec.specs.AllowedSteps.{Can}
use Rattle.exb_world_spec.specs.Settling.{planned_in}
use Rattle.exb_world_spec.specs.Worlds.{World, Way, Up, Down, Step, Carry, Control, Lose}
use Rattle.exb_world_spec.specs.Steps.{stepped}
use Rattle.exb_world_spec.specs.Effects.{Effect}
use Rattle.exb_world_spec.specs.DataFrames.{hung_at}
use Rattle.exb_world_spec.proofs.Acts.{Act, Move, Mover, Answered, Announced, Ordered, Beaten, moved, Takes, IsTaken, IsOrder, IsBeat, IsMover, IsFrameOf, HasHeard, Why, act, step_acts}
use Rattle.exb_world_spec.proofs.Deeds.{Deed, Change, Send, Words, deed, Because, act_deeds}
use Rattle.exb_world_spec.proofs.Trunks.{hung_is}
use Rattle.exb_settling_laws.specs.SettlingFacts.{OnLink, carries, delivers, loses}
use Rattle.exb_settling_laws.proofs.ControlTurns.{Calm, Turned, Turns, answered_turns, announced_turns, same_planned, turned_then, hung_at_there}
use Rattle.exb_control_spec.specs.Machine.{State, Moved, still}
use Rattle.exb_control_spec.specs.PlannedExchanges.{planned}
use Rattle.exb_control_spec.specs.Decisions.{decide}

no_order : (step : Step) → OnLink step → (c : Command) → IsOrder step c → ⊥
no_order _ (carries n way) c is = is
no_order _ (delivers n way k keep) c is = is
no_order _ (loses n way k) c is = is

no_beat : (step : Step) → OnLink step → IsBeat step → ⊥
no_beat _ (carries n way) is = is
no_beat _ (delivers n way k keep) is = is
no_beat _ (loses n way k) is = is

taken_there : (t : Shape) (step : Step) (w : World) → OnLink step → Can t w step → (m : ℕ) (way : Way) (x : LinkFrame) → IsTaken w step m way x → is_extender t m ≡ true
taken_there t _ w (carries n d) can m way x is = subst (λ (k : ℕ). is_extender t k ≡ true) is.0 can.0
taken_there t _ w (delivers n d k keep) can m way x is = subst (λ (k : ℕ). is_extender t k ≡ true) is.0 can.0
taken_there t _ w (loses n d k) can m way x is = absurd is

module _ (t : Shape) (l : Limits) (tree : IsTree t) (step : Step) (w : World) (on_link : OnLink step) (can : Can t w step) (calm : Calm t w) where
  -- the extender of a control frame is there
  heard_there : (n : ℕ) (f : List ℕ) → HasHeard t (IsTaken w step) n f → is_extender t n ≡ true
  heard_there n f h = by_of h.of
    where
      by_of : IsFrameOf t h.link h.word n f → is_extender t n ≡ true
      by_of (inl k) = subst (λ (m : ℕ). is_extender t m ≡ true) (sym k.1) (taken_there t step w on_link can h.link Up h.word h.taken)
      by_of (inr k) = hung_at_there t l tree k.1.0 n k.1.1.0

  move_turns : (by : Mover) → IsMover t (IsTaken w step) step by → Turns t l tree w.control (moved t l by w.control)
  move_turns (Answered n m) why = answered_turns t l tree w n m calm
  move_turns (Announced n a) why = announced_turns t l tree w n a calm (heard_there n why.0 why.1)
  move_turns (Ordered c) why = absurd (no_order step on_link c why)
  move_turns Beaten why = absurd (no_beat step on_link why)

  abbrev So : World → Effect → Type 0
  So v e = Turned t l tree w v → Turned t l tree w e.world

  changed : (v : World) (s : State) (m : Moved) → s ≡ m.state → Turns t l tree w.control m → Turned t l tree w (record v { control = s })
  changed v s m is (inl same) = inl (is ∙ ap (λ (x : Moved). x.state) same)
  changed v s m is (inr less) = inr (subst (λ (x : State). planned t (decide t l) x < planned_in t l w) (sym is) less)

  deed_turned : (a : Act) (u : World) → Why t l (IsTaken w step) w step a u → (d : Deed) (v : World) → Because t l a u d v → So v (deed d v)
  deed_turned a u why (Change s) v is k =
      let its = subst (λ c. Why t l (IsTaken w step) w step c u) is.1.0 why in
      let at : s ≡ (moved t l is.0 w.control).state = is.1.1 ∙ ap (λ (x : State). (moved t l is.0 x).state) its.1 in
      changed v s (moved t l is.0 w.control) at (move_turns is.0 its.0)
  deed_turned a u why (Send line n Up x) v is k = k
  deed_turned a u why (Send line n Down x) v is k = k
  deed_turned a u why (Words n Up ws) v is k = k
  deed_turned a u why (Words n Down ws) v is k = k
  deed_turned a u why _ v is k = k

  pub step_turned_by : Turned t l tree w (stepped t l step w).world
  unfolding stepped
  step_turned_by = step_acts t l w step So (record { nothing = λ v k. k; joins = λ v e f x y k. y (x k); acts = λ a u why. act_deeds t l a u So (λ v k. k) (λ v e f x y k. y (x k)) (deed_turned a u why) }) (inl refl)
