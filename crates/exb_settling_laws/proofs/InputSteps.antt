-- A frame that arrives, a command, seconds that pass and a mark keep a world going that is orderly before and after.
use Rattle.std.proofs.Common.{◌≡◌, ℕ, nat_lt, Bool, true, false, cond, List, [], ◌∷◌, Option, Some, refl, sym, ◌∙◌, subst}
use Rattle.exb_model.specs.declared.command.Command.{Command}
use Rattle.exb_model.specs.declared.arrival.Arrival.{Arrival}
use Rattle.exb_model.specs.Setup.{Limits, NamesExternal}
use Rattle.exb_model.specs.Tree.{Shape, IsTree, device, is_extender, port_number}
use Rattle.exb_frame.specs.TagValues.{TagRoundTrip}
use Rattle.exb_model.specs.Frames.{IsBytes}
use Rattle.exb_extender.specs.declared.sends.Side.TheVariants as side
use Rattle.exb_extender.specs.Forwarding.{Sent, emitted}
use Rattle.exb_extender.specs.Machine.{ExtenderState, Arrives, react}
use Rattle.exb_control_spec.specs.InitialState.{first_held}
use Rattle.exb_control_spec.specs.declared.extender_message.Asked.{Asked}
use Rattle.exb_control_spec.specs.Decisions.{decide}
use Rattle.exb_control_spec.specs.Machine.{Moved, ordered}
use Rattle.exb_control_spec.specs.Runs.PlannedChanges.{IsSetting}
use Rattle.exb_link.specs.declared.link_frame.Stamp.{Stamp}
use Rattle.exb_world_spec.specs.AllowedSteps.{Can}
use Rattle.exb_world_spec.specs.ExtenderSteps.{stamp_of, ignored, does_or_ignores, arrives_at}
use Rattle.exb_world_spec.specs.ControlFrames.{moves}
use Rattle.exb_world_spec.specs.DataFrames.{comes}
use Rattle.exb_world_spec.specs.Steps.{counted, stepped}
use Rattle.exb_world_spec.specs.Worlds.{World, Arrive, Tick, Order, Mark, with_far}
use Rattle.exb_world_spec.specs.Runs.SessionLaws.{HasBytes}
use Rattle.exb_world_spec.specs.Runs.Sessions.{Each, CanBeSent}
use Rattle.exb_world_spec.proofs.Forwarding.{RisesAsData, station_sends}
use Rattle.exb_world_spec.proofs.LinkFrames.{at_itself, each_weaker}
use Rattle.exb_settling_laws.specs.SessionInvariant.{IsDevice, IsGoing, IsOrderly}
use Rattle.exb_settling_laws.specs.RemainingFacts.{NearLeft, FarLeft}
use Rattle.exb_settling_laws.specs.FramePlaces.{WordPlaced, ReadsDown, ReadsUp, ArePlaced}
use Rattle.exb_settling_laws.proofs.FrameAtBridge.{comes_far}
use Rattle.exb_settling_laws.proofs.ControlBeat.{moves_stays}
use Rattle.exb_settling_laws.proofs.InvariantSteps.{sound_step}
use Rattle.exb_settling_laws.proofs.LinkGrowth.{MaySend, none_grows, does_grows}
use Rattle.exb_settling_laws.proofs.NearRemainingFacts.{moved_all, kept_all}
use Rattle.exb_settling_laws.proofs.OneRequest.{ordered_asks, moves_left}
use Rattle.exb_settling_laws.proofs.FramePlaceSteps.{grown}
use Rattle.exb_settling_laws.proofs.BridgeFramePlaces.{Puts, IsAskable, GoesWell, comes_puts, moves_puts}
use Rattle.exb_settling_laws.proofs.UpwardSessions.{each_far}
use Rattle.exb_settling_laws.proofs.ControlTurns.{SameEnds, same_ends, does_ends, comes_ends}
use Rattle.exb_settling_laws.proofs.SendableRequests.{ordered_well}

up_port : {k : ℕ} → side.Up ≡ side.Port k → ⊥
up_port e = cc

both_ways : (b : Bool) → b ≡ true → b ≡ false → ⊥
both_ways b x y = cc

module _ (t : Shape) (l : Limits) (tree : IsTree t) (setting : IsSetting t l) (round : TagRoundTrip) where
  -- What is shown but for the sessions over the bytes, which each step of all kinds keeps.
  record IsRest (w : World) : Type 0 where
    near : (n : ℕ) → NearLeft (w.near n) (w.control.askers n)
    far : (n : ℕ) → is_extender t n ≡ true → FarLeft (w.far n)
    devices : (n : ℕ) → is_extender t n ≡ true → IsDevice t n (w.far n)
    placed : ArePlaced t (first_held t l) w.down w.up

  -- the ends stay, and words are put in their places
  record IsQuiet (w v : World) : Type 0 where
    ends : SameEnds w v
    far : v.far ≡ w.far
    puts : Puts t l tree (first_held t l) w v

  none_quiet : (w : World) → IsQuiet w w
  none_quiet w = record { ends = same_ends w; far = refl; puts = none_grows t l (λ m y. WordPlaced t (first_held t l) ReadsDown m y) (λ m y. WordPlaced t (first_held t l) (ReadsUp t) m y) w }

  quiet_rest : (w v : World) → IsQuiet w v → IsRest w → IsRest v
  quiet_rest w v q k =
      record {
        near = kept_all t l w v q.ends k.near;
        far = λ n there. (let P : (ℕ → ExtenderState) → Type 0 = λ f. FarLeft (f n) in subst P (sym q.far) (k.far n there));
        devices = λ n there. (let P : (ℕ → ExtenderState) → Type 0 = λ f. IsDevice t n (f n) in subst P (sym q.far) (k.devices n there));
        placed = grown t l (first_held t l) w v k.placed q.puts;
      }

  -- ---- a frame arrives
  comes_quiet : (a : Arrival) (w : World) → IsBytes a.bytes → IsQuiet w (comes t a w).world
  comes_quiet a w bytes = record { ends = comes_ends t a w; far = comes_far t a w; puts = comes_puts t l tree (first_held t l) a w bytes }

  may_send : (n : ℕ) (stamp : Option Stamp) (x : Sent) → RisesAsData x → MaySend t l (λ m y. WordPlaced t (first_held t l) ReadsDown m y) (λ m y. WordPlaced t (first_held t l) (ReadsUp t) m y) n stamp x
  may_send n stamp x k =
      record {
        rises = λ e control. absurd (both_ways _ control k.data_frame);
        sinks = λ q m e hangs. absurd (up_port (sym k.side_is ∙ e));
      }

  sent_quiet : (a : Arrival) (w : World) (xs : List Sent) → Each RisesAsData xs → IsQuiet w (does_or_ignores t a (w.far (device a.port), xs) w).world
  sent_quiet a w [] all = none_quiet w
  sent_quiet a w (x ∷ xs) all =
      let n : ℕ = device a.port in
      let stamp : Option Stamp = Some (stamp_of a) in
      record {
        ends = does_ends t n stamp (w.far n, x ∷ xs) w;
        far = each_far t n stamp (x ∷ xs) (with_far n (w.far n) w) ∙ at_itself n w.far;
        puts = does_grows t l (λ m y. WordPlaced t (first_held t l) ReadsDown m y) (λ m y. WordPlaced t (first_held t l) (ReadsUp t) m y) n stamp (w.far n, x ∷ xs) w
            (each_weaker RisesAsData _ (x ∷ xs) (λ y k. may_send n stamp y k) all);
      }

  station_quiet : (a : Arrival) (w : World) → IsBytes a.bytes → IsQuiet w (arrives_at t a w).world
  station_quiet a w bytes = by_kind ((w.far (device a.port)).tables.cascade (port_number a.port)) refl
    where
      by_kind : (b : Bool) → (w.far (device a.port)).tables.cascade (port_number a.port) ≡ b →
          IsQuiet w (cond b (ignored a w) (does_or_ignores t a (react (Arrives (side.Port (port_number a.port)) a.bytes) (w.far (device a.port))) w)).world
      by_kind true e = none_quiet w
      by_kind false e = sent_quiet a w (emitted (w.far (device a.port)).tables (side.Port (port_number a.port)) a.bytes) (station_sends (port_number a.port) (w.far (device a.port)) a.bytes bytes e)

  -- ---- a command
  ordered_rest : (c : Command) (w : World) → IsGoing t l w → IsOrderly t w → NamesExternal t c → IsRest (moves t (ordered (decide t l) c w.control) w).world
  ordered_rest c w k o names =
      let m : Moved = ordered (decide t l) c w.control in
      let well : GoesWell t l tree (first_held t l) m = ordered_well t l tree setting w k.sound o.room c names in
      let stays = moves_stays t m w in
      record {
        near = moved_all t l m w (moves_left t m w.control w (ordered_asks (decide t l) c w.control) (each_weaker (IsAskable t) (λ (x : Asked). CanBeSent x.message) m.asks (λ x a. a.can) well.asks) k.near);
        far = λ n there. (let P : (ℕ → ExtenderState) → Type 0 = λ f. FarLeft (f n) in subst P (sym stays.far) (k.far n there));
        devices = λ n there. (let P : (ℕ → ExtenderState) → Type 0 = λ f. IsDevice t n (f n) in subst P (sym stays.far) (k.devices n there));
        placed = grown t l (first_held t l) w (moves t m w).world k.placed (moves_puts t l tree (first_held t l) m w well);
      }

  -- ---- the steps
  rest_of : (w : World) → IsGoing t l w → IsRest w
  rest_of w k = record { near = k.near; far = k.far; devices = k.devices; placed = k.placed }

  going_of : (v : World) → Rattle.exb_world_spec.specs.Runs.Simulation.IsSound t l v → IsRest v → IsGoing t l v
  going_of v sound k = record { sound = sound; near = k.near; far = k.far; devices = k.devices; placed = k.placed }

  arrives_rest : (a : Arrival) (w : World) → IsBytes a.bytes → IsRest w → IsRest (stepped t l (Arrive a) w).world
  unfolding stepped
  arrives_rest a w bytes k = by_port (nat_lt a.port 64)
    where
      v : IsRest (counted a w)
      v = record { near = k.near; far = k.far; devices = k.devices; placed = k.placed }

      by_port : (b : Bool) → IsRest (cond b (comes t a (counted a w)) (arrives_at t a (counted a w))).world
      by_port true = quiet_rest (counted a w) _ (comes_quiet a (counted a w) bytes) v
      by_port false = quiet_rest (counted a w) _ (station_quiet a (counted a w) bytes) v

  order_rest : (c : Command) (w : World) → IsGoing t l w → IsOrderly t w → NamesExternal t c → IsRest (stepped t l (Order c) w).world
  unfolding stepped
  order_rest c w k o names = ordered_rest c w k o names

  tick_rest : (seconds : ℕ) (w : World) → IsRest w → IsRest (stepped t l (Tick seconds) w).world
  unfolding stepped
  tick_rest seconds w k = record { near = k.near; far = k.far; devices = k.devices; placed = k.placed }

  mark_rest : (w : World) → IsRest w → IsRest (stepped t l Mark w).world
  unfolding stepped
  mark_rest w k = record { near = k.near; far = k.far; devices = k.devices; placed = k.placed }

  -- Each of them keeps a world going.
  pub arrival_going : (a : Arrival) (w : World) → HasBytes (Arrive a) → Can t w (Arrive a) → IsGoing t l w → IsOrderly t w → IsOrderly t (stepped t l (Arrive a) w).world → IsGoing t l (stepped t l (Arrive a) w).world
  arrival_going a w has can k o after = going_of _ (sound_step t l tree setting round (Arrive a) w has can k o after) (arrives_rest a w has (rest_of w k))

  pub order_going : (c : Command) (w : World) → Can t w (Order c) → IsGoing t l w → IsOrderly t w → IsOrderly t (stepped t l (Order c) w).world → IsGoing t l (stepped t l (Order c) w).world
  order_going c w can k o after = going_of _ (sound_step t l tree setting round (Order c) w tt can k o after) (order_rest c w k o can.0)

  pub tick_going : (seconds : ℕ) (w : World) → Can t w (Tick seconds) → IsGoing t l w → IsOrderly t w → IsOrderly t (stepped t l (Tick seconds) w).world → IsGoing t l (stepped t l (Tick seconds) w).world
  tick_going seconds w can k o after = going_of _ (sound_step t l tree setting round (Tick seconds) w tt can k o after) (tick_rest seconds w (rest_of w k))

  pub mark_going : (w : World) → Can t w Mark → IsGoing t l w → IsOrderly t w → IsOrderly t (stepped t l Mark w).world → IsGoing t l (stepped t l Mark w).world
  mark_going w can k o after = going_of _ (sound_step t l tree setting round Mark w tt can k o after) (mark_rest w (rest_of w k))
