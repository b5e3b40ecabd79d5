-- What commands and arrivals do to the next index of each port, and to the number of commands.
use Rattle.std.proofs.Common.{◌≡◌, ℕ, ◌+◌, nat_lt, Bool, true, false, cond, List, [], ◌∷◌, Option, Some, None, refl, ap, ◌∙◌}
use Rattle.exb_model.specs.declared.command.Command.{Command}
use Rattle.exb_model.specs.declared.arrival.Arrival.{Arrival}
use Rattle.exb_model.specs.Setup.{Limits}
use Rattle.exb_model.specs.Tree.{Shape, device, on, trunk, port_number}
use Rattle.exb_ecp.specs.StopAndWait.{submitted, stopped}
use Rattle.exb_csp.specs.Encoding.{message_bytes}
use Rattle.exb_csp.specs.AllTables.{port_of}
use Rattle.exb_extender.specs.declared.sends.Side.{Side}
use Rattle.exb_extender.specs.declared.sends.Side.TheVariants as side
use Rattle.exb_extender.specs.Forwarding.{Sent}
use Rattle.exb_extender.specs.Machine.{Arrives, Reaction, react}
use Rattle.exb_frame.specs.declared.etag.ETag.{ETag}
use Rattle.exb_link.specs.declared.link_frame.Stamp.{Stamp}
use Rattle.exb_link.specs.declared.link_frame.LinkFrame.{LinkFrame}
use Rattle.exb_relay.specs.declared.send.SendTo.{SendTo}
use Rattle.exb_control_spec.specs.declared.extender_message.Asked.{Asked}
use Rattle.exb_control_spec.specs.Decisions.{decide}
use Rattle.exb_control_spec.specs.Machine.{Moved, State, ordered}
use Rattle.exb_control_spec.specs.Runs.Systems.{Order as Orders}
use Rattle.exb_model.specs.Learning.{passes}
use Rattle.exb_model.specs.Frames.{egress}
use Rattle.exb_world_spec.specs.BridgeLearning.{channel_at_trunk, forgotten_all, taught}
use Rattle.exb_world_spec.specs.Effects.{Effect, then_do, each}
use Rattle.exb_world_spec.specs.ExtenderSteps.{hung_on, sent_at, sent_to, sends, does, does_or_ignores, ignored, arrives_at, stamp_of}
use Rattle.exb_world_spec.specs.ControlFrames.{bridge_request, puts_tagged, to_extender, asks, moves}
use Rattle.exb_world_spec.specs.DataFrames.{puts_word, sent_by, sends_in, sends_all, sends_for, comes}
use Rattle.exb_world_spec.specs.Steps.{counted, arrives, stepped}
use Rattle.exb_world_spec.specs.Worlds.{World, Arrive, Order, Tick, with_near, with_far, with_table, with_control}
use Rattle.exb_model.specs.Tables.{at}
use Rattle.exb_world_spec.specs.Runs.Simulation.{system_of}
use Rattle.exb_world_spec.proofs.Jobs.{moved_given}

-- the next indices stay, and so does the control
pub record Keeps (w : World) (e : Effect) : Type 0 where
  pub next : (p : ℕ) → e.world.next p ≡ w.next p
  pub control : e.world.control ≡ w.control

keeps_then : (w : World) (e : Effect) (f : World → Effect) → Keeps w e → Keeps e.world (f e.world) → Keeps w (then_do e f)
keeps_then w e f a b = record { next = λ p. b.next p ∙ a.next p; control = b.control ∙ a.control }

keeps_each : {A : Type 0} (f : A → World → Effect) → ((x : A) (v : World) → Keeps v (f x v)) → (xs : List A) (w : World) → Keeps w (each f xs w)
keeps_each f all [] w = record { next = λ p. refl; control = refl }
keeps_each f all (x ∷ xs) w = keeps_then w (f x w) (each f xs) (all x w) (keeps_each f all xs (f x w).world)

either : (b : Bool) (e f : Effect) (w : World) → Keeps w e → Keeps w f → Keeps w (cond b e f)
either true e f w x y = x
either false e f w x y = y

module _ (t : Shape) where
  -- ---- a command
  to_keeps : (n : ℕ) (f : List ℕ) (w : World) → Keeps w (to_extender t n f w)
  to_keeps n f w = by_place (nat_lt (on t n) 64) refl
    where
      by_options : (o c : Option ℕ) → Keeps w (puts_tagged (trunk t n) o c f w)
      by_options (Some m) (Some channel) = record { next = λ p. refl; control = refl }
      by_options (Some m) None = record { next = λ p. refl; control = refl }
      by_options None c = record { next = λ p. refl; control = refl }

      by_place : (b : Bool) → nat_lt (on t n) 64 ≡ b → Keeps w (to_extender t n f w)
      by_place true e = rw e (record { next = λ p. refl; control = refl })
      by_place false e = rw e (by_options (hung_on t (trunk t n)) (channel_at_trunk t w.control.held (on t n)))

  asks_keeps : (x : Asked) (w : World) → Keeps w (asks t x w)
  asks_keeps x w =
      let n : ℕ = x.extender in
      let k = to_keeps n (bridge_request (w.near n).next (message_bytes x.message)) (with_near n (submitted (message_bytes x.message) (stopped (w.near n))) w) in
      record { next = k.next; control = k.control }

  moved_keeps : (m : Moved) (w : World) → Keeps (with_table (forgotten_all m.downs w.table) (with_control m.state w)) (moves t m w)
  moved_keeps m w =
      let k = keeps_each (asks t) asks_keeps m.asks (with_table (forgotten_all m.downs w.table) (with_control m.state w)) in record { next = k.next; control = k.control }

  -- ---- an arrival
  in_keeps : (a : Arrival) (vid : ℕ) (x : SendTo) (w : World) → Keeps w (sends_in t a vid x w)
  in_keeps a vid x w = by_tag x.tag
    where
      by_hung : (o : Option ℕ) (y : LinkFrame) → Keeps w (puts_word x.bridge_port o y w)
      by_hung None y = record { next = λ p. refl; control = refl }
      by_hung (Some m) y = record { next = λ p. refl; control = refl }

      by_tag : (o : Option ETag) → Keeps w (sent_by t a (egress a.bytes x.kind vid) x.bridge_port o w)
      by_tag None = record { next = λ p. refl; control = refl }
      by_tag (Some tag) = by_hung _ _

  all_keeps : (a : Arrival) (xs : List SendTo) (o : Option ℕ) (w : World) → Keeps w (sends_all t a xs o w)
  all_keeps a xs None w = record { next = λ p. refl; control = refl }
  all_keeps a xs (Some vid) w = keeps_each (sends_in t a vid) (in_keeps a vid) xs w

  comes_keeps : (a : Arrival) (w : World) → Keeps w (comes t a w)
  comes_keeps a w =
      let k = all_keeps a (sends_for t w a) (passes w.control.bridge a.port a.bytes) (with_table (taught w.control.bridge a w.table) w) in record { next = k.next; control = k.control }

  sent_keeps : (n : ℕ) (stamp : Option Stamp) (s : Side) (bytes : List ℕ) (w : World) → Keeps w (sent_to t n stamp s bytes w)
  sent_keeps n stamp side.Up bytes w = record { next = λ p. refl; control = refl }
  sent_keeps n stamp (side.Port k) bytes w = by_hung (hung_on t (port_of n k))
    where
      by_hung : (o : Option ℕ) → Keeps w (sent_at n k o stamp bytes w)
      by_hung (Some m) = record { next = λ p. refl; control = refl }
      by_hung None = record { next = λ p. refl; control = refl }

  does_keeps : (n : ℕ) (stamp : Option Stamp) (r : Reaction) (w : World) → Keeps w (does t n stamp r w)
  does_keeps n stamp r w =
      let k = keeps_each (sends t n stamp) (λ (s : Sent) v. sent_keeps n stamp s.side s.bytes v) r.1 (with_far n r.0 w) in record { next = k.next; control = k.control }

  does_or_keeps : (a : Arrival) (r : Reaction) (w : World) → Keeps w (does_or_ignores t a r w)
  does_or_keeps a (s, []) w = record { next = λ p. refl; control = refl }
  does_or_keeps a (s, x ∷ xs) w = does_keeps (device a.port) (Some (stamp_of a)) (s, x ∷ xs) w

  at_keeps : (a : Arrival) (w : World) → Keeps w (arrives_at t a w)
  at_keeps a w =
      either ((w.far (device a.port)).tables.cascade (port_number a.port)) (ignored a w) (does_or_ignores t a (react (Arrives (side.Port (port_number a.port)) a.bytes) (w.far (device a.port))) w) w
      (record { next = λ p. refl; control = refl }) (does_or_keeps a (react (Arrives (side.Port (port_number a.port)) a.bytes) (w.far (device a.port))) w)

  arrives_keeps : (a : Arrival) (w : World) → Keeps (counted a w) (arrives t a w)
  arrives_keeps a w = either (nat_lt a.port 64) (comes t a (counted a w)) (arrives_at t a (counted a w)) (counted a w) (comes_keeps a (counted a w)) (at_keeps a (counted a w))

-- ---- steps
pub arrive_next : (t : Shape) (l : Limits) (w : World) (a : Arrival) (p : ℕ) → (stepped t l (Arrive a) w).world.next p ≡ at a.port (w.next a.port + 1) w.next p
unfolding stepped
arrive_next t l w a p = (arrives_keeps t a w).next p

pub order_next : (t : Shape) (l : Limits) (w : World) (c : Command) (p : ℕ) → (stepped t l (Order c) w).world.next p ≡ w.next p
unfolding stepped
order_next t l w c p = (moved_keeps t (ordered (decide t l) c w.control) w).next p

pub order_given : (t : Shape) (l : Limits) (w : World) (c : Command) → (stepped t l (Order c) w).world.control.given ≡ w.control.given + 1
unfolding stepped
order_given t l w c =
    ap (λ (s : State). s.given) (moved_keeps t (ordered (decide t l) c w.control) w).control
    ∙ moved_given (decide t l) (system_of w) (Orders c)

pub tick_next : (t : Shape) (l : Limits) (w : World) (seconds p : ℕ) → (stepped t l (Tick seconds) w).world.next p ≡ w.next p
unfolding stepped
tick_next t l w seconds p = refl

pub tick_given : (t : Shape) (l : Limits) (w : World) (seconds : ℕ) → (stepped t l (Tick seconds) w).world.control.given ≡ w.control.given
unfolding stepped
tick_given t l w seconds = refl
