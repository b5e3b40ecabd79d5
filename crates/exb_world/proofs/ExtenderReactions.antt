-- What extenders do with what comes to them.
use Rattle.std.proofs.Common.{◌≡◌, ℕ, ◌<◌, ◌%◌, true, false, List, [], ◌∷◌, ◌++◌, refl, ap, sym, subst, ◌∙◌, arith, inl, inr, eq-eqb}
use Rattle.std.specs.Prelude.{Option, Some, All, IsTrue}
use Rattle.std.proofs.lemmas.Bool.{cases_eq, ne_eqb, ltb-true}
use Rattle.std.proofs.lemmas.List.{append-nil}
use mathlib.Core.Path.{fun_ext}
use Rattle.exb_model.specs.declared.event.Event.TheVariants as event
use Rattle.exb_model.specs.declared.arrival.Arrival.{Arrival}
use Rattle.exb_model.specs.Tree.{Shape, device, port_number}
use Rattle.exb_link.specs.declared.link_frame.Stamp.{Stamp}
use Rattle.exb_link.specs.declared.link_frame.LinkFrame.{LinkFrame}
use Rattle.exb_extender.specs.declared.sends.Form.{Form}
use Rattle.exb_extender.specs.declared.sends.Out.{Out}
use Rattle.exb_extender.specs.declared.sends.Sends.{Sends}
use Rattle.exb_extender.specs.declared.sends.Side.{Side}
use Rattle.exb_extender.specs.declared.sends.Side.TheVariants as side
use Rattle.exb_extender.specs.Forwarding.{Sent, emitted, is_ignored, up}
use Rattle.exb_extender.specs.Machine.{ExtenderState, Input, Arrives, IsPort, Reaction, react}
use Rattle.exb_extender.specs.SingleSide.{GoesTo}
use Rattle.exb_extender.specs.SentFrames.{bytes_in, out_sent, sent_by}
use Rattle.exb_world_spec.specs.Worlds.{World, with_far}
use Rattle.exb_model.specs.Tables.{at}
use Rattle.exb_world_spec.specs.Effects.{Effect, each}
use Rattle.exb_world_spec.specs.ExtenderSteps.{does, sends, reacts, takes_from_below, arrives_at, ignored, stamp_of}
use Rattle.exb_outbox.specs.declared.log.Log.{Log}
use Rattle.exb_bridge.specs.BridgeWorlds.{Whole}
use Rattle.exb_world.specs.ArrivalPorts.{IsPortAt}
use Rattle.exb_extender.specs.Extenders.{Devices, far_of}
use Rattle.exb_extender.specs.Forms.{CanGo}
use Rattle.exb_bridge.specs.TreeIndexes.{Site}
use Rattle.exb_bridge.specs.BridgeWorlds.{world_in, all_left, IsAt, Does, KeepsTrace}
use Rattle.exb_bridge.proofs.PartChanges.{far_in, does_nothing}
use Rattle.exb_bridge.proofs.RemainingEffects.{each_one}

-- ---- an extender reacts
pub reacted : (t : Shape) (s : Site) (c d : Whole) (far : Devices) (n : ℕ) (stamp : Option Stamp) (i : Input) (f : List ℕ) (sent : Sends) (old new : Log) →
    far_of far ≡ at n (react i (far_of c.far n)).0 (far_of c.far) → sent_by f sent ≡ (react i (far_of c.far n)).1 →
    Does (each (sends t n stamp) (sent_by f sent) (world_in (record c { far = far }))) s d old new → Does (reacts t n stamp i (world_in c)) s d old new
reacted t s c d far n stamp i f sent old new state are done =
    subst (λ (xs : List Sent). Does (each (sends t n stamp) xs (with_far n (react i (far_of c.far n)).0 (world_in c))) s d old new) are
    (subst (λ (w : World). Does (each (sends t n stamp) (sent_by f sent) w) s d old new) (far_in c n far (react i (far_of c.far n)).0 state) done)

-- ---- it sends a frame on to one side, and nothing else
far_same : (n : ℕ) (w : World) → with_far n (w.far n) w ≡ w
far_same n w = ap (λ (f : ℕ → ExtenderState). record w { far = f }) (fun_ext (λ m. by_place m))
  where
    by_place : (m : ℕ) → at n (w.far n) w.far m ≡ w.far m
    by_place m =
        elim (cases_eq m n) [
          | inl is ↦ rw (is, eq-eqb n n refl) refl
          | inr ne ↦ rw (ne_eqb m n ne) refl
        ]

pub reacted_only : (t : Shape) (s : Site) (c d : Whole) (n : ℕ) (x : LinkFrame) (from : Side) (out : Out) (old new : Log) → GoesTo (far_of c.far n).tables from x.bytes out →
    Does (sends t n x.stamp (out_sent x.bytes out) (world_in c)) s d old new → Does (reacts t n x.stamp (Arrives from x.bytes) (world_in c)) s d old new
reacted_only t s c d n x from out old new goes done =
    let sent : Sent = out_sent x.bytes out in
    let w : World = world_in c in
    subst (λ (r : Reaction). Does (does t n x.stamp r w) s d old new) (sym (goes.reacts (far_of c.far n) refl))
    (subst (λ (e : Effect). Does e s d old new) (sym (each_one (sends t n x.stamp) sent (with_far n (w.far n) w)))
    (subst (λ (v : World). Does (sends t n x.stamp sent v) s d old new) (sym (far_same n w)) done))

-- ---- a word comes from below
pub from_cascade : (t : Shape) (n k : ℕ) (x : LinkFrame) (w : World) (s : Site) (d : Whole) (old new : Log) → (w.far n).tables.cascade k ≡ true →
    Does (reacts t n x.stamp (Arrives (side.Port k) x.bytes) w) s d old new → Does (takes_from_below t n k x w) s d old new
from_cascade t n k x w s d old new is done = rw is done

pub not_from_cascade : (t : Shape) (n k : ℕ) (x : LinkFrame) (s : Site) (c : Whole) (log : Log) → (far_of c.far n).tables.cascade k ≡ false → IsAt s c →
    Does (takes_from_below t n k x (world_in c)) s c log log
not_from_cascade t n k x s c log isnt is = rw isnt (does_nothing s c log is)

-- ---- a frame arrives
-- it is ignored
pub ignores : (s : Site) (c : Whole) (a : Arrival) (old new : Log) → new.events ≡ old.events ++ event.Ignored a.port a.index ∷ [] → new.passed ≡ old.passed → new.left ≡ old.left → KeepsTrace old new → IsAt s c →
    Does (ignored a (world_in c)) s c old new
ignores s c a old new events passed left trace is =
    record {
      world = refl;
      events = events;
      passed = passed ∙ sym (append-nil old.passed);
      left = ap all_left left ∙ sym (append-nil (all_left old.left));
      outs = trace.outs ∙ sym (append-nil old.outs.items);
      lines = trace.lines;
      tracing = trace.tracing;
      at = is;
    }

module _ (t : Shape) (a : Arrival) (w : World) where
  at_cascade : (w.far (device a.port)).tables.cascade (port_number a.port) ≡ true → arrives_at t a w ≡ ignored a w
  at_cascade is = rw is refl

  at_ignored : (w.far (device a.port)).tables.cascade (port_number a.port) ≡ false → is_ignored ((w.far (device a.port)).tables.own (port_number a.port)) a.bytes ≡ true → arrives_at t a w ≡ ignored a w
  unfolding emitted
  at_ignored outer is = rw (outer, is) refl

  at_sent : (w.far (device a.port)).tables.cascade (port_number a.port) ≡ false → is_ignored ((w.far (device a.port)).tables.own (port_number a.port)) a.bytes ≡ false →
      each (sends t (device a.port) (Some (stamp_of a))) (react (Arrives (side.Port (port_number a.port)) a.bytes) (w.far (device a.port))).1 (with_far (device a.port) (w.far (device a.port)) w) ≡ arrives_at t a w
  unfolding emitted
  at_sent outer isnt = rw (outer, isnt) refl

-- where a port is a cascade port
pub arrives_cascade : (t : Shape) (a : Arrival) (s : Site) (c : Whole) (old new : Log) → (far_of c.far (device a.port)).tables.cascade (port_number a.port) ≡ true →
    Does (ignored a (world_in c)) s c old new → Does (arrives_at t a (world_in c)) s c old new
arrives_cascade t a s c old new is done = subst (λ (e : Effect). Does e s c old new) (sym (at_cascade t a (world_in c) is)) done

-- where it isn't let in
pub arrives_ignored : (t : Shape) (a : Arrival) (s : Site) (c : Whole) (old new : Log) → (far_of c.far (device a.port)).tables.cascade (port_number a.port) ≡ false →
    IsTrue (is_ignored ((far_of c.far (device a.port)).tables.own (port_number a.port)) a.bytes) →
    Does (ignored a (world_in c)) s c old new → Does (arrives_at t a (world_in c)) s c old new
arrives_ignored t a s c old new outer is done = subst (λ (e : Effect). Does e s c old new) (sym (at_ignored t a (world_in c) outer is)) done

-- where it is
pub arrives_up : (t : Shape) (a : Arrival) (s : Site) (c d : Whole) (form : Form) (old new : Log) → (far_of c.far (device a.port)).tables.cascade (port_number a.port) ≡ false →
    is_ignored ((far_of c.far (device a.port)).tables.own (port_number a.port)) a.bytes ≡ false → up (bytes_in a.bytes form) ∷ [] ≡ emitted (far_of c.far (device a.port)).tables (side.Port (port_number a.port)) a.bytes →
    Does (sends t (device a.port) (Some (stamp_of a)) (up (bytes_in a.bytes form)) (world_in c)) s d old new → Does (arrives_at t a (world_in c)) s d old new
arrives_up t a s c d form old new outer isnt are done =
    let f = sends t (device a.port) (Some (stamp_of a)) in
    let r = react (Arrives (side.Port (port_number a.port)) a.bytes) (far_of c.far (device a.port)) in
    subst (λ (e : Effect). Does e s d old new) (at_sent t a (world_in c) outer isnt)
    (subst (λ (w : World). Does (each f r.1 w) s d old new) (sym (far_same (device a.port) (world_in c)))
    (subst (λ (xs : List Sent). Does (each f xs (world_in c)) s d old new) are
    (subst (λ (e : Effect). Does e s d old new) (sym (each_one f (up (bytes_in a.bytes form)) (world_in c))) done)))

-- ---- ports
-- a port of an extender as that has it
pub port_here : (s : Site) (c : Whole) (p n k : ℕ) → IsAt s c → IsPortAt s.tree p → n ≡ device p → k ≡ port_number p → IsPort (far_of c.far n) k
port_here s c p n k is port n_is k_is =
    let low : p % 64 < (far_of c.far (device p)).tables.ports = subst (λ (m : ℕ). p % 64 < m) (sym (is.ports (device p) port.extender)) (ltb-true _ _ port.port) in
    rw (n_is, k_is) (omega arith, omega (arith, low))

-- nothing is sent of a frame
pub none_go : (f : List ℕ) (outs : List Out) → outs ≡ [] → All (CanGo f) outs
none_go f outs none = subst (All (CanGo f)) (sym none) (λ k d low. absurd (omega (arith, low)))
