-- What the bridge hears makes a step of the machine of changes.
use Rattle.std.proofs.Common.{◌≡◌, ℕ, Bool, true, false, cond, not, ◌-◌, List, length, take, drop, Option, Some, None, Ok, Result, refl, sym, ap, subst, ◌∙◌, inl, inr, arith, eq-eqb}
use Rattle.std.proofs.lemmas.Bool.{cases_eq, ne_eqb, eqb-true, false≢true}
use Rattle.std.proofs.lemmas.List.{take_all, length-drop}
use mathlib.Core.Path.{fun_ext}
use Rattle.exb_model.specs.Setup.{Limits}
use Rattle.exb_model.specs.Tree.{Shape}
use Rattle.exb_lldp.specs.declared.announce.Announce.{Announce}
use Rattle.exb_lldp.specs.declared.announce.LldpFault.{LldpFault}
use Rattle.exb_lldp.specs.Announcements.{announced as announcement_in}
use Rattle.exb_ecp.specs.declared.pdu.Pdu.{Pdu}
use Rattle.exb_ecp.specs.declared.pdu.EcpFault.{EcpFault}
use Rattle.exb_csp.specs.declared.message.Message.{Message}
use Rattle.exb_csp.specs.Decoding.{read_message}
use Rattle.exb_ecp.specs.StopAndWait.{State as Ecp, heard as heard_request, is_last, is_fresh, stopped}
use Rattle.exb_csp.specs.declared.session.asker.Taken.{Taken}
use Rattle.exb_csp.specs.declared.session.asker.Taken.TheVariants as taken
use Rattle.exb_control_spec.specs.Decisions.{decide}
use Rattle.exb_control_spec.specs.Machine.{State, Moved, answered, heard, still}
use Rattle.exb_control.specs.declared.outbox.Outbox.{Outbox}
use Rattle.exb_control.specs.CallEffects.{IsMoved}
use Rattle.exb_control.specs.Controls.{Parts, state_of, decide_of}
use Rattle.exb_world_spec.specs.BridgeLearning.{announced, is_of}
use Rattle.exb_world_spec.specs.Effects.{only}
use Rattle.exb_world_spec.specs.ControlFrames.{bridge_acknowledgement, hears, hears_frame, hears_fresh, hears_message, hears_pdu, hears_request, moves, stops, to_extender}
use Rattle.exb_world_spec.specs.Worlds.{World, with_control}
use Rattle.exb_model.specs.Tables.{at}
use Rattle.exb_world_spec.specs.Runs.Requests.{AsksGo, AsksWell, CanGo}
use Rattle.exb_world_spec.specs.Runs.Sessions.{AreLow, Each}
use Rattle.exb_world_spec.proofs.ControlFrames.{to_extender_control}
use Rattle.exb_outbox.specs.declared.log.Log.{Log}
use Rattle.exb_bridge.specs.BridgeWorlds.{Whole}
use Rattle.exb_ecp.specs.Ends.{near_of}
use Rattle.exb_bridge.specs.TreeIndexes.{Site, limits_in}
use Rattle.exb_bridge.specs.BridgeWorlds.{world_in, IsAt, Does}
use Rattle.exb_bridge.proofs.RemainingEffects.{does_then}
use Rattle.exb_bridge.proofs.PartChanges.{near_in, near_at, tells_nothing}
use Rattle.exb_bridge.proofs.ControlSteps.{moved_is}

-- ---- the control has made a step, which is the machine's at this site
pub announced_at : (s : Site) (c : Whole) (n : ℕ) (a : Announce) (p : Parts) (out : Outbox) → IsAt s c → is_of s.tree n a ≡ true →
    IsMoved (heard (decide_of c.control.active) n (state_of c.control)) c.control p out → IsMoved (announced (decide s.tree (limits_in s)) s.tree n a (world_in c).control) c.control p out
announced_at s c n a p out at own moved =
    subst (λ (b : Bool). IsMoved (cond b (heard (decide s.tree (limits_in s)) n (state_of c.control)) (still (state_of c.control))) c.control p out) (sym own)
    (subst (λ (l : Limits). IsMoved (heard (decide s.tree l) n (state_of c.control)) c.control p out) at.limits
    (subst (λ (t : Shape). IsMoved (heard (decide t c.control.active.limits) n (state_of c.control)) c.control p out) at.shape moved))

-- another announcement is ignored
pub ignored : (s : Site) (c : Whole) (n : ℕ) (a : Announce) (f : List ℕ) (log : Log) → IsAt s c → is_of s.tree n a ≡ false → Does (hears_frame s.tree (limits_in s) n (Ok a) f (world_in c)) s c log log
ignored s c n a f log at other =
    let v : State = (world_in c).control in
    subst (λ (b : Bool). Does (moves s.tree (cond b (heard (decide s.tree (limits_in s)) n v) (still v)) (world_in c)) s c log log) (sym other)
    (tells_nothing (moves s.tree (still v) (world_in c)) s c log refl refl refl refl refl at)

pub answered_at : (s : Site) (c : Whole) (n : ℕ) (m : Message) (p : Parts) (out : Outbox) → IsAt s c →
    IsMoved (answered (decide_of c.control.active) n m (state_of c.control)) c.control p out → IsMoved (answered (decide s.tree (limits_in s)) n m (world_in c).control) c.control p out
answered_at s c n m p out at moved =
    subst (λ (l : Limits). IsMoved (answered (decide s.tree l) n m (state_of c.control)) c.control p out) at.limits
    (subst (λ (t : Shape). IsMoved (answered (decide t c.control.active.limits) n m (state_of c.control)) c.control p out) at.shape moved)

-- what is asked can go
pub asks_go : (t : Shape) (m : Moved) (old new : Parts) (out : Outbox) → IsMoved m old new out → AsksGo t m → AreLow (state_of new).askers → Each (CanGo t) out.asks
asks_go t m old new out moved go low = subst (Each (CanGo t)) (sym moved.asks) (go (subst (λ (x : State). AreLow x.askers) moved.state low))

-- it still can after a control frame went out
pub still_asks : (t : Shape) (l : Limits) (n : ℕ) (f : List ℕ) (s : Site) (c d : Whole) (old new : Log) → Does (to_extender t n f (world_in c)) s d old new → AsksWell t l (world_in c).control → AsksWell t l (world_in d).control
still_asks t l n f s c d old new moves asks = subst (AsksWell t l) (sym (ap (λ (w : World). w.control) moves.world ∙ to_extender_control t n f (world_in c))) asks

-- ---- answers
-- an answer that is taken ends the sending of its request
pub stops_is : (x : Taken) (n : ℕ) (old new : ℕ → Ecp) → ((r : _) → x ≡ taken.Answer r → new ≡ at n (stopped (old n)) old) → (x ≡ taken.Stale → new ≡ old) → (x ≡ taken.NotOurs → new ≡ old) →
    (w : World) → w.near ≡ old → stops x n w ≡ record w { near = new }
stops_is (taken.Answer r) n old new answer stale other w is =
    ap (λ (f : ℕ → Ecp). record w { near = at n (stopped (f n)) f }) is ∙ ap (λ (f : ℕ → Ecp). record w { near = f }) (sym (answer r refl))
stops_is taken.Stale n old new answer stale other w is = ap (λ (f : ℕ → Ecp). record w { near = f }) (is ∙ sym (stale refl))
stops_is taken.NotOurs n old new answer stale other w is = ap (λ (f : ℕ → Ecp). record w { near = f }) (is ∙ sym (other refl))

pub stopped_is : (m : Moved) (c : Whole) (p : Parts) (out : Outbox) (ends : List Ecp) (w : World) → IsMoved m c.control p out → w ≡ record (world_in c) { near = near_of ends } →
    world_in (record c { control = p; near = ends }) ≡ with_control m.state w
stopped_is m c p out ends w moved is =
    subst (λ (v : World). world_in (record c { control = p; near = ends }) ≡ with_control m.state v) (sym is)
    (ap (λ (v : World). record v { near = near_of ends }) (moved_is m c p out moved))

-- ---- requests
-- what is put where it was
at_own : {A : Type 0} (n : ℕ) (f : ℕ → A) → at n (f n) f ≡ f
at_own n f = fun_ext (λ m. by_place m)
  where
    by_place : (m : ℕ) → at n (f n) f m ≡ f m
    by_place m =
        elim (cases_eq m n) [
          | inl is ↦ rw (is, eq-eqb n n refl) refl
          | inr ne ↦ rw (ne_eqb m n ne) refl
        ]

-- a request that came before is the last one
stale : (sequence : ℕ) (e : Ecp) → is_fresh sequence e ≡ false → heard_request sequence e ≡ e
stale sequence e old = ap (λ (o : Option ℕ). record e { received = o }) (by_received e.received old)
  where
    by_received : (o : Option ℕ) → not (is_last o sequence) ≡ false → Some sequence ≡ o
    by_received None x = absurd (false≢true (sym x))
    by_received (Some r) x = ap (λ (k : ℕ). Some k) (sym (eqb-true r sequence (by_test (is_last (Some r) sequence) x)))
      where
        by_test : (b : Bool) → not b ≡ false → b ≡ true
        by_test true y = refl
        by_test false y = absurd (false≢true (sym y))

pub stale_on : (t : Shape) (l : Limits) (n sequence : ℕ) (payload frame : List ℕ) (s : Site) (c mid : Whole) (ends : List Ecp) (old new : Log) → frame ≡ bridge_acknowledgement sequence →
    Does (to_extender t n frame (world_in c)) s mid old new → near_of ends ≡ at n (heard_request sequence (near_of mid.near n)) (near_of mid.near) → is_fresh sequence (near_of mid.near n) ≡ false →
    Does (hears_request t l n sequence payload (world_in c)) s (record mid { near = ends }) old new
stale_on t l n sequence payload frame s c mid ends old new spelled sent near last =
    let d : Whole = record mid { near = ends } in
    let first : Does (to_extender t n (bridge_acknowledgement sequence) (world_in c)) s mid old new = subst (λ (f : List ℕ). Does (to_extender t n f (world_in c)) s mid old new) spelled sent in
    let same : near_of ends ≡ near_of mid.near = near ∙ ap (λ (e : Ecp). at n e (near_of mid.near)) (stale sequence (near_of mid.near n) last) ∙ at_own n (near_of mid.near) in
    let rest : Does (only (world_in mid)) s d new new =
    tells_nothing (only (world_in mid)) s d new (ap (λ (f : ℕ → Ecp). record (world_in mid) { near = f }) same) refl refl refl refl (near_at s mid first.at ends) in
    does_then (to_extender t n (bridge_acknowledgement sequence) (world_in c)) (λ v. hears_fresh t l n (is_fresh sequence (v.near n)) sequence payload v) s mid d old new new first
    (rw last rest)

pub fresh_on : (t : Shape) (l : Limits) (n sequence : ℕ) (payload frame : List ℕ) (s : Site) (c mid d : Whole) (ends : List Ecp) (old told new : Log) → frame ≡ bridge_acknowledgement sequence →
    Does (to_extender t n frame (world_in c)) s mid old told → near_of ends ≡ at n (heard_request sequence (near_of mid.near n)) (near_of mid.near) → is_fresh sequence (near_of mid.near n) ≡ true →
    Does (hears_message t l n (read_message payload) (world_in (record mid { near = ends }))) s d told new → Does (hears_request t l n sequence payload (world_in c)) s d old new
fresh_on t l n sequence payload frame s c mid d ends old told new spelled sent near fresh done =
    let first : Does (to_extender t n (bridge_acknowledgement sequence) (world_in c)) s mid old told = subst (λ (f : List ℕ). Does (to_extender t n f (world_in c)) s mid old told) spelled sent in
    does_then (to_extender t n (bridge_acknowledgement sequence) (world_in c)) (λ v. hears_fresh t l n (is_fresh sequence (v.near n)) sequence payload v) s mid d old told new first
    (rw fresh (subst (λ (w : World). Does (hears_message t l n (read_message payload) w) s d told new) (near_in mid n ends _ near) done))

-- a control frame that is an announcement
pub announcement_on : (t : Shape) (l : Limits) (n : ℕ) (f : List ℕ) (a : Announce) (s : Site) (c d : Whole) (old new : Log) → announcement_in f ≡ Ok a →
    Does (hears_frame t l n (Ok a) f (world_in c)) s d old new → Does (hears t l n f (world_in c)) s d old new
unfolding hears
announcement_on t l n f a s c d old new is done = subst (λ (r : Result Announce LldpFault). Does (hears_frame t l n r f (world_in c)) s d old new) (sym is) done

-- one that is a request
pub request_on : (t : Shape) (l : Limits) (n : ℕ) (r : Result Pdu EcpFault) (pdu : Pdu) (f payload : List ℕ) (s : Site) (c d : Whole) (old new : Log) → r ≡ Ok pdu → pdu.subtype ≡ 2 → pdu.acknowledgement ≡ false →
    payload ≡ drop 18 f → Does (hears_request t l n pdu.sequence payload (world_in c)) s d old new → Does (hears_pdu t l n r f (world_in c)) s d old new
request_on t l n r pdu f payload s c d old new is subtype request bytes done =
    subst (λ (x : Result Pdu EcpFault). Does (hears_pdu t l n x f (world_in c)) s d old new) (sym is)
    (rw (eq-eqb pdu.subtype 2 subtype, request) (subst (λ (p : List ℕ). Does (hears_request t l n pdu.sequence p (world_in c)) s d old new) bytes done))

-- what stands behind the header is all the rest
pub all_behind : (f : List ℕ) → take (length f - 18) (drop 18 f) ≡ drop 18 f
all_behind f = take_all (length f - 18) (drop 18 f) (rw (length-drop 18 f) (omega arith))
