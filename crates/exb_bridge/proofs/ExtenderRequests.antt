-- What the bridge sends to an extender goes onto the link of the extender on its own port.
use Rattle.std.proofs.Common.{◌≡◌, ◌≢◌, ℕ, ◌+◌, ◌-◌, ◌*◌, ◌/◌, ◌<◌, ◌^◌, Bool, true, false, List, [], ◌∷◌, ◌++◌, Option, Some, None, sym, subst, ◌∙◌, arith}
use Rattle.std.specs.Prelude.{if◌then◌else◌, nat_lt}
use Rattle.std.proofs.lemmas.Bool.{lt-ltb, le-ltb}
use Rattle.exb_model.specs.ETags.{TagFits, tagged}
use Rattle.exb_model.specs.Tree.{Shape, on, trunk, device, is_extender}
use Rattle.exb_ecp.specs.StopAndWait.{State as Ecp, submitted, stopped}
use Rattle.exb_extender.specs.Forwarding.{channel_tag}
use Rattle.exb_link.specs.declared.link_frame.LinkFrame.{LinkFrame}
use Rattle.exb_control_spec.specs.Plans.HeldNumbers.{Held, channel_in}
use Rattle.exb_control_spec.proofs.Plans.ChannelOwners.{channel_found}
use Rattle.exb_csp.specs.Sessions.AskingEnd.{AskerState}
use Rattle.exb_world_spec.specs.Worlds.{World, BridgeOut, control_word}
use Rattle.exb_model.specs.Tables.{at}
use Rattle.exb_world_spec.specs.BridgeLearning.{channel_at_trunk}
use Rattle.exb_world_spec.specs.ExtenderSteps.{hung_on}
use Rattle.exb_world_spec.specs.ControlFrames.{bridge_request, puts, puts_tagged, to_extender, submits}
use Rattle.exb_world_spec.specs.Runs.Sessions.{AreLow}
use Rattle.exb_outbox.specs.declared.log.Log.{Log}
use Rattle.exb_bridge.specs.BridgeWorlds.{Whole}
use Rattle.exb_link.specs.Links.{words_of}
use Rattle.exb_ecp.specs.Ends.{near_of}
use Rattle.exb_bridge.specs.TreeIndexes.{Site}
use Rattle.exb_bridge.specs.BridgeWorlds.{world_in, IsAt, Does}
use Rattle.exb_bridge.proofs.PartChanges.{IsNoted, near_in, does_nothing, sends_down}

-- ---- numbers
-- a channel fits an E-TAG
pub channel_fits : (t : Shape) (h : Held) (p channel : ℕ) → channel_at_trunk t h p ≡ Some channel → TagFits (channel_tag channel)
channel_fits t h p channel is = by_test (is_extender t (device p)) is
  where
    by_test : (b : Bool) → (if b then channel_in h (trunk t (device p)) p else None) ≡ Some channel → TagFits (channel_tag channel)
    by_test true e =
        let high = (channel_found h (trunk t (device p)) p channel e).high in
        record { pcp = omega arith; ingress = omega arith; ecid = omega (arith, high) }
    by_test false e = absurd (none_some e)
      where
        none_some : None ≡ Some channel → ⊥
        none_some f = cc

-- the serials are lower than they have to be
pub serials_low : (askers : ℕ → AskerState) → ((n : ℕ) → (askers n).serial < 2 ^ 40) → AreLow askers
serials_low askers low n = (let x = low n in omega (arith, x))

-- ---- words
-- a control frame is put on a link
pub put_on : (s : Site) (c : Whole) (links : List (List LinkFrame)) (k below : ℕ) (frame : List ℕ) (old new : Log) →
    words_of links ≡ at below (words_of c.down below ++ control_word frame ∷ []) (words_of c.down) → IsAt s c → IsNoted (BridgeOut (k + 1) frame) old new → new.left ≡ old.left →
    Does (puts k below frame (world_in c)) s (record c { down = links }) old new
put_on s c links k below frame old new is here noted left = sends_down s c old new (BridgeOut (k + 1) frame) below (words_of c.down below ++ control_word frame ∷ []) here noted left links is

-- who hangs on the bridge port above an extender
pub trunk_below : (t u : Shape) (n p top : ℕ) (o : Option ℕ) (m : ℕ) → u ≡ t → top ≡ trunk u n + 1 → p ≡ 64 * 0 + (top - 1) → o ≡ hung_on u p → o ≡ Some m → hung_on t (trunk t n) ≡ Some m
trunk_below t u n p top o m tree is place found has =
    let here : p ≡ trunk u n = omega (arith, is, place) in
    subst (λ (x : Shape). hung_on x (trunk x n) ≡ Some m) tree (subst (λ (k : ℕ). hung_on u k ≡ Some m) here (sym found ∙ has))

-- the channel of the port on which it hangs
pub channel_has : (t u : Shape) (h : Held) (n p : ℕ) (o : Option ℕ) (channel : ℕ) → u ≡ t → p ≡ on t n → o ≡ channel_at_trunk u h p → o ≡ Some channel → channel_at_trunk t h (on t n) ≡ Some channel
channel_has t u h n p o channel tree place found has =
    subst (λ (k : ℕ). channel_at_trunk t h k ≡ Some channel) place (subst (λ (x : Shape). channel_at_trunk x h p ≡ Some channel) tree (sym found ∙ has))

-- nothing hangs on that port
pub none_below : (s : Site) (c : Whole) (k : ℕ) (below channel : Option ℕ) (frame : List ℕ) (log : Log) → below ≡ None → IsAt s c → Does (puts_tagged k below channel frame (world_in c)) s c log log
none_below s c k below channel frame log is at = rw is (does_nothing s c log at)

-- it has no channel
pub no_channel : (s : Site) (c : Whole) (k : ℕ) (below channel : Option ℕ) (frame : List ℕ) (log : Log) → channel ≡ None → IsAt s c → Does (puts_tagged k below channel frame (world_in c)) s c log log
no_channel s c k below channel frame log is at = rw is (by_below below)
  where
    by_below : (o : Option ℕ) → Does (puts_tagged k o None frame (world_in c)) s c log log
    by_below None = does_nothing s c log at
    by_below (Some m) = does_nothing s c log at

-- it goes by way of the extender on that port, with its channel
pub tagged_on : (s : Site) (c d : Whole) (k : ℕ) (below channel : Option ℕ) (frame : List ℕ) (m n : ℕ) (old new : Log) → below ≡ Some m → channel ≡ Some n →
    Does (puts k m (tagged frame (channel_tag n)) (world_in c)) s d old new → Does (puts_tagged k below channel frame (world_in c)) s d old new
tagged_on s c d k below channel frame m n old new is has moves = rw (is, has) moves

-- ---- to an extender
-- it hangs on the bridge
pub near_by : (t : Shape) (s : Site) (c d : Whole) (n : ℕ) (frame : List ℕ) (old new : Log) → on t n / 64 ≡ 0 → Does (puts (on t n) n frame (world_in c)) s d old new → Does (to_extender t n frame (world_in c)) s d old new
near_by t s c d n frame old new low moves =
    let is : nat_lt (on t n) 64 ≡ true = lt-ltb (on t n) 64 (omega (arith, low)) in
    rw is moves

-- it hangs deeper
pub deeper : (t : Shape) (s : Site) (c d : Whole) (n : ℕ) (frame : List ℕ) (old new : Log) → on t n / 64 ≢ 0 →
    Does (puts_tagged (trunk t n) (hung_on t (trunk t n)) (channel_at_trunk t (world_in c).control.held (on t n)) frame (world_in c)) s d old new → Does (to_extender t n frame (world_in c)) s d old new
deeper t s c d n frame old new high moves =
    let is : nat_lt (on t n) 64 ≡ false = le-ltb (on t n) 64 (omega (arith, high)) in
    rw is moves

-- a message is submitted, and its frame goes out
pub submitted_on : (t : Shape) (s : Site) (c d : Whole) (n : ℕ) (bytes payload frame : List ℕ) (ends : List Ecp) (old new : Log) → payload ≡ bytes → frame ≡ bridge_request (near_of c.near n).next payload →
    near_of ends ≡ at n (submitted payload (stopped (near_of c.near n))) (near_of c.near) → Does (to_extender t n frame (world_in (record c { near = ends }))) s d old new → Does (submits t n bytes (world_in c)) s d old new
submitted_on t s c d n bytes payload frame ends old new is spelled near moves =
    subst (λ (p : List ℕ). Does (submits t n p (world_in c)) s d old new) is
    (subst (λ (w : World). Does (to_extender t n (bridge_request (near_of c.near n).next payload) w) s d old new) (near_in c n ends _ near)
    (subst (λ (f : List ℕ). Does (to_extender t n f (world_in (record c { near = ends }))) s d old new) spelled moves))
