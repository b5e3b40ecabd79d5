-- What the bridge sends for a frame, and what it takes, done one by one.
use Rattle.std.proofs.Common.{◌≡◌, ℕ, ◌+◌, ◌<◌, ◌≤◌, if◌then◌else◌, Bool, true, false, List, drop, get_or, length, Option, Some, sym, subst, inl, inr, arith}
use Rattle.std.proofs.lemmas.Bool.{cases_lt, false≢true, lt-ltb}
use Rattle.std.proofs.lemmas.List.{get_or_default}
use Rattle.exb_model.specs.declared.vlan.Kind.{Kind}
use Rattle.exb_model.specs.ETags.{read_etag, stripped}
use Rattle.exb_model.specs.Frames.{egress, kind_of}
use Rattle.exb_model.specs.Setup.{Limits}
use Rattle.exb_model.specs.Tree.{is_external}
use Rattle.exb_frame.specs.Egress.{can_leave}
use Rattle.exb_relay.proofs.TaggedFrames.{egress_long}
use Rattle.exb_link.specs.declared.link_frame.Stamp.{Stamp}
use Rattle.exb_link.specs.declared.link_frame.LinkFrame.{LinkFrame}
use Rattle.exb_link.specs.LinkFrames.{is_control}
use Rattle.exb_world_spec.specs.Worlds.{World}
use Rattle.exb_world_spec.specs.Effects.{Effect, each}
use Rattle.exb_world_spec.specs.DataFrames.{arrival_by, bridge_takes, comes, comes_from, holder_by, takes_control}
use Rattle.exb_outbox.specs.declared.log.Log.{Log}
use Rattle.exb_bridge.specs.BridgeWorlds.{Whole}
use Rattle.exb_bridge.specs.RemainingEffects.{Leads}
use Rattle.exb_bridge.specs.TreeIndexes.{Site}
use Rattle.exb_bridge.specs.BridgeWorlds.{world_in, Does}
use Rattle.exb_bridge.proofs.EffectLoops.{each_leads}

-- an effect is another one that is equal to it
pub does_as : (e f : Effect) (s : Site) (c : Whole) (old new : Log) → e ≡ f → Does f s c old new → Does e s c old new
does_as e f s c old new is done = subst (λ (g : Effect). Does g s c old new) (sym is) done

-- a frame that may leave has its addresses, also as it leaves
pub leaves_addressed : (f : List ℕ) (kind : Kind) (v : ℕ) → can_leave (kind_of f) ≡ true → 12 ≤ length (egress f kind v)
unfolding kind_of
leaves_addressed f kind v leaves =
    elim (cases_lt (length f) 14) [
      | inl short ↦ absurd (let z : false ≡ true = rw (lt-ltb (length f) 14 short) at leaves in false≢true z)
      | inr long ↦ egress_long f kind v (omega (arith, long))
    ]

-- the frame of a word comes from the port whose channel it has
pub from_port : (s : Site) (c d : Whole) (o : Option ℕ) (p : ℕ) (stamp : Option Stamp) (t : Stamp) (f g : List ℕ) (old new : Log) → Some p ≡ o → stamp ≡ Some t → is_external s.tree p ≡ true →
    g ≡ f → Does (comes s.tree (arrival_by p t g) (world_in c)) s d old new → Does (comes_from s.tree o stamp f (world_in c)) s d old new
from_port s c d o p stamp t f g old new some stamped external same done =
    subst (λ (m : Option ℕ). Does (comes_from s.tree m stamp f (world_in c)) s d old new) some (
    subst (λ (m : Option Stamp). Does (comes_from s.tree (Some p) m f (world_in c)) s d old new) (sym stamped) (
    subst (λ (h : List ℕ). Does (comes_from s.tree (Some p) (Some t) h (world_in c)) s d old new) same (rw external done)))

-- a control word is taken as one
pub bridge_control : (s : Site) (l : Limits) (c d : Whole) (k m : ℕ) (x : LinkFrame) (f : List ℕ) (old new : Log) → is_control x ≡ true → f ≡ x.bytes → Does (takes_control s.tree l k m f (world_in c)) s d old new →
    Does (bridge_takes s.tree l k m x (world_in c)) s d old new
bridge_control s l c d k m x f old new control same done =
    subst (λ (b : Bool). Does (if b then takes_control s.tree l k m x.bytes (world_in c) else comes_from s.tree (holder_by (world_in c) k (read_etag x.bytes)) x.stamp (stripped x.bytes) (world_in c)) s d old new)
    (sym control) (subst (λ (g : List ℕ). Does (takes_control s.tree l k m g (world_in c)) s d old new) same done)

-- a loop over a list whose elements are read with a default
pub read_leads : {A : Type 0} (f : A → World → Effect) (whole : Effect) (xs : List A) (i : ℕ) (d : A) (s : Site) (c e : Whole) (old told new : Log) → i < length xs →
    Leads whole (each f (drop i xs) (world_in c)) old told → Does (f (get_or xs i d) (world_in c)) s e told new → Leads whole (each f (drop (i + 1) xs) (world_in e)) old new
read_leads f whole xs i d s c e old told new few leads does =
    each_leads f whole xs i (get_or xs i d) s c e old told new few (get_or_default xs i d (get_or xs i d) few) leads does
