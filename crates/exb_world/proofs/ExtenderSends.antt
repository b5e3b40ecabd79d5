-- What an extender sends of its own, and all that it sends.
use Rattle.std.proofs.Common.{◌≡◌, ℕ, List, [], ◌∷◌, ◌++◌, map, refl, ap, sym, subst}
use Rattle.std.specs.Prelude.{Option}
use Rattle.exb_model.specs.ETags.{stripped}
use Rattle.exb_model.specs.Tree.{Shape}
use Rattle.exb_link.specs.declared.link_frame.Stamp.{Stamp}
use Rattle.exb_extender.specs.declared.sends.Sends.{Sends}
use Rattle.exb_extender.specs.declared.sends.Form.TheVariants.{AsIs, Stripped}
use Rattle.exb_extender.specs.declared.sends.Out.{Out}
use Rattle.exb_extender.specs.declared.sends.Side.TheVariants.{Up}
use Rattle.exb_extender.specs.Forwarding.{up}
use Rattle.exb_extender.specs.SentFrames.{bytes_in, own_sent, out_sent, sent_by}
use Rattle.exb_world_spec.specs.Effects.{Effect, each}
use Rattle.exb_world_spec.specs.ExtenderSteps.{sends, sent_to}
use Rattle.exb_outbox.specs.declared.log.Log.{Log}
use Rattle.exb_bridge.specs.BridgeWorlds.{Whole}
use Rattle.exb_bridge.specs.TreeIndexes.{Site}
use Rattle.exb_bridge.specs.BridgeWorlds.{world_in, IsAt, Does}
use Rattle.exb_bridge.proofs.PartChanges.{does_nothing}
use Rattle.exb_bridge.proofs.RemainingEffects.{each_one, does_parts}

-- an empty frame isn't sent
pub own_none : (t : Shape) (n : ℕ) (stamp : Option Stamp) (f : List ℕ) (s : Site) (c : Whole) (log : Log) → f ≡ [] → IsAt s c → Does (each (sends t n stamp) (own_sent f) (world_in c)) s c log log
own_none t n stamp f s c log none is = subst (λ (xs : List ℕ). Does (each (sends t n stamp) (own_sent xs) (world_in c)) s c log log) (sym none) (does_nothing s c log is)

-- another one goes up
pub own_goes : (t : Shape) (n : ℕ) (stamp : Option Stamp) (f : List ℕ) (s : Site) (c d : Whole) (old new : Log) → (f ≡ [] → ⊥) →
    Does (sent_to t n stamp Up f (world_in c)) s d old new → Does (each (sends t n stamp) (own_sent f) (world_in c)) s d old new
own_goes t n stamp [] s c d old new some done = absurd (some refl)
own_goes t n stamp (b ∷ bs) s c d old new some done =
    subst (λ (e : Effect). Does e s d old new) (sym (each_one (sends t n stamp) (up (b ∷ bs)) (world_in c))) done

-- the frame in its forms, then the extender's own frames
pub all_sent : (t : Shape) (n : ℕ) (stamp : Option Stamp) (f : List ℕ) (x : Sends) (s : Site) (b c d e : Whole) (old told more new : Log) →
    Does (each (sends t n stamp) (map (out_sent f) x.frames.items) (world_in b)) s c old told →
    Does (each (sends t n stamp) (own_sent x.first.items) (world_in c)) s d told more →
    Does (each (sends t n stamp) (own_sent x.second.items) (world_in d)) s e more new →
    Does (each (sends t n stamp) (sent_by f x) (world_in b)) s e old new
all_sent t n stamp f x s b c d e old told more new frames first second =
    does_parts (sends t n stamp) (map (out_sent f) x.frames.items) (own_sent x.first.items ++ own_sent x.second.items) (world_in b) s c e old told new frames
    (does_parts (sends t n stamp) (own_sent x.first.items) (own_sent x.second.items) (world_in c) s d e told more new first second)

-- a frame that goes on without its E-TAG
pub without_tag : (t : Shape) (n : ℕ) (stamp : Option Stamp) (f : List ℕ) (out : Out) (s : Site) (c d : Whole) (old new : Log) → out.form ≡ Stripped →
    Does (sent_to t n stamp out.to (stripped f) (world_in c)) s d old new → Does (sends t n stamp (out_sent f out) (world_in c)) s d old new
without_tag t n stamp f out s c d old new is done = subst (λ (bytes : List ℕ). Does (sent_to t n stamp out.to bytes (world_in c)) s d old new) (sym (ap (bytes_in f) is)) done

-- a frame that goes on as it is
pub as_it_is : (t : Shape) (n : ℕ) (stamp : Option Stamp) (f : List ℕ) (out : Out) (s : Site) (c d : Whole) (old new : Log) → out.form ≡ AsIs →
    Does (sent_to t n stamp out.to f (world_in c)) s d old new → Does (sends t n stamp (out_sent f out) (world_in c)) s d old new
as_it_is t n stamp f out s c d old new is done = subst (λ (bytes : List ℕ). Does (sent_to t n stamp out.to bytes (world_in c)) s d old new) (sym (ap (bytes_in f) is)) done
