-- What a frame that arrives leaves.
use Rattle.std.proofs.Common.{◌≡◌, ℕ, ◌++◌, ◌==◌, List, [], ◌∷◌, length, drop, map, Some, refl, ap, ◌∙◌, subst, inl, inr}
use Rattle.std.specs.Prelude.{Result, Ok, Err, OnOk}
use Rattle.std.proofs.lemmas.Bool.{cases_Bool}
use Rattle.exb_world_spec.specs.Worlds.{left_at, Arrive, Left}
use Rattle.exb_net_spec.specs.NetHistory.{Crossing, crosses}
use Rattle.exb_model.specs.declared.arrival.Arrival.{Arrival}
use Rattle.exb_outbox.specs.declared.log.Left.{Left as Leaving}
use Rattle.exb_world.specs.WorldContracts.{Network}
use Rattle.exb_bridge.specs.BridgeWorlds.{all_left}
use Rattle.exb_schedule.specs.PlayedSegments.{IsPlayedOut}
use Rattle.exb_net.specs.declared.crossing.Crossing.{Crossing as Queued}
use Rattle.exb_net.specs.declared.wired_ports.WiredPort.{WiredPort}
use Rattle.exb_net.specs.Crossings.{all_crossing}
use Rattle.exb_net.specs.WiredPorts.{next_in, sent_over, with_next}
use Rattle.exb_net.specs.Nodes.{HasEntered}

dropped_front : (xs ys : List Left) → drop (length xs) (xs ++ ys) ≡ ys
dropped_front [] ys = refl
dropped_front (x ∷ xs) ys = dropped_front xs ys

since : (xs ys gone : List Left) (k : ℕ) → k ≡ length xs → ys ≡ xs ++ gone → drop k ys ≡ gone
since xs ys gone k size e = ap (λ (n : ℕ). drop n ys) size ∙ ap (drop (length xs)) e ∙ dropped_front xs gone

pub entered_so : (a : Arrival) (ends now : List WiredPort) (old new : Network) (was is : List Leaving) (size : ℕ) (before after : List Queued) → was ≡ old.log.left → size ≡ length (all_left was) → is ≡ new.log.left → now ≡ ends →
    IsPlayedOut (Arrive a ∷ []) old new → all_crossing after ≡ all_crossing before ++ sent_over (drop size (all_left is)) now → HasEntered a ends old new before after
entered_so a ends now old new was is size before after e s f g played sent = record {
  played = played;
  sent = λ gone goes.
      let same : drop size (all_left is) ≡ gone =
      since (all_left old.log.left) (all_left is) gone size (s ∙ ap (λ (xs : List Leaving). length (all_left xs)) e) (ap all_left f ∙ goes) in
      sent ∙ ap (λ (xs : List WiredPort). all_crossing before ++ sent_over (drop size (all_left is)) xs) g ∙ ap (λ (xs : List Left). all_crossing before ++ sent_over xs ends) same;
}

-- what goes over the ends doesn't depend on their indices
renumbered : (p k : ℕ) (left : List Left) (ends : List WiredPort) → sent_over left (map (with_next p k) ends) ≡ sent_over left ends
renumbered p k left [] = refl
renumbered p k left (x ∷ xs) = elim (cases_Bool (x.port == p)) [
  | inl e ↦ rw e (ap (λ (zs : List Crossing). crosses (Some x.far) (left_at x.port left) ++ zs) (renumbered p k left xs))
  | inr e ↦ rw e (ap (λ (zs : List Crossing). crosses (Some x.far) (left_at x.port left) ++ zs) (renumbered p k left xs))
]

pub came_so : (p k i moment : ℕ) (bytes : List ℕ) (ends more : List WiredPort) (old new : Network) (before after : List Queued) → more ≡ map (with_next p k) ends → i ≡ next_in ends p →
    HasEntered (record { port = p; index = i; moment = moment; bytes = bytes }) more old new before after → HasEntered (record { port = p; index = next_in ends p; moment = moment; bytes = bytes }) ends old new before after
came_so p k i moment bytes ends more old new before after e f h =
    record {
      played = subst (λ (j : ℕ). IsPlayedOut (Arrive (record { port = p; index = j; moment = moment; bytes = bytes }) ∷ []) old new) f h.played;
      sent = λ gone g. h.sent gone g ∙ ap (λ (xs : List Crossing). all_crossing before ++ xs) (ap (sent_over gone) e ∙ renumbered p k gone ends);
    }

pub when_ok : {A E P Q : Type 0} (r : Result A E) → (P → Q) → OnOk r P → OnOk r Q
when_ok (Ok x) f p = f p
when_ok (Err e) f p = p

pub on_ok_of : {A E P : Type 0} (r : Result A E) → P → OnOk r P
on_ok_of (Ok x) p = p
on_ok_of (Err e) p = tt
