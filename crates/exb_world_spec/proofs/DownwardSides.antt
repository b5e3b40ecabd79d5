-- What an extender sends of a word from above goes down alone.
use Rattle.std.proofs.Common.{◌≡◌, ℕ, List, [], ◌∷◌, map}
use Rattle.exb_csp.specs.Execution.{ExtenderTables}
use Rattle.exb_model.specs.ExtenderForwarding.{emits}
use Rattle.exb_extender.specs.declared.sends.Side.TheVariants as side
use Rattle.exb_extender.specs.Forwarding.{Sent, emitted, forwarding_of}
use Rattle.exb_extender.specs.Forwarding.{sent_at as sent_down_at}
use Rattle.exb_world_spec.specs.Runs.Sessions.{Each}
use Rattle.exb_world_spec.proofs.LinkFrames.{each_range}

up_port : {k : ℕ} → side.Port k ≡ side.Up → ⊥
up_port e = cc

map_ports : (P : Sent → Type 0) (q : ℕ) (fs : List (List ℕ)) → ((f : List ℕ) → P (record { side = side.Port q; bytes = f })) → Each P (map (λ bytes. record { side = side.Port q; bytes = bytes }) fs)
map_ports P q [] all = tt
map_ports P q (f ∷ fs) all = (all f, map_ports P q fs all)

pub down_sides : (x : ExtenderTables) (f : List ℕ) → Each (λ (y : Sent). y.side ≡ side.Up → ⊥) (emitted x side.Up f)
unfolding emitted
down_sides x f = each_range (λ (y : Sent). y.side ≡ side.Up → ⊥) (sent_down_at x f) 1 x.ports (λ q low high. map_ports (λ (y : Sent). y.side ≡ side.Up → ⊥) q (emits (forwarding_of x) q f) (λ g e. up_port e))
