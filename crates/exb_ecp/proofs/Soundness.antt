-- Each state that calls lead to is sound.
use Rattle.std.proofs.Common.{◌≡◌, ℕ, ◌+◌, ◌==◌, ◌<◌, ◌≤◌, true, false, cond, List, length, Option, Some, None, refl, arith}
use Rattle.std.specs.Prelude.{IfSome}
use Rattle.std.specs.Option.{ForSome}
use Rattle.std.proofs.lemmas.Bool.{eqb-false}
use Rattle.exb_ecp.specs.Calls.{Call, Submit, Stop, Acked, Received, Beat, called, CanBeCalled, KeepsSound}
use Rattle.exb_ecp.specs.StopAndWait.{Sending, State, after, unless_sequence, aged, IsOutstanding, IsSound}
use Rattle.exb_ecp.specs.declared.stop_and_wait.Ecp.TheInside.{Inside}
use Rattle.exb_ecp.specs.Ecp.{sending_of, state_of, IsKept}
use Rattle.exb_ecp.proofs.Sequences.{after_fits}

sending_sound : (latest : ℕ) (payload : List ℕ) (beats : Option ℕ) → latest < 65536 → ForSome beats (λ n. n < 12) → length payload ≤ 1024
    → IfSome (sending_of latest payload beats) (IsOutstanding (after latest))
sending_sound latest payload None l b p = tt
sending_sound latest payload (Some n) l b p = record { sequence = l; latest = refl; beats = b n refl; payload = p }

received_sound : (received : Option ℕ) → ForSome received (λ r. r < 65536) → IfSome received (λ r. r < 65536)
received_sound None h = tt
received_sound (Some r) h = h r refl

-- what the fields of an `Ecp` keep
pub state_sound : (e : Inside) → IsKept e → IsSound (state_of e)
state_sound e k = record {
  next = after_fits e.latest k.latest;
  sending = sending_sound e.latest e.payload.items e.beats k.latest k.beats k.payload;
  received = received_sound e.received k.received;
}

-- ---- calls

unless_sound : (next sequence : ℕ) (o : Option Sending) → IfSome o (IsOutstanding next) → IfSome (unless_sequence sequence o) (IsOutstanding next)
unless_sound next sequence None h = tt
unless_sound next sequence (Some x) h =
    elim (x.sequence == sequence) as (λ b. IfSome (cond b None (Some x)) (IsOutstanding next)) [ true ↦ tt | false ↦ h ]

aged_sound : (next : ℕ) (o : Option Sending) → IfSome o (IsOutstanding next) → IfSome (aged o) (IsOutstanding next)
aged_sound next None h = tt
aged_sound next (Some x) h =
    elim (x.beats + 1 == 12) as (λ b. (x.beats + 1 == 12) ≡ b
    → IfSome (cond b None (Some (record { sequence = x.sequence; beats = x.beats + 1; payload = x.payload }))) (IsOutstanding next)) [
      | true ↦ λ e. tt
      | false ↦ λ e. (let n : x.beats + 1 ≡ 12 → ⊥ = eqb-false (x.beats + 1) 12 e in let m : x.beats < 12 = h.beats in
          record { sequence = h.sequence; latest = h.latest; beats = omega arith; payload = h.payload })
    ] refl

keeps : (c : Call) (s : State) → CanBeCalled c → IsSound s → IsSound (called c s)
keeps (Submit payload) s few h = record {
  next = after_fits s.next h.next;
  sending = record { sequence = h.next; latest = refl; beats = omega arith; payload = few };
  received = h.received;
}
keeps Stop s given h = record { next = h.next; sending = tt; received = h.received }
keeps (Acked sequence) s given h = record { next = h.next; sending = unless_sound s.next sequence s.sending h.sending; received = h.received }
keeps (Received sequence) s fits h = record { next = h.next; sending = h.sending; received = fits }
keeps Beat s given h = record { next = h.next; sending = aged_sound s.next s.sending h.sending; received = h.received }

pub keeps_sound : KeepsSound
keeps_sound = record { begins = record { next = omega arith; sending = tt; received = tt }; keeps = keeps }
