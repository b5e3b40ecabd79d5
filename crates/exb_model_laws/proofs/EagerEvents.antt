-- What holds of each event of an eager history and the history before it.
use Rattle.std.proofs.Common.{◌≡◌, ℕ, Bool, true, false, cond, ◌==◌, List, [], ◌∷◌, refl}
use Rattle.std.specs.Prelude.{Option, Some, None, is_some}
use Rattle.std.specs.List.{AllByRecursion}
use Rattle.exb_model.specs.declared.command.Command.{Command}
use Rattle.exb_model.specs.declared.command.Command.TheVariants as command
use Rattle.exb_model.specs.declared.event.Event.{Event}
use Rattle.exb_model.specs.declared.event.Event.TheVariants as event
use Rattle.exb_model.specs.declared.event.Cause.{Cause}
use Rattle.exb_model.specs.Lists.{numbered}
use Rattle.exb_model.specs.Tree.{Shape, opening_ports}
use Rattle.exb_model.specs.Setup.{Limits}
use Rattle.exb_model.specs.History.{Basis, History, command_of, bridge_after}
use Rattle.exb_model.specs.Refusals.{refusal}
use Rattle.exb_model.specs.declared.arrival.Arrival.{Arrival}
use Rattle.exb_model.specs.Input.{Segment}
use Rattle.exb_model.specs.EagerHistory.{is_relayed, arrival_event, command_event, up_event, decided, risen, refusal_of, with_ups, opening, with_tick, with_commands, with_arrivals, eager_segment, eagerly}
use Rattle.exb_model.specs.LegalHistory.{EachEvent, IsDecided, IsEntered}
use Rattle.exb_model_laws.proofs.PlayRules.{entered}

module _ (P : History → Event → Type 0) (C : ℕ → Type 0) (Q : Arrival → Type 0) (t : Shape) (l : Limits) (b : Basis) where
  -- it holds of what an eager history is made of, where C holds of the numbers of its commands, and Q of its arrivals
  pub record HoldsEagerly : Type 0 where
    pub settled : (h : History) → P h event.Settled
    pub up : (h : History) (p : ℕ) → P h (up_event t l (bridge_after b h) p)
    pub tick : (h : History) (seconds : ℕ) → P h (event.Tick seconds)
    pub command : (h : History) (n : ℕ) → C n → P h (command_event t l b (bridge_after b h) n)
    pub arrival : (h : History) (a : Arrival) → Q a → P h (arrival_event (bridge_after b h) a)

  module _ (holds : HoldsEagerly) where
    each-ups : (h : History) (ps : List ℕ) → EachEvent P h → EachEvent P (with_ups t l b h ps)
    each-ups h [] all = all
    each-ups h (p ∷ ps) all = each-ups (up_event t l (bridge_after b h) p ∷ h) ps (all, holds.up h p)

    pub each-opening : EachEvent P (opening t l b)
    each-opening = (each-ups [] (opening_ports t) tt, holds.settled _)

    each-tick : (seconds : ℕ) (h : History) → EachEvent P h → EachEvent P (with_tick seconds h)
    each-tick seconds h all = by_test (seconds == 0)
      where
        by_test : (r : Bool) → EachEvent P (cond r h (event.Tick seconds ∷ h))
        by_test true = all
        by_test false = (all, holds.tick h seconds)

    each-commands : (h : History) (ns : List ℕ) → AllByRecursion C ns → EachEvent P h → EachEvent P (with_commands t l b h ns)
    each-commands h [] of all = all
    each-commands h (n ∷ ns) of all = each-commands (command_event t l b (bridge_after b h) n ∷ h) ns of.1 (all, holds.command h n of.0)

    each-arrivals : (h : History) (arrived : List Arrival) → AllByRecursion Q arrived → EachEvent P h → EachEvent P (with_arrivals b h arrived)
    each-arrivals h [] of all = all
    each-arrivals h (a ∷ rest) of all = each-arrivals (arrival_event (bridge_after b h) a ∷ h) rest of.1 (all, holds.arrival h a of.0)

    pub each-eagerly : (h : History) (ss : List Segment) → AllByRecursion (λ s. AllByRecursion C s.commands) ss → AllByRecursion (λ s. AllByRecursion Q s.arrivals) ss → EachEvent P h → EachEvent P (eagerly t l b h ss)
    each-eagerly h [] ordered of all = all
    each-eagerly h (s ∷ ss) ordered of all =
        each-eagerly (eager_segment t l b h s) ss ordered.1 of.1 (
          each-arrivals (with_commands t l b (with_tick s.seconds h) s.commands) s.arrivals of.0
              (each-commands (with_tick s.seconds h) s.commands ordered.0 (each-tick s.seconds h all)),
          holds.settled _,
        )

-- ---- commands are refused exactly where they are to be
-- the command with the number is there
abbrev pub IsThere : Basis → ℕ → Type 0
IsThere b n = is_some (command_of b n) ≡ true

is_decided : (t : Shape) (l : Limits) (b : Basis) (h : History) (n : ℕ) → IsThere b n → IsDecided t l b h (command_event t l b (bridge_after b h) n)
is_decided t l b h n there = by_command (command_of b n) refl there
  where
    by_cause : (c : Command) → command_of b n ≡ Some c → (r : Option Cause) → refusal t l (bridge_after b h) c ≡ r → IsDecided t l b h (decided n r)
    by_cause c is None e = rw is e
    by_cause c is (Some x) e = rw is e

    by_command : (o : Option Command) → command_of b n ≡ o → is_some o ≡ true → IsDecided t l b h (decided n (refusal_of t l (bridge_after b h) o))
    by_command None is none = absurd (cc)
    by_command (Some c) is some = by_cause c is (refusal t l (bridge_after b h) c) refl

no_decision : (t : Shape) (l : Limits) (b : Basis) (h : History) (p : ℕ) (r : Option Cause) → IsDecided t l b h (risen p r)
no_decision t l b h p None = tt
no_decision t l b h p (Some x) = tt

not_a_command : (t : Shape) (l : Limits) (b : Basis) (h : History) (r : Bool) (a : Arrival) → IsDecided t l b h (entered r a)
not_a_command t l b h true a = tt
not_a_command t l b h false a = tt

pub decides : (t : Shape) (l : Limits) (b : Basis) → HoldsEagerly (IsDecided t l b) (IsThere b) (λ a. Unit {0}) t l b
decides t l b = record {
  settled = λ h. tt;
  up = λ h p. no_decision t l b h p (refusal t l (bridge_after b h) (command.Up p));
  tick = λ h seconds. tt;
  command = is_decided t l b;
  arrival = λ h a u. not_a_command t l b h (is_relayed (bridge_after b h) a.port a.bytes) a;
}

-- ---- arrivals are relayed exactly where they are to be
-- the arrival has its place in its port's list
abbrev pub IsNumbered : (ℕ → List Arrival) → Arrival → Type 0
IsNumbered arrivals a = numbered (arrivals a.port) a.index ≡ Some a

is_entered : (arrivals : ℕ → List Arrival) (b : Basis) (h : History) (a : Arrival) → IsNumbered arrivals a → (r : Bool) → is_relayed (bridge_after b h) a.port a.bytes ≡ r →
    IsEntered b arrivals h (entered r a)
is_entered arrivals b h a is true e = e
is_entered arrivals b h a is false e = rw is e

no_command_enters : (arrivals : ℕ → List Arrival) (b : Basis) (h : History) (n : ℕ) (r : Option Cause) → IsEntered b arrivals h (decided n r)
no_command_enters arrivals b h n None = tt
no_command_enters arrivals b h n (Some x) = tt

no_up_enters : (arrivals : ℕ → List Arrival) (b : Basis) (h : History) (p : ℕ) (r : Option Cause) → IsEntered b arrivals h (risen p r)
no_up_enters arrivals b h p None = tt
no_up_enters arrivals b h p (Some x) = tt

pub enters : (arrivals : ℕ → List Arrival) (t : Shape) (l : Limits) (b : Basis) → HoldsEagerly (IsEntered b arrivals) (λ n. Unit {0}) (IsNumbered arrivals) t l b
enters arrivals t l b = record {
  settled = λ h. tt;
  up = λ h p. no_up_enters arrivals b h p (refusal t l (bridge_after b h) (command.Up p));
  tick = λ h seconds. tt;
  command = λ h n u. no_command_enters arrivals b h n (refusal_of t l (bridge_after b h) (command_of b n));
  arrival = λ h a is. is_entered arrivals b h a is (is_relayed (bridge_after b h) a.port a.bytes) refl;
}
