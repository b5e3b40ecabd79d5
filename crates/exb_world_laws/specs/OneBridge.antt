-- When a world in motion stands: after what was given, what happened and what has left its ports it is the one bridge,
-- but for what is still on its way.
use Rattle.std.specs.Prelude.{◌≡◌, ℕ, ◌+◌, ◌++◌, true, nat_lt, if◌then◌else◌, List, [], length, Option, Some, None, filter_map, reverse}
use Rattle.std.specs.List.{range_with_len}
use Rattle.exb_model.specs.declared.command.Command.TheVariants as command
use Rattle.exb_model.specs.declared.event.Event.{Event}
use Rattle.exb_model.specs.declared.event.Event.TheVariants as event
use Rattle.exb_model.specs.Tree.{Shape, device, is_external, is_extended, opening_ports}
use Rattle.exb_model.specs.Setup.{Limits}
use Rattle.exb_model.specs.ETags.{stripped}
use Rattle.exb_model.specs.declared.arrival.Arrival.{Arrival}
use Rattle.exb_model.specs.Lists.{numbered}
use Rattle.exb_model.specs.History.{Basis, History, bridge_after, now_after}
use Rattle.exb_model.specs.Learning.{remembered}
use Rattle.exb_model.specs.Refusals.{refusal}
use Rattle.exb_model.specs.LegalHistory.{EachEvent, number_of, Rise, relays_and_late, IsDecided, IsEntered}
use Rattle.exb_learn.specs.Calls.{if_live}
use Rattle.exb_control_spec.specs.declared.job.Job.{Job}
use Rattle.exb_control_spec.specs.declared.job.Job.TheVariants as job
use Rattle.exb_control_spec.specs.Runs.Journal.{pending}
use Rattle.exb_world_spec.specs.Worlds.{World, Left}
use Rattle.exb_flight.specs.Items.{Word, Item, data_of, Each}
use Rattle.exb_flight.specs.Tree.{IsLink, Over}
use Rattle.exb_flight.specs.FlightFacts.{AreOf}
use Rattle.exb_flight.specs.UpwardOrder.{waiting}
use Rattle.exb_flight.specs.NamedArrivals.{told_at, times, once_to, firsts, indices}
use Rattle.exb_flight.specs.Tokens.{data_words}
use Rattle.exb_flight.specs.Promises.{IsEven}
use Rattle.exb_world_laws.specs.WorldInput.{Given, arrivals_at, commands_of, indices_of, records_at, basis_with}

-- ---- what was given
-- The arrivals of each port have the indices 1, 2 and so on. The next index that is awaited at each port, and the
-- number of commands so far, follow them.
pub record FollowsGiven (w : World) (g : List Given) : Type 0 where
  pub indexed : (p : ℕ) → indices_of (arrivals_at p g) ≡ range_with_len 1 (length (arrivals_at p g))
  pub next : (p : ℕ) → w.next p ≡ length (arrivals_at p g) + 1
  pub commands : w.control.given ≡ length (commands_of g)

-- ---- rule 1: what is in force
-- Configuration and clock are those of the history, and the entries are those that it taught and that are live, each
-- with its time.
pub record IsInForce (i : Basis) (w : World) (h : History) : Type 0 where
  pub bridge : w.control.bridge ≡ bridge_after i h
  pub clock : w.table.clock ≡ now_after h
  pub learned : (v : ℕ) (m : List ℕ) → w.table.seen v m ≡ if_live (now_after h) i.ageing (remembered i h v m)

-- ---- rule 3: each arrival is named once
-- the data words on the upward links
abbrev pub upward : World → ℕ → List Item
upward w n = data_of (data_words (w.up n))

-- those of port p, from the link nearest the bridge on; a port of the bridge has none
abbrev pub waiting_at : Shape → World → ℕ → List Word
waiting_at t w p = if nat_lt p 64 then [] else waiting t (upward w) p

-- the indices that are to rise: all of a port of the bridge; of a port of an extender those of the Relays and of the
-- late ones among the Ignored, followed by those of the words on their way
abbrev pub rising_at : Shape → World → History → ℕ → List ℕ
rising_at t w h p =
    if nat_lt p 64 then firsts (told_at p h) else relays_and_late 0 (told_at p h) ++ indices (waiting_at t w p)

-- Of external port p the events and the words on their way name each arrival exactly once and nothing else, and they
-- are in order.
pub record IsNamed (t : Shape) (w : World) (g : List Given) (h : History) (p : ℕ) : Type 0 where
  pub once : (n : ℕ) → times n (firsts (told_at p h) ++ indices (waiting_at t w p))
      ≡ once_to (length (arrivals_at p g)) n
  pub rising : Rise 0 (rising_at t w h p)

-- a Relay has the moment and the bytes of its arrival; it and an Ignored are of an external port
abbrev pub IsOfArrival : Shape → List Given → Event → Type 0
IsOfArrival t g (event.Relay p n moment f) = (is_external t p ≡ true) × (numbered (records_at g p) n ≡ Some (moment, f))
IsOfArrival t g (event.Ignored p n) = is_external t p ≡ true
IsOfArrival t g _ = Unit {0}

-- An upward word on the link of extender n is of a port of that extender or of one below it, so it stands on its port's
-- way; its stamp has the moment of its arrival, and without its E-TAG it has its bytes. So the words that wait for each
-- port are all that there are.
pub record IsWordOf (t : Shape) (g : List Given) (n : ℕ) (f : Word) : Type 0 where
  pub outer : is_extended t f.port ≡ true
  pub below : Over t n (device f.port)
  pub record_of : numbered (records_at g f.port) f.index ≡ Some (f.moment, stripped f.bytes)

pub record NamesGiven (t : Shape) (w : World) (g : List Given) (h : History) : Type 0 where
  pub ports : (p : ℕ) → is_external t p ≡ true → IsNamed t w g h p
  pub events : Each (IsOfArrival t g) h
  pub words : (n : ℕ) → IsLink t n → Each (IsWordOf t g n) (data_words (w.up n))

-- ---- rule 4: each command and each automatic up is decided once, or waits
abbrev pub command_number : Job → Option ℕ
command_number (job.Ordered n c) = Some n
command_number _ = None

abbrev pub automatic_port : Job → Option ℕ
automatic_port (job.AutomaticUp p) = Some p
automatic_port _ = None

abbrev pub up_port : Event → Option ℕ
up_port (event.Up p) = Some p
up_port (event.NoUp p x) = Some p
up_port _ = None

-- The commands with Commit or Refuse, followed by those that wait, are those that were given, in order; and so are the
-- automatic ups.
pub record AreDecided (t : Shape) (i : Basis) (w : World) (g : List Given) (h : History) : Type 0 where
  pub commands : filter_map number_of (reverse h) ++ filter_map command_number (pending w.control)
      ≡ range_with_len 1 (length (commands_of g))
  pub waiting : AreOf i (pending w.control)
  pub automatic : filter_map up_port (reverse h) ++ filter_map automatic_port (pending w.control) ≡ opening_ports t

-- ---- rule 5: each event stands where it may
-- an automatic up stands by what is refused
abbrev pub IsRisen : Shape → Limits → Basis → History → Event → Type 0
IsRisen t l i h (event.Up p) = refusal t l (bridge_after i h) (command.Up p) ≡ None
IsRisen t l i h (event.NoUp p x) = refusal t l (bridge_after i h) (command.Up p) ≡ Some x
IsRisen t l i h _ = Unit {0}

-- A Relay stands only where the bridge relays, an Ignored only where it doesn't; Commit, Refuse, Up and NoUp by what is
-- refused.
pub record IsRightly (t : Shape) (l : Limits) (i : Basis) (arrivals : ℕ → List Arrival) (h : History)
    (e : Event) : Type 0 where
  pub entered : IsEntered i arrivals h e
  pub decided : IsDecided t l i h e
  pub risen : IsRisen t l i h e

-- ---- a world that stands
-- After the arrivals and commands `g`, the history `h`, and `left`, which has left the ports. The commands of the basis
-- are those that were given.
pub record Stands (t : Shape) (l : Limits) (i : Basis) (w : World) (g : List Given) (h : History)
    (left : List Left) : Type 0 where
  pub follows : FollowsGiven w g
  pub force : IsInForce (basis_with i g) w h
  pub even : IsEven t (basis_with i g) w h left
  pub names : NamesGiven t w g h
  pub decided : AreDecided t (basis_with i g) w g h
  pub rightly : EachEvent (IsRightly t l (basis_with i g) (λ p. arrivals_at p g)) h
