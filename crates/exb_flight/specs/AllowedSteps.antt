-- When each step may come.
use Rattle.std.specs.Prelude.{◌≡◌, ℕ, ◌+◌, ◌≤◌, ◌<◌, true, false, List, [], ◌∷◌, Some, ⊤, ◌⊎◌}
use Rattle.exb_model.specs.declared.event.Event.{Event}
use Rattle.exb_model.specs.declared.event.Event.TheVariants as event
use Rattle.exb_model.specs.ETags.{Tag, read_etag}
use Rattle.exb_model.specs.Tree.{Shape, device, on, is_extended}
use Rattle.exb_model.specs.Setup.{Limits, NamesExternal}
use Rattle.exb_model.specs.History.{Basis, command_of}
use Rattle.exb_csp.specs.declared.message.Response.{Response}
use Rattle.exb_model.specs.Frames.{IsBytes}
use Rattle.exb_config.specs.Pvids.{HasPvids}
use Rattle.exb_control_spec.specs.Machine.{Work}
use Rattle.exb_control_spec.specs.Runs.Systems.{IsStray}
use Rattle.exb_control_spec.specs.Runs.Systems as systems
use Rattle.exb_flight.specs.Items.{Word, Key, Item, is_key, words_of, leads}
use Rattle.exb_flight.specs.Tree.{IsLink}
use Rattle.exb_flight.specs.Flight.{Flight, Stamp, Step, Arrive, CarryUp, CarryIn, Relay, CarryDown, SendDown, SendUp, LoseDown, LoseUp, Move, Note, tables_of, bridge_of, work_of, serial_of, key_of, stepped}

-- f is the first data word of a link
pub record IsFirst (s : Shape) (links : ℕ → List Item) (n : ℕ) (f : Word) : Type 0 where
  pub link : IsLink s n
  pub rest : List Word
  pub first : words_of (links n) ≡ f ∷ rest

-- a frame of a port of an extender, with the E-TAG that this puts in
pub record CanArrive (s : Shape) (w : Flight) (p : Stamp) (g : List ℕ) : Type 0 where
  pub outer : is_extended s p.port ≡ true
  pub tag : Tag
  pub read : read_etag g ≡ Some tag
  pub own : tag.ecid ≡ (tables_of w).own p.port

-- the port is present; the frame's bytes are bytes, and PVIDs are VLANs
pub record CanRelay (w : Flight) (p : Stamp) (f : List ℕ) : Type 0 where
  pub present : (bridge_of w).present p.port ≡ true
  pub bytes : IsBytes f
  pub pvids : HasPvids (bridge_of w)

-- ---- control words
-- one of a request that was asked once and isn't outstanding
pub record IsOld (w : Flight) (k : Key) : Type 0 where
  pub asked : k.serial ≤ serial_of w.system.state k.extender
  pub over : (v : Work) → work_of w ≡ Some v → is_key k (key_of w.system.state v) ≡ false

-- the outstanding request, from the bridge, or from the link above, where it stands before all data words
pub record IsAsked (s : Shape) (w : Flight) (n : ℕ) (k : Key) : Type 0 where
  pub work : Work
  pub at_work : work_of w ≡ Some work
  pub key : k ≡ key_of w.system.state work
  pub from : (on s n < 64) ⊎ (leads k (w.down (device (on s n))) ≡ true)

-- its answer, once it is executed: from its extender, or from a link below, where it stands before all data words
pub record IsAnswered (s : Shape) (w : Flight) (n : ℕ) (k : Key) : Type 0 where
  pub work : Work
  pub at_work : work_of w ≡ Some work
  pub key : k ≡ key_of w.system.state work
  pub response : Response
  pub answer : w.system.answer ≡ Some response
  pub from : (n ≡ work.first.extender) ⊎ ((x : ℕ) × (64 ≤ on s x) × (device (on s x) ≡ n) × (leads k (w.up x) ≡ true))

-- ---- the system of changes
-- An extender executes the outstanding request where that stands before all data words of its link, and its answer is
-- taken where it does on the link of an extender on the bridge. Commands are those of the history's basis, in order.
abbrev pub CanMove : Shape → Basis → Flight → systems.Step → Type 0
CanMove s i w (systems.Order c) = NamesExternal s c × (command_of i (w.system.state.given + 1) ≡ Some c)
CanMove s i w (systems.Hear n) = ⊤
CanMove s i w systems.Execute = (v : Work) → work_of w ≡ Some v
    → leads (key_of w.system.state v) (w.down v.first.extender) ≡ true
CanMove s i w systems.Answer = (v : Work) → work_of w ≡ Some v → (n : ℕ) × (on s n < 64)
    × (leads (key_of w.system.state v) (w.up n) ≡ true)
CanMove s i w (systems.Stray n m) = IsStray w.system.state n m
CanMove s i w systems.Beat = ⊤

-- no frame is relayed and the configuration stays
abbrev pub IsQuiet : Event → Type 0
IsQuiet (event.Relay p n t f) = ⊥
IsQuiet (event.Commit n) = ⊥
IsQuiet (event.Up p) = ⊥
IsQuiet _ = ⊤

abbrev pub Can : Shape → Basis → Flight → Step → Type 0
Can s i w (Arrive p g) = CanArrive s w p g
Can s i w (CarryUp n f) = IsFirst s w.up n f × (64 ≤ on s n)
Can s i w (CarryIn n f) = IsFirst s w.up n f × (on s n < 64)
Can s i w (Relay p f) = CanRelay w p f
Can s i w (CarryDown n f) = IsFirst s w.down n f
Can s i w (SendDown n k) = IsOld w k ⊎ IsAsked s w n k
Can s i w (SendUp n k) = IsOld w k ⊎ IsAnswered s w n k
Can s i w (LoseDown n at) = ⊤
Can s i w (LoseUp n at) = ⊤
Can s i w (Move step) = CanMove s i w step
Can s i w (Note e) = IsQuiet e

abbrev pub run : Shape → Limits → Basis → Flight → List Step → Flight
run s l i w [] = w
run s l i w (x ∷ xs) = run s l i (stepped s l i w x) xs

abbrev pub Runs : Shape → Limits → Basis → Flight → List Step → Type 0
Runs s l i w [] = ⊤
Runs s l i w (x ∷ xs) = Can s i w x × Runs s l i (stepped s l i w x) xs
