-- What a setup sets up: its tree, its limits and the configuration to start with.
use Rattle.std.specs.Prelude.{◌≡◌, ◌≢◌, ◌⊎◌, ℕ, ◌+◌, ◌-◌, ◌*◌, ◌<◌, ◌≤◌, ◌&&◌, nat_lt, true, List, [], ◌∷◌, replicate, set, length, slice_index, fold, All, AllPairs}
use Rattle.exb_model.specs.declared.port_set.PortSet.{PortSet}
use Rattle.exb_model.specs.declared.setup.Place.{Place}
use Rattle.exb_model.specs.declared.setup.Place.TheVariants as place
use Rattle.exb_model.specs.declared.setup.ExtenderSetup.{ExtenderSetup}
use Rattle.exb_model.specs.declared.setup.Setup.{Setup}
use Rattle.exb_model.specs.declared.command.Command.{Command}
use Rattle.exb_model.specs.declared.command.Command.TheVariants as command
use Rattle.exb_model.specs.Ports.{port_in}
use Rattle.exb_model.specs.Tree.{Shape, IsTree, is_external, cascades_under}
use Rattle.exb_model.specs.Configuration.{Bridge, empty_bridge, after}

-- the port at a place
abbrev pub port_at : Place → ℕ
port_at (place.Bridge k) = k - 1
port_at (place.Extender n k) = 64 * n + (k - 1)

-- a table by extender with a value of each
abbrev pub lay : (ExtenderSetup → ℕ) → List ℕ → List ExtenderSetup → List ℕ
lay value table [] = table
lay value table (e ∷ es) = lay value (set table e.number (value e)) es

-- the tree of a setup
unfoldable pub shape_of : Setup → Shape
shape_of s =
    record {
      ports = lay (λ e. e.ports) (set (replicate 65 0) 0 s.ports) s.extenders;
      on = lay (λ e. port_at e.on) (replicate 65 0) s.extenders;
    }

-- tables with a place for each device, and with ports
pub record AreTables (ports hangs : List ℕ) : Type 0 where
  pub ports_sized : length ports ≡ 65
  pub on_sized : length hangs ≡ 65
  pub fits : (n : ℕ) → slice_index hangs n < 4160

-- how many numbers each space has: E-channels, and groups
pub record Limits : Type 0 where
  pub channels : ℕ
  pub groups : ℕ

abbrev pub limits_of : Setup → Limits
limits_of s = record { channels = s.channels; groups = s.groups }

-- Start(I): the local external ports present, nothing else set, and then the commands of `start`
unfoldable pub start_of : Setup → Bridge
start_of s = fold (λ k c. after c k) (empty_bridge (λ q. nat_lt q 64 && is_external (shape_of s) q)) s.start

-- ---- when a setup is valid
abbrev pub IsPlace : Place → Type 0
IsPlace (place.Bridge k) = (1 ≤ k) × (k ≤ 64)
IsPlace (place.Extender n k) = (1 ≤ n) × (n ≤ 64) × (1 ≤ k) × (k ≤ 64)

pub record InRange (e : ExtenderSetup) : Type 0 where
  pub numbered : 1 ≤ e.number
  pub number : e.number ≤ 64
  pub some : 1 ≤ e.ports
  pub ports : e.ports ≤ 64
  pub place : IsPlace e.on

abbrev pub IsAgeing : ℕ → Type 0
IsAgeing a = (a ≡ 0) ⊎ ((10 ≤ a) × (a ≤ 1000000))

abbrev pub AreExternal : Shape → PortSet → Type 0
AreExternal t s = (q : ℕ) → port_in s q ≡ true → is_external t q ≡ true

-- the command names external ports alone
abbrev pub NamesExternal : Shape → Command → Type 0
NamesExternal t (command.Vlan v tagged untagged) = AreExternal t tagged × AreExternal t untagged
NamesExternal t (command.Member v p kind) = is_external t p ≡ true
NamesExternal t (command.Unmember v p) = is_external t p ≡ true
NamesExternal t (command.Pvid p v) = is_external t p ≡ true
NamesExternal t (command.Accept p types) = is_external t p ≡ true
NamesExternal t (command.Filter p on) = is_external t p ≡ true
NamesExternal t (command.Isolate p on) = is_external t p ≡ true
NamesExternal t (command.Static v m ports) = AreExternal t ports
NamesExternal t (command.Unstatic v m) = Unit {0}
NamesExternal t (command.Up p) = is_external t p ≡ true
NamesExternal t (command.Down p) = is_external t p ≡ true

-- no port goes up or down at the start
abbrev pub IsStart : Shape → Command → Type 0
IsStart t (command.Up p) = ⊥
IsStart t (command.Down p) = ⊥
IsStart t c = NamesExternal t c

-- All numbers are in their ranges, the extenders have distinct numbers and make a tree, no number space
-- is smaller than its cascade ports need, and the start speaks of external ports.
pub record IsValid (s : Setup) : Type 0 where
  pub some_ports : 1 ≤ s.ports
  pub ports : s.ports ≤ 64
  pub some_channels : 1 ≤ s.channels
  pub channels : s.channels ≤ 4094
  pub some_groups : 1 ≤ s.groups
  pub groups : s.groups ≤ 12288
  pub ageing : IsAgeing s.ageing
  pub ranges : All InRange s.extenders
  pub distinct : AllPairs (λ a b. a.number ≢ b.number) s.extenders
  pub tree : IsTree (shape_of s)
  pub enough_channels : (k : ℕ) → k < 64 → cascades_under (shape_of s) k ≤ s.channels
  pub start : All (IsStart (shape_of s)) s.start
