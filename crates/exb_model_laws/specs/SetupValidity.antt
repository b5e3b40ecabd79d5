-- When a setup is valid, in words of its extenders.
use Rattle.std.specs.Prelude.{◌≡◌, ◌≢◌, ◌↔◌, ◌≤◌, ◌<◌, ◌-◌, ℕ, zero, suc, true, List, [], ◌∷◌, map, length, All, AllPairs, Contains}
use Rattle.std.specs.List.{range_with_len}
use Rattle.exb_model.specs.declared.setup.Place.{Place}
use Rattle.exb_model.specs.declared.setup.Place.TheVariants as place
use Rattle.exb_model.specs.declared.setup.ExtenderSetup.{ExtenderSetup}
use Rattle.exb_model.specs.declared.setup.Setup.{Setup}
use Rattle.exb_model.specs.declared.command.Command.{Command}
use Rattle.exb_model.specs.declared.command.Command.TheVariants as command
use Rattle.exb_model.specs.Tree.{is_external, cascades_under}
use Rattle.exb_model.specs.Setup.{port_at, shape_of, IsPlace, InRange, IsAgeing, IsStart, IsValid}

-- ---- in words
-- it has that port: the bridge has so many, or an extender with that number does
abbrev pub HasPlace : Setup → Place → Type 0
HasPlace s (place.Bridge k) = k ≤ s.ports
HasPlace s (place.Extender n k) = (e : ExtenderSetup) × Contains s.extenders e × (e.number ≡ n) × (k ≤ e.ports)

abbrev pub IsOnBridge : Place → Type 0
IsOnBridge (place.Bridge k) = Unit {0}
IsOnBridge (place.Extender n k) = ⊥

abbrev pub IsOnPortOf : ExtenderSetup → Place → Type 0
IsOnPortOf f (place.Bridge k) = ⊥
IsOnPortOf f (place.Extender n k) = f.number ≡ n

-- the extenders above e: e hangs on the first, each on the next, and the last on the bridge
abbrev pub IsWayUp : ExtenderSetup → List ExtenderSetup → Type 0
IsWayUp e [] = IsOnBridge e.on
IsWayUp e (f ∷ fs) = IsOnPortOf f e.on × IsWayUp f fs

-- a way up over extenders of the setup, of which there are at most 63 others
pub record HasWayUp (s : Setup) (e : ExtenderSetup) : Type 0 where
  pub way : List ExtenderSetup
  pub there : All (Contains s.extenders) way
  pub few : length way ≤ 63
  pub is : IsWayUp e way

-- Numbers are in their ranges. No two extenders have one number or hang on one port. Each hangs on a port that is
-- there, and its way up ends at the bridge. No port of the bridge has more cascade ports below it than E-channels. The
-- start names external ports alone, and makes none present or absent.
pub record IsWellFormed (s : Setup) : Type 0 where
  pub some_ports : 1 ≤ s.ports
  pub ports : s.ports ≤ 64
  pub some_channels : 1 ≤ s.channels
  pub channels : s.channels ≤ 4094
  pub some_groups : 1 ≤ s.groups
  pub groups : s.groups ≤ 12288
  pub ageing : IsAgeing s.ageing
  pub ranges : All InRange s.extenders
  pub numbers : AllPairs (λ e f. e.number ≢ f.number) s.extenders
  pub places : All (λ e. HasPlace s e.on) s.extenders
  pub alone : AllPairs (λ e f. e.on ≢ f.on) s.extenders
  pub ways : All (HasWayUp s) s.extenders
  pub enough_channels : (k : ℕ) → k < 64 → cascades_under (shape_of s) k ≤ s.channels
  pub start : All (IsStart (shape_of s)) s.start

abbrev pub ValidInWords : Type 0
ValidInWords = (s : Setup) → IsValid s ↔ IsWellFormed s

-- ---- external ports
-- the port is there and no extender hangs on it
abbrev pub IsFree : Setup → Place → Type 0
IsFree s x = HasPlace s x × All (λ e. e.on ≢ x) s.extenders

-- Those are the external ports of a valid setup.
abbrev pub ExternalInWords : Type 0
ExternalInWords = (s : Setup) (x : Place) → IsValid s → IsPlace x → (is_external (shape_of s) (port_at x) ≡ true)
    ↔ IsFree s x

-- ---- what is excluded
-- extenders of the setup, each of which hangs on a port of one of them
pub record IsRing (s : Setup) (ring : List ExtenderSetup) : Type 0 where
  pub there : All (Contains s.extenders) ring
  pub closed : All (λ e. (f : ExtenderSetup) × Contains ring f × IsOnPortOf f e.on) ring

abbrev pub NoRingIsValid : Type 0
NoRingIsValid = (s : Setup) (e : ExtenderSetup) (ring : List ExtenderSetup) → IsRing s (e ∷ ring) → IsValid s → ⊥

-- ---- a bridge alone
abbrev pub bridge_alone : (ports channels groups ageing : ℕ) → List Command → Setup
bridge_alone ports channels groups ageing start = record {
  ports = ports;
  extenders = [];
  channels = channels;
  groups = groups;
  ageing = ageing;
  start = start;
}

abbrev pub AreInRange : (ports channels groups ageing : ℕ) → Type 0
AreInRange ports channels groups ageing = (1 ≤ ports) × (ports ≤ 64) × (1 ≤ channels) × (channels ≤ 4094) × (1 ≤ groups)
    × (groups ≤ 12288) × IsAgeing ageing

abbrev pub BridgeAloneIsValid : Type 0
BridgeAloneIsValid = (ports channels groups ageing : ℕ) → IsValid (bridge_alone ports channels groups ageing [])
    ↔ AreInRange ports channels groups ageing

-- where they are, the start decides: isolating port q is valid exactly where the bridge has q, and no port goes up
abbrev pub StartIsJudged : Type 0
StartIsJudged =
    (ports channels groups ageing q : ℕ) → AreInRange ports channels groups ageing →
    (IsValid (bridge_alone ports channels groups ageing (command.Isolate q true ∷ [])) ↔ (q < ports))
    × (IsValid (bridge_alone ports channels groups ageing (command.Up q ∷ [])) → ⊥)
    × (IsValid (bridge_alone ports channels groups ageing (command.Down q ∷ [])) → ⊥)

-- ---- two extenders on the bridge
abbrev pub on_bridge : (number ports port : ℕ) → ExtenderSetup
on_bridge number ports port = record { number = number; ports = ports; on = place.Bridge port }

abbrev pub two_extenders : ℕ → ExtenderSetup → ExtenderSetup → Setup
two_extenders ports e f = record {
  ports = ports;
  extenders = e ∷ f ∷ [];
  channels = 1;
  groups = 1;
  ageing = 0;
  start = [];
}

-- a bridge with b ports, extender n with p ports on port j, and extender m with q ports on port k
abbrev pub side_by_side : (b n p j m q k : ℕ) → Setup
side_by_side b n p j m q k = two_extenders b (on_bridge n p j) (on_bridge m q k)

pub record AreSideBySide (b n p j m q k : ℕ) : Type 0 where
  pub some_ports : 1 ≤ b
  pub ports : b ≤ 64
  pub first : InRange (on_bridge n p j)
  pub second : InRange (on_bridge m q k)
  pub first_there : j ≤ b
  pub second_there : k ≤ b
  pub numbers : n ≢ m
  pub places : j ≢ k

-- They are valid exactly where all numbers are in range, both ports are there, and neither the numbers nor the ports
-- are one.
abbrev pub SideBySideIsValid : Type 0
SideBySideIsValid = (b n p j m q k : ℕ) → IsValid (side_by_side b n p j m q k) ↔ AreSideBySide b n p j m q k

-- ---- one extender on another
-- extender 1 with p ports on the bridge, and extender 2 on port k of extender n
abbrev pub stacked : (p n k : ℕ) → Setup
stacked p n k = two_extenders 1 (on_bridge 1 p 1) (record { number = 2; ports = 1; on = place.Extender n k })

-- They are valid exactly where extender 1 has ports in range and extender 2 hangs on one of them: not on a port that
-- isn't there, on an extender that isn't there, or on itself.
abbrev pub StackedIsValid : Type 0
StackedIsValid = (p n k : ℕ) → IsValid (stacked p n k) ↔ ((p ≤ 64) × (n ≡ 1) × (1 ≤ k) × (k ≤ p))

-- ---- a chain
-- extender 1 hangs on port 1 of the bridge, and each other one on port 1 of the extender before it
abbrev pub link_at : ℕ → Place
link_at zero = place.Bridge 1
link_at (suc zero) = place.Bridge 1
link_at (suc (suc n)) = place.Extender (suc n) 1

abbrev pub link : ℕ → ExtenderSetup
link n = record { number = n; ports = 2; on = link_at n }

abbrev pub chain : (extenders channels : ℕ) → Setup
chain n channels = record {
  ports = 1;
  extenders = map link (range_with_len 1 n);
  channels = channels;
  groups = 1;
  ageing = 0;
  start = [];
}

-- A chain of n extenders is valid exactly where there are at most 64, and an E-channel for each cascade port: all but
-- the last extender have one.
abbrev pub ChainIsValid : Type 0
ChainIsValid = (n channels : ℕ) → IsValid (chain n channels)
    ↔ ((n ≤ 64) × (1 ≤ channels) × (channels ≤ 4094) × (n - 1 ≤ channels))
