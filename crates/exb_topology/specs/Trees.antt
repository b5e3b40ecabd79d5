-- The second pass: whether the extenders are a tree below the bridge.
use Rattle.std.specs.Prelude.{ℕ, ◌/◌, ◌%◌, ◌==◌, Bool, not, nat_lt, if◌then◌else◌, List, [], ◌∷◌, ◌++◌, Result, codes, ◌≤◌, All}
use Rattle.std.specs.List.{list_any}
use Rattle.exb_model.specs.declared.setup.ExtenderSetup.{ExtenderSetup}
use Rattle.exb_model.specs.declared.setup.Setup.{Setup}
use Rattle.exb_model.specs.Tree.{Shape, any_below, top, cascades_under}
use Rattle.exb_model.specs.Setup.{IsAgeing, InRange, port_at, shape_of}
use Rattle.exb_toml_keys.specs.declared.faults.KeyFault.TheVariants as fault
use Rattle.exb_toml_keys.specs.Faults.{Refusal, ◌>>=◌, in_table, in_element}
use Rattle.exb_topology.specs.ElementChecks.{each_ok, refuse}

-- how many ports the first extender of a number has; 0 where there is none
abbrev pub ports_of : List ExtenderSetup → ℕ → ℕ
ports_of [] n = 0
ports_of (e ∷ es) n = if e.number == n then e.ports else ports_of es n

-- the bridge, or the first extender of the named number, has that port
abbrev pub has_port : ℕ → List ExtenderSetup → ℕ → Bool
has_port ports es p = if nat_lt p 64 then nat_lt p ports else nat_lt (p % 64) (ports_of es (p / 64))

abbrev pub extender_key : ℕ → List ℕ → List ℕ
extender_key i key = in_element (codes "extender") i ++ key

-- an extender after those before: its number and its port are its own, and the port is there
abbrev pub hung : ℕ → List ExtenderSetup → List ExtenderSetup → ℕ → ExtenderSetup → Result (Unit {0}) Refusal
hung ports all before i e = do
  _number ← refuse (list_any (λ f. f.number == e.number) before) fault.TwoUpstreams (extender_key i (codes "number"))
  _alone ← refuse (list_any (λ f. port_at f.on == port_at e.on) before) fault.SharedPort (extender_key i (codes "on"))
  refuse (not (has_port ports all (port_at e.on))) fault.UnknownPort (extender_key i (codes "on"))

-- the bridge is reached from an extender
abbrev pub rooted : Shape → List ExtenderSetup → ℕ → ExtenderSetup → Result (Unit {0}) Refusal
rooted t before i e = refuse (not (nat_lt (top t.on 63 (port_at e.on)) 64)) fault.Loop (extender_key i (codes "on"))

-- below some port of the bridge there are more cascade ports than that
unfoldable pub has_few : Shape → ℕ → Bool
has_few t channels = any_below (λ k. nat_lt channels (cascades_under t k)) 64

unfoldable pub tree_ok : Setup → Result (Unit {0}) Refusal
tree_ok s = do
  _hung ← each_ok (hung s.ports s.extenders) s.extenders 0 s.extenders
  _rooted ← each_ok (rooted (shape_of s)) s.extenders 0 s.extenders
  refuse (has_few (shape_of s) s.channels) fault.FewChannels (in_table (codes "bridge") ++ codes "channels")

-- all numbers of a setup are in their ranges
pub record HasRanges (s : Setup) : Type 0 where
  pub some_ports : 1 ≤ s.ports
  pub ports : s.ports ≤ 64
  pub some_channels : 1 ≤ s.channels
  pub channels : s.channels ≤ 4094
  pub some_groups : 1 ≤ s.groups
  pub groups : s.groups ≤ 12288
  pub ageing : IsAgeing s.ageing
  pub extenders : All InRange s.extenders
