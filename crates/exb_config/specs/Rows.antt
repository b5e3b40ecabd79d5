-- What the rows of the tables stand for.
use Rattle.std.specs.Prelude.{◌≡◌, ℕ, ◌/◌, ◌%◌, ◌==◌, Bool, false, List, Option, Some, None, Box, is_some, map, option_map, slice_index_or}
use Rattle.std.specs.Global.{Global}
use Rattle.std.specs.Int.{bit_at}
use Rattle.std.specs.List.{list_any}
use Rattle.exb_model.specs.declared.port_set.PortSet.{PortSet}
use Rattle.exb_model.specs.declared.vlan.Kind.{Kind}
use Rattle.exb_model.specs.declared.rules.PortRule.{PortRule}
use Rattle.exb_model.specs.declared.rules.StaticAt.{StaticAt}
use Rattle.exb_model.specs.Ports.{all_ports}
use Rattle.exb_model.specs.Configuration.{kind_in, default_rule}
use Rattle.exb_config.specs.declared.members.Members.{Members}
use Rattle.exb_model.specs.declared.station.Station.{Station}

-- ---- members
-- a VLAN with these members has one
unfoldable pub has_member : Members → Bool
has_member m = list_any (λ q. is_some (kind_in m.tagged m.untagged q)) all_ports

-- how a port is a member by the row of a VLAN, if it has one
abbrev pub kind_by : Option Members → ℕ → Option Kind
kind_by None q = None
kind_by (Some m) q = kind_in m.tagged m.untagged q

-- the row of a VLAN at the place of its number
abbrev pub row_at : List (Option Members) → ℕ → Option Members
row_at rows v = slice_index_or rows v None

-- how a port (second) is a member of a VLAN (first)
abbrev pub member_of : List (Option Members) → ℕ → ℕ → Option Kind
member_of rows v q = kind_by (row_at rows v) q

-- there are members exactly where there is one
abbrev pub IsKnownBy : Option Members → Type 0
IsKnownBy row = list_any (λ q. is_some (kind_by row q)) all_ports ≡ is_some row

-- whether the bit of a device is set; 0 and 64 have the same
unfoldable pub is_marked : ℕ → ℕ → Bool
is_marked spread d = bit_at spread (d % 64) == 1

-- a device has a member only where it is marked
abbrev pub IsSpread : ℕ → Option Members → Type 0
IsSpread spread row = (q : ℕ) → is_marked spread (q / 64) ≡ false → kind_by row q ≡ None

-- a place has a member, at whatever device, only where its bit is set
abbrev pub IsPlaced : ℕ → Option Members → Type 0
IsPlaced places row = (q : ℕ) → is_marked places (q % 64) ≡ false → kind_by row q ≡ None

-- the row in a box
abbrev pub boxed : Option (Box Members Global) → Option Members
boxed = option_map (λ b. b.value)

-- ---- rules
abbrev pub rule_of : List PortRule → ℕ → PortRule
rule_of rules q = slice_index_or rules q default_rule

-- ---- static entries
abbrev pub static_of : Station × PortSet → StaticAt
static_of e = record { vid = e.0.vid; address = e.0.address; ports = e.1 }

abbrev pub statics_of : List (Station × PortSet) → List StaticAt
statics_of es = map static_of es
