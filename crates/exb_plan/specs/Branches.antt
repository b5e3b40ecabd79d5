-- The branches of a tree, out of which the sets of a configuration are cut.
use Rattle.std.specs.Prelude.{◌≡◌, ℕ, ◌+◌, ◌&&◌, ◌<◌, Bool, nat_le, nat_lt, if◌then◌else◌, slice_index, List}
use Rattle.exb_model.specs.Ports.{port_in}
use Rattle.exb_model.specs.declared.port_set.PortSet.{PortSet}
use Rattle.exb_model.specs.Tree.{Shape, is_extender, is_extended, trunk}
use Rattle.exb_model.specs.Configuration.{Bridge}
use Rattle.exb_model.specs.Refusals.{Source, is_kind}
use Rattle.exb_plan.specs.declared.places.Places.{Places}
use Rattle.exb_plan.specs.declared.branches.Branches.{Branches}

-- by device: the bridge port above an extender, from 1, and 0 where there is no extender
abbrev pub AreTrunks : Shape → List ℕ → Type 0
AreTrunks t trunks = (n : ℕ) → n < 65 → slice_index trunks n ≡ (if is_extender t n then trunk t n + 1 else 0)

-- the bridge ports, from 0, that pass a test are those of a range, where they are numbered from 1
abbrev pub ArePlaces : (ℕ → Bool) → Places → Type 0
ArePlaces here places = (k : ℕ) → k < 64 → here k ≡ (nat_le places.first (k + 1) && nat_lt (k + 1) places.past)

-- the trunks of a tree, its extended ports, the isolated ports of a configuration, and the bridge ports that pass a
-- test
pub record AreBranches (t : Shape) (b : Bridge) (here : ℕ → Bool) (g : Branches) : Type 0 where
  pub trunks : AreTrunks t g.trunks
  pub extended : (q : ℕ) → port_in g.extended q ≡ is_extended t q
  pub isolated : (q : ℕ) → port_in g.isolated q ≡ (b.rule q).isolated
  pub places : ArePlaces here g.places

-- the ports of a source below all bridge ports
abbrev pub IsPart : Shape → Bridge → Source → PortSet → Type 0
IsPart t b x part = (q : ℕ) → port_in part q
    ≡ (is_extended t q && (b.present q && x.among q && is_kind x.kind (b.member x.vid q)))

-- the extended ports that pass a test
abbrev pub IsAmong : Shape → (ℕ → Bool) → PortSet → Type 0
IsAmong t test among = (q : ℕ) → port_in among q ≡ (is_extended t q && test q)
