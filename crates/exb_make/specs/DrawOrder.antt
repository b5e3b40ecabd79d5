-- What is drawn, in the order in which it is drawn.
use Rattle.std.specs.Prelude.{ℕ, ◌+◌, ◌*◌, ◌/◌, ◌%◌, ◌==◌, if◌then◌else◌, List, [], ◌∷◌, ◌++◌, replicate}
use Rattle.exb_model.specs.declared.command.Command.{Command}
use Rattle.exb_model.specs.declared.command.Command.TheVariants as command
use Rattle.exb_model.specs.declared.setup.Timed.{Timed}
use Rattle.exb_model.specs.declared.vlan.Kind.TheVariants as kind
use Rattle.exb_model.specs.Input.{Record}
use Rattle.exb_model.specs.Ports.{below}
use Rattle.rand_pcg.specs.Lcg.{Lcg}
use Rattle.exb_make.specs.Draws.{Drawing, drawn, for_each}
use Rattle.exb_make.specs.GeneratedTree.{site_ports, port_at}

-- ---- the members of VLANs 1 to 4
-- 0 is no member, 1 is tagged, 2 is untagged
abbrev pub member_of : ℕ → ℕ → ℕ → List Command
member_of v p r = if r == 0 then [] else (if r == 1 then command.Member v p kind.Tagged
    ∷ [] else command.Member v p kind.Untagged ∷ [])

unfoldable pub membership : ℕ → ℕ → Drawing Command
membership v p g = (member_of v p (drawn 3 g).0, (drawn 3 g).1)

unfoldable pub members : ℕ → Drawing Command
members v = for_each (membership v) site_ports

unfoldable pub memberships : Drawing Command
memberships = for_each members (1 ∷ 2 ∷ 3 ∷ 4 ∷ [])

-- ---- the VLAN of frames without a tag, at each port
unfoldable pub pvid : ℕ → Drawing Command
pvid p g = (command.Pvid p (1 + (drawn 4 g).0) ∷ [], (drawn 4 g).1)

unfoldable pub pvids : Drawing Command
pvids = for_each pvid site_ports

-- ---- commands
-- any port becomes a member of any of the VLANs
unfoldable pub membership_command : Lcg → Command × Lcg
membership_command g =
    let vid = drawn 4 g in
    let port = drawn 46 vid.1 in
    let tagged = drawn 2 port.1 in
    (command.Member (1 + vid.0) (port_at port.0) (if tagged.0 == 0 then kind.Tagged else kind.Untagged), tagged.1)

-- five seconds after one another
unfoldable pub order : ℕ → Drawing Timed
order j g = (record { at = 5 * j; command = (membership_command g).0; fate = [] } ∷ [], (membership_command g).1)

unfoldable pub orders : Drawing Timed
orders = for_each order (below 20)

-- ---- frames
-- the address of the station at a port
abbrev pub station : ℕ → List ℕ
station n = 2 ∷ 0 ∷ 0 ∷ 0 ∷ 0 ∷ n ∷ []

abbrev pub broadcast : List ℕ
broadcast = replicate 6 255

unfoldable pub destination : Lcg → List ℕ × Lcg
destination g =
    let way = drawn 4 g in
    if way.0 == 0 then (broadcast, way.1) else (let other = drawn 46 way.1 in (station other.0, other.1))

-- type 08-00, and 46 bytes
abbrev pub content : List ℕ
content = 8 ∷ 0 ∷ replicate 46 0

-- with priority 0
abbrev pub vlan_tag : ℕ → List ℕ
vlan_tag v = 129 ∷ 0 ∷ 0 ∷ v ∷ []

-- what follows the addresses
unfoldable pub body : Lcg → List ℕ × Lcg
body g =
    let way = drawn 2 g in
    if way.0 == 0 then (content, way.1) else (let vid = drawn 4 way.1 in (vlan_tag (1 + vid.0) ++ content, vid.1))

-- a record and the port at which it arrives
pub record Frame : Type 0 where
  pub port : ℕ
  pub record_there : Record

-- ten in a second, with 1,000 microseconds between them
abbrev pub time_of : ℕ → ℕ
time_of i = (1000 + i / 10) * 1000000000 + i % 10 * 1000000

unfoldable pub frame : ℕ → Drawing Frame
frame i g =
    let port = drawn 46 g in
    let to = destination port.1 in
    let rest = body to.1 in (
      record {
        port = port_at port.0;
        record_there = record {
          time = time_of i;
          bytes = to.0 ++ station port.0 ++ rest.0;
        };
      } ∷ [],
      rest.1,
    )

unfoldable pub frames : Drawing Frame
frames = for_each frame (below 1000)
