-- The parts of a net: setups and wires, and what else is said of each bridge.
use Rattle.std.specs.Prelude.{◌≡◌, List, map}
use Rattle.exb_model.specs.declared.setup.Setup.{Setup}
use Rattle.exb_net_spec.specs.declared.wires.Wire.{Wire}
use Rattle.exb_net_file.specs.declared.members.NetMember.{NetMember}
use Rattle.exb_net_file.specs.declared.net_parts.NetParts.{NetParts}
use Rattle.exb_net_file.specs.declared.net_parts.BridgeInputs.{BridgeInputs}

abbrev pub setup_in : NetMember → Setup
setup_in m = m.topology.setup

abbrev pub rest_of : NetMember → BridgeInputs
rest_of m = record {
  name = m.name;
  commands = m.topology.commands;
  fate = m.topology.fate;
  captures = m.topology.captures;
}

-- The parts are those of these bridges and wires, each in the order of the bridges.
pub record IsTakenApart (ms : List NetMember) (ws : List Wire) (p : NetParts) : Type 0 where
  pub setups : p.setup.setups ≡ map setup_in ms
  pub wires : p.setup.wires ≡ ws
  pub rests : p.rests ≡ map rest_of ms
