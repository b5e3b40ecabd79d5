-- The net that a file and its topologies make, and the files that its bridges write.
use Rattle.std.specs.Prelude.{◌≡◌, ℕ, Bool, List, [], Option, Some, None, length, slice_get}
use Rattle.exb_model.specs.Input.{Input}
use Rattle.exb_net_spec.specs.declared.wires.Wire.{Wire}
use Rattle.exb_net_spec.specs.Nets.{Net}
use Rattle.exb_net_file.specs.declared.members.NetMember.{NetMember}
use Rattle.exb_net_file.specs.Members.{prefix_of, tree_in}
use Rattle.exb_shelf.specs.Files.{Files}
use Rattle.exb_cli.specs.declared.invocations.Options.{Options}
use Rattle.exb_cli.specs.Kinds.{eager_with}
use Rattle.exb_inputs.specs.Inputs.{input_of}
use Rattle.exb_outputs.specs.OutputNames.{IsOutput}
use Rattle.exb_outputs.specs.Manifests.{Listed}

-- what stands for a bridge that a net doesn't have
abbrev pub no_input : Input
no_input = record {
  setup = record { ports = 0; extenders = []; channels = 0; groups = 0; ageing = 0; start = [] };
  commands = [];
  records = λ q. [];
}

-- the input of a bridge: that of its topology, and of the captures that this names
abbrev pub input_in : Files → Option NetMember → Input
input_in file None = no_input
input_in file (Some m) = input_of m.topology file

-- the net of these bridges and wires over these files
abbrev pub net_of : List NetMember → List Wire → Files → Net
net_of ms ws file = record { count = length ms; input = λ b. input_in file (slice_get ms b); wires = ws }

-- ---- what its bridges write
-- a capture for each external port and a journal, and counters where they are asked for
abbrev pub options_with : Bool → Options
options_with counters = eager_with counters

-- the outputs of a bridge stand under its own prefix
abbrev pub manifest_with : Bool → NetMember → Listed
manifest_with counters m = record { tree = tree_in m; prefix = prefix_of m.name; options = options_with counters }

-- the name of a file that some bridge of a net writes
pub record IsNetOutput (counters : Bool) (ms : List NetMember) (name : List ℕ) : Type 0 where
  pub bridge : ℕ
  pub member : NetMember
  pub is : slice_get ms bridge ≡ Some member
  pub output : IsOutput (options_with counters) (tree_in member) (prefix_of member.name) name

-- no file but these has changed
abbrev pub OnlyNetOutputs : Bool → List NetMember → Files → Files → Type 0
OnlyNetOutputs counters ms old new = (name : List ℕ) → ¬ IsNetOutput counters ms name → new name ≡ old name
