use Rattle.std.proofs.Common.{◌≡◌, [], drop}
use Rattle.exb_net_spec.specs.Nets.{ends_of}
use Rattle.exb_net_file.specs.Wires.{wires_from}
use Rattle.exb_net_file.proofs.wires.wires_in.Given as goal

abbrev pub invariant-loop-index : goal.invariant-loop-index
invariant-loop-index l = record {
  so_far : wires_from l.members l.joined l.index (drop l.index l.wires) ≡ wires_from l.members [] 0 l.wires;
  kept : l.ends ≡ ends_of l.joined;
}
