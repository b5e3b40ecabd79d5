-- Which faults can come while a net is read, and while the captures of its bridges are checked.
use Rattle.std.specs.Prelude.{⊤, ◌<◌}
use Rattle.exb_toml_keys.specs.declared.faults.TopoFault.TheVariants as topology
use Rattle.exb_inputs.specs.declared.fault.Fault.{Fault}
use Rattle.exb_inputs.specs.declared.fault.Fault.TheVariants.{Missing, Net, Member, MemberCapture, Read, Memory}

-- while a net is read
abbrev pub IsOfNet : Fault → Type 0
IsOfNet (Missing name) = ⊤
IsOfNet (Net topology.Memory) = ⊥
IsOfNet (Net fault) = ⊤
IsOfNet (Member name topology.Memory) = ⊥
IsOfNet (Member name fault) = ⊤
IsOfNet Read = ⊤
IsOfNet Memory = ⊤
IsOfNet _ = ⊥

-- while captures of bridges are checked
abbrev pub IsOfMemberCapture : Fault → Type 0
IsOfMemberCapture (Missing name) = ⊤
IsOfMemberCapture (MemberCapture name p flaw) = p < 4160
IsOfMemberCapture Read = ⊤
IsOfMemberCapture Memory = ⊤
IsOfMemberCapture _ = ⊥
