-- Which faults can come while the topology is read, while captures are checked, while they are played, and in an audit.
use Rattle.std.specs.Prelude.{⊤, ◌<◌}
use Rattle.exb_toml_keys.specs.declared.faults.TopoFault.TheVariants as topology
use Rattle.exb_inputs.specs.declared.fault.Fault.{Fault}
use Rattle.exb_inputs.specs.declared.fault.Fault.TheVariants.{Usage, Missing, Topology as BadTopology, Capture, Changed, Net, Member, MemberCapture, MemberChanged, Output, TooLarge, BadLine, Illegal, Read, Write, Memory}
use Rattle.exb_inputs.specs.Answers.{HasLines, IsRule}

-- a fault that can come while captures are checked
abbrev pub IsOfCapture : Fault → Type 0
IsOfCapture (Missing name) = ⊤
IsOfCapture (Capture p flaw) = p < 4160
IsOfCapture Read = ⊤
IsOfCapture Memory = ⊤
IsOfCapture _ = ⊥

-- a fault that can come while the topology is read
abbrev pub IsOfTopology : Fault → Type 0
IsOfTopology (Missing name) = ⊤
IsOfTopology (BadTopology topology.Memory) = ⊥
IsOfTopology (BadTopology fault) = ⊤
IsOfTopology Read = ⊤
IsOfTopology Memory = ⊤
IsOfTopology _ = ⊥

-- a fault that can come while a topology is played
abbrev pub IsOfPlaying : Fault → Type 0
IsOfPlaying Usage = ⊥
IsOfPlaying (BadTopology fault) = ⊥
IsOfPlaying (Capture p flaw) = p < 4160
IsOfPlaying (Changed p byte) = p < 4160
IsOfPlaying (Net fault) = ⊥
IsOfPlaying (Member name fault) = ⊥
IsOfPlaying (MemberCapture name p flaw) = ⊥
IsOfPlaying (MemberChanged name p byte) = ⊥
IsOfPlaying (Output p broke) = ⊥
IsOfPlaying (TooLarge what) = ⊥
IsOfPlaying (BadLine what n) = ⊥
IsOfPlaying (Illegal r) = ⊥
IsOfPlaying _ = ⊤

-- a fault that can come in an audit of what a run of a topology wrote
abbrev pub IsOfAudit : Fault → Type 0
IsOfAudit (Missing name) = ⊤
IsOfAudit (Capture p flaw) = p < 4160
IsOfAudit (Output p broke) = p < 4160
IsOfAudit (TooLarge what) = ⊤
IsOfAudit (BadLine what n) = HasLines what
IsOfAudit (Illegal r) = IsRule r
IsOfAudit Read = ⊤
IsOfAudit Memory = ⊤
IsOfAudit _ = ⊥

-- a fault that can come while captures that were checked are read again and played
abbrev pub IsOfPlay : Fault → Type 0
IsOfPlay (Changed p at) = p < 4160
IsOfPlay Read = ⊤
IsOfPlay Write = ⊤
IsOfPlay Memory = ⊤
IsOfPlay _ = ⊥

-- a capture is another one than the one that was checked
abbrev pub IsChange : Fault → Type 0
IsChange (Changed p at) = ⊤
IsChange _ = ⊥
