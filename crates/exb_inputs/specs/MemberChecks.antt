-- What checking tells of the captures of all bridges.
use Rattle.std.specs.Prelude.{List, All}
use Rattle.std.specs.declared.alloc.Global.{Global}
use Rattle.std.specs.declared.vec.Vec.{Vec}
use Rattle.exb_shelf.specs.Files.{Files}
use Rattle.exb_net_file.specs.declared.members.NetMember.{NetMember}
use Rattle.exb_inputs.specs.declared.captures.CheckedCapture.{CheckedCapture}
use Rattle.exb_inputs.specs.CaptureChecks.{AreAllGood, AreChecked}
use Rattle.exb_inputs.specs.PairedLists.{OneByOne}

-- no capture of a bridge has a fault
abbrev pub AreGood : NetMember → Files → Type 0
AreGood m file = AreAllGood m.topology.captures file

-- nor has one of any bridge
abbrev pub AreAllMembersGood : List NetMember → Files → Type 0
AreAllMembersGood ms file = All (λ m. AreGood m file) ms

-- For each bridge, in order, there is what was told of its captures: those that it names, in port order.
abbrev pub AreMembersChecked : Type 0 → List NetMember → Files → List (Vec CheckedCapture Global) → Type 0
AreMembersChecked tells ms file checked = OneByOne (λ m one. AreChecked tells m.topology.captures file one.items) ms
    checked
