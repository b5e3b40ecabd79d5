-- What can be wrong with a topology and with what it names, how that ends a call, and what is printed of it.
use Rattle.std.specs.Prelude.{⊤, ◌≡◌, ◌<◌, ◌≤◌, ◌++◌, ℕ, List, Option, Some, None, Result, Ok, Err, String, codes, string_bytes}
use Rattle.std.specs.declared.alloc.Global.{Global}
use Rattle.std.specs.Fmt.{decimal}
use Rattle.exb_model.specs.Texts.{port_name}
use Rattle.exb_toml_keys.specs.declared.faults.KeyFault.{KeyFault}
use Rattle.exb_toml_keys.specs.declared.faults.KeyFault.TheVariants as keys
use Rattle.exb_toml_keys.specs.declared.faults.TopoFault.{TopoFault}
use Rattle.exb_toml_keys.specs.declared.faults.TopoFault.TheVariants as topology
use Rattle.exb_toml_keys.specs.Faults.{Refusal, not_toml, large, at}
use Rattle.exb_timeline.specs.declared.capture_merge.CaptureFault.{CaptureFault}
use Rattle.exb_timeline.specs.declared.capture_merge.CaptureFault.TheVariants as capture
use Rattle.exb_capture.specs.declared.fault.FormatFault.{FormatFault as Broke}
use Rattle.exb_capture.specs.declared.fault.Flaw.{Flaw as Wrong}
use Rattle.exb_capture.specs.declared.fault.Flaw.TheVariants as wrong
use Rattle.exb_shelf.specs.declared.shelf.ShelfFault.{ShelfFault}
use Rattle.exb_shelf.specs.declared.shelf.ShelfFault.TheVariants as shelf
use Rattle.exb_shelf.specs.Files.{Files}
use Rattle.exb_shelf.specs.Shelf.{Rose}
use Rattle.exb_topology.specs.declared.topology.Topology.{Topology}
use Rattle.exb_topology.specs.Topologies.{topology_of, topology_view}
use Rattle.exb_inputs.specs.declared.fault.AuditInput.{AuditInput}
use Rattle.exb_inputs.specs.declared.fault.AuditInput.TheVariants as part
use Rattle.exb_inputs.specs.declared.fault.InputFlaw.{InputFlaw}
use Rattle.exb_inputs.specs.declared.fault.InputFlaw.TheVariants.{Large, Broken}
use Rattle.exb_inputs.specs.declared.fault.Fault.{Fault}
use Rattle.exb_inputs.specs.declared.fault.Fault.TheVariants.{Usage, Missing, Topology as BadTopology, Capture, Changed, Net, Member, MemberCapture, MemberChanged, Output, TooLarge, BadLine, Illegal, Read, Write, Memory}
use Rattle.exb_inputs.specs.CaptureChecks.{FirstFault}

-- ---- a topology
-- the file of this name holds this topology
pub record HoldsTopology (name : List ℕ) (file : Files) (t : Topology) : Type 0 where
  pub bytes : List ℕ
  pub there : file name ≡ Some bytes
  pub read : topology_of bytes ≡ Ok (topology_view t)

-- ---- faults
-- a failure of the shelf while files are made and written
abbrev pub fault_of : ShelfFault → Fault
fault_of shelf.Failed = Write
fault_of shelf.Memory = Memory

-- a failure to read captures again
abbrev pub fault_again : CaptureFault → Fault
fault_again capture.Memory = Memory
fault_again capture.Read = Read
fault_again (capture.Changed p byte) = Changed p byte

-- a fault of reading a topology, of which want of memory is none of the file's
abbrev pub fault_by : TopoFault → Fault
fault_by topology.Memory = Memory
fault_by topology.NotToml = BadTopology topology.NotToml
fault_by topology.Large = BadTopology topology.Large
fault_by (topology.At fault key) = BadTopology (topology.At fault key)

-- why a topology file is refused
abbrev pub refused_by : Refusal → Fault
refused_by not_toml = BadTopology topology.NotToml
refused_by large = BadTopology topology.Large
refused_by (at fault key) = BadTopology (topology.At fault key)

-- this is why a topology file with these bytes is not taken
abbrev pub IsRefusal : List ℕ → Fault → Type 0
IsRefusal bytes fault = (refusal : Refusal) × (topology_of bytes ≡ Err refusal) × (fault ≡ refused_by refusal)

-- the same, where the file may be missing
abbrev pub IsRefused : List ℕ → Option (List ℕ) → Fault → Type 0
IsRefused name None fault = fault ≡ Missing name
IsRefused name (Some bytes) fault = IsRefusal bytes fault

-- this is the first fault of a capture, in port order, that the topology names
pub record CaptureFaulty (name : List ℕ) (file : Files) (fault : Fault) : Type 0 where
  pub topology : Topology
  pub holds : HoldsTopology name file topology
  pub port : ℕ
  pub first : FirstFault topology.captures file port fault

-- lines are those of the journal and the trace
abbrev pub HasLines : AuditInput → Type 0
HasLines part.Journal = ⊤
HasLines part.Trace = ⊤
HasLines _ = ⊥

-- the number of a rule of a legal trace
abbrev pub IsRule : ℕ → Type 0
IsRule r = (1 ≤ r) × (r ≤ 5)

-- Where it speaks of a port, this is one, and where of a rule, there is one of this number; lines are those of the
-- journal and the trace, and want of memory is no fault of a topology.
abbrev pub CanBe : Fault → Type 0
CanBe (Capture p flaw) = p < 4160
CanBe (Changed p byte) = p < 4160
CanBe (MemberCapture name p flaw) = p < 4160
CanBe (MemberChanged name p byte) = p < 4160
CanBe (Output p broke) = p < 4160
CanBe (BadLine what n) = HasLines what
CanBe (Illegal r) = IsRule r
CanBe (BadTopology topology.Memory) = ⊥
CanBe (Net topology.Memory) = ⊥
CanBe (Member name topology.Memory) = ⊥
CanBe _ = ⊤

-- ---- what is printed
-- what is wrong with a capture
abbrev pub flaw_name : Wrong → List ℕ
flaw_name wrong.NotPcap = codes "NotPcap"
flaw_name wrong.Version = codes "Version"
flaw_name wrong.LinkType = codes "LinkType"
flaw_name wrong.Cut = codes "Cut"
flaw_name wrong.Length = codes "Length"
flaw_name wrong.Time = codes "Time"
flaw_name wrong.Magic = codes "Magic"
flaw_name wrong.TooMany = codes "TooMany"
flaw_name wrong.Resolution = codes "Resolution"
flaw_name wrong.Interface = codes "Interface"

-- a fault of the grammar of captures, and its place
abbrev pub broken_text : Broke → List ℕ
broken_text fault = flaw_name fault.flaw ++ codes " at " ++ decimal fault.at

abbrev pub flaw_text : InputFlaw → List ℕ
flaw_text (Large limit) = codes "Large " ++ decimal limit
flaw_text (Broken fault) = broken_text fault

-- a fault at a key of a topology, or of the file of a net
abbrev pub key_fault_text : KeyFault → List ℕ
key_fault_text keys.Missing = codes "Missing"
key_fault_text keys.Unknown = codes "Unknown"
key_fault_text keys.Kind = codes "Kind"
key_fault_text keys.Range = codes "Range"
key_fault_text keys.Name = codes "Name"
key_fault_text keys.UnknownPort = codes "UnknownPort"
key_fault_text keys.TwoUpstreams = codes "TwoUpstreams"
key_fault_text keys.SharedPort = codes "SharedPort"
key_fault_text keys.Loop = codes "Loop"
key_fault_text keys.FewChannels = codes "FewChannels"
key_fault_text keys.Repeat = codes "Repeat"

abbrev pub topology_text : TopoFault → List ℕ
topology_text topology.Memory = codes "out of memory"
topology_text topology.NotToml = codes "NotToml"
topology_text topology.Large = codes "Large"
topology_text (topology.At fault key) = key_fault_text fault ++ codes " at " ++ key

-- the words that are accepted
abbrev pub usage : List ℕ
usage = codes "exbr: usage: exbr run TOPOLOGY [--trace] [--counters] [--seed N] | exbr check TOPOLOGY | exbr make N | exbr audit TOPOLOGY | exbr net FILE [--counters]\n"

-- the line of a capture that is not taken
unfoldable pub capture_line : ℕ → List ℕ → List ℕ
capture_line p text = codes "exbr: capture " ++ (port_name p ++ (codes ": " ++ (text ++ codes "\n")))

-- what is said of a capture that is another one now
abbrev pub changed_text : ℕ → List ℕ
changed_text byte = codes "Changed at " ++ decimal byte

-- the line of a file of a net that is refused
abbrev pub net_line : TopoFault → List ℕ
net_line fault = codes "exbr: net: " ++ topology_text fault ++ codes "\n"

-- the line of a topology that is refused, of the bridge of this name
unfoldable pub member_line : List ℕ → TopoFault → List ℕ
member_line name fault = codes "exbr: topology " ++ (name ++ (codes ": " ++ (topology_text fault ++ codes "\n")))

-- the line of a capture that is not taken, of the bridge of this name
unfoldable pub member_capture_line : List ℕ → ℕ → List ℕ → List ℕ
member_capture_line name p text = codes "exbr: capture " ++ (name ++ (codes ":" ++ (port_name p ++ (codes ": " ++ (text ++ codes "\n")))))

-- and of an output capture that is none
unfoldable pub output_line : ℕ → List ℕ → List ℕ
output_line p text = codes "exbr: out " ++ (port_name p ++ (codes ": " ++ (text ++ codes "\n")))

-- what an audit reads
abbrev pub part_name : AuditInput → List ℕ
part_name part.Captures = codes "captures"
part_name part.Outputs = codes "outputs"
part_name part.Journal = codes "journal"
part_name part.Trace = codes "trace"

abbrev pub large_line : AuditInput → List ℕ
large_line what = codes "exbr: " ++ part_name what ++ codes " Large 536870912\n"

abbrev pub bad_line : AuditInput → ℕ → List ℕ
bad_line what n = codes "exbr: " ++ part_name what ++ codes " line " ++ decimal n ++ codes "\n"

unfoldable pub fault_line : Fault → List ℕ
fault_line Usage = usage
fault_line (Missing name) = codes "exbr: missing " ++ name ++ codes "\n"
fault_line (BadTopology fault) = codes "exbr: topology: " ++ topology_text fault ++ codes "\n"
fault_line (Capture p flaw) = capture_line p (flaw_text flaw)
fault_line (Changed p byte) = capture_line p (changed_text byte)
fault_line (Net fault) = net_line fault
fault_line (Member name fault) = member_line name fault
fault_line (MemberCapture name p flaw) = member_capture_line name p (flaw_text flaw)
fault_line (MemberChanged name p byte) = member_capture_line name p (changed_text byte)
fault_line (Output p broke) = output_line p (broken_text broke)
fault_line (TooLarge what) = large_line what
fault_line (BadLine what n) = bad_line what n
fault_line (Illegal r) = codes "exbr: trace: rule " ++ decimal r ++ codes "\n"
fault_line Read = codes "exbr: read fault\n"
fault_line Write = codes "exbr: write fault\n"
fault_line Memory = codes "exbr: out of memory\n"

-- the summary, or the line of the fault
abbrev pub line_of : Result (String Global) Fault → List ℕ
line_of (Ok line) = string_bytes line
line_of (Err fault) = fault_line fault

-- ---- statuses
abbrev pub fault_status : Fault → ℕ
fault_status Memory = 1
fault_status Usage = 2
fault_status (BadTopology fault) = 3
fault_status (Capture p flaw) = 4
fault_status (Missing name) = 5
fault_status Read = 6
fault_status Write = 7
fault_status (Changed p byte) = 10
fault_status (Net fault) = 3
fault_status (Member name fault) = 3
fault_status (MemberCapture name p flaw) = 4
fault_status (MemberChanged name p byte) = 10
fault_status (Output p broke) = 4
fault_status (TooLarge what) = 4
fault_status (BadLine what n) = 12
fault_status (Illegal r) = 11

abbrev pub status_of : Result (String Global) Fault → ℕ
status_of (Ok line) = 0
status_of (Err fault) = fault_status fault

-- the line of a fault of this status
abbrev pub IsFaultLine : ℕ → List ℕ → Type 0
IsFaultLine status line = (fault : Fault) × CanBe fault × (fault_status fault ≡ status) × (line ≡ fault_line fault)

-- What is printed by its status: one line and nothing else. At 7 the sink may have failed.
pub record SaysBy (status : ℕ) (failed fails : ℕ) (old new : List ℕ) : Type 0 where
  pub two : status ≡ 2 → new ≡ old ++ usage
  pub three : status ≡ 3 → (line : List ℕ) × IsFaultLine 3 line × (new ≡ old ++ line)
  pub four : status ≡ 4 → (line : List ℕ) × IsFaultLine 4 line × (new ≡ old ++ line)
  pub five : status ≡ 5 → (line : List ℕ) × IsFaultLine 5 line × (new ≡ old ++ line)
  pub six : status ≡ 6 → new ≡ old ++ codes "exbr: read fault\n"
  pub seven : status ≡ 7 → ¬ Rose failed fails → new ≡ old ++ codes "exbr: write fault\n"
  pub ten : status ≡ 10 → (line : List ℕ) × IsFaultLine 10 line × (new ≡ old ++ line)
  pub eleven : status ≡ 11 → (line : List ℕ) × IsFaultLine 11 line × (new ≡ old ++ line)
  pub twelve : status ≡ 12 → (line : List ℕ) × IsFaultLine 12 line × (new ≡ old ++ line)
