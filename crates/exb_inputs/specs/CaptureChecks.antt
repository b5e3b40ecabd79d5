-- What checking tells of captures, and what can be wrong with them.
use Rattle.std.specs.Prelude.{⊤, ◌≡◌, ◌<◌, ◌≤◌, ◌*◌, ◌^◌, ℕ, List, All, filter, map, Option, Some, None, IfSome, Result, Ok, Err}
use Rattle.exb_model.specs.Ports.{all_ports}
use Rattle.exb_capture.specs.declared.scans.Scanned.{Scanned}
use Rattle.exb_capture.specs.declared.scans.ScanFault.{ScanFault}
use Rattle.exb_capture.specs.declared.scans.ScanFault.TheVariants as scan
use Rattle.exb_capture.specs.Scans.{IsScan, IsOfFile}
use Rattle.exb_shelf.specs.Files.{Files}
use Rattle.exb_topology_tables.specs.declared.elements.Named.{Named}
use Rattle.exb_inputs.specs.declared.captures.CheckedCapture.{CheckedCapture}
use Rattle.exb_inputs.specs.declared.fault.InputFlaw.TheVariants.{Large, Broken}
use Rattle.exb_inputs.specs.declared.fault.Fault.{Fault}
use Rattle.exb_inputs.specs.declared.fault.Fault.TheVariants.{Missing, Capture, Read, Memory}
use Rattle.exb_inputs.specs.Inputs.{is_named, name_of}

-- the most bytes of one capture
abbrev pub most_bytes : ℕ
most_bytes = 1_099_511_627_776

-- ---- what is wrong with one capture
-- the fault that an answer of its check means
abbrev pub fault_in : ℕ → List ℕ → Result Scanned ScanFault → Option Fault
fault_in p name (Ok told) = None
fault_in p name (Err scan.Missing) = Some (Missing name)
fault_in p name (Err scan.Read) = Some Read
fault_in p name (Err scan.Memory) = Some Memory
fault_in p name (Err (scan.Fault fault)) = Some (Capture p (Broken fault))
fault_in p name (Err (scan.Large limit)) = Some (Capture p (Large limit))

-- The capture of port p in the file of this name has this fault: the file is not there, breaks the grammar, or is too
-- large. It has no other, since of a file there is one answer.
pub record HasFault (p : ℕ) (name : List ℕ) (file : Option (List ℕ)) (fault : Fault) : Type 0 where
  pub answer : Result Scanned ScanFault
  pub says : IsScan most_bytes file answer
  pub of_file : IsOfFile answer
  pub is : fault_in p name answer ≡ Some fault

-- it is one of the grammar and not too large, and this is told of it
abbrev pub IsGood : Option (List ℕ) → Scanned → Type 0
IsGood file told = IsScan most_bytes file (Ok told)

-- ---- the captures in port order
-- the capture of port p has this fault; a port without a capture has none
abbrev pub HasFaultNamed : ℕ → Option (List ℕ) → Files → Fault → Type 0
HasFaultNamed p None file fault = ⊥
HasFaultNamed p (Some name) file fault = HasFault p name (file name) fault

-- it has none
abbrev pub IsGoodNamed : Option (List ℕ) → Files → Type 0
IsGoodNamed None file = ⊤
IsGoodNamed (Some name) file = (told : Scanned) × IsGood (file name) told

-- the capture of port p is the first in port order with a fault, and this is it
pub record FirstFault (names : List Named) (file : Files) (p : ℕ) (fault : Fault) : Type 0 where
  pub port : p < 4160
  pub before : (q : ℕ) → q < p → IsGoodNamed (name_of names q) file
  pub here : HasFaultNamed p (name_of names p) file fault

-- no capture has a fault
abbrev pub AreAllGood : List Named → Files → Type 0
AreAllGood names file = (p : ℕ) → p < 4160 → IsGoodNamed (name_of names p) file

-- ---- captures that were checked
-- the file of a checked capture is as was told
abbrev pub IsToldOf : List Named → Files → CheckedCapture → Type 0
IsToldOf names file c = (name : List ℕ) × (name_of names c.port ≡ Some name) × IsGood (file name) c.told

-- the captures are those that are named, in port order, none too large; where the files are told, all is as was told
pub record AreChecked (tells : Type 0) (names : List Named) (file : Files) (checked : List CheckedCapture) : Type 0
  where
    pub ports : map (λ c. c.port) checked ≡ filter (is_named names) all_ports
    pub small : All (λ c. c.told.bytes ≤ most_bytes) checked
    pub in_time : All (λ c. IfSome c.told.first (λ first. first < 2 ^ 32 * 1_000_000_000)) checked
    pub told : tells → All (IsToldOf names file) checked
