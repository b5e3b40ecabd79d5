-- How what is asked for ends: its status, and what is printed.
use Rattle.std.specs.Prelude.{⊤, ◌≡◌, ◌⊎◌, ◌==◌, ◌||◌, IsTrue, ℕ, List, map, Option, Some, None, String, string_bytes}
use Rattle.std.specs.declared.alloc.Global.{Global}
use Rattle.exb_model.specs.EagerHistory.{eager}
use Rattle.exb_model.specs.Input.{Input, Mode, Eager, Seeded, basis_of, tree_of}
use Rattle.exb_model.specs.Setup.{shape_of, limits_of}
use Rattle.exb_model.specs.Texts.{summary}
use Rattle.exb_make.specs.GeneratedInputs.{made}
use Rattle.exb_capacity.specs.Lines.{lines_of}
use Rattle.exb_capacity.specs.NeededNumbers.{needs_of}
use Rattle.exb_shelf.specs.Files.{Files, SameFiles}
use Rattle.exb_shelf.specs.Shelf.{Faults, Rose}
use Rattle.exb_topology.specs.declared.topology.Topology.{Topology}
use Rattle.exb_cli.specs.declared.invocations.Options.{Options}
use Rattle.exb_cli.specs.CommandLines.{Ask, Run, Check, Make, Audit, Net, words_of}
use Rattle.exb_inputs.specs.declared.fault.Fault.{Fault}
use Rattle.exb_inputs.specs.declared.fault.Fault.TheVariants.{Usage, Read, Write, Memory}
use Rattle.exb_inputs.specs.Inputs.{input_of}
use Rattle.exb_trace_spec.specs.Rules.{IsLegal}
use Rattle.exb_audit_files.specs.Audits.{IsFoundLegal, IsSeen, Seen, StopsAudit, evidence_of}
use Rattle.exb_audit_files.specs.Scopes.{scope_of}
use Rattle.exb_run.specs.Outputs.{AreFrontsOf, IsPlayed}
use Rattle.exb_outputs.specs.OutputNames.{OnlyOutputs}
use Rattle.exb_inputs.specs.CaptureChecks.{AreAllGood}
use Rattle.exb_inputs.specs.Answers.{CaptureFaulty, HoldsTopology, IsRefused, fault_line, fault_status}
use Rattle.exb_net.specs.Answers.{AreFrontsOfNet, CanNetBeDone, IsNetFailure, IsNetStatus, NetPlayed, NetStops, OnlyNetAsked}

-- ---- what is asked for
-- what words ask for, where they are accepted
abbrev pub asked : List (String Global) → Option Ask
asked words = words_of (map string_bytes words)

-- and each capture that it names can be played
pub record IsReady (name : List ℕ) (file : Files) (t : Topology) : Type 0 where
  pub holds : HoldsTopology name file t
  pub good : AreAllGood t.captures file

-- what is asked for can be done
abbrev pub CanBeDone : Option Ask → Files → Type 0
CanBeDone None file = ⊥
CanBeDone (Some (Run name options)) file = (t : Topology) × IsReady name file t
CanBeDone (Some (Check name)) file = (t : Topology) × HoldsTopology name file t
CanBeDone (Some (Make number)) file = ⊤
CanBeDone (Some (Audit name)) file = (t : Topology) × HoldsTopology name file t × (x : Seen)
    × IsSeen (scope_of t) file x × IsLegal (evidence_of (scope_of t) x)
CanBeDone (Some (Net name counters)) file = CanNetBeDone name file

-- to play a topology or a net is asked for, by which alone files are written
abbrev pub IsRun : Option Ask → Type 0
IsRun (Some (Run name options)) = ⊤
IsRun (Some (Net name counters)) = ⊤
IsRun _ = ⊥

-- ---- what is done
-- eagerly, or in a drawn order where there is a seed
abbrev pub mode_for : Option ℕ → Mode
mode_for None = Eager
mode_for (Some seed) = Seeded

-- all was played and written; this line sums it up
pub record Played (name : List ℕ) (options : Options) (old new : Files) (line : List ℕ) : Type 0 where
  pub topology : Topology
  pub ready : IsReady name old topology
  pub played : IsPlayed (mode_for options.seed) options (input_of topology old) topology.prefix old new line

-- these lines say what numbers the topology needs
pub record Checked (name : List ℕ) (file : Files) (lines : List ℕ) : Type 0 where
  pub topology : Topology
  pub holds : HoldsTopology name file topology
  pub says : lines ≡ lines_of (needs_of topology.setup) (limits_of topology.setup)

-- the summary of the eager run of an input
abbrev pub eager_summary : Input → List ℕ
eager_summary i = summary (tree_of i) (basis_of i) (eager i)

-- all that a run of the topology in the file of this name wrote was read, its trace is legal, and this text says so
pub record Audited (name : List ℕ) (file : Files) (text : List ℕ) : Type 0 where
  pub topology : Topology
  pub holds : HoldsTopology name file topology
  pub legal : IsFoundLegal (scope_of topology) file text

-- what was asked for is done, and this text says so
abbrev pub IsDone : Option Ask → Files → Files → List ℕ → Type 0
IsDone None old new text = ⊥
IsDone (Some (Run name options)) old new text = Played name options old new text
IsDone (Some (Check name)) old new text = Checked name old text
IsDone (Some (Make number)) old new text = text ≡ eager_summary (made number)
IsDone (Some (Audit name)) old new text = Audited name old text
IsDone (Some (Net name counters)) old new text = NetPlayed name counters old new text

-- no file but the outputs of what is asked for has changed
abbrev pub OnlyAsked : Option Ask → Files → Files → Type 0
OnlyAsked (Some (Run name options)) old new = (t : Topology) → HoldsTopology name old t
    → OnlyOutputs options (shape_of t.setup) t.prefix old new
OnlyAsked (Some (Net name counters)) old new = OnlyNetAsked name counters old new
OnlyAsked _ old new = SameFiles old new

-- what a run of the topology in the file of this name leaves: fronts of what its input calls for
pub record LeavesFronts (name : List ℕ) (old new : Files) : Type 0 where
  pub topology : Topology
  pub holds : HoldsTopology name old topology
  pub fronts : AreFrontsOf (input_of topology old) topology.prefix old new

-- However a run in this order ends: where it is the eager one, no file has changed, or each capture and the journal are
-- as they were or hold a front of their text.
abbrev pub AreFrontsIn : Option ℕ → List ℕ → Files → Files → Type 0
AreFrontsIn None name old new = SameFiles old new ⊎ LeavesFronts name old new
AreFrontsIn (Some seed) name old new = ⊤

abbrev pub AreFronts : Option Ask → Files → Files → Type 0
AreFronts (Some (Run name options)) old new = AreFrontsIn options.seed name old new
AreFronts (Some (Net name counters)) old new = AreFrontsOfNet name old new
AreFronts _ old new = ⊤

-- ---- faults
-- this stops the audit of what a run of the topology in the file of this name wrote
pub record AuditStops (name : List ℕ) (file : Files) (fault : Fault) : Type 0 where
  pub topology : Topology
  pub holds : HoldsTopology name file topology
  pub stops : StopsAudit (scope_of topology) file fault

-- This stops what is asked for, the first in the order in which things are looked at: the words, the topology, where it
-- is played its captures, and where it is audited all that is read and judged; of a net its file, all topologies and
-- wires, and then the captures.
abbrev pub Stops : Option Ask → Files → Fault → Type 0
Stops None file fault = fault ≡ Usage
Stops (Some (Run name options)) file fault = IsRefused name (file name) fault ⊎ CaptureFaulty name file fault
Stops (Some (Check name)) file fault = IsRefused name (file name) fault
Stops (Some (Make number)) file fault = ⊥
Stops (Some (Audit name)) file fault = IsRefused name (file name) fault ⊎ AuditStops name file fault
Stops (Some (Net name counters)) file fault = NetStops name file fault

-- a fault of the shelf, or want of memory
abbrev pub IsFailure : Option Ask → Fault → Type 0
IsFailure None fault = ⊥
IsFailure (Some (Run name options)) fault = (fault ≡ Read) ⊎ (fault ≡ Write) ⊎ (fault ≡ Memory)
IsFailure (Some (Check name)) fault = (fault ≡ Read) ⊎ (fault ≡ Memory)
IsFailure (Some (Make number)) fault = fault ≡ Memory
IsFailure (Some (Audit name)) fault = (fault ≡ Read) ⊎ (fault ≡ Memory)
IsFailure (Some (Net name counters)) fault = IsNetFailure fault

-- ---- statuses
-- the statuses that can come
abbrev pub IsStatus : Option Ask → ℕ → Type 0
IsStatus None n = IsTrue (n == 1 || n == 2 || n == 7)
IsStatus (Some (Run name options)) n = IsTrue (n == 0 || n == 1 || n == 3 || n == 4 || n == 5 || n == 6 || n == 7
    || n == 10)
IsStatus (Some (Check name)) n = IsTrue (n == 0 || n == 1 || n == 3 || n == 5 || n == 6 || n == 7)
IsStatus (Some (Make number)) n = IsTrue (n == 0 || n == 1 || n == 7)
IsStatus (Some (Audit name)) n = IsTrue (n == 0 || n == 1 || n == 3 || n == 4 || n == 5 || n == 6 || n == 7 || n == 11
    || n == 12)
IsStatus (Some (Net name counters)) n = IsNetStatus n

-- the statuses of faults of what is asked for: the topology or the net, the captures that are named, and what an audit
-- reads and judges
abbrev pub IsOfInput : ℕ → Type 0
IsOfInput n = IsTrue (n == 3 || n == 4 || n == 5 || n == 11 || n == 12)

-- the first fault has this status
abbrev pub StopsWith : Option Ask → Files → ℕ → Type 0
StopsWith a file status = (fault : Fault) × Stops a file fault × (fault_status fault ≡ status)

-- By its status, which count of faults rose: those of the shelf, or those of the sink. Only a run of a topology or a
-- net counts failures to write.
pub record RoseBy (a : Option Ask) (status : ℕ) (counted counts : Faults) (failed fails : ℕ) : Type 0 where
  pub five : status ≡ 5 → Rose counted.missing counts.missing
  pub six : status ≡ 6 → Rose counted.reads counts.reads
  pub seven : status ≡ 7 → (IsRun a × Rose counted.writes counts.writes) ⊎ Rose failed fails

-- this ended what was asked for: its first fault, a fault that the shelf counted, or want of memory
abbrev pub IsCause : Option Ask → Files → Faults → Faults → Fault → Type 0
IsCause a file counted counts fault =
    Stops a file fault
    ⊎ (IsFailure a fault × (fault ≡ Read → Rose counted.reads counts.reads)
    × (fault ≡ Write → Rose counted.writes counts.writes))

-- the text that was to be printed: the line of what ended it, or what says that it is done
abbrev pub IsText : Option Ask → Files → Files → Faults → Faults → List ℕ → Type 0
IsText a old new counted counts text = ((fault : Fault) × IsCause a old counted counts fault
    × (text ≡ fault_line fault)) ⊎ IsDone a old new text
