-- What a run leaves, however it ended: fronts of the texts of what it told so far.
use Rattle.std.specs.Prelude.{◌≡◌, ◌⊎◌, ℕ, true, List, Option, Some}
use Rattle.exb_model.specs.History.{History}
use Rattle.exb_model.specs.Setup.{shape_of}
use Rattle.exb_model.specs.Traces.{TraceLine}
use Rattle.exb_model.specs.Tree.{Shape}
use Rattle.exb_inputs.specs.Answers.{HoldsTopology}
use Rattle.exb_inputs.specs.Inputs.{input_of}
use Rattle.exb_outputs.specs.Manifests.{IsMade}
use Rattle.exb_outputs.specs.WrittenTexts.{first_text}
use Rattle.exb_shelf.specs.Files.{Files, SameFiles}
use Rattle.exb_journal.specs.declared.file_names.OutputKind.{OutputKind}
use Rattle.exb_journal.specs.FileNames.{file_name}
use Rattle.exb_topology.specs.declared.topology.Topology.{Topology}
use Rattle.exb_trace_laws.specs.TracePrefixes.{IsHistorySoFar, IsTraceSoFar}
use Rattle.exb_cli.specs.declared.invocations.Options.{Options}
use Rattle.exb_cli.specs.CommandLines.{Ask, Run, Net}
use Rattle.exb_run.specs.Answers.{mode_for}
use Rattle.exb_outputs.specs.OutputNames.{IsCut}
use Rattle.exb_outputs.specs.KindTexts.{output_text, IsWrittenAlong}
use Rattle.exb_net.specs.Answers.{AreFrontsOfNet}

-- ---- by their names
-- the file of each external port, the journal, and where it is asked for the trace: each is as it was, or holds a front
-- of its text
abbrev pub AreCutOf : Options → Shape → List ℕ → Files → Files → (OutputKind → List ℕ) → Type 0
AreCutOf options tree prefix old new text = (o : OutputKind) → IsMade options tree o → IsWrittenAlong o
    → IsCut (old (file_name prefix o)) (new (file_name prefix o)) (text o)

-- There is a history of the first segments of the input: each of these files is as it was or holds a front of its text
-- over that history. So the captures are fronts of what the one flat bridge sends over it, and the trace is a front of
-- a legal trace of it.
pub record LeavesPart (options : Options) (t : Topology) (old new : Files) : Type 0 where
  pub history : History
  pub lines : List TraceLine
  pub told : IsHistorySoFar (mode_for options.seed) (input_of t old) history
  pub traced : options.trace ≡ true → IsTraceSoFar (input_of t old) history lines
  pub cut : AreCutOf options (shape_of t.setup) t.prefix old new (output_text (input_of t old) history lines)

-- no file has changed; or these hold no more than they begin with; or they hold parts
abbrev pub LeavesParts : Options → Topology → Files → Files → Type 0
LeavesParts options t old new = SameFiles old new ⊎ AreCutOf options (shape_of t.setup) t.prefix old new first_text
    ⊎ LeavesPart options t old new

-- so of the topology in the file of this name, if no file is the same; a net, which is played eagerly, leaves fronts of
-- what it calls for
abbrev pub AreParts : Option Ask → Files → Files → Type 0
AreParts (Some (Run name options)) old new = SameFiles old new
    ⊎ ((t : Topology) × HoldsTopology name old t × LeavesParts options t old new)
AreParts (Some (Net name counters)) old new = AreFrontsOfNet name old new
AreParts _ old new = SameFiles old new
