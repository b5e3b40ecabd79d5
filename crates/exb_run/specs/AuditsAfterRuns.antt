-- What an audit says after a run, over the files that the run left.
use Rattle.std.specs.Prelude.{◌≡◌, ◌⊎◌, ℕ, true, List, Option, Some}
use Rattle.exb_model.specs.Setup.{shape_of}
use Rattle.exb_shelf.specs.Files.{Files, SameFiles}
use Rattle.exb_shelf.specs.Shelf.{Faults, Rose}
use Rattle.exb_cli.specs.declared.invocations.Options.{Options}
use Rattle.exb_cli.specs.CommandLines.{Ask, Audit}
use Rattle.exb_inputs.specs.declared.fault.Fault.{Fault}
use Rattle.exb_audit_files.specs.Scopes.{scope_of}
use Rattle.exb_audit_files.specs.RunFiles.{AreWithin}
use Rattle.exb_run.specs.Answers.{IsOfInput, IsStatus, Played, RoseBy, Stops, StopsWith}
use Rattle.exb_outputs.specs.OutputNames.{IsOutput}

-- A run of the topology in the file of this name was played and written, with its trace; that file is none of its
-- outputs; and what an audit of it reads is within the limits.
pub record HasRun (name : List ℕ) (options : Options) (old new : Files) : Type 0 where
  pub text : List ℕ
  pub done : Played name options old new text
  pub traced : options.trace ≡ true
  pub apart : ¬ IsOutput options (shape_of done.topology.setup) done.topology.prefix name
  pub within : AreWithin (scope_of done.topology) new

-- What a call says of its status: which can come, that those of faults of what is asked for come by such a fault, and
-- that those of the shelf and the sink come where a count rose.
pub record EndsBy (a : Option Ask) (file : Files) (status : ℕ) (counted counts : Faults) (failed fails : ℕ) : Type 0
  where
    pub status_is : IsStatus a status
    pub first : IsOfInput status → StopsWith a file status
    pub rose : RoseBy a status counted counts failed fails

-- Nothing that an audit reads stops it, and no rule does; so where neither the shelf failed to read nor the sink
-- failed, it answers 0, or 1 for want of memory.
pub record AuditsWell (name : List ℕ) (file : Files) : Type 0 where
  pub never : (fault : Fault) → Stops (Some (Audit name)) file fault → ⊥
  pub ends : (status : ℕ) (counted counts : Faults) (failed fails : ℕ)
      → EndsBy (Some (Audit name)) file status counted counts failed fails
      → ¬ Rose counted.reads counts.reads → ¬ Rose failed fails → (status ≡ 0) ⊎ (status ≡ 1)

-- So it is after each run with a trace, over files as that run left them.
abbrev pub AuditsFollowRuns : Type 0
AuditsFollowRuns = (name : List ℕ) (options : Options) (old new file : Files) → HasRun name options old new
    → SameFiles new file → AuditsWell name file
