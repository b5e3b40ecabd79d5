-- What is printed, whatever the shelf tells.
use Rattle.std.specs.Prelude.{◌≡◌, ◌≢◌, ◌++◌, ◌⊎◌, ℕ, List, Option}
use Rattle.exb_inputs.specs.Answers.{fault_line, fault_status}
use Rattle.exb_inputs.specs.declared.fault.Fault.{Fault}
use Rattle.exb_inputs.specs.declared.fault.Fault.TheVariants.{Missing, Read, Write}
use Rattle.exb_shelf.specs.Files.{AppendsFront, BreaksOff}
use Rattle.exb_shelf.specs.Shelf.{Faults, Rose}
use Rattle.exb_cli.specs.CommandLines.{Ask}
use Rattle.exb_run.specs.Outcomes.{CanCome}
use Rattle.exb_run.specs.SuccessLines.{SaysDone}

-- a fault of the shelf was counted
pub record IsCounted (fault : Fault) (counted counts : Faults) : Type 0 where
  pub missing : (name : List ℕ) → fault ≡ Missing name → Rose counted.missing counts.missing
  pub read : fault ≡ Read → Rose counted.reads counts.reads
  pub write : fault ≡ Write → Rose counted.writes counts.writes

-- a line that can be printed, by its own status: that of a fault, or what says that what is asked for is done
abbrev pub IsLineOf : Option Ask → Faults → Faults → ℕ → List ℕ → Type 0
IsLineOf a counted counts own line =
    ((fault : Fault) × CanCome a fault × IsCounted fault counted counts × (fault_status fault ≡ own)
    × (line ≡ fault_line fault))
    ⊎ ((own ≡ 0) × SaysDone a line)

-- One line was to be printed. All of it was where the status is its own, but for 1 and 7, where a sink may have failed
-- or wanted memory; where the status is another, which is then 1 or 7, a front of it was printed that isn't all of it.
pub record Prints (a : Option Ask) (counted counts : Faults) (status : ℕ) (before after : List ℕ) : Type 0 where
  pub own : ℕ
  pub line : List ℕ
  pub is : IsLineOf a counted counts own line
  pub late : status ≢ own → (status ≡ 1) ⊎ (status ≡ 7)
  pub whole : status ≢ 1 → status ≢ 7 → after ≡ before ++ line
  pub front : AppendsFront before after line
  pub short : status ≢ own → BreaksOff before after line
