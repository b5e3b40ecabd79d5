-- What comes of all that is done but printing.
use Rattle.std.specs.Prelude.{◌≡◌, ◌⊎◌, Option, Some, None, Result, Ok, Err, IfOk, IfErr, IsErrOf, String, string_bytes}
use Rattle.std.specs.declared.alloc.Global.{Global}
use Rattle.exb_shelf.specs.Files.{Files, SameFiles}
use Rattle.exb_cli.specs.CommandLines.{Ask, Run, Check, Make, Audit, Net}
use Rattle.exb_inputs.specs.declared.fault.Fault.{Fault}
use Rattle.exb_inputs.specs.declared.fault.Fault.TheVariants.{Usage, Read, Write, Memory}
use Rattle.exb_run.specs.Answers.{AreFronts, IsDone, IsFailure, IsRun, OnlyAsked, Stops}
use Rattle.exb_run.specs.PartialOutputs.{AreParts}
use Rattle.exb_inputs.specs.FaultPhases.{IsOfAudit, IsOfTopology, IsOfPlaying, IsOfPlay}
use Rattle.exb_run.specs.SuccessLines.{SaysDone}
use Rattle.exb_net.specs.Answers.{IsOfNet, IsOfNetPlay}

-- a fault that can come where this is asked for
abbrev pub CanCome : Option Ask → Fault → Type 0
CanCome None fault = fault ≡ Usage
CanCome (Some (Run name options)) fault = IsOfTopology fault ⊎ IsOfPlaying fault
CanCome (Some (Check name)) fault = IsOfTopology fault
CanCome (Some (Make number)) fault = fault ≡ Memory
CanCome (Some (Audit name)) fault = IsOfTopology fault ⊎ IsOfAudit fault
CanCome (Some (Net name counters)) fault = IsOfNet fault

-- a fault that can come once files are made, of a topology or a net that is played
abbrev pub IsOfMaking : Fault → Type 0
IsOfMaking fault = IsOfPlay fault ⊎ IsOfNetPlay fault

-- What comes of an outcome once all was brought to where it is to stay: the same, or where all was
-- played that this failed or memory ran out.
abbrev pub IsFinished : Result (String Global) Fault → Result (String Global) Fault → Type 0
IsFinished (Ok line) o = (o ≡ Ok line) ⊎ (o ≡ Err Write) ⊎ (o ≡ Err Memory)
IsFinished (Err fault) o = o ≡ Err fault

-- By the result: what is done, which text says so, which cause a fault has, and what has become of the files.
pub record CameOut (tells : Type 0) (a : Option Ask) (o : Result (String Global) Fault) (old new : Files) : Type 0 where
  pub unaccepted : a ≡ None → IsErrOf o Usage
  pub done : tells → IfOk o (λ text. IsDone a old new (string_bytes text))
  pub says : IfOk o (λ text. SaysDone a (string_bytes text))
  pub cause : tells → IfErr o (λ fault. Stops a old fault ⊎ IsFailure a fault)
  pub stops : tells → (fault : Fault) → Stops a old fault → IsErrOf o fault ⊎ IsErrOf o Read ⊎ IsErrOf o Memory
  pub can_come : IfErr o (CanCome a)
  pub early : IfErr o (λ fault. IsOfMaking fault ⊎ SameFiles old new)
  pub read_only : ¬ IsRun a → SameFiles old new
  pub stopped : tells → (fault : Fault) → Stops a old fault → SameFiles old new
  pub others : tells → OnlyAsked a old new
  pub fronts : tells → AreFronts a old new
  pub parts : tells → AreParts a old new
