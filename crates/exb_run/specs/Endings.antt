-- How a call of `run` ends: done, refused or broken, and what it leaves. `tells` and `printing` say whether the shelf
-- tells its files and the sink its text; `a` is what the words ask for.
use Rattle.std.specs.Prelude.{◌≡◌, ◌≢◌, ◌++◌, ◌⊎◌, ℕ, Bool, List, Option, Some, None}
use Rattle.exb_cli.specs.declared.invocations.Options.{Options}
use Rattle.exb_cli.specs.CommandLines.{Ask, Run, Make, Net}
use Rattle.exb_inputs.specs.Answers.{fault_line, fault_status, SaysBy}
use Rattle.exb_inputs.specs.PrintedOnce.{PrintsLine}
use Rattle.exb_inputs.specs.declared.fault.Fault.{Fault}
use Rattle.exb_inputs.specs.declared.fault.Fault.TheVariants.{Memory}
use Rattle.exb_make.specs.GeneratedInputs.{made}
use Rattle.exb_net.specs.Headline.{NetHeadline}
use Rattle.exb_shelf.specs.Files.{Files, SameFiles, AppendsFront}
use Rattle.exb_shelf.specs.Shelf.{Faults, Id, IsReading, Opens, Rose}
use Rattle.exb_run.specs.Answers.{AreFronts, CanBeDone, IsDone, IsOfInput, IsRun, IsStatus, IsText, OnlyAsked, RoseBy, Stops, StopsWith, eager_summary}
use Rattle.exb_run.specs.Headline.{Headline}
use Rattle.exb_run.specs.OpenedFiles.{OpenedInOrder, OpensBy}
use Rattle.exb_run.specs.OpenedNetFiles.{NetOpenedInOrder}
use Rattle.exb_run.specs.PartialOutputs.{AreParts}
use Rattle.exb_run.specs.PrintedLines.{IsLineOf, Prints}
use Rattle.exb_run.specs.StatusCounts.{CountedAt, CountedBy}

-- With status 0 what was asked for is done: of a run and of a net the headline holds, and whatever was asked for, the
-- sink got the text that says so and nothing else. What is said of files needs no sink that tells, and of an input that
-- is made no shelf that tells.
pub record Done (tells printing : Type 0) (a : Option Ask) (status : ℕ) (old new : Files) (before after : List ℕ) : Type
    0 where
  pub headline : (name : List ℕ) (options : Options) → a ≡ Some (Run name options) → tells → printing → status ≡ 0
      → Headline name options old new before after
  pub net : (name : List ℕ) (counters : Bool) → a ≡ Some (Net name counters) → tells → printing → status ≡ 0
      → NetHeadline name counters old new before after
  pub done : tells → printing → status ≡ 0 → (text : List ℕ) × IsDone a old new text × (after ≡ before ++ text)
  pub ran : tells → status ≡ 0 → (text : List ℕ) × IsDone a old new text
  pub makes : (number : ℕ) → a ≡ Some (Make number) → printing → status ≡ 0
      → after ≡ before ++ eager_summary (made number)

-- With 2, 3, 4, 5, 11 and 12 it is refused: 2 exactly where the words are not accepted, and the others exactly by the
-- first fault of what is asked for, which is of the topology, or of the file of a net and of all topologies, of the
-- captures that are named, or of what an audit reads and judges. Its line is printed, and no file has changed. Only a
-- sink that failed makes a 7 of it, and want of memory a 1.
pub record Refused (tells printing : Type 0) (a : Option Ask) (status : ℕ) (old new : Files) (failed fails : ℕ)
    (before after : List ℕ) : Type 0 where
  pub two : status ≡ 2 → a ≡ None
  pub usage : a ≡ None → status ≢ 1 → status ≢ 7 → status ≡ 2
  pub usage_seven : a ≡ None → status ≡ 7 → Rose failed fails
  pub first : tells → IsOfInput status → StopsWith a old status
  pub stops : tells → (fault : Fault) → Stops a old fault → status ≢ 1 → status ≢ 6 → status ≢ 7
      → status ≡ fault_status fault
  pub stops_seven : tells → (fault : Fault) → Stops a old fault → status ≡ 7 → Rose failed fails
  pub stops_says : tells → printing → (fault : Fault) → Stops a old fault → status ≡ fault_status fault
      → after ≡ before ++ fault_line fault
  pub stopped : tells → (fault : Fault) → Stops a old fault → SameFiles old new
  pub early : status ≢ 0 → status ≢ 1 → status ≢ 6 → status ≢ 7 → status ≢ 10 → SameFiles old new

-- a status of a refusal, at which nothing was made
abbrev pub IsEarly : ℕ → Type 0
IsEarly own = (own ≢ 0) × (own ≢ 1) × (own ≢ 6) × (own ≢ 7) × (own ≢ 10)

-- What ended the call has a status of its own and one line, which the sink was told once: all of it, at that status; or
-- as far as a sink went that wanted memory, at 1, or that failed, at 7. By its own status each fault of the shelf was
-- counted, once; and where that is a refusal nothing but reading was done, whatever the shelf tells and also at a 1 or
-- 7 in its place.
pub record EndedOnce (printing : Type 0) (a : Option Ask) (status : ℕ) (old new : Files) (counted now : Faults)
    (given ids : ℕ → Id) (failed fails : ℕ) (before after : List ℕ) : Type 0 where
  pub own : ℕ
  pub line : List ℕ
  pub is : IsLineOf a counted now own line
  pub prints : PrintsLine printing own status failed fails before after line
  pub counts : CountedAt own counted now
  pub reads : IsEarly own → Opens IsReading given ids
  pub same : IsEarly own → SameFiles old new

-- With 5, 6 and 7 the shelf or the sink counted a fault, with 1 memory ran out, and with 10, which never comes where
-- files are told, a capture turned out to be another one. Each fault is counted once, at its own status, and nothing is
-- done behind it. Without any, and where what is asked for can be done, it is done, or memory ran out.
pub record Broken (tells printing : Type 0) (a : Option Ask) (status : ℕ) (old new : Files) (counted now : Faults)
    (given ids : ℕ → Id) (failed fails : ℕ) (before after : List ℕ) : Type 0 where
  pub rose : RoseBy a status counted now failed fails
  pub counts : CountedBy status counted now failed fails
  pub sink : status ≢ 7 → fails ≡ failed
  pub ended : EndedOnce printing a status old new counted now given ids failed fails before after
  pub out_of_memory : printing → after ≡ before ++ fault_line Memory → status ≡ 1
  pub ten_never : tells → status ≢ 10
  pub complete : tells → CanBeDone a old → ¬ Rose counted.reads now.reads → ¬ Rose counted.writes now.writes
      → ¬ Rose failed fails
      → status ≢ 1 → status ≡ 0
  pub complete_made : (number : ℕ) → a ≡ Some (Make number) → ¬ Rose failed fails → status ≢ 1 → status ≡ 0

-- However it ended, it leaves this. Printed is the line or the lines of the status, and at 1 and 7 a front of one text.
-- Only outputs of what is asked for have changed; where a run or a net ended early, each of them is as it was or holds
-- a front of its text. Only what is asked for is opened, and it is opened in order: the topology, its captures, and
-- behind all of these the outputs, each once; whatever the shelf tells.
pub record Leaves (tells printing : Type 0) (a : Option Ask) (status : ℕ) (old new : Files) (counted now : Faults)
    (given ids : ℕ → Id) (failed fails : ℕ) (before after : List ℕ) : Type 0 where
  pub says : printing → SaysBy status failed fails before after
  pub front : tells → printing → (text : List ℕ) × IsText a old new counted now text × AppendsFront before after text
  pub prints : printing → Prints a counted now status before after
  pub read_only : ¬ IsRun a → SameFiles old new
  pub others : tells → OnlyAsked a old new
  pub fronts : tells → AreFronts a old new
  pub parts : tells → AreParts a old new
  pub opens : OpensBy tells status a old given ids
  pub order : (name : List ℕ) (options : Options) → a ≡ Some (Run name options)
      → OpenedInOrder tells printing name options status old given ids before after
  pub net_order : (name : List ℕ) (counters : Bool) → a ≡ Some (Net name counters)
      → NetOpenedInOrder tells printing name counters status old given ids before after

-- All of that, and which statuses can come.
pub record Ends (tells printing : Type 0) (a : Option Ask) (status : ℕ) (old new : Files) (counted now : Faults)
    (given ids : ℕ → Id) (failed fails : ℕ) (before after : List ℕ) : Type 0 where
  pub done : Done tells printing a status old new before after
  pub refused : Refused tells printing a status old new failed fails before after
  pub broken : Broken tells printing a status old new counted now given ids failed fails before after
  pub leaves : Leaves tells printing a status old new counted now given ids failed fails before after
  pub status_is : IsStatus a status
