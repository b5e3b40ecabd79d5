-- The texts that say that what is asked for is done, of whatever they speak.
use Rattle.std.specs.Prelude.{◌≡◌, ℕ, List, Option, Some, None}
use Rattle.exb_audit_files.specs.Audits.{legal_line}
use Rattle.exb_make.specs.GeneratedInputs.{made}
use Rattle.exb_model.specs.Setup.{Limits}
use Rattle.exb_capacity.specs.Lines.{lines_of}
use Rattle.exb_capacity.specs.declared.needs.Needs.{Needs}
use Rattle.exb_cli.specs.CommandLines.{Ask, Run, Check, Make, Audit, Net}
use Rattle.exb_run.specs.Answers.{eager_summary}
use Rattle.exb_outputs.specs.Counts.{IsSummary}

-- the lines on what some topology needs, and has
abbrev pub AreLines : List ℕ → Type 0
AreLines text = (needs : Needs) × (limits : Limits) × (text ≡ lines_of needs limits)

-- the line of a legal trace of some length
abbrev pub IsLegalLine : List ℕ → Type 0
IsLegalLine text = (n : ℕ) × (text ≡ legal_line n)

-- a text that says that what is asked for is done
abbrev pub SaysDone : Option Ask → List ℕ → Type 0
SaysDone None text = ⊥
SaysDone (Some (Run name options)) text = IsSummary text
SaysDone (Some (Check name)) text = AreLines text
SaysDone (Some (Make number)) text = text ≡ eager_summary (made number)
SaysDone (Some (Audit name)) text = IsLegalLine text
SaysDone (Some (Net name counters)) text = IsSummary text
