-- The machine stands at the beginning.
use Rattle.std.specs.Prelude.{◌≡◌, ℕ, ◌<◌, ◌≤◌, true, false, List}
use Rattle.exb_model.specs.Tree.{Shape, is_external, is_extended, cascades_under}
use Rattle.exb_model.specs.declared.setup.Setup.{Setup}
use Rattle.exb_model.specs.Setup.{Limits, IsValid, shape_of, limits_of, start_of}
use Rattle.exb_model.specs.Configuration.{Bridge}
use Rattle.exb_control_spec.specs.Decisions.{decide}
use Rattle.exb_control_spec.specs.Runs.Systems.{Step, run}
use Rattle.exb_control_spec.specs.Runs.InitialSystem.{first_system}
use Rattle.exb_control_spec.specs.Runs.MachineInvariant.{Stands, MayRun, CodesAreZero}
use Rattle.exb_control_spec.specs.Runs.PlannedChanges.{IsSetting, planning}

-- Present ports are external ports of the bridge itself, and each space has channels for its cascade ports.
pub record MayBegin (t : Shape) (l : Limits) (b : Bridge) : Type 0 where
  pub external : (q : ℕ) → b.present q ≡ true → is_external t q ≡ true
  pub absent : (q : ℕ) → is_extended t q ≡ true → b.present q ≡ false
  pub enough : (k : ℕ) → k < 64 → cascades_under t k ≤ l.channels

-- Each valid setup is such a beginning.
abbrev pub SetupsBegin : Type 0
SetupsBegin = (s : Setup) → IsValid s → IsSetting (shape_of s) (limits_of s)
    × MayBegin (shape_of s) (limits_of s) (start_of s)

-- The machine and the tables stand there.
abbrev pub Begins : Type 0
Begins = (t : Shape) (l : Limits) (b : Bridge) → IsSetting t l → MayBegin t l b
    → Stands (planning t) (first_system t l b)

-- So they stand over every run from there, and each code is 0.
abbrev pub RunsFromTheBeginning : Type 0
RunsFromTheBeginning =
    (t : Shape) (l : Limits) (b : Bridge) (steps : List Step) → IsSetting t l → MayBegin t l b →
    let y = first_system t l b in
    MayRun (planning t) (decide t l) y steps → Stands (planning t) (run (decide t l) steps y)
    × CodesAreZero (decide t l) y steps
