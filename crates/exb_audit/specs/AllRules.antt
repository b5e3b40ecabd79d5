-- What is judged.
use Rattle.std.specs.Prelude.{ℕ, zero, suc, List}
use Rattle.exb_model.specs.declared.setup.Setup.{Setup}
use Rattle.exb_model.specs.Setup.{shape_of}
use Rattle.exb_model.specs.Traces.{TraceLine}
use Rattle.exb_model.specs.Tree.{Shape}
use Rattle.exb_trace_spec.specs.Rule4Captures.{IsCaptured}
use Rattle.exb_trace_spec.specs.Rule5Relays.{AreSteps}
use Rattle.exb_trace_spec.specs.Rules.{Files, KeepsLinks}
use Rattle.exb_trace_spec.specs.Rule2Extenders.{FollowMachines}
use Rattle.exb_audit.specs.declared.frames.PortFrames.{PortFrames}
use Rattle.exb_audit.specs.declared.judgement.Judged.{Judged}
use Rattle.exb_audit.specs.declared.judgement.Judged.TheVariants as judged
use Rattle.exb_audit.specs.Frames.{frames_by}

-- A port that isn't named has no frames.
abbrev pub files_by : Setup → List PortFrames → List (List ℕ) → List TraceLine → List PortFrames → Files
files_by setup captures journal lines outputs =
    record {
      tree = shape_of setup;
      journal = journal;
      captures = frames_by captures;
      outputs = frames_by outputs;
      lines = lines;
    }

-- rules 2 to r - 1 hold, and rule r doesn't
abbrev pub IsBroken : Shape → (ℕ → List (List ℕ)) → (ℕ → List (List ℕ)) → List TraceLine → ℕ → Type 0
IsBroken t captures outputs lines (suc (suc zero)) = FollowMachines t lines → ⊥
IsBroken t captures outputs lines (suc (suc (suc zero))) = FollowMachines t lines × (KeepsLinks t lines → ⊥)
IsBroken t captures outputs lines (suc (suc (suc (suc zero)))) = FollowMachines t lines × KeepsLinks t lines
    × (IsCaptured t captures outputs lines → ⊥)
IsBroken t captures outputs lines (suc (suc (suc (suc (suc zero))))) = FollowMachines t lines × KeepsLinks t lines
    × IsCaptured t captures outputs lines × (AreSteps t captures lines → ⊥)
IsBroken t captures outputs lines _ = ⊥

-- what is found where rule 1 holds: that all others hold, or the lowest that doesn't
abbrev pub FindsRest : Shape → (ℕ → List (List ℕ)) → (ℕ → List (List ℕ)) → List TraceLine → Judged → Type 0
FindsRest t captures outputs lines judged.Legal = FollowMachines t lines × KeepsLinks t lines
    × IsCaptured t captures outputs lines × AreSteps t captures lines
FindsRest t captures outputs lines (judged.Broken r) = IsBroken t captures outputs lines r
