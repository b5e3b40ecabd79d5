-- What an audit counts, once all is read.
use Rattle.std.proofs.Common.{◌≡◌, ◌⊎◌, inl, inr, ℕ, Result, Ok, Err, sym, subst}
use Rattle.std.specs.Prelude.{IfErr}
use Rattle.exb_shelf.specs.Shelf.{Faults}
use Rattle.exb_inputs.specs.Answers.{IsRule}
use Rattle.exb_inputs.specs.FaultCounts.{CountsFault}
use Rattle.exb_inputs.specs.ShelfEffects.{CountsFaults}
use Rattle.exb_inputs.specs.declared.fault.Fault.{Fault}
use Rattle.exb_inputs.specs.declared.fault.Fault.TheVariants.{Illegal, Memory, Missing, Output, Read, TooLarge}
use Rattle.exb_inputs.specs.declared.fault.AuditInput.TheVariants as part
use Rattle.exb_audit_files.specs.declared.port_files.FramesFault.{FramesFault}
use Rattle.exb_audit_files.specs.declared.port_files.FramesFault.TheVariants as frames
use Rattle.exb_audit_files.specs.FrameFiles.{CountsFrames}
use Rattle.exb_audit_files.specs.Audits.{outputs_fault}
use Rattle.exb_inputs.proofs.ShelfEffects.{counted_once, counts_ok, fewer_same}

pub judged_counted : {Y : Type 0} (P : ℕ → Type 0) (result : Result Y Fault) (a b : Faults) → b ≡ a → IfErr result (λ (fault : Fault). ((r : ℕ) × IsRule r × P r × (fault ≡ Illegal r)) ⊎ (fault ≡ Memory)) → CountsFaults result a b
judged_counted P (Ok y) a b same broken = counts_ok y a b same
judged_counted P (Err x) a b same (inl (r, rule, lowest, is)) = counted_once (Err x) a b (fewer_same a b same) (subst (λ (z : Fault). CountsFault z a b) (sym is) same)
judged_counted P (Err x) a b same (inr memory) = counted_once (Err x) a b (fewer_same a b same) (subst (λ (z : Fault). CountsFault z a b) (sym memory) (inl same))

-- a fault of output files is counted as it was
pub outputs_counted : {X Y : Type 0} (x : FramesFault) (a b : Faults) → CountsFrames {X = X} (Err x) a b → CountsFaults {X = Y} (Err (outputs_fault x)) a b
outputs_counted frames.Memory a b counts = counted_once (Err Memory) a b counts.none_fell counts.once
outputs_counted frames.Read a b counts = counted_once (Err Read) a b counts.none_fell counts.once
outputs_counted (frames.Missing name) a b counts = counted_once (Err (Missing name)) a b counts.none_fell counts.once
outputs_counted (frames.Broken p broke) a b counts = counted_once (Err (Output p broke)) a b counts.none_fell counts.once
outputs_counted frames.Large a b counts = counted_once (Err (TooLarge part.Outputs)) a b counts.none_fell counts.once
