-- What holds of every audit.
use Rattle.std.specs.Prelude.{◌≡◌, ℕ, List}
use Rattle.exb_shelf.specs.Files.{Files}
use Rattle.exb_inputs.specs.declared.fault.Fault.{Fault}
use Rattle.exb_audit_files.specs.Audits.{IsFoundLegal, StopsAudit}
use Rattle.exb_audit_files.specs.Scopes.{Scope}

-- One thing stops an audit, and nothing where it finds the trace legal.
pub record HasOneEnd : Type 0 where
  pub once : (s : Scope) (file : Files) (x y : Fault) → StopsAudit s file x → StopsAudit s file y → x ≡ y
  pub legal : (s : Scope) (file : Files) (text : List ℕ) (x : Fault) → IsFoundLegal s file text → StopsAudit s file x
      → ⊥
