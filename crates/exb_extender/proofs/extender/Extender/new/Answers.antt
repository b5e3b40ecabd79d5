use Rattle.std.proofs.Common.{◌≡◌, ℕ, ap, ◌∙◌, refl}
use Rattle.exb_csp.specs.Execution.{ExtenderTables}
use Rattle.exb_csp.specs.PortMasks.{powered_on}
use Rattle.exb_extender.specs.ExtenderParts.{state_with}
use Rattle.exb_extender.proofs.extender.Extender.new.Goals as goal

powered_ports : (ports : ℕ) → (powered_on ports).ports ≡ ports
unfolding powered_on
powered_ports ports = refl

pub returns-clause-state : goal.returns-clause-state
returns-clause-state c = ap (λ (t : ExtenderTables). state_with t c.new-control.result) c.in_ok-tables.ensures ∙ c.new-control.ensures _

pub returns-clause-ports : goal.returns-clause-ports
returns-clause-ports c = ap (λ (t : ExtenderTables). t.ports) c.in_ok-tables.ensures ∙ powered_ports c.args.ports
