-- What holds of a plan that is refused, and what of one that is made.
use Rattle.exb_control_spec.specs.declared.plan.change.Decision.{Decision}
use Rattle.exb_control_spec.specs.declared.plan.change.Decision.TheVariants.{Refused, Ready}

abbrev pub IfDecided : Decision → Type 0 → Type 0 → Type 0
IfDecided (Refused cause) refused made = refused
IfDecided (Ready change) refused made = made
