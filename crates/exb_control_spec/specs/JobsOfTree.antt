-- Jobs that are ones of the tree.
use Rattle.std.specs.Prelude.{◌≡◌, ℕ, true, List, [], ◌∷◌}
use Rattle.exb_model.specs.Tree.{Shape, is_external, is_extended, is_extender}
use Rattle.exb_model.specs.Setup.{NamesExternal}
use Rattle.exb_model.specs.Configuration.{Bridge}
use Rattle.exb_control_spec.specs.declared.job.Job.{Job}
use Rattle.exb_control_spec.specs.declared.job.Job.TheVariants as job

-- what a job needs when its turn comes
abbrev pub Fits : Shape → Job → Type 0
Fits t (job.Opening n) = is_extender t n ≡ true
Fits t (job.AutomaticUp p) = is_extended t p ≡ true
Fits t (job.Ordered n c) = NamesExternal t c

-- so it is of each job of a queue
abbrev pub AreFit : Shape → List Job → Type 0
AreFit t [] = Unit {0}
AreFit t (j ∷ js) = Fits t j × AreFit t js

-- present ports are external ports of the tree
abbrev pub HasExternals : Shape → Bridge → Type 0
HasExternals t b = (q : ℕ) → b.present q ≡ true → is_external t q ≡ true
