use Rattle.std.proofs.Common.{ℕ, ◌<◌, slice_index_or}
use Rattle.exb_model.specs.Setup.{InRange}
use Rattle.exb_model.specs.declared.setup.ExtenderSetup.{ExtenderSetup}
use Rattle.exb_model.proofs.setup.are_in_range.Given as goal

abbrev pub invariant-loop-extender : goal.invariant-loop-extender
invariant-loop-extender l = (k : ℕ) (d : ExtenderSetup) → k < l.extender-index → InRange (slice_index_or l.extenders k d)
