use Rattle.std.specs.Prelude.{slice_index}
use Rattle.exb_model.proofs.PortBits.{get_or-same}
use Rattle.std.proofs.Common.{ℕ, List, ◌∙◌, ap}
use Rattle.exb_audit.proofs.frames.table_of.Goals as goal

pub fill-requires-clause-none : goal.fill-requires-clause-none
fill-requires-clause-none c = λ p. ap (λ (xs : List ℕ). slice_index xs p) (c.as_mut_slice.ensures.value ∙ c.in_ok-table.ensures.items_if_clones_equal (λ y e. e)) ∙ get_or-same {X = ℕ} 4160 p 0
