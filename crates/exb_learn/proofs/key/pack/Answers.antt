use Rattle.std.proofs.Common.{◌<◌, subst, List, arith}
use Rattle.std.specs.Prelude.{ℕ, slice_index}
use Rattle.exb_learn.proofs.key.pack.Goals as goal

pub returns-clause-number : goal.returns-clause-number
returns-clause-number c = c.from_le_bytes.ensures

pub returns-clause-long : goal.returns-clause-long
returns-clause-long c = omega arith

pub returns-clause-bytes : goal.returns-clause-bytes
returns-clause-bytes c = subst (λ (xs : List ℕ). (i : ℕ) → slice_index xs i < 256) c.as_slice.ensures c.are_bytes.ensures
