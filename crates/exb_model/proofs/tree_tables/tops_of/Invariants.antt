use Rattle.std.proofs.Common.{◌≡◌, ℕ, ◌<◌, length, slice_index}
use Rattle.exb_model.specs.Tree.{trunk}
use Rattle.exb_model.proofs.tree_tables.tops_of.Given as goal

-- the extenders so far have theirs
abbrev pub invariant-loop-number : goal.invariant-loop-number
invariant-loop-number l =
    (length l.tops ≡ 65) × ((n : ℕ) → n < l.number → slice_index l.tops n ≡ trunk l.layout n)
