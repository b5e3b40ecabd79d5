use Rattle.std.specs.List.{range_with_len}
use Rattle.exb_make.specs.Draws.{Adds, for_each}
use Rattle.exb_make.specs.DrawOrder.{order}
use Rattle.exb_make.proofs.commands.add_orders.Given as goal

-- the commands so far
abbrev pub invariant-loop-number : goal.invariant-loop-number
invariant-loop-number l = Adds (for_each order (range_with_len 0 l.number)) l.fn.timed l.timed l.fn.rng l.rng
