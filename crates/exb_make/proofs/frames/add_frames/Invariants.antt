use Rattle.std.proofs.Common.{map}
use Rattle.std.specs.List.{range_with_len}
use Rattle.exb_make.specs.Draws.{Adds, for_each}
use Rattle.exb_make.specs.DrawOrder.{frame}
use Rattle.exb_make.specs.GeneratedParts.{frame_of}
use Rattle.exb_make.proofs.frames.add_frames.Given as goal

-- the frames so far
abbrev pub invariant-loop-number : goal.invariant-loop-number
invariant-loop-number l = Adds (for_each frame (range_with_len 0 l.number)) (map frame_of l.fn.arrived.items) (map frame_of l.arrived.items) l.fn.rng l.rng
