use Rattle.std.proofs.Common.{◌≡◌, ◌+◌, length}
use Rattle.std.specs.VecDeque.{deque_len}
use Rattle.std.specs.VecDeque.Iter.{deque_iter_rest}
use Rattle.exb_link.specs.Queues.{place_from}
use Rattle.exb_link.proofs.link.place_behind.Given as goal

abbrev pub invariant-loop-sent : goal.invariant-loop-sent
invariant-loop-sent l = record {
  told : place_from l.rest (deque_iter_rest l.sent-iterator) l.place ≡ place_from l.at l.frames.items 0;
  counted : l.place + length (deque_iter_rest l.sent-iterator) ≡ deque_len l.frames;
}
