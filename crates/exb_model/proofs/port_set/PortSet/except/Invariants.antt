use Rattle.std.proofs.Common.{◌≡◌, length, bit_and, w64}
use Rattle.std.specs.Int.{bit_not}
use Rattle.exb_model.proofs.JoinedWords.{AreJoined}
use Rattle.exb_model.proofs.port_set.PortSet.except.Given as goal

abbrev pub invariant-loop-device : goal.invariant-loop-device
invariant-loop-device l = record {
  joined : AreJoined (λ x y. bit_and x (bit_not w64 y)) l.self.words l.other.words l.words l.device;
  sized : length l.words ≡ 65;
}
