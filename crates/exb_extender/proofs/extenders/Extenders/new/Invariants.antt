use Rattle.std.proofs.Common.{◌≡◌, length}
use Rattle.exb_extender.proofs.ExtendersByNumber.{ArePoweredOn, AreWaiting}
use Rattle.exb_extender.proofs.extenders.Extenders.new.Given as goal

abbrev pub invariant-loop-number : goal.invariant-loop-number
invariant-loop-number l = record {
  length : length l.extenders.items ≡ l.number;
  powered : ArePoweredOn l.ports l.extenders.items;
  waiting : AreWaiting l.extenders.items l.waiting;
}
