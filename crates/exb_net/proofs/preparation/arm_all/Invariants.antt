use Rattle.std.proofs.Common.{◌≡◌, ◌<◌, ◌+◌, ◌^◌, drop, length, take}
use Rattle.exb_net.specs.PairedLists.{AreEach}
use Rattle.exb_net.proofs.preparation.arm_all.Given as goal

-- The fates so far are armed, for the first bridge and so many others.
abbrev pub invariant-loop-rest : goal.invariant-loop-rest
invariant-loop-rest g l = record {
  left : l.more.items ≡ drop l.rest-index l.fn.more.items;
  each : AreEach (λ b r f. (goal.Fate-dyn g (f.vtable, f.value)).left f.value < 2 ^ 56 + length r.fate) (take (l.rest-index + 1) l.rests) l.fates.items;
}
