use Rattle.std.proofs.Common.{◌≡◌, length, take, drop}
use Rattle.exb_net.specs.PairedLists.{AreEach}
use Rattle.exb_net.specs.Assembly.{AreFirst}
use Rattle.exb_net.proofs.assembly.make_all.Given as goal

-- So many bridges are made, with the first fates.
abbrev pub invariant-loop-bridge : goal.invariant-loop-bridge
invariant-loop-bridge g l = record {
  first : AreFirst l.setup.wires l.setup.setups l.nodes.items;
  long : length l.nodes.items ≡ l._bridge;
  left : l.fates.items ≡ drop l._bridge l.fn.fates.items;
  each : AreEach (λ b f x. (goal.Fate-dyn g (x.fate.vtable, x.fate.value)).left x.fate.value ≡ (goal.Fate-dyn g (f.vtable, f.value)).left f.value) (take l._bridge l.fn.fates.items) l.nodes.items;
}
