use Rattle.std.proofs.Common.{◌≡◌, ℕ, ◌<◌, length, drop, slice_index}
use Rattle.exb_model.specs.Setup.{lay, port_at, shape_of}
use Rattle.exb_model.proofs.layout.Layout.new.Given as goal

-- what is laid, with what is still to be laid, is the tree
abbrev pub invariant-loop-extender : goal.invariant-loop-extender
invariant-loop-extender l = record {
  ports_sized : length l.ports ≡ 65;
  on_sized : length l.on ≡ 65;
  fits : (n : ℕ) → slice_index l.on n < 4160;
  ports : lay (λ e. e.ports) l.ports (drop l.extender-index l.setup.extenders) ≡ (shape_of l.setup).ports;
  on : lay (λ e. port_at e.on) l.on (drop l.extender-index l.setup.extenders) ≡ (shape_of l.setup).on;
}
