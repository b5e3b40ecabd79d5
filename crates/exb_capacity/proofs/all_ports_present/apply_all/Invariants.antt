use Rattle.std.proofs.Common.{◌≡◌, fold, take}
use Rattle.exb_model.specs.Configuration.{after}
use Rattle.exb_config.specs.Tables.{bridge_of}
use Rattle.exb_capacity.proofs.all_ports_present.apply_all.Given as goal

-- those of the commands so far
abbrev pub invariant-loop-command : goal.invariant-loop-command
invariant-loop-command l = bridge_of l.config ≡ fold (λ k c. after c k) (bridge_of l.fn.config) (take l.command-index l.commands)
