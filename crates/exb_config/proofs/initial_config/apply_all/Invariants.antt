use Rattle.std.proofs.Common.{◌≡◌, fold, take}
use Rattle.exb_model.specs.Configuration.{after}
use Rattle.exb_config.specs.Tables.{bridge_of}
use Rattle.exb_config.specs.Pvids.{HasPvids}
use Rattle.exb_config.proofs.initial_config.apply_all.Given as goal

abbrev pub invariant-loop-command : goal.invariant-loop-command
invariant-loop-command l =
    (bridge_of l.config ≡ fold (λ k c. after c k) (bridge_of l.fn.config) (take l.command-index l.commands)) × HasPvids (bridge_of l.config)
