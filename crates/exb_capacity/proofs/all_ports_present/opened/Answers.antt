use Rattle.std.proofs.Common.{◌∙◌, ap, fold, List}
use Rattle.exb_model.specs.declared.command.Command.{Command}
use Rattle.exb_model.specs.Configuration.{Bridge, after}
use Rattle.exb_model.specs.Ports.{port_in}
use Rattle.exb_model.specs.Tree.{Shape, is_external}
use Rattle.exb_config.specs.Tables.{bridge_of}
use Rattle.exb_capacity.proofs.StartCommands.{opened_is}
use Rattle.exb_capacity.proofs.all_ports_present.opened.Goals as goal

pub returns-in-Ok : goal.returns-in-Ok
returns-in-Ok c =
    opened_is c.args.setup.now c.requires.valid (port_in c.external_ports.result)
    (λ q. c.external_ports.ensures q ∙ ap (λ (t : Shape). is_external t q) c.requires.tree)
    (bridge_of c.apply_all.new.config)
    (c.in-Ok.ensures
    ∙ (ap (λ (cs : List Command). fold (λ k d. after d k) (bridge_of c.in_ok-config.config) cs) c.as_slice.ensures
    ∙ ap (λ (b : Bridge). fold (λ k d. after d k) b c.args.setup.now.start) c.in_ok-config.ensures))
