use Rattle.std.proofs.Common.{refl, sym, subst}
use Rattle.std.proofs.lemmas.Result.{on_ok_weaker}
use Rattle.exb_model.specs.Setup.{NamesExternal}
use Rattle.exb_model.specs.Tree.{Shape}
use Rattle.exb_control_spec.specs.Decisions.{decide}
use Rattle.exb_control_spec.specs.Machine.{ordered}
use Rattle.exb_bridge.specs.TreeIndexes.{limits_in}
use Rattle.exb_bridge.specs.BridgeWorlds.{whole, world_in}
use Rattle.exb_bridge.proofs.ControlFrames.{asks_go}
use Rattle.exb_bridge.proofs.ControlSteps.{at_moved, moved_is}
use Rattle.exb_bridge.proofs.CommandsAndTicks.{ordered_at}
use Rattle.exb_bridge.proofs.commands.order.Goals as goal

pub command-requires-clause-names : goal.command-requires-clause-names
command-requires-clause-names g c = subst (λ (t : Shape). NamesExternal t c.args.command.now) (sym c.requires.0.shape) c.requires.1.0

pub follow-requires : goal.follow-requires
follow-requires g c =
    let s = c.args.site.now in
    let core = (whole g.rest c.args.bridge.now) in
    let moved = ordered_at s core c.args.command.now c.command.new.self c.command.new.out c.requires.0 c.in-Ok.ensures.ok in
    let m = ordered (decide s.tree (limits_in s)) c.args.command.now (world_in core).control in (
      at_moved s core (record core { control = c.command.new.self }) m c.command.new.out moved refl c.requires.0,
      asks_go s.tree m core.control c.command.new.self c.command.new.out moved (c.requires.1.1.1.orders c.args.command.now c.requires.1.0),
    )

pub returns-in-Ok : goal.returns-in-Ok
returns-in-Ok g c =
    let s = c.args.site.now in
    let core = (whole g.rest c.args.bridge.now) in
    let m = ordered (decide s.tree (limits_in s)) c.args.command.now (world_in core).control in
    let moved = ordered_at s core c.args.command.now c.command.new.self c.command.new.out c.requires.0 c.in-Ok.ensures.ok in
    on_ok_weaker c.follow.result (λ done. done m (world_in core) (moved_is m core c.command.new.self c.command.new.out moved) moved.events moved.asks moved.downs) c.follow.ensures
