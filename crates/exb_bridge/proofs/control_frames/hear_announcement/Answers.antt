use Rattle.std.proofs.Common.{refl, sym, ◌∙◌}
use Rattle.std.proofs.lemmas.Result.{on_ok_weaker}
use Rattle.exb_control_spec.specs.Decisions.{decide}
use Rattle.exb_control.proofs.Calls.{when_ok}
use Rattle.exb_world_spec.specs.BridgeLearning.{announced}
use Rattle.exb_bridge.specs.TreeIndexes.{limits_in}
use Rattle.exb_bridge.specs.BridgeWorlds.{whole, world_in}
use Rattle.exb_bridge.proofs.ControlFrames.{announced_at, asks_go, ignored}
use Rattle.exb_bridge.proofs.ControlSteps.{at_moved, moved_is}
use Rattle.exb_bridge.proofs.control_frames.hear_announcement.Goals as goal

pub follow-requires : goal.follow-requires
follow-requires g c =
    let s = c.args.site.now in
    let core = (whole g.rest c.args.bridge.now) in
    let fine = sym c.is_err.ensures.value ∙ c.if-is_err.false in
    let moved = announced_at s core c.args.number c.args.announce.now c.heard.new.self c.heard.new.out c.requires.0 (sym c.is_of.ensures ∙ c.if-not-is_of.false) (when_ok _ fine c.heard.ensures.ok) in
    let m = announced (decide s.tree (limits_in s)) s.tree c.args.number c.args.announce.now (world_in core).control in (
      at_moved s core (record core { control = c.heard.new.self }) m c.heard.new.out moved refl c.requires.0,
      asks_go s.tree m core.control c.heard.new.self c.heard.new.out moved (c.requires.1.1.hears c.args.number c.args.announce.now),
    )

pub returns-then-not-is_of : goal.returns-then-not-is_of
returns-then-not-is_of g c f = ignored c.args.site.now (whole g.rest c.args.bridge.now) c.args.number c.args.announce.now f c.args.room.now.post.log c.requires.0 (sym c.is_of.ensures ∙ c.if-not-is_of.true)

pub returns : goal.returns
returns g c =
    let s = c.args.site.now in
    let core = (whole g.rest c.args.bridge.now) in
    let fine = sym c.is_err.ensures.value ∙ c.if-is_err.false in
    let moved = announced_at s core c.args.number c.args.announce.now c.heard.new.self c.heard.new.out c.requires.0 (sym c.is_of.ensures ∙ c.if-not-is_of.false) (when_ok _ fine c.heard.ensures.ok) in
    let m = announced (decide s.tree (limits_in s)) s.tree c.args.number c.args.announce.now (world_in core).control in
    on_ok_weaker c.follow.result (λ done f. done m (world_in core) (moved_is m core c.heard.new.self c.heard.new.out moved) moved.events moved.asks moved.downs) c.follow.ensures
