use Rattle.std.proofs.Common.{◌∙◌, ap}
use Rattle.exb_outputs.specs.WrittenTexts.{pieces_of}
use Rattle.exb_cli.specs.declared.invocations.Options.{Options}
use Rattle.exb_outputs.proofs.TextPrefixes.{begun_eagerly}
use Rattle.exb_play.specs.Disks.{disk}
use Rattle.exb_play.specs.BridgeRuns.{player, mode_of}
use Rattle.exb_play.proofs.EarlyEnds.{ended_eagerly}
use Rattle.exb_play.proofs.RunSteps.{begins-opened}
use Rattle.exb_play.proofs.PartialOutputs.{begun-so-far, ended-so-far}
use Rattle.exb_play.proofs.bridge_player.play_feed.Goals as goal

pub play_world-requires-clause-opened : goal.play_world-requires-clause-opened
play_world-requires-clause-opened g c =
    begins-opened g.S.Shelf.tells g.R.OfRun.run c.args.script.now.setup.now (player c.args.schedule c.args.manifest.now c.in-Ok-open.world c.in-Ok.counted c.args.outputs (disk g.S.Shelf c.args.shelf.now)) c.args.feed.now.programme
    c.requires.begins c.requires.tree (c.in-Ok-open.ensures.plays (mode_of c.args.schedule)) (c.in-Ok-open.ensures.tracing ∙ ap (λ (o : Options). o.trace) c.options.ensures) c.in-Ok.ensures

-- ---- where it ended early
pub returns-in_default-clause-fronts : goal.returns-in_default-clause-fronts
returns-in_default-clause-fronts g c tells eager = begun_eagerly g.R.OfRun.run.input c.args.manifest.now _ _ (pieces_of c.args.outputs) (c.requires.begins.texts tells)

pub returns-in_default-open-clause-fronts : goal.returns-in_default-open-clause-fronts
returns-in_default-open-clause-fronts g c tells eager = begun_eagerly g.R.OfRun.run.input c.args.manifest.now _ _ (pieces_of c.args.outputs) (c.requires.begins.texts tells)

pub returns-clause-fronts : goal.returns-clause-fronts
returns-clause-fronts g c tells eager =
    ended_eagerly c.runs_write_fronts.ensures (mode_of c.args.schedule) g.R.OfRun.run c.args.manifest.now (g.S.Shelf.file c.play_world.new.shelf) c.play_world.result eager c.requires.begins.timely
    (c.play_world.ensures.done tells) (c.play_world.ensures.cut tells)

-- ---- what it leaves, however it ended
pub returns-in_default-clause-so_far : goal.returns-in_default-clause-so_far
returns-in_default-clause-so_far g c tells = begun-so-far (mode_of c.args.schedule) g.R.OfRun.run.input c.args.manifest.now _ _ (pieces_of c.args.outputs) (c.requires.begins.texts tells)

pub returns-in_default-open-clause-so_far : goal.returns-in_default-open-clause-so_far
returns-in_default-open-clause-so_far g c tells = begun-so-far (mode_of c.args.schedule) g.R.OfRun.run.input c.args.manifest.now _ _ (pieces_of c.args.outputs) (c.requires.begins.texts tells)

pub returns-clause-so_far : goal.returns-clause-so_far
returns-clause-so_far g c tells =
    ended-so-far c.runs_tell_so_far.ensures (mode_of c.args.schedule) g.R.OfRun.run c.args.manifest.now (g.S.Shelf.file c.play_world.new.shelf) c.play_world.result c.requires.begins.timely
    (c.play_world.ensures.done tells) (c.play_world.ensures.cut tells)
