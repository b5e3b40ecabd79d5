use Rattle.exb_outputs.specs.TextUpdates.{with_end}
use Rattle.exb_outputs.proofs.OutputPrefixes.{cut_whole}
use Rattle.exb_play.proofs.bridge_player.BridgePlayer.end.Goals as goal

pub returns-in-Err-clause-cut : goal.returns-in-Err-clause-cut
returns-in-Err-clause-cut g c = λ t orig text p.
    let whole = with_end text c.args.manifest.now c.args.self.now.counted.ports c.args.self.now.outputs in
    cut_whole c.args.manifest.now orig (g.S.Shelf.file c.finish.new.shelf) whole (c.in_ok-finish.ensures.texts t orig whole (c.in_ok-write_end.ensures.texts t orig text p))
