use Rattle.exb_play.specs.RunInvariants.{run_of}
use Rattle.exb_play.proofs.segments.play.Given as goal

abbrev pub ghosts-play_run : goal.ghosts-play_run
ghosts-play_run g a = record { run = run_of a.script.now.setup.now a.script.now.commands.now a.names.now (g.S.Shelf.file a.shelf.now) }
