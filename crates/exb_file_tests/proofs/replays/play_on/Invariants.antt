use Rattle.exb_test_shelf.specs.DisturbedFiles.{ids_of}
use Rattle.exb_capture.specs.CaptureFiles.{IsAt}
use Rattle.exb_capture.specs.Replays.{IsKept}
use Rattle.exb_file_tests.proofs.replays.play_on.Given as goal

abbrev pub invariant-records : goal.invariant-records
invariant-records g l = record {
  at : IsAt (ids_of l.shelf l.replay.file.id) l.replay.file.got;
  kept : IsKept l.replay;
}
