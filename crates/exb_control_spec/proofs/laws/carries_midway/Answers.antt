use Rattle.exb_control_spec.proofs.Runs.LaidCarriage.{carries_midway}
use Rattle.exb_control_spec.proofs.laws.carries_midway.Goals as goal

pub returns : goal.returns
returns c = carries_midway
