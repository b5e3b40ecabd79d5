use Rattle.exb_control_spec.proofs.Runs.TablesMidChange.{laid_midway}
use Rattle.exb_control_spec.proofs.laws.laid_midway.Goals as goal

pub returns : goal.returns
returns c = laid_midway
