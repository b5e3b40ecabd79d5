use Rattle.exb_run.proofs.AuditsAfterRuns.{audits_follow_runs}
use Rattle.exb_run.proofs.laws.audits_follow_runs.Goals as goal

pub returns : goal.returns
returns c = audits_follow_runs c.read_is_sound.ensures c.runs_are_found_legal.ensures
