use Rattle.exb_world_spec.proofs.Journal.{journal_decides_once}
use Rattle.exb_world_spec.proofs.laws.journal_decides_once.Goals as goal

pub returns : goal.returns
returns c = journal_decides_once c.steps_tell.ensures c.tag_round_trip.ensures
