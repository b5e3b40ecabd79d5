use Rattle.exb_world.proofs.WorldInvariant.{asks_well, live_after}
use Rattle.exb_world.proofs.live_steps.stays_live.Goals as goal

pub returns-clause-asks : goal.returns-clause-asks
returns-clause-asks c = asks_well c.asks_can_be_sent.ensures c.args.site.now c.args.core.now c.is_active_config.ensures c.requires

pub returns-clause-stays : goal.returns-clause-stays
returns-clause-stays c step d old new can bytes vid low does =
    live_after c.runs_stay_sound.ensures c.steps_stay_written.ensures c.written_are_short.ensures c.args.site.now c.args.core.now d step old new c.is_active_config.ensures c.requires can bytes vid (c.has_low_serials.ensures c.requires.at.awake) low
    does
