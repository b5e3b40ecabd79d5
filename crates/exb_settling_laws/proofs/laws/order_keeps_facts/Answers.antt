use Rattle.exb_settling_laws.proofs.OrderlyWorlds.{order_keeps_facts}
use Rattle.exb_settling_laws.proofs.laws.order_keeps_facts.Goals as goal

pub returns : goal.returns
returns c = order_keeps_facts c.tag_round_trip.ensures
