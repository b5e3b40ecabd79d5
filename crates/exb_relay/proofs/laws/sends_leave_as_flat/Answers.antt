use Rattle.exb_relay.proofs.FlatOutput.{leaves_as_flat}
use Rattle.exb_relay.proofs.laws.sends_leave_as_flat.Goals as goal

pub returns : goal.returns
returns c t u b look m p f valid ready numb carries pvids bytes there q index moment ext =
    leaves_as_flat t u b look m p f valid ready numb carries pvids bytes there c.tag_round_trip.ensures q index moment ext
