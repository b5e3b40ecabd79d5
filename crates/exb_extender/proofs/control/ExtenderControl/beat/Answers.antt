use Rattle.std.proofs.Common.{refl}
use Rattle.exb_extender.proofs.ControlLemmas.{beats_state, beats_sends}
use Rattle.exb_extender.proofs.control.ExtenderControl.beat.Goals as goal

pub returns-clause-state : goal.returns-clause-state
returns-clause-state c = rw (← c.self.view_is) (λ t. beats_state t _ _ refl refl refl c.beat_at.ensures.state c.next_count-self-inside.ensures)

pub returns-clause-sends : goal.returns-clause-sends
returns-clause-sends c = rw (← c.self.view_is) (λ t same. beats_sends t _ _ _ _ _ same c.next_count-self-inside.ensures c.announce.ensures c.beat_at.ensures.sends)
