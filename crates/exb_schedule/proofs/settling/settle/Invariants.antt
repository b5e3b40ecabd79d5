use Rattle.exb_schedule.proofs.SettlingProgress.{measure, IsResting}
use Rattle.exb_schedule.proofs.settling.settle.Given as goal

-- Settling ends from here, with few enough rounds.
abbrev pub invariant-rounds : goal.invariant-rounds
invariant-rounds g l =
    IsResting l.fn.world l.world ((goal.Fate-dyn g l.fn.fate.now).left l.fn.fate.now.1)
    ((goal.Fate-dyn g l.fate.now).left l.fate.now.1) l.made

abbrev pub decreases-rounds : goal.decreases-rounds
decreases-rounds g l =
    measure l.fn.world ((goal.Fate-dyn g l.fn.fate.now).left l.fn.fate.now.1) l.world
    ((goal.Fate-dyn g l.fate.now).left l.fate.now.1)
