use Rattle.std.proofs.Common.{refl}
use Rattle.exb_world.specs.declared.parts.WorldParts.{WorldParts}
use Rattle.exb_world.specs.MachineWorlds.{whole_of}
use Rattle.exb_world.proofs.FirstWorlds.{begins, begins_at}
use Rattle.exb_world.proofs.parts.WorldParts.new.Goals as goal

pub returns-clause-world : goal.returns-clause-world
returns-clause-world c =
    let made : WorldParts = record { bridge = c.in_ok-bridge.bridge; far = c.in_ok-far.far; up = c.in_ok-up.up; next = c.in_ok-next.next; beats = 0 } in
    let begun = c.in_ok-bridge.ensures in
    begins c.args.setup.now (whole_of made) refl begun.state begun.learned begun.near c.in_ok-far.ensures.far begun.down c.in_ok-up.ensures c.in_ok-next.ensures

pub returns-clause-at : goal.returns-clause-at
returns-clause-at c =
    let made : WorldParts = record { bridge = c.in_ok-bridge.bridge; far = c.in_ok-far.far; up = c.in_ok-up.up; next = c.in_ok-next.next; beats = 0 } in
    let begun = c.in_ok-bridge.ensures in
    begins_at c.args.setup.now (whole_of made) begun.shape begun.limits begun.awake c.in_ok-far.ensures.far c.in_ok-far.ensures.there c.in_ok-far.ensures.only
