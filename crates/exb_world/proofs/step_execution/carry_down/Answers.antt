use Rattle.std.proofs.Common.{ℕ, List, ap, sym, ◌∙◌}
use Rattle.exb_link.specs.declared.link_frame.LinkFrame.{LinkFrame}
use Rattle.exb_world_spec.specs.Worlds.{Down}
use Rattle.exb_bridge.specs.TreeIndexes.{limits_in}
use Rattle.exb_bridge.specs.BridgeWorlds.{world_in}
use Rattle.exb_world.specs.MachineWorlds.{whole_of}
use Rattle.exb_world.proofs.StepBeginnings.{at_down, no_data}
use Rattle.exb_world.proofs.step_execution.carry_down.Goals as goal

pub returns-in-None : goal.returns-in-None
returns-in-None c =
    let s = c.args.site.now in
    let core = (whole_of c.args.core.now) in
    no_data s (limits_in s) core (record core { down = c.take_data.new.self }) c.args.number Down c.args.room.now.post.log (sym c.take_data.ensures.word ∙ c.in-None.is)
    (ap (λ (d : ℕ → List LinkFrame). record (world_in core) { down = d }) c.take_data.ensures.rest) (at_down s core c.take_data.new.self c.requires.at)
