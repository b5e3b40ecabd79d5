use Rattle.std.proofs.Common.{ℕ, List, ap, refl, sym, ◌∙◌}
use Rattle.std.proofs.lemmas.Result.{on_ok_weaker}
use Rattle.exb_link.specs.declared.link_frame.LinkFrame.{LinkFrame}
use Rattle.exb_link.specs.LinkFrames.{without_data}
use Rattle.exb_world_spec.specs.Steps.{words_on}
use Rattle.exb_world_spec.specs.Worlds.{Up}
use Rattle.exb_bridge.specs.TreeIndexes.{limits_in}
use Rattle.exb_bridge.specs.BridgeWorlds.{world_in}
use Rattle.exb_world.specs.MachineWorlds.{whole_of}
use Rattle.exb_world.proofs.StepBeginnings.{at_up, no_data, somebody}
use Rattle.exb_world.proofs.step_execution.carry_up.Goals as goal

pub returns-in-None : goal.returns-in-None
returns-in-None c =
    let s = c.args.site.now in
    let core = (whole_of c.args.core.now) in
    no_data s (limits_in s) core (record core { up = c.take_data.new.self }) c.args.number Up c.args.room.now.post.log (sym c.take_data.ensures.word ∙ c.in-None.is)
    (ap (λ (u : ℕ → List LinkFrame). record (world_in core) { up = u }) c.take_data.ensures.rest) (at_up s core c.take_data.new.self c.requires.at)

pub take_up-requires : goal.take_up-requires
take_up-requires c = (refl, (at_up c.args.site.now (whole_of c.args.core.now) c.take_data.new.self c.requires.at, (c.requires.there, c.requires.asks)))

pub returns-in-Some : goal.returns-in-Some
returns-in-Some c =
    let s = c.args.site.now in
    let core = (whole_of c.args.core.now) in
    on_ok_weaker c.take_up.result (λ done.
    somebody s (limits_in s) core (record core { up = c.take_data.new.self }) c.args.number Up (without_data (words_on c.args.number Up (world_in core)))
    (ap (λ (u : ℕ → List LinkFrame). record (world_in core) { up = u }) c.take_data.ensures.rest) _ c.in-Some.word (whole_of c.take_up.new.core) c.args.room.now.post.log c.take_up.new.room.post.log (sym c.take_data.ensures.word ∙ c.in-Some.is) done)
    c.take_up.ensures
