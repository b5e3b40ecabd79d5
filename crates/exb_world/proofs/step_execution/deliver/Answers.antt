use Rattle.std.proofs.Common.{sym, ◌∙◌}
use Rattle.std.proofs.lemmas.Result.{on_ok_weaker}
use Rattle.exb_world_spec.specs.Steps.{rest_of, words_on}
use Rattle.exb_bridge.specs.TreeIndexes.{limits_in}
use Rattle.exb_world.specs.Steps.{way_of}
use Rattle.exb_bridge.specs.BridgeWorlds.{world_in}
use Rattle.exb_world.specs.MachineWorlds.{whole_of}
use Rattle.exb_world.proofs.StepBeginnings.{asks_on, no_control, somebody}
use Rattle.exb_world.proofs.step_execution.deliver.Goals as goal

pub returns-in-None : goal.returns-in-None
returns-in-None c =
    let s = c.args.site.now in
    let got = c.in_ok-get_control.ensures in
    no_control s (limits_in s) (whole_of c.args.core.now) (whole_of c.get_control.new.core) c.args.number (way_of c.args.way) c.args.place c.args.keep c.args.room.now.post.log (sym got.word ∙ c.in-None.is) got.rest got.at

pub take-requires-clause-asks : goal.take-requires-clause-asks
take-requires-clause-asks c =
    let s = c.args.site.now in
    let way = way_of c.args.way in
    asks_on s (limits_in s) (whole_of c.args.core.now) (whole_of c.get_control.new.core) c.args.number way (rest_of c.args.keep (words_on c.args.number way (world_in (whole_of c.args.core.now))) c.args.place) c.in_ok-get_control.ensures.rest s.tree (limits_in s)
    c.requires.asks

pub returns-in-Some : goal.returns-in-Some
returns-in-Some c =
    let s = c.args.site.now in
    let way = way_of c.args.way in
    let got = c.in_ok-get_control.ensures in
    on_ok_weaker c.take.result (λ done.
    somebody s (limits_in s) (whole_of c.args.core.now) (whole_of c.get_control.new.core) c.args.number way (rest_of c.args.keep (words_on c.args.number way (world_in (whole_of c.args.core.now))) c.args.place) got.rest _ c.in-Some.word
    (whole_of c.take.new.core) c.args.room.now.post.log c.take.new.room.post.log (sym got.word ∙ c.in-Some.is) done)
    c.take.ensures
