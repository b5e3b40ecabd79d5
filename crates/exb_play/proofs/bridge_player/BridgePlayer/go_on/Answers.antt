use Rattle.std.proofs.Common.{arith}
use Rattle.std.proofs.lemmas.Result.{on_err_weaker}
use Rattle.exb_inputs.proofs.Outcomes.{on_ok_by}
use Rattle.exb_play.specs.Disks.{disk}
use Rattle.exb_play.proofs.SegmentOrder.{short}
use Rattle.exb_play.proofs.RunSteps.{cut-on, from-low, goes-on, letters, playable}
use Rattle.exb_play.proofs.bridge_player.BridgePlayer.go_on.Goals as goal

pub taken_since-commands-requires-clause-from : goal.taken_since-commands-requires-clause-from
taken_since-commands-requires-clause-from g c = from-low _ _ _ _ _ _ _ c.requires.gathered

pub seconds_since-seconds-requires : goal.seconds_since-seconds-requires
seconds_since-seconds-requires g c = short _ _ _ _ _ _ _ c.requires.gathered

pub turn-requires-clause-playable : goal.turn-requires-clause-playable
turn-requires-clause-playable g c =
    playable _ _ _ _ _ _ _ c.requires.gathered c.runs_are_under_way.ensures c.seconds_since-seconds.result c.seconds_since-seconds.ensures
    c.taken_since-commands.result.now c.taken_since-commands.ensures c.as_slice-arrivals.result.now c.as_slice-arrivals.ensures.value

pub turn-requires-clause-budget : goal.turn-requires-clause-budget
turn-requires-clause-budget g c =
    let all = letters _ _ _ _ _ _ _ c.requires.gathered c.taken_since-commands.result.now c.taken_since-commands.ensures in
    let low = c.requires.budget in
    omega (arith, all, low)

pub returns-clause-stands : goal.returns-clause-stands
returns-clause-stands g c = on_ok_by c.turn.result (λ get.
    goes-on _ _ _ _ _ _ _ c.requires.gathered c.seconds_since-seconds.result c.seconds_since-seconds.ensures
    c.taken_since-commands.result.now c.taken_since-commands.ensures c.as_slice-arrivals.result.now c.as_slice-arrivals.ensures.value
    c.turn.new.self.world c.turn.new.self.counted c.turn.new.self.outputs (disk g.S.Shelf c.turn.new.shelf) c.turn.ensures.writes.plays (get _ c.turn.ensures.told))

pub returns-clause-budget : goal.returns-clause-budget
returns-clause-budget g c = on_ok_by c.turn.result (λ get.
    let all = letters _ _ _ _ _ _ _ c.requires.gathered c.taken_since-commands.result.now c.taken_since-commands.ensures in
    let low = c.requires.budget in
    let spent = get _ c.turn.ensures.budget in
    omega (arith, all, low, spent))

pub returns-clause-cut : goal.returns-clause-cut
returns-clause-cut g c = λ t. on_err_weaker c.turn.result
    (cut-on _ _ _ _ _ _ _ c.requires.gathered t c.seconds_since-seconds.result c.seconds_since-seconds.ensures
    c.taken_since-commands.result.now c.taken_since-commands.ensures c.as_slice-arrivals.result.now c.as_slice-arrivals.ensures.value (g.S.Shelf.file c.turn.new.shelf))
    (c.turn.ensures.cut t)
