use Rattle.std.proofs.Common.{Some}
use Rattle.exb_cli.specs.CommandLines.{Net}
use Rattle.exb_run.proofs.FinishedRuns.{came_finished, counts_finished, net_finished, opens_finished}
use Rattle.exb_run.proofs.NetOutcomes.{came_net, opens_by_net}
use Rattle.exb_run.proofs.net.run_net.Goals as goal

pub returns-clause-came : goal.returns-clause-came
returns-clause-came g c =
    let S = g.S.Shelf in
    let is = c.play_net-played.ensures in
    came_finished S.tells (Some (Net c.args.name.now c.args.counters)) tt c.play_net-played.result c.finished.result (S.file c.args.shelf.now) (S.file c.play_net-played.new.shelf) (S.file c.finished.new.shelf) c.finished.ensures.files c.finished.ensures.ends
    (came_net S.tells c.args.name.now c.args.counters c.play_net-played.result _ _ (record {
      done = is.done;
      says = is.says;
      cause = is.cause;
      stops = is.stops;
      causes = is.causes;
      early = is.early;
      stopped = is.stopped;
      others = is.others;
      fronts = is.fronts;
    }))

pub returns-clause-opens : goal.returns-clause-opens
returns-clause-opens g c =
    let S = g.S.Shelf in
    let is = c.play_net-played.ensures in
    opens_finished S.tells (Some (Net c.args.name.now c.args.counters)) c.play_net-played.result c.finished.result (S.file c.args.shelf.now) _ _ _ c.finished.ensures.ids c.finished.ensures.ends
    (opens_by_net S.tells c.args.name.now c.args.counters c.play_net-played.result _ _ (S.ids c.play_net-played.new.shelf) is.reads is.wanted is.only)

pub returns-clause-order : goal.returns-clause-order
returns-clause-order g c =
    let S = g.S.Shelf in
    net_finished S.tells c.args.name.now c.args.counters c.play_net-played.result c.finished.result (S.file c.args.shelf.now) _ _ _ c.finished.ensures.ids c.finished.ensures.ends c.play_net-played.ensures.order

pub returns-clause-faults : goal.returns-clause-faults
returns-clause-faults g c = counts_finished c.play_net-played.result c.finished.result _ _ _ c.finished.ensures.ends c.play_net-played.ensures.faults c.finished.ensures.faults c.finished.ensures.none
