use Rattle.std.proofs.Common.{◌≡◌, ℕ, ◌≤◌, Some, [], arith, subst}
use Rattle.std.specs.List.{slice_get}
use Rattle.exb_world_spec.specs.Steps.{words_on}
use Rattle.exb_world.specs.WorldContracts.{Network, tree_of, world_of}
use Rattle.exb_world.specs.Steps.{way_of}
use Rattle.exb_world.specs.LinkTurns.{order_of, IsTurn}
use Rattle.exb_schedule.proofs.DirectionOrder.{none_after, none_between, those_first, those_next}
use Rattle.exb_schedule.proofs.delivery.go_one_way.Goals as goal

pub directions-init : goal.directions-init
directions-init g c = record { those = those_first (way_of c.args.way) _ c.args.world.now; low = omega arith; falls = omega arith }

pub directions-preserved : goal.directions-preserved
directions-preserved g c =
    let turn = c.in-Some.turn in
    let is = c.in-Some.ensures.found in
    let low = is.low in
    let falls = c.in_ok-go_through.ensures.falls in
    let before = c.directions.invariant.falls in
    record {
      those = those_next (way_of c.args.way) _ _ _ c.args.world.now c.directions.world c.go_through.new.world turn.place turn.link is.at
          (none_between (way_of c.args.way) _ _ c.args.world.now c.directions.world c.directions.from turn.place is.from is.before c.directions.invariant.those) c.in_ok-go_through.ensures.ok;
      low = omega (arith, low);
      falls = omega (arith, falls, before);
    }

pub returns-clause-ok : goal.returns-clause-ok
returns-clause-ok g c =
    let way = way_of c.args.way in
    none_after way _ _ c.args.world.now c.directions.world c.directions.from c.in_default.ensures.none c.directions.invariant.those
