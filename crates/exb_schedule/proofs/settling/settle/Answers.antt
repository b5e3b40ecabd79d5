use Rattle.std.proofs.Common.{◌≡◌, false, sym, ◌∙◌, arith}
use Rattle.std.proofs.lemmas.Bool.{false≢true}
use Rattle.exb_schedule.proofs.EnoughMemory.{ok_awake}
use Rattle.exb_schedule.proofs.SettlingProgress.{few_made, less_left, rests_begin, rests_end, rests_on}
use Rattle.exb_schedule.proofs.settling.settle.Goals as goal

pub rounds-init : goal.rounds-init
rounds-init g c = rests_begin c.settles.ensures c.args.world.now _ c.is_reached.ensures

pub rounds-preserved : goal.rounds-preserved
rounds-preserved g c =
    rests_on c.rounds_spend.ensures c.args.world.now c.rounds.world c.round.new.world _ _ _ c.rounds.made _ c.rounds.invariant
    (λ awake settled. false≢true (sym c.rounds-test.true ∙ c.settled.ensures.1 (awake, settled))) c.in_ok-round.ensures.ok c.saturating_add-made.ensures

pub rounds-smaller : goal.rounds-smaller
rounds-smaller g c =
    let awake : c.rounds.world.failed ≡ false = ok_awake c.rounds.world c.in_ok-round.field-0 c.in_ok-round.ensures.failed in
    let less = less_left c.rounds_spend.ensures c.args.world.now c.rounds.world c.round.new.world _ _ _ c.rounds.made c.rounds.invariant awake
    (λ settled. false≢true (sym c.rounds-test.true ∙ c.settled.ensures.1 (awake, settled))) c.in_ok-round.ensures.ok in
    omega (arith, less)

pub returns-clause-ok : goal.returns-clause-ok
returns-clause-ok g c =
    let end = c.settled.ensures.0 c.rounds-test.false in
    rests_end c.args.world.now c.rounds.world _ _ c.rounds.made c.rounds.invariant end.0 end.1

pub returns-clause-bound : goal.returns-clause-bound
returns-clause-bound g c =
    let end = c.settled.ensures.0 c.rounds-test.false in
    few_made c.args.world.now c.rounds.world _ _ c.rounds.made c.rounds.invariant end.0 end.1

pub returns-clause-falls : goal.returns-clause-falls
returns-clause-falls g c = c.rounds.invariant.low
