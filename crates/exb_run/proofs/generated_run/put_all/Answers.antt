use Rattle.std.proofs.Common.{arith}
use Rattle.exb_run.proofs.GeneratedCaptures.{keeps_none, keeps_on, keeps_all}
use Rattle.exb_run.proofs.generated_run.put_all.Goals as goal

pub putting-init : goal.putting-init
putting-init c = keeps_none c.args.captures.now c.new-names.result.items _ c.new-names.ensures.items

pub putting-preserved : goal.putting-preserved
putting-preserved c =
    keeps_on c.args.captures.now c.putting.capture-index c.capture-item.result c.putting.names.items _ _ _ c.putting-test.true c.capture-item.is c.putting.invariant c.in_ok-put_one.ensures

pub returns : goal.returns
returns c =
    keeps_all c.args.captures.now c.putting.capture-index c.putting.names.items _ (omega (arith, c.putting-test.false, c.putting.auto.capture-index-end)) c.putting.invariant
