use Rattle.std.proofs.Common.{◌∙◌, ap}
use Rattle.exb_net.proofs.FrameEntry.{entered_so, when_ok}
use Rattle.exb_net.proofs.node.enter.Goals as goal

pub returns-clause-ok : goal.returns-clause-ok
returns-clause-ok g c =
    when_ok c.send.result
    (entered_so c.args.arrival.now c.args.node.now.ends.items c.as_slice.result.now c.args.node.now.world c.take_in.new.node.world c.left.result.now c.left-left.result.now c.count_left-before.result
    c.args.queue.now.items c.send.new.queue.items c.left.ensures c.count_left-before.ensures c.left-left.ensures (c.as_slice.ensures.value ∙ ap (λ v. v.items) c.in_ok-take_in.ensures.ends) c.in_ok-take_in.ensures.ok)
    c.send.ensures
