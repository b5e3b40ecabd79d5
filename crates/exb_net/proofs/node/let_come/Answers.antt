use Rattle.std.proofs.Common.{◌∙◌, ◌+◌, ap}
use Rattle.exb_net.specs.WiredPorts.{next_in}
use Rattle.exb_net.proofs.FrameEntry.{came_so, when_ok}
use Rattle.exb_net.proofs.node.let_come.Goals as goal

pub returns-clause-ok : goal.returns-clause-ok
returns-clause-ok g c =
    let index = c.next_at-index.ensures ∙ ap (λ xs. next_in xs c.args.crossing.to.port) c.as_slice.ensures.value in
    when_ok c.enter.result
    (came_so c.args.crossing.to.port (c.next_at-index.result + 1) c.next_at-index.result c.args.crossing.moment c.args.crossing.bytes c.args.node.now.ends.items c.set_next.new.ends.items c.args.node.now.world c.enter.new.node.world
    c.args.queue.now.items c.enter.new.queue.items c.set_next.ensures index)
    c.enter.ensures.ok
