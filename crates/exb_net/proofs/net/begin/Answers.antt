use Rattle.std.proofs.Common.{◌<◌, ◌^◌, length, ap, arith}
use Rattle.exb_net.proofs.FrameEntry.{on_ok_of, when_ok}
use Rattle.exb_net.proofs.ListPlaces.{at_place, falls_set, of_all, set_there}
use Rattle.exb_net.proofs.Deliveries.{begins_so, coming_can, coming_here}
use Rattle.exb_net.proofs.net.begin.Goals as goal

pub index_mut-requires : goal.index_mut-requires
index_mut-requires g c =
    let inside : c.args.bridge < length c.args.nodes.now.items = coming_here _ _ _ _ _ c.args.nodes.now.items c.args.queue.now.items c.requires.can.1.1.1 in
    omega (arith, inside, c.args.nodes.now.ok.0)

pub enter-requires-clause-can : goal.enter-requires-clause-can
enter-requires-clause-can g c =
    let k = c.requires.can.1.1.1 in
    let nodes = c.args.nodes.now.items in
    let inside : c.args.bridge < length nodes = coming_here _ _ _ _ _ nodes c.args.queue.now.items k in
    coming_can _ _ _ _ _ nodes c.args.queue.now.items c.index_mut.result.now k (at_place nodes c.args.bridge c.index_mut.result.now inside c.index_mut.ensures.value)

pub enter-requires-clause-few : goal.enter-requires-clause-few
enter-requires-clause-few g c =
    let nodes = c.args.nodes.now.items in
    let inside : c.args.bridge < length nodes = coming_here _ _ _ _ _ nodes c.args.queue.now.items c.requires.can.1.1.1 in
    of_all (λ x. (goal.Fate-dyn g (x.fate.vtable, x.fate.value)).left x.fate.value < 2 ^ 57) nodes c.args.bridge c.index_mut.result.now c.requires.few (at_place nodes c.args.bridge c.index_mut.result.now inside c.index_mut.ensures.value)

pub returns-clause-ok : goal.returns-clause-ok
returns-clause-ok g c =
    let nodes = c.args.nodes.now.items in
    let inside : c.args.bridge < length nodes = coming_here _ _ _ _ _ nodes c.args.queue.now.items c.requires.can.1.1.1 in
    let is = at_place nodes c.args.bridge c.index_mut.result.now inside c.index_mut.ensures.value in
    when_ok c.enter.result
    (λ entered. λ n s told k.
    begins_so c.bridges_handle.ensures n c.args.bridge c.args.arrival.now s told nodes c.index_mut.result.now c.enter.new.node c.args.queue.now.items c.enter.new.queue.items k is entered (ap (λ v. v.items) c.enter.ensures.ends))
    c.enter.ensures.ok

pub returns-clause-fates : goal.returns-clause-fates
returns-clause-fates g c =
    let nodes = c.args.nodes.now.items in
    let inside : c.args.bridge < length nodes = coming_here _ _ _ _ _ nodes c.args.queue.now.items c.requires.can.1.1.1 in
    on_ok_of c.enter.result
    (falls_set (λ x. (goal.Fate-dyn g (x.fate.vtable, x.fate.value)).left x.fate.value) nodes c.args.bridge c.index_mut.result.now c.enter.new.node (at_place nodes c.args.bridge c.index_mut.result.now inside c.index_mut.ensures.value) c.enter.ensures.fate)

pub returns-clause-others : goal.returns-clause-others
returns-clause-others g c = λ b ne. set_there c.args.nodes.now.items c.args.bridge b c.enter.new.node ne
