use Rattle.std.proofs.Common.{◌<◌, ◌^◌, length, arith}
use Rattle.exb_net.proofs.FrameEntry.{on_ok_of, when_ok}
use Rattle.exb_net.proofs.ListPlaces.{at_place, falls_set, of_all, set_there}
use Rattle.exb_net.proofs.Deliveries.{delivered_so, is_here, may_come}
use Rattle.exb_net.proofs.net.deliver.Goals as goal

pub index_mut-requires : goal.index_mut-requires
index_mut-requires g c =
    let t = c.requires.turn in
    let inside : c.args.crossing.to.bridge < length c.args.nodes.now.items =
    is_here c.bridges_handle.ensures c.deliveries_end_soon.ensures t.0 t.1.0 c.args.nodes.now.items c.args.crossing c.args.queue.now.items t.1.1.0 t.1.1.1.0 in
    omega (arith, inside, c.args.nodes.now.ok.0)

pub let_come-requires-clause-can : goal.let_come-requires-clause-can
let_come-requires-clause-can g c =
    let t = c.requires.turn in
    let nodes = c.args.nodes.now.items in
    let law = c.bridges_handle.ensures in
    let soon = c.deliveries_end_soon.ensures in
    let inside : c.args.crossing.to.bridge < length nodes = is_here law soon t.0 t.1.0 nodes c.args.crossing c.args.queue.now.items t.1.1.0 t.1.1.1.0 in
    let is = at_place nodes c.args.crossing.to.bridge c.index_mut.result.now inside c.index_mut.ensures.value in
    may_come law soon t.0 t.1.0 nodes c.args.crossing c.args.queue.now.items t.1.1.0 t.1.1.1.0 c.index_mut.result.now is (omega arith) t.1.1.1.1

pub let_come-requires-clause-few : goal.let_come-requires-clause-few
let_come-requires-clause-few g c =
    let t = c.requires.turn in
    let nodes = c.args.nodes.now.items in
    let inside : c.args.crossing.to.bridge < length nodes =
    is_here c.bridges_handle.ensures c.deliveries_end_soon.ensures t.0 t.1.0 nodes c.args.crossing c.args.queue.now.items t.1.1.0 t.1.1.1.0 in
    of_all (λ x. (goal.Fate-dyn g (x.fate.vtable, x.fate.value)).left x.fate.value < 2 ^ 57) nodes c.args.crossing.to.bridge c.index_mut.result.now c.requires.few (at_place nodes c.args.crossing.to.bridge c.index_mut.result.now inside c.index_mut.ensures.value)

pub returns-clause-ok : goal.returns-clause-ok
returns-clause-ok g c =
    let t = c.requires.turn in
    let nodes = c.args.nodes.now.items in
    let law = c.bridges_handle.ensures in
    let soon = c.deliveries_end_soon.ensures in
    let inside : c.args.crossing.to.bridge < length nodes = is_here law soon t.0 t.1.0 nodes c.args.crossing c.args.queue.now.items t.1.1.0 t.1.1.1.0 in
    let is = at_place nodes c.args.crossing.to.bridge c.index_mut.result.now inside c.index_mut.ensures.value in
    let low : c.args.crossing.to.port < 4160 = omega arith in
    when_ok c.let_come.result
    (λ entered. λ m k turn d room.
    delivered_so law soon m k nodes c.args.crossing c.args.queue.now.items turn d c.index_mut.result.now is low c.let_come.new.node c.let_come.new.queue.items entered c.let_come.ensures.ends)
    c.let_come.ensures.ok

pub returns-clause-fates : goal.returns-clause-fates
returns-clause-fates g c =
    let t = c.requires.turn in
    let nodes = c.args.nodes.now.items in
    let inside : c.args.crossing.to.bridge < length nodes =
    is_here c.bridges_handle.ensures c.deliveries_end_soon.ensures t.0 t.1.0 nodes c.args.crossing c.args.queue.now.items t.1.1.0 t.1.1.1.0 in
    on_ok_of c.let_come.result
    (falls_set (λ x. (goal.Fate-dyn g (x.fate.vtable, x.fate.value)).left x.fate.value) nodes c.args.crossing.to.bridge c.index_mut.result.now c.let_come.new.node (at_place nodes c.args.crossing.to.bridge c.index_mut.result.now inside c.index_mut.ensures.value) c.let_come.ensures.fate)

pub returns-clause-others : goal.returns-clause-others
returns-clause-others g c = λ b ne. set_there c.args.nodes.now.items c.args.crossing.to.bridge b c.let_come.new.node ne
