use Rattle.std.proofs.Common.{◌<◌, ◌≤◌, arith}
use Rattle.std.proofs.lemmas.Result.{on_ok_weaker}
use Rattle.exb_world.specs.MachineWorlds.{whole_of}
use Rattle.exb_world.proofs.StepBeginnings.{arrives_below, arrives_deeper, external_at, next_is}
use Rattle.exb_world.proofs.step_execution.arrive.Goals as goal

pub returns-then-device-eq0 : goal.returns-then-device-eq0
returns-then-device-eq0 c =
    let low : c.args.arrival.now.port < 64 = let b = c.device.ensures.value in let z = c.if-device-eq0.true in omega (arith, b, z) in
    on_ok_weaker c.come.result (λ done.
    arrives_below c.args.site.now (whole_of c.args.core.now) (record (whole_of c.args.core.now) { next = c.count.new.self }) (whole_of c.come.new.core) c.args.arrival.now c.args.room.now.post.log c.come.new.room.post.log
    (next_is (whole_of c.args.core.now) c.count.new.self _ c.count.ensures) low done)
    c.come.ensures

pub arrive_at-requires-clause-port : goal.arrive_at-requires-clause-port
arrive_at-requires-clause-port c =
    let deep : 64 ≤ c.args.arrival.now.port = let b = c.device.ensures.value in let z = c.if-device-eq0.false in omega (arith, b, z) in
    external_at c.args.site.now.tree c.args.arrival.now.port c.requires.external deep

pub returns-else-device-eq0 : goal.returns-else-device-eq0
returns-else-device-eq0 c =
    let deep : 64 ≤ c.args.arrival.now.port = let b = c.device.ensures.value in let z = c.if-device-eq0.false in omega (arith, b, z) in
    on_ok_weaker c.arrive_at.result (λ done.
    arrives_deeper c.args.site.now (whole_of c.args.core.now) (record (whole_of c.args.core.now) { next = c.count.new.self }) (whole_of c.arrive_at.new.core) c.args.arrival.now c.args.room.now.post.log c.arrive_at.new.room.post.log
    (next_is (whole_of c.args.core.now) c.count.new.self _ c.count.ensures) deep done)
    c.arrive_at.ensures
