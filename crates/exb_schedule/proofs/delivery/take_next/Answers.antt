use Rattle.std.proofs.Common.{◌<◌, refl, sym, ◌∙◌, arith}
use Rattle.std.proofs.lemmas.Bool.{false≢true}
use Rattle.exb_link.specs.LinkFrames.{leading}
use Rattle.exb_world_spec.specs.Steps.{words_on}
use Rattle.exb_world.specs.WorldContracts.{world_of}
use Rattle.exb_world.specs.Steps.{way_of}
use Rattle.exb_bridge.proofs.IncomingFrames.{on_ok_two}
use Rattle.exb_schedule.proofs.StepSequences.{run_step}
use Rattle.exb_schedule.proofs.SegmentInput.{on_ok_all}
use Rattle.exb_schedule.proofs.NextFrames.{control_by, data_by, left_control, left_data}
use Rattle.exb_schedule.proofs.delivery.take_next.Goals as goal

pub overflow_sub-rest : goal.overflow_sub-rest
overflow_sub-rest g c =
    left_control c.args.link (way_of c.args.way) (world_of c.args.world.now) c.args.rest.now c.requires.next c.requires.some (c.free_at.ensures.0 c.if-free_at.true)

pub overflow_sub-rest-else-free_at : goal.overflow_sub-rest-else-free_at
overflow_sub-rest-else-free_at g c =
    (left_data c.args.link (way_of c.args.way) (world_of c.args.world.now) c.args.rest.now c.requires.next c.requires.some (λ h. false≢true (sym c.if-free_at.false ∙ c.free_at.ensures.1 h))).0

pub take_control-requires-clause-free : goal.take_control-requires-clause-free
take_control-requires-clause-free g c = c.free_at.ensures.0 c.if-free_at.true

pub take_control-requires-clause-low : goal.take_control-requires-clause-low
take_control-requires-clause-low g c =
    let low = c.requires.low in
    let some = left_control c.args.link (way_of c.args.way) (world_of c.args.world.now) c.args.rest.now c.requires.next c.requires.some (c.free_at.ensures.0 c.if-free_at.true) in
    omega (arith, low, some)

pub returns-in_ok-rest-clause-ok : goal.returns-in_ok-rest-clause-ok
returns-in_ok-rest-clause-ok g c = λ whole before old k.
    let free = c.free_at.ensures.0 c.if-free_at.true in
    let some = left_control c.args.link (way_of c.args.way) (world_of c.args.world.now) c.args.rest.now c.requires.next c.requires.some free in
    control_by c.args.link (way_of c.args.way) whole before _ _ old c.args.world.now c.take_control.new.world c.args.rest.now _ k.next.kept k.next.rest k.next.more c.requires.there k.next.control_alone
    k.next.place k.next.is k.next.frames k.next.control c.requires.some free c.in_ok-rest.ensures.ok refl (omega (arith, some)) k.leads

pub returns-in_ok-rest-clause-fewer : goal.returns-in_ok-rest-clause-fewer
returns-in_ok-rest-clause-fewer g c =
    let some = left_control c.args.link (way_of c.args.way) (world_of c.args.world.now) c.args.rest.now c.requires.next c.requires.some (c.free_at.ensures.0 c.if-free_at.true) in
    omega (arith, some)

pub carry-requires : goal.carry-requires
carry-requires g c =
    let some = left_data c.args.link (way_of c.args.way) (world_of c.args.world.now) c.args.rest.now c.requires.next c.requires.some (λ h. false≢true (sym c.if-free_at.false ∙ c.free_at.ensures.1 h)) in
    (c.requires.there, some.1)

pub returns-else-free_at-clause-ok : goal.returns-else-free_at-clause-ok
returns-else-free_at-clause-ok g c = λ whole before old k.
    let none : c.args.rest.now.place < leading (words_on c.args.link (way_of c.args.way) (world_of c.args.world.now)) → ⊥ = λ h. false≢true (sym c.if-free_at.false ∙ c.free_at.ensures.1 h) in
    let some = (left_data c.args.link (way_of c.args.way) (world_of c.args.world.now) c.args.rest.now c.requires.next c.requires.some none).0 in
    on_ok_two c.carry.result
    (λ made may.
    data_by c.args.link (way_of c.args.way) whole before _ _ old c.args.world.now c.carry.new.self c.args.rest.now _ k.next.kept k.next.rest k.next.more c.requires.there k.next.control_alone k.next.place k.next.is
    k.next.frames k.next.control c.requires.some none
    (run_step _ c.args.world.now c.carry.new.self made may) refl (omega (arith, some)) refl (omega arith)
    k.leads)
    c.carry.ensures.ok c.carry.ensures.may

pub returns-else-free_at-clause-fewer : goal.returns-else-free_at-clause-fewer
returns-else-free_at-clause-fewer g c =
    let some = (left_data c.args.link (way_of c.args.way) (world_of c.args.world.now) c.args.rest.now c.requires.next c.requires.some (λ h. false≢true (sym c.if-free_at.false ∙ c.free_at.ensures.1 h))).0 in
    on_ok_all c.carry.result (omega (arith, some))
