use Rattle.std.proofs.Common.{ℕ, List, [], ◌∷◌, ◌++◌, refl, ap, sym, ◌∙◌}
use Rattle.std.proofs.lemmas.Result.{on_ok_weaker}
use Rattle.exb_model.specs.Traces.{TraceLine}
use Rattle.exb_outbox.specs.declared.log.Left.{Left}
use Rattle.exb_outbox.specs.PortMaps.{ports_in}
use Rattle.exb_outbox.specs.Logs.{if_tracing, row_outs}
use Rattle.exb_world.specs.MachineWorlds.{whole_of}
use Rattle.exb_world.proofs.ExtenderEgress.{row_leaves}
use Rattle.exb_world.proofs.extender_sends.leave_extender.Goals as goal

pub returns : goal.returns
returns c =
    let log = c.args.post.now.log in
    let row = c.args.row.now in
    let frame : List ℕ = c.from_vec.result in
    let push : ℕ → List Left = λ (moment : ℕ). log.left ++ record { row = row; moment = moment; bytes = frame } ∷ [] in
    let outs : List ℕ → List TraceLine = λ (bytes : List ℕ). log.outs.items ++ if_tracing log.tracing (row_outs bytes (ports_in row)) in
    on_ok_weaker c.push.result
    (λ pushed.
    row_leaves c.args.site.now.tree c.args.number c.args.came.now.stamp c.args.came.now.frame.now c.args.site.now (whole_of c.args.core.now) row log
    (record log { left = c.push.new.self; outs = c.note_row.new.outs }) frame c.requires.at c.requires.outer
    (c.from_vec.ensures ∙ c.in_ok-strip_into.ensures)
    (pushed ∙ ap push c.moment_of.ensures)
    (c.in_ok-note_row.ensures ∙ ap outs (c.as_slice.ensures.value ∙ sym c.from_vec.ensures))
    refl refl refl refl)
    c.push.ensures.ok
