use Rattle.exb_outbox.specs.PortMaps.{ports_in}
use Rattle.exb_outbox.specs.Logs.{row_outs}
use Rattle.std.proofs.lemmas.Result.{on_ok_weaker}
use Rattle.exb_outbox.proofs.OutputLines.{all_traced, not_traced}
use Rattle.exb_outbox.proofs.log.note_row.Goals as goal

pub returns-then-not-tracing : goal.returns-then-not-tracing
returns-then-not-tracing c = not_traced c.args.outs.now.items (row_outs c.args.frame.now (ports_in c.args.row.now)) c.args.tracing c.if-not-tracing.true

pub returns : goal.returns
returns c =
    on_ok_weaker c.put_row.result
    (all_traced c.args.outs.now.items (row_outs c.args.frame.now (ports_in c.args.row.now)) c.put_row.new.outs.items c.args.tracing c.if-not-tracing.false)
    c.put_row.ensures
