use Rattle.std.proofs.Common.{◌+◌, sym, ap}
use Rattle.exb_audit.specs.Frames.{frames_by}
use Rattle.exb_trace_spec.specs.TraceChecker.{is_entered}
use Rattle.exb_audit.proofs.Rule5Relays.{entered_once, entered_twice, rest_whole}
use Rattle.exb_audit.proofs.rule5_relays.is_entered.Goals as goal

-- no line says so
pub returns-in_default : goal.returns-in_default
returns-in_default c = λ few. sym (ap (is_entered c.args.tree.now (frames_by c.args.captures.now.all.now) c.args.side c.args.frame.now) c.in_default.ensures)

-- two do
pub returns-then-is_some : goal.returns-then-is_some
returns-then-is_some c = λ few.
    entered_twice c.args.tree.now (frames_by c.args.captures.now.all.now) c.args.side c.args.frame.now c.args.rest.now _ c.in-Some.i c.first_entry-2.result c.in-Some.ensures
    (rest_whole c.args.rest.now (c.in-Some.i + 1)) c.first_entry-2.ensures c.if-is_some.ensures

-- one does
pub returns : goal.returns
returns c = λ few.
    entered_once c.args.tree.now (frames_by c.args.captures.now.all.now) c.args.side c.args.frame.now c.args.rest.now _ c.in-Some.i c.first_entry-2.result c.in-Some.ensures
    (rest_whole c.args.rest.now (c.in-Some.i + 1)) c.first_entry-2.ensures c.if-is_some.ensures
    c.line.inside.way c.line.inside.who c.line.inside.side c.line.inside.bytes c.index-rest-i.result c.index-rest-i.is c.line.view_is c.as_slice.result.now c.as_slice.ensures c.names.result (c.names.ensures few)
