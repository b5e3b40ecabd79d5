use Rattle.std.proofs.Common.{None, Ok, sym, ap, ◌∙◌}
use Rattle.std.proofs.lemmas.Result.{err_from_is_err_and}
use Rattle.exb_lldp.specs.declared.tlv.TlvPosition.TheVariants.{ChassisId, PortId, TimeToLive}
use Rattle.exb_lldp.specs.ParsedValues.{tlv_of}
use Rattle.exb_lldp.proofs.TlvSteps.{counted_fails, chassis_goes, port_goes, time_goes, announced_not, announced_fails, announced_ok}
use Rattle.exb_lldp.proofs.reader.read.Goals as goal

pub returns-then-not-is_announcement : goal.returns-then-not-is_announcement
returns-then-not-is_announcement c = sym (announced_not c.args.frame.now (sym c.is_announcement.ensures ∙ c.if-not-is_announcement.true))

pub returns-in_err-chassis_id : goal.returns-in_err-chassis_id
returns-in_err-chassis_id c =
    let p = err_from_is_err_and c.from_residual.result c.from_residual.ensures.1 in
    rw (p.1, p.2) (sym (announced_fails c.args.frame.now c.in_err-chassis_id.field-0.0 (sym c.is_announcement.ensures ∙ c.if-not-is_announcement.false)
    (counted_fails ChassisId None c.args.frame.now 14 c.in_err-chassis_id.field-0.0 c.in_err-chassis_id.ensures.which)))

pub returns-in_err-port_id : goal.returns-in_err-port_id
returns-in_err-port_id c =
    let p = err_from_is_err_and c.from_residual-in_err-port_id.result c.from_residual-in_err-port_id.ensures.1 in
    rw (p.1, p.2) (sym (announced_fails c.args.frame.now c.in_err-port_id.field-0.0 (sym c.is_announcement.ensures ∙ c.if-not-is_announcement.false)
    (chassis_goes c.args.frame.now 14 c.end.result (tlv_of c.in_ok-chassis_id.chassis_id) (c.end.ensures ∙ c.in_ok-chassis_id.ensures.within.0) c.in_ok-chassis_id.ensures.which
    ∙ counted_fails PortId None c.args.frame.now c.end.result c.in_err-port_id.field-0.0 c.in_err-port_id.ensures.which)))

pub returns-in_err-time_to_live : goal.returns-in_err-time_to_live
returns-in_err-time_to_live c =
    let p = err_from_is_err_and c.from_residual-in_err-time_to_live.result c.from_residual-in_err-time_to_live.ensures.1 in
    rw (p.1, p.2) (sym (announced_fails c.args.frame.now c.in_err-time_to_live.field-0.0 (sym c.is_announcement.ensures ∙ c.if-not-is_announcement.false)
    (chassis_goes c.args.frame.now 14 c.end.result (tlv_of c.in_ok-chassis_id.chassis_id) (c.end.ensures ∙ c.in_ok-chassis_id.ensures.within.0) c.in_ok-chassis_id.ensures.which
    ∙ port_goes c.args.frame.now c.end.result c.end-2.result (tlv_of c.in_ok-port_id.port_id) (c.end-2.ensures ∙ c.in_ok-port_id.ensures.within.0) c.in_ok-port_id.ensures.which
    ∙ counted_fails TimeToLive None c.args.frame.now c.end-2.result c.in_err-time_to_live.field-0.0 c.in_err-time_to_live.ensures.which)))

pub returns-in_err-ports : goal.returns-in_err-ports
returns-in_err-ports c =
    let p = err_from_is_err_and c.from_residual-in_err-ports.result c.from_residual-in_err-ports.ensures.1 in
    rw (p.1, p.2) (sym (announced_fails c.args.frame.now c.in_err-ports.field-0.0 (sym c.is_announcement.ensures ∙ c.if-not-is_announcement.false)
    (chassis_goes c.args.frame.now 14 c.end.result (tlv_of c.in_ok-chassis_id.chassis_id) (c.end.ensures ∙ c.in_ok-chassis_id.ensures.within.0) c.in_ok-chassis_id.ensures.which
    ∙ port_goes c.args.frame.now c.end.result c.end-2.result (tlv_of c.in_ok-port_id.port_id) (c.end-2.ensures ∙ c.in_ok-port_id.ensures.within.0) c.in_ok-port_id.ensures.which
    ∙ time_goes c.args.frame.now c.end-2.result c.end-3.result (tlv_of c.in_ok-time_to_live.time_to_live) (c.end-3.ensures ∙ c.in_ok-time_to_live.ensures.within.0) c.in_ok-time_to_live.ensures.which
    ∙ sym c.in_err-ports.ensures)))

pub returns : goal.returns
returns c =
    ap (λ m. Ok (record { chassis = record { 0 = m }; ports = c.in_ok-ports.ports })) c.address.ensures
    ∙ sym (announced_ok c.args.frame.now (tlv_of c.in_ok-chassis_id.chassis_id) c.in_ok-ports.ports (sym c.is_announcement.ensures ∙ c.if-not-is_announcement.false) c.in_ok-chassis_id.ensures.which
    (chassis_goes c.args.frame.now 14 c.end.result (tlv_of c.in_ok-chassis_id.chassis_id) (c.end.ensures ∙ c.in_ok-chassis_id.ensures.within.0) c.in_ok-chassis_id.ensures.which
    ∙ port_goes c.args.frame.now c.end.result c.end-2.result (tlv_of c.in_ok-port_id.port_id) (c.end-2.ensures ∙ c.in_ok-port_id.ensures.within.0) c.in_ok-port_id.ensures.which
    ∙ time_goes c.args.frame.now c.end-2.result c.end-3.result (tlv_of c.in_ok-time_to_live.time_to_live) (c.end-3.ensures ∙ c.in_ok-time_to_live.ensures.within.0) c.in_ok-time_to_live.ensures.which
    ∙ sym c.in_ok-ports.ensures))
