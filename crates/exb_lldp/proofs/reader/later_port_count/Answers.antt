use Rattle.std.proofs.Common.{sym, ◌∙◌, arith}
use Rattle.std.proofs.lemmas.Bool.{ne_eqb}
use Rattle.std.proofs.lemmas.Result.{err_from_is_err_and}
use Rattle.exb_lldp.specs.declared.tlv.TlvPosition.TheVariants.{Later}
use Rattle.exb_lldp.specs.ParsedValues.{tlv_of}
use Rattle.exb_lldp.proofs.TlvSteps.{counted_fails, counted_ends, counted_goes, ok_or_found}
use Rattle.exb_lldp.proofs.reader.later_port_count.Goals as goal

pub returns-in_err-tlv : goal.returns-in_err-tlv
returns-in_err-tlv c =
    let p = err_from_is_err_and c.from_residual.result c.from_residual.ensures.1 in
    rw (p.1, p.2) (sym (counted_fails Later c.tlvs.count c.args.frame.now c.tlvs.at c.in_err-tlv.field-0.0 c.in_err-tlv.ensures.which) ∙ c.tlvs.invariant.rest)

pub returns-then-tlv-eq-END : goal.returns-then-tlv-eq-END
returns-then-tlv-eq-END c =
    c.ok_or.ensures.value
    ∙ ok_or_found c.tlvs.count
    ∙ sym (counted_ends c.tlvs.count c.args.frame.now c.tlvs.at (tlv_of c.in_ok-tlv.tlv) c.in_ok-tlv.ensures.which c.if-tlv-eq-END.true)
    ∙ c.tlvs.invariant.rest

pub tlvs-preserved : goal.tlvs-preserved
tlvs-preserved c = record {
  within = (let w = c.in_ok-tlv.ensures.within in omega (arith, w.0, w.1, c.end-at.ensures));
  rest =
      rw (c.or-count.ensures, c.port_count.ensures, c.end-at.ensures ∙ c.in_ok-tlv.ensures.within.0)
      (sym (counted_goes Later c.tlvs.count c.args.frame.now c.tlvs.at (tlv_of c.in_ok-tlv.tlv) c.in_ok-tlv.ensures.which (ne_eqb c.in_ok-tlv.tlv.kind 0 c.if-tlv-eq-END.false))
      ∙ c.tlvs.invariant.rest);
}
