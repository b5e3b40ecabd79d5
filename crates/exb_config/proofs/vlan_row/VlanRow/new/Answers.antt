use Rattle.std.proofs.Common.{sym, ◌∙◌, ap}
use Rattle.exb_model.specs.Configuration.{kind_in}
use Rattle.exb_config.specs.Rows.{has_member, kind_by}
use Rattle.exb_config.proofs.Rows.{no_kind, is_known, has_of, has_not}
use Rattle.exb_config.proofs.vlan_row.VlanRow.new.Goals as goal

pub returns-then-is_empty : goal.returns-then-is_empty
returns-then-is_empty c q =
    let m = c.args.members.now in
    ap (λ row. kind_by row q) c.none.ensures ∙ sym (no_kind m (has_not c.is_empty.result (has_member m) c.is_empty.ensures c.if-is_empty.true) q)

pub invariant_of-result : goal.invariant_of-result
invariant_of-result c =
    let m = c.args.members.now in (
      is_known c.in-Ok.row.value (ap has_member c.in-Ok.ensures.ok ∙ has_of c.is_empty.result (has_member m) c.is_empty.ensures c.if-is_empty.false),
      λ q none. ap (λ (n : _). kind_in n.tagged n.untagged q) c.in-Ok.ensures.ok ∙ c.spread_of-spread.ensures q none,
      λ q none. ap (λ (n : _). kind_in n.tagged n.untagged q) c.in-Ok.ensures.ok ∙ c.places_of-places.ensures q none,
    )
