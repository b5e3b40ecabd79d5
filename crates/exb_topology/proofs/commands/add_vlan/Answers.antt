use Rattle.std.proofs.Common.{◌≡◌, ◌++◌, ◌∷◌, [], ◌+◌, ◌<◌, ◌∙◌, ℕ, ap, map, arith}
use Rattle.std.proofs.lemmas.List.{map_push}
use Rattle.exb_model.specs.declared.command.Command.TheVariants as command
use Rattle.exb_model.specs.Ports.{port_in}
use Rattle.exb_topology.specs.Checks.{listed}
use Rattle.exb_topology.specs.CommandViews.{Seen, seen, set_vlan}
use Rattle.exb_topology.proofs.CommandLists.{range_goes_on, same_vlan}
use Rattle.exb_topology.proofs.commands.add_vlan.Goals as goal

pub loop-number-preserved : goal.loop-number-preserved
loop-number-preserved c =
    let t = c.args.tree.now in
    let v = c.args.vlan.now in
    let n = c.loop-number.number in
    let front = map seen c.loop-number.start in
    let vid : c.unwrap.result ≡ n = rw c.unwrap.ensures at c.new.ensures.value in
    let same : set_vlan c.unwrap.result (port_in c.listed-tagged.result) (port_in c.listed-untagged.result) ≡ set_vlan n (listed t v.tagged) (listed t v.untagged) =
    ap (λ (k : ℕ). set_vlan k (port_in c.listed-tagged.result) (port_in c.listed-untagged.result)) vid ∙
    same_vlan n (port_in c.listed-tagged.result) (port_in c.listed-untagged.result) (listed t v.tagged) (listed t v.untagged) (λ q. c.listed-tagged.ensures q ∙ ap (λ ws. listed t ws q) c.as_slice.ensures) (λ q. c.listed-untagged.ensures q ∙ ap (λ ws. listed t ws q) c.as_slice-2.ensures) in
    let e : map seen c.push.new.self ≡ front ++ set_vlan n (listed t v.tagged) (listed t v.untagged) ∷ [] =
    rw c.in_ok-push.ensures.ok (map_push seen c.loop-number.start (command.Vlan c.unwrap.result c.listed-tagged.result c.listed-untagged.result) ∙ ap (λ (x : Seen). front ++ x ∷ []) same) in
    let low : n < v.last + 1 = omega (arith, c.loop-number-test.true, c.number-number-end.ensures.value) in
    rw e (range_goes_on t v front _ n (v.last + 1) low c.loop-number.invariant)
