use Rattle.std.proofs.Common.{◌≡◌, ◌++◌, ◌∷◌, [], ◌∙◌, ℕ, Bool, sym, ap, map}
use Rattle.std.proofs.lemmas.List.{map_push}
use Rattle.exb_model.specs.declared.command.Command.TheVariants as command
use Rattle.exb_model.specs.Ports.{port_in}
use Rattle.exb_topology.specs.Checks.{listed}
use Rattle.exb_topology.specs.CommandViews.{seen, put_static}
use Rattle.exb_topology.specs.Topologies.{static_start}
use Rattle.exb_topology.proofs.CommandLists.{each_more, each_done, same_test}
use Rattle.exb_topology.proofs.commands.add_statics.Goals as goal

pub loop-entry-preserved : goal.loop-entry-preserved
loop-entry-preserved c =
    let t = c.args.tree.now in
    let x = c.entry-item.result in
    let front = map seen c.loop-entry.start in
    let same : port_in c.listed.result ≡ listed t x.ports = same_test (port_in c.listed.result) (listed t x.ports) (λ q. c.listed.ensures q ∙ ap (λ ws. listed t ws q) c.as_slice.ensures) in
    let e : map seen c.push.new.self ≡ front ++ static_start t x ∷ [] =
    rw c.in_ok-push.ensures.ok (map_push seen c.loop-entry.start (command.Static x.vid x.address c.listed.result) ∙ ap (λ (f : ℕ → Bool). front ++ put_static x.vid x.address f ∷ []) same) in
    rw e (each_more (static_start t) front _ c.args.statics.now c.loop-entry.entry-index x c.loop-entry-test.true (sym c.entry-item.is) c.loop-entry.invariant)

pub returns : goal.returns
returns c = each_done (static_start c.args.tree.now) (map seen c.loop-entry.start) _ c.args.statics.now c.loop-entry.entry-index c.loop-entry-test.false c.loop-entry.invariant
