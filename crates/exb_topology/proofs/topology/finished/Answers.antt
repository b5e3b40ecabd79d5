use Rattle.std.proofs.Common.{All, refl, subst}
use Rattle.exb_model.specs.Setup.{IsStart}
use Rattle.exb_topology.proofs.StartCommands.{all_may, valid_with}
use Rattle.exb_topology.proofs.topology.finished.Goals as goal

pub returns-in-Ok-clause-valid : goal.returns-in-Ok-clause-valid
returns-in-Ok-clause-valid c =
    let s = c.args.setup in
    let t = c.args.tree.now in
    let tables = c.args.tables in
    let start = all_may t tables.ports tables.vlans tables.statics c.in-Ok.start c.requires.named c.in-Ok.ensures.start in
    rw c.put_together.ensures.setup (valid_with s (record s { start = c.in-Ok.start }) c.requires.valid refl refl refl refl refl (subst (λ u. All (IsStart u) c.in-Ok.start) c.requires.tree start))
