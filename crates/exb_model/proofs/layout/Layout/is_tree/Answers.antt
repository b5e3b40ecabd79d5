use Rattle.std.proofs.Common.{sym, ◌∙◌}
use Rattle.exb_model.proofs.Validity.{tree_from, on_ports_of, alone_of, rooted_of}
use Rattle.std.proofs.lemmas.Bool.{false≢true}
use Rattle.exb_model.proofs.layout.Layout.is_tree.Goals as goal
use Rattle.exb_model.proofs.layout.Layout.is_tree.Goals.{then-not-hang_on_ports-via-then-not-hang_on_ports, then-not-hang_on_ports-via-else-not-hang_on_ports+then-not-hang_alone}

pub returns-then-not-hang_on_ports : goal.returns-then-not-hang_on_ports
returns-then-not-hang_on_ports c =
    let t = c.args.self.now in
    elim c.then-not-hang_on_ports.branch [
      | then-not-hang_on_ports-via-then-not-hang_on_ports w ↦ (
        λ f. absurd (false≢true f),
        λ tree. absurd (false≢true (sym w.if-not-hang_on_ports.true ∙ c.hang_on_ports.ensures.on_ports.1 (on_ports_of t tree))),
      )
      | then-not-hang_on_ports-via-else-not-hang_on_ports+then-not-hang_alone w ↦ (
        λ f. absurd (false≢true f),
        λ tree. absurd (false≢true (sym w.if-not-hang_alone.true ∙ w.hang_alone.ensures.1 (alone_of t tree))),
      )
    ]

pub returns : goal.returns
returns c =
    let t = c.args.self.now in (
      λ reached. tree_from t c.hang_on_ports.ensures.sized (c.hang_on_ports.ensures.on_ports.0 c.if-not-hang_on_ports.false) (c.hang_alone.ensures.0 c.if-not-hang_alone.false) (c.reach_bridge.ensures.0 reached),
      λ tree. c.reach_bridge.ensures.1 (rooted_of t tree),
    )
