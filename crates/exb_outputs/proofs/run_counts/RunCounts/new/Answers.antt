use Rattle.std.proofs.Common.{◌≡◌, true, ap, sym, ◌∙◌}
use Rattle.exb_model.specs.Tree.{Shape, is_external}
use Rattle.exb_cli.specs.declared.invocations.Options.{Options}
use Rattle.exb_outputs.proofs.PortCounts.{asked_for, counted-none, ports-new}
use Rattle.exb_outputs.proofs.run_counts.RunCounts.new.Goals as goal

pub returns : goal.returns
returns c =
    let manifest = c.args.manifest.now in
    let asked : manifest.options.counters ≡ true = sym (ap (λ (o : Options). o.counters) c.options.ensures) ∙ asked_for c.options.result.counters c.if-not-options.false in
    counted-none manifest _ c.new-tally.ensures
    (ports-new manifest c.in_ok-ports.ports asked (λ q low out. c.in_ok-ports.ensures.ports q low (ap (λ (t : Shape). is_external t q) (sym c.requires.tree) ∙ out)) c.in_ok-ports.ensures.counts)
