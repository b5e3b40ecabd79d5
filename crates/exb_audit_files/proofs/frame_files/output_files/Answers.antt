use Rattle.std.proofs.Common.{rules, ◌≡◌, ◌++◌, ℕ, List, ap, sym, ◌∙◌}
use Rattle.exb_audit_files.specs.declared.port_files.PortFile.{PortFile}
use Rattle.exb_audit_files.specs.Scopes.{output_file}
use Rattle.exb_audit_files.proofs.PortRange.{flat_more, flat_none}
use Rattle.exb_audit_files.proofs.frame_files.output_files.Goals as goal

pub ports-init : goal.ports-init
ports-init c = c.new-files.ensures.items ∙ sym (flat_none (output_file c.args.tree.now c.args.prefix.now))

pub ports-preserved : goal.ports-preserved
ports-preserved c =
    let port : c.unwrap-port.result ≡ c.ports.number = search rules in
    c.in_ok-put_output.ensures ∙ ap (λ (n : ℕ). c.ports.files.items ++ output_file c.args.tree.now c.args.prefix.now n) port
    ∙ ap (λ (xs : List PortFile). xs ++ output_file c.args.tree.now c.args.prefix.now c.ports.number) c.ports.invariant ∙ sym (flat_more (output_file c.args.tree.now c.args.prefix.now) c.ports.number)
