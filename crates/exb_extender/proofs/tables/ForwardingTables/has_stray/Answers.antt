use Rattle.std.proofs.Common.{sym, ap, ◌∙◌, ◌==◌, ◌&&◌, get_or, arith, refl}
use Rattle.std.proofs.lemmas.Bool.{and_parts, and_from}
use Rattle.exb_csp.proofs.ExecutionLaws.{mask_empty}
use Rattle.exb_csp.specs.Execution.{in_mask}
use Rattle.exb_extender.proofs.ForwardingLemmas.{lowest, cleared_lower}
use Rattle.exb_extender.proofs.TableLemmas.{stray_found, stray_none, stray_left}
use Rattle.exb_extender.proofs.tables.ForwardingTables.has_stray.Goals as goal

pub ports-init : goal.ports-init
ports-init c q = refl

pub ports-smaller : goal.ports-smaller
ports-smaller c = let low = lowest c.ports.left c.ports-test.true (omega (arith, c.ports.auto.left-fits)) in cleared_lower c.ports.left _ low.few low.bit

pub ports-preserved : goal.ports-preserved
ports-preserved c =
    let low = lowest c.ports.left c.ports-test.true (omega (arith, c.ports.auto.left-fits)) in
    stray_left c.args.self.now.own c.args.mask c.ports.left _ low.few (sym c.is_idle.ensures ∙ c.if-is_idle.false) c.ports.invariant

pub returns-then-is_idle : goal.returns-then-is_idle
returns-then-is_idle c =
    let low = lowest c.ports.left c.ports-test.true (omega (arith, c.ports.auto.left-fits)) in
    let idle = sym c.is_idle.ensures ∙ c.if-is_idle.true in
    stray_found _ c.args.self.now.own c.args.self.now.cascade c.args.self.now.rows c.args.mask _ (omega arith) (omega (arith, low.few))
    (and_parts _ _ (c.ports.invariant _ ∙ and_from _ _ low.set idle)).0 idle

pub returns : goal.returns
returns c =
    stray_none _ c.args.self.now.own c.args.self.now.cascade c.args.self.now.rows c.args.mask c.args.self.now.kept
    (λ q low high. c.ports.invariant q ∙ ap (λ w. in_mask w q && (get_or c.args.self.now.own q 0 == 0)) c.ports-test.false ∙ ap (λ b. b && (get_or c.args.self.now.own q 0 == 0)) (mask_empty q))
