use Rattle.std.proofs.Common.{ℕ, ◌^◌, ◌<◌, ◌∷◌, rules, ap, sym, subst, ◌∙◌}
use Rattle.std.specs.Int.{trailing_zeros, w64}
use Rattle.exb_csp.proofs.ExecutionLoops.{without}
use Rattle.exb_outbox.specs.PortMaps.{Row, ports_in}
use Rattle.exb_outbox.proofs.PortMapBits.{fewer, row_empty, row_first}
use Rattle.exb_outbox.proofs.port_map.PortMap.next.Goals as goal

pub returns-then-self-eq0-clause-none : goal.returns-then-self-eq0-clause-none
returns-then-self-eq0-clause-none c =
    ap ports_in (sym c.self.view_is) ∙ row_empty (record { device = c.self.inside.device; ports = c.self.inside.ports }) c.if-self-eq0.true

pub returns-clause-some : goal.returns-clause-some
returns-clause-some c =
    let fits : c.self.inside.ports < 2 ^ 64 = search rules in
    ap ports_in (sym c.self.view_is)
    ∙ row_first c.self.inside.device c.self.inside.ports c.if-self-eq0.false fits
    ∙ ap (λ (q : ℕ). q ∷ ports_in (record { device = c.self.inside.device; ports = without c.self.inside.ports (trailing_zeros w64 c.self.inside.ports) })) (sym c.at.ensures)

pub returns-clause-fewer : goal.returns-clause-fewer
returns-clause-fewer c =
    let fits : c.self.inside.ports < 2 ^ 64 = search rules in
    subst (λ (n : ℕ). without c.self.inside.ports (trailing_zeros w64 c.self.inside.ports) < n) (ap (λ (r : Row). r.ports) c.self.view_is) (fewer c.self.inside.device c.self.inside.ports c.if-self-eq0.false fits)
