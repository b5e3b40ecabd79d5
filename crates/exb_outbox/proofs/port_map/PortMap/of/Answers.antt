use Rattle.std.proofs.Common.{◌≡◌, ℕ, ◌+◌, List, [], ◌∷◌, ◌++◌, ap, ◌∙◌, arith}
use Rattle.exb_csp.specs.AllTables.{port_of}
use Rattle.exb_outbox.proofs.PortMapBits.{none_in}
use Rattle.exb_outbox.proofs.port_map.PortMap.of.Goals as goal

pub put-requires-clause-end : goal.put-requires-clause-end
put-requires-clause-end c = none_in c.none-row.result _ c.none-row.ensures.bits

pub returns : goal.returns
returns c =
    let device = c.none-row.ensures.device in
    let own = c.device.ensures.value in
    let place = c.place.ensures.value in
    let same : port_of c.none-row.result.device (c.place.result + 1) ≡ c.args.port = omega (arith, device, own, place) in
    c.put.ensures.ports
    ∙ ap (λ (xs : List ℕ). xs ++ port_of c.none-row.result.device (c.place.result + 1) ∷ []) c.none-row.ensures.ports
    ∙ ap (λ (q : ℕ). q ∷ []) same
