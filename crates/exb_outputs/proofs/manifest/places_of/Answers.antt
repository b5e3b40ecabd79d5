use Rattle.std.proofs.Common.{rules, ◌≡◌, ◌++◌, ◌∷◌, [], length, ap, ◌∙◌, arith}
use Rattle.std.specs.Prelude.{ℕ}
use Rattle.exb_outputs.proofs.PortPlaces.{places_begin, places_more, places_end, places_low}
use Rattle.exb_outputs.proofs.manifest.places_of.Goals as goal

pub ports-init : goal.ports-init
ports-init c = places_begin c.args.tree.now c.new-ports.result.items c.new-places.result.items c.new-ports.ensures.items c.new-places.ensures.items

pub overflow_cast-len : goal.overflow_cast-len
overflow_cast-len c =
    let size : c.len.result ≡ length c.ports.ports.items = search rules in
    let few = places_low c.args.tree.now c.ports.number c.ports.ports.items c.ports.places.items c.ports.invariant in
    omega arith

pub ports-preserved : goal.ports-preserved
ports-preserved c =
    let size : c.len.result ≡ length c.ports.ports.items = search rules in
    let port : c.unwrap-port.result ≡ c.ports.number = search rules in
    let pushed : c.push.new.self.items ≡ c.ports.places.items ++ c.len.result ∷ [] = search rules in
    places_more c.args.tree.now c.ports.number c.unwrap-port.result c.is_external.result c.ports.ports.items c.put_if.new.ports.items c.ports.places.items c.push.new.self.items
    c.ports.invariant port c.is_external.ensures c.in_ok-put_if.ensures (pushed ∙ ap (λ (k : ℕ). c.ports.places.items ++ k ∷ []) size)

pub returns : goal.returns
returns c = places_end c.args.tree.now c.ports.number c.ports.ports.items c.ports.places.items c.ports.invariant (omega arith)
