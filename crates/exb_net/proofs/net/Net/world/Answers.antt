use Rattle.std.proofs.Common.{◌∙◌, ap, sym, arith}
use Rattle.std.proofs.lemmas.Option.{same_Some}
use Rattle.exb_net.proofs.ListPlaces.{at_place}
use Rattle.exb_net.proofs.net.Net.world.Goals as goal

pub index-requires : goal.index-requires
index-requires g c = omega (arith, c.requires, c.args.self.now.nodes.ok.0)

pub returns : goal.returns
returns g c = λ x is. ap (λ z. z.world) (same_Some c.index.result.now x (sym (at_place c.args.self.now.nodes.items c.args.bridge c.index.result.now c.requires c.index.ensures) ∙ is))
