use Rattle.std.proofs.Common.{length, refl, ap}
use Rattle.exb_net.proofs.AssemblyLemmas.{all_valid, begun_so}
use Rattle.exb_net.proofs.QuietBridges.{all_marked}
use Rattle.exb_net.proofs.net.Net.new.Goals as goal

pub make_all-requires-clause-valid : goal.make_all-requires-clause-valid
make_all-requires-clause-valid g c = let t = c.requires.net in all_valid t.0 c.args.setup.now t.1.0 t.1.1

pub returns-in-Ok-clause-begun : goal.returns-in-Ok-clause-begun
returns-in-Ok-clause-begun g c = λ n of net. begun_so n c.args.setup.now _ of net c.in-Ok.ensures.long c.in-Ok.ensures.ok refl c.new.ensures.items (ap (λ zs. length zs) c.as_slice.ensures)

pub invariant_of-result : goal.invariant_of-result
invariant_of-result g c = record { quiet = all_marked c.all.result c.all.ensures c.make_all.new.nodes.items }
