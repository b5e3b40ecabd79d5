use Rattle.std.proofs.Common.{◌≡◌, [], replicate}
use Rattle.exb_link.proofs.links.Links.new.Given as goal

abbrev pub invariant-loop : goal.invariant-loop
invariant-loop l = l.links.items ≡ replicate l.counter []
