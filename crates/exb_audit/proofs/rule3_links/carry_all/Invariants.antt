use Rattle.std.proofs.Common.{drop}
use Rattle.exb_audit.specs.Rule3Links.{place_in}
use Rattle.exb_audit.proofs.Rule3Links.{IsCarrying}
use Rattle.exb_audit.proofs.rule3_links.carry_all.Given as goal

abbrev pub invariant-loop-line : goal.invariant-loop-line
invariant-loop-line l = IsCarrying (place_in l.from) (place_in l.to) l.direction l.trace (drop l.line-index l.trace)
