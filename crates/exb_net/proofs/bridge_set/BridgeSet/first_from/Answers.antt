use Rattle.std.proofs.Common.{ℕ, ◌^◌, ◌<◌, rules, ap, sym, ◌∙◌, arith}
use Rattle.exb_net.specs.BridgeSets.{mark_of}
use Rattle.exb_net.proofs.BridgeSets.{none_before, none_from}
use Rattle.exb_net.proofs.bridge_set.BridgeSet.first_from.Goals as goal

pub returns-then-rest-eq0-clause-none : goal.returns-then-rest-eq0-clause-none
returns-then-rest-eq0-clause-none c = λ b high.
    ap (λ (m : ℕ). mark_of m b) (sym c.self.view_is) ∙ none_from c.self.inside.bits c.args.from c.min.result (omega (arith, c.min.ensures)) c.if-rest-eq0.true b high

pub returns-clause-found : goal.returns-clause-found
returns-clause-found c =
    let fits : c.self.inside.bits < 2 ^ 64 = search rules in (
      omega arith,
      λ b high before.
          ap (λ (m : ℕ). mark_of m b) (sym c.self.view_is)
          ∙ none_before c.self.inside.bits c.args.from c.min.result _ (omega (arith, c.min.ensures)) fits (let some = c.if-rest-eq0.false in omega (arith, some)) (omega arith) b high before,
    )
