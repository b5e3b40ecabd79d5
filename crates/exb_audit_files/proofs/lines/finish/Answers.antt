use Rattle.std.proofs.Common.{◌≡◌, ◌==◌, ℕ, length, refl, subst, arith}
use Rattle.exb_audit_files.proofs.LineFeeds.{bad_broken, bad_rest, rest_none, rest_some, whole_lines}
use Rattle.exb_audit_files.proofs.lines.finish.Goals as goal

pub returns-then-from-clause-bad : goal.returns-then-from-clause-bad
returns-then-from-clause-bad g c = (c.next_number-number.result, refl, λ text few h. bad_broken g.L.Line.reads text c.args.from c.next_number-number.result c.if-from.true c.next_number-number.ensures few h)

pub returns-then-not-is_empty-clause-bad : goal.returns-then-not-is_empty-clause-bad
returns-then-not-is_empty-clause-bad g c =
    let n = c.next_number-number-then-not-is_empty in
    let rest = c.args.from.rest in
    let len : rest.len ≡ length rest.items = omega (arith, rest.ok.0) in (
      n.result,
      refl,
      λ text few h. bad_rest g.L.Line.reads text c.args.from n.result c.if-from.false
          (rest_some rest.items c.is_empty.result (subst (λ (k : ℕ). c.is_empty.result ≡ (k == 0)) len c.is_empty.ensures) c.if-not-is_empty.true) n.ensures few h,
    )

pub returns-clause-lines : goal.returns-clause-lines
returns-clause-lines g c =
    let rest = c.args.from.rest in
    let len : rest.len ≡ length rest.items = omega (arith, rest.ok.0) in
    λ text h. whole_lines g.L.Line.reads text c.args.from c.if-from.false
    (rest_none rest.items c.is_empty.result (subst (λ (k : ℕ). c.is_empty.result ≡ (k == 0)) len c.is_empty.ensures) c.if-not-is_empty.false) h
