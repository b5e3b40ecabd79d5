use Rattle.exb_audit.proofs.Rule4Captures.{frame_is, next_moved, moves, refused}
use Rattle.std.specs.Prelude.{set}
use Rattle.exb_audit.specs.Rule4Captures.{AreSoFar}
use Rattle.std.proofs.Common.{◌+◌, ◌∷◌, ◌++◌, [], get_or, sym, ◌∙◌, ap, subst, arith}
use Rattle.exb_audit.proofs.rule4_captures.count.Goals as goal

pub returns-then-not-stands_at-clause-no : goal.returns-then-not-stands_at-clause-no
returns-then-not-stands_at-clause-no c = λ z before after s are.
    let at = c.in-Some.ensures.some in
    refused c.args.tree.now c.args.comes_in c.args.all.now before c.args.line.now c.args.counts.now after c.in-Some.port at
    (next_moved _ _ _ _ _ _ _ _ c.stands_at.ensures.value c.if-not-stands_at.true c.frames_at-frames.ensures (ap (λ n. get_or c.args.counts.now n 0) c.number-at.ensures.value)
    (c.as_slice.ensures ∙ frame_is c.args.comes_in c.in-Some.port c.line.inside.way c.line.inside.who c.line.inside.side c.line.inside.bytes c.args.line.now c.line.view_is at.here)) s are

pub overflow_add-counts : goal.overflow_add-counts
overflow_add-counts c = (let fits = c.stands_at.ensures.fits c.if-not-stands_at.false in omega (arith, fits))

pub returns-clause-yes : goal.returns-clause-yes
returns-clause-yes c = λ z before s.
    let at = c.in-Some.ensures.some in
    let low = c.number-at.ensures.range in
    let sized = c.requires.counts in
    subst (λ n. AreSoFar c.args.comes_in c.args.tree.now c.args.all.now (before ++ c.args.line.now ∷ []) (set c.args.counts.now n (get_or c.args.counts.now n 0 + 1))) (sym c.number-at.ensures.value)
    (moves c.args.tree.now c.args.comes_in c.args.all.now before c.args.line.now c.args.counts.now c.in-Some.port (omega (arith, low, sized)) at
    (next_moved _ _ _ _ _ _ _ _ c.stands_at.ensures.value c.if-not-stands_at.false c.frames_at-frames.ensures (ap (λ n. get_or c.args.counts.now n 0) c.number-at.ensures.value)
    (c.as_slice.ensures ∙ frame_is c.args.comes_in c.in-Some.port c.line.inside.way c.line.inside.who c.line.inside.side c.line.inside.bytes c.args.line.now c.line.view_is at.here)) s)
