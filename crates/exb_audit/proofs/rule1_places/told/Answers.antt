use Rattle.exb_audit.proofs.Rule1Places.{tells, tells_wrong, nowhere, journal_line, not_there}
use Rattle.exb_trace_spec.specs.Rule1Places.{HasPlaces}
use Rattle.exb_audit.specs.Rule1Places.{IsToldSoFar}
use Rattle.exb_audit.specs.Frames.{is_next}
use Rattle.std.proofs.Common.{◌+◌, ◌∷◌, ◌++◌, [], sym, ◌∙◌, ap, subst, arith}
use Rattle.exb_audit.proofs.rule1_places.told.Goals as goal

pub returns-else-is_place-clause-none : goal.returns-else-is_place-clause-none
returns-else-is_place-clause-none c = λ t e before after s has.
    nowhere t c.args.journal.now before c.args.count s after c.args.line.now
    (not_there t c.line.inside.way c.line.inside.who c.line.inside.side c.line.inside.bytes c.args.line.now c.line.view_is c.in-In.is (sym (c.is_place.ensures t e) ∙ c.if-is_place.false)) has

pub returns-then-stands_at-clause-some : goal.returns-then-stands_at-clause-some
returns-then-stands_at-clause-some c = λ t e before s.
    subst (λ l. IsToldSoFar t c.args.journal.now (before ++ l ∷ []) (c.args.count + 1)) (sym (journal_line c.line.inside.way c.line.inside.who c.line.inside.side c.line.inside.bytes c.args.line.now c.line.view_is c.in-Journal.is))
    (tells t c.args.journal.now before c.args.count s c.line.inside.bytes (ap (is_next c.args.journal.now c.args.count) (sym c.as_slice.ensures) ∙ sym c.stands_at.ensures.value ∙ c.if-stands_at.true))

pub returns-then-stands_at-clause-low : goal.returns-then-stands_at-clause-low
returns-then-stands_at-clause-low c = (let within = c.stands_at.ensures.within c.if-stands_at.true in omega (arith, within))

pub returns-else-stands_at-clause-none : goal.returns-else-stands_at-clause-none
returns-else-stands_at-clause-none c = λ t e before after s has.
    tells_wrong t c.args.journal.now before c.args.count s after c.line.inside.bytes (ap (is_next c.args.journal.now c.args.count) (sym c.as_slice.ensures) ∙ sym c.stands_at.ensures.value ∙ c.if-stands_at.false)
    (subst (λ l. HasPlaces t c.args.journal.now (before ++ l ∷ after)) (journal_line c.line.inside.way c.line.inside.who c.line.inside.side c.line.inside.bytes c.args.line.now c.line.view_is c.in-Journal.is) has)
