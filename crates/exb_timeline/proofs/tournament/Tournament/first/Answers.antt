use Rattle.std.proofs.Common.{◌≡◌, ◌<◌, ◌≤◌, get_or, length, subst}
use Rattle.exb_timeline.proofs.Racers.{are_none, if_none, is_first, none_race}
use Rattle.exb_timeline.proofs.tournament.Tournament.first.Goals as goal

pub returns-then-moment-clause-none : goal.returns-then-moment-clause-none
returns-then-moment-clause-none c = λ moments are.
    let racer = c.in_ok-racer.field-0.now in
    let m = c.index-moment.result.now in
    let found = c.in_ok-racer.ensures.lookup in
    are_none moments c.args.self.now are racer m (subst (λ xs. 1 < length xs) c.deref.ensures.value found.3.0) (subst (λ xs. racer ≡ get_or xs 1 racer) c.deref.ensures.value found.1) c.index-moment.ensures
    c.if-moment.true

pub returns-clause-some : goal.returns-clause-some
returns-clause-some c = λ moments are.
    let racer = c.in_ok-racer.field-0.now in
    let m = c.index-moment.result.now in
    let found = c.in_ok-racer.ensures.lookup in
    is_first moments c.args.self.now are racer m (subst (λ xs. 1 < length xs) c.deref.ensures.value found.3.0) (subst (λ xs. racer ≡ get_or xs 1 racer) c.deref.ensures.value found.1) c.index-moment.ensures
    c.if-moment.false c.index.result.now c.index.ensures

pub returns-in_err-racer-clause-none : goal.returns-in_err-racer-clause-none
returns-in_err-racer-clause-none c =
    if_none c.from_residual.result _ (λ moments are. none_race moments c.args.self.now are (subst (λ xs. length xs ≤ 1) c.deref.ensures.value c.in_err-racer.ensures.lookup.3))
