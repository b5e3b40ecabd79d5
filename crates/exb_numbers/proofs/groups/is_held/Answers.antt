use Rattle.std.proofs.Common.{◌∙◌, sym, ap, not, get_or}
use Rattle.std.proofs.lemmas.Bool.{ne_eqb}
use Rattle.exb_numbers.proofs.SetKeys.{held_by_key}
use Rattle.exb_numbers.proofs.groups.is_held.Goals as goal

pub returns-then-keys-place-ne0 : goal.returns-then-keys-place-ne0
returns-then-keys-place-ne0 c =
    let other = c.if-keys-place-ne0.true in
    ap not (ne_eqb (get_or c.args.keys.now c.args.place 0) 0 other) ∙ sym (held_by_key c.args.sets.now c.args.keys.now c.args.place c.requires.keys other)
