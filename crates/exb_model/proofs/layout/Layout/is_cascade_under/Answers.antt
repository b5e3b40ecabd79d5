use Rattle.std.proofs.Common.{◌≡◌, ◌∙◌, sym, refl}
use Rattle.std.proofs.lemmas.Bool.{le-leb}
use Rattle.exb_model.specs.Tree.{trunk, is_port, is_cascade}
use Rattle.exb_model.proofs.layout.Layout.is_cascade_under.Goals as goal

pub returns : goal.returns
unfolding trunk
returns c =
    let n = c.args.port in
    let number = c.number-number.ensures.value in
    let high = le-leb 64 n (rw number at c.if-number-lt64.false) in
    let port : is_port c.args.self.now n ≡ _ = rw number at (sym c.is_port.ensures ∙ c.if-not-is_port.false) in
    let cascade : is_cascade c.args.self.now n ≡ _ = sym (c.requires n) ∙ sym c.contains.ensures ∙ c.if-not-contains.false in
    rw (high, port, cascade, c.top.ensures, c.on.ensures.value, number) refl
