use Rattle.std.proofs.Common.{sym, ◌∙◌, ◌≡◌, length, ◌==◌, false}
use Rattle.std.proofs.lemmas.Bool.{eqb-true}
use Rattle.exb_link.proofs.Calls.{empty_with, not_empty}
use Rattle.exb_link.proofs.link.Link.is_empty.Goals as goal

pub returns-then-is_empty : goal.returns-then-is_empty
returns-then-is_empty c =
    let none : length c.self.inside.frames.items ≡ 0 = sym c.self.inside.frames.ok.0 ∙ eqb-true c.self.inside.frames.len 0 (sym c.is_empty.ensures ∙ c.if-is_empty.true) in
    rw c.is_empty-then-is_empty.ensures
    (empty_with c.self.inside.frames.items c.self.inside.control.items c.args.self.now c.self.inside.ahead none c.self.invariant c.self.view_is c.self.inside.control.len c.self.inside.control.ok.0)

pub returns-else-is_empty : goal.returns-else-is_empty
returns-else-is_empty c =
    let some : (c.self.inside.frames.len == 0) ≡ false = sym c.is_empty.ensures ∙ c.if-is_empty.false in (
      λ h. absurd (cc (h, c.if-is_empty.false)),
      λ e. absurd (not_empty c.self.inside.frames.items c.self.inside.control.items c.args.self.now c.self.inside.ahead c.self.invariant c.self.view_is c.self.inside.frames.len c.self.inside.frames.ok.0 some e),
    )
