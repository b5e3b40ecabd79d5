use Rattle.std.proofs.Common.{rules, ◌≡◌, ◌++◌, ◌∷◌, List, ℕ, drop, length, subst}
use Rattle.std.specs.Prelude.{IfSome}
use Rattle.exb_model.specs.Texts.{line_of}
use Rattle.exb_journal.proofs.TextLemmas.{nothing_behind}
use Rattle.exb_journal.proofs.frame_lines.last_line.Goals as goal

pub returns-clause-written : goal.returns-clause-written
returns-clause-written c =
    let long : length c.args.room.now ≡ 128 = search rules in
    subst (λ (xs : List ℕ). IfSome c.quick_line.result (λ start. drop start c.quick_line.new.room ≡ line_of c.args.event.now ++ 10 ∷ xs)) (nothing_behind c.args.room.now 128 long) c.quick_line.ensures.written
