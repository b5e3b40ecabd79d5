use Rattle.std.proofs.Common.{rules, ◌≡◌, ◌++◌, ◌∷◌, ◌-◌, [], List, ℕ, drop, length, flat_map, refl, ap, sym, ◌∙◌, arith}
use Rattle.exb_model.specs.declared.event.Event.{Event}
use Rattle.exb_model.specs.Texts.{line_of}
use Rattle.exb_journal.proofs.TextLemmas.{line_before, nothing_behind}
use Rattle.exb_journal.proofs.frame_lines.quick_lines.Goals as goal

pub lines-init : goal.lines-init
lines-init c =
    let line : Event → List ℕ = λ (e : Event). line_of e ++ 10 ∷ [] in
    let events : List Event = c.args.events.now in
    let long : length c.args.room.now ≡ 128 = search rules in
    record {
      within = omega arith;
      left = omega arith;
      written = nothing_behind c.args.room.now 128 long ∙ sym (ap (flat_map line) (nothing_behind events (length events) refl));
    }

pub lines-preserved : goal.lines-preserved
lines-preserved c =
    let inv = c.lines.invariant in
    let low = inv.left in
    record {
      within = (let place = c.in-Some.ensures.within in let before = inv.within in omega (arith, place, before));
      left = omega (arith, low);
      written =
          line_before c.args.events.now (c.lines.left - 1) c.lines.left c.index-events-left.result (drop c.in-Some.place c.quick_line.new.room) (drop c.lines.start c.lines.room)
          (omega arith) (omega (arith, low)) c.index-events-left.is c.in-Some.ensures.written inv.written;
    }

pub returns-clause-written : goal.returns-clause-written
returns-clause-written c =
    let line : Event → List ℕ = λ (e : Event). line_of e ++ 10 ∷ [] in
    let none : c.lines.left ≡ 0 = omega arith in
    c.lines.invariant.written ∙ ap (λ (k : ℕ). flat_map line (drop k c.args.events.now)) none
