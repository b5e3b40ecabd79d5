use Rattle.std.proofs.Common.{rules, ◌≡◌, ◌++◌, ◌∷◌, [], sym, ◌∙◌}
use Rattle.exb_audit_files.proofs.LineFeeds.{cut_broken, cut_line}
use Rattle.exb_audit_files.proofs.lines.end_line.Goals as goal

pub returns-then-to : goal.returns-then-to
returns-then-to g c = record { cut = cut_broken g.L.Line.reads c.args.to.now (c.args.line.now ++ 10 ∷ []) c.if-to.true }

pub returns-in_ok-push-in-Some : goal.returns-in_ok-push-in-Some
returns-in_ok-push-in-Some g c =
    let pushed : c.push.new.self.items ≡ c.args.to.now.lines.items ++ c.in-Some.read ∷ [] = search rules in
    record {
      cut = cut_line g.L.Line.reads c.args.to.now (record { lines = c.push.new.self; rest = c.read_with.new.rest; bad = c.args.to.now.bad }) c.args.line.now c.in-Some.read c.if-to.false c.requires.one
          (sym c.in_ok-read.ensures.read ∙ c.in-Some.is) pushed c.in_ok-read.ensures.rest c.if-to.false;
    }
