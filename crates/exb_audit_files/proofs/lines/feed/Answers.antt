use Rattle.std.proofs.Common.{◌+◌, ◌-◌, ◌++◌, ◌∷◌, [], ℕ, List, take, drop, subst, arith}
use Rattle.exb_audit_files.specs.LineFeeds.{CutsOn}
use Rattle.exb_audit_files.proofs.LineFeeds.{cut_then, line_there, no_part, part_more}
use Rattle.exb_audit_files.proofs.lines.feed.Goals as goal

pub bytes-preserved-then-byte-ne10 : goal.bytes-preserved-then-byte-ne10
bytes-preserved-then-byte-ne10 g c =
    let inv = c.bytes.invariant in
    record {
      cut = inv.cut;
      within = omega (arith, inv.within);
      part = part_more c.args.piece.now c.bytes.from c.bytes.at inv.within c.bytes-test.true c.if-byte-ne10.true inv.part;
    }

pub bytes-preserved : goal.bytes-preserved
bytes-preserved g c =
    let inv = c.bytes.invariant in
    let piece = c.args.piece.now in
    let from = c.bytes.from in
    let at = c.bytes.at in
    let line : List ℕ = take (at - from) (drop from piece) in
    record {
      cut =
          subst (λ (xs : List ℕ). CutsOn g.L.Line.reads c.args.to.now c.end_line.new.to xs) (line_there piece from at inv.within c.bytes-test.true c.if-byte-ne10.false)
          (cut_then g.L.Line.reads c.args.to.now c.bytes.to c.end_line.new.to (take from piece) (line ++ 10 ∷ []) inv.cut c.in_ok-end_line.ensures.cut);
      within = omega arith;
      part = no_part (drop (at + 1) piece) (at + 1);
    }
