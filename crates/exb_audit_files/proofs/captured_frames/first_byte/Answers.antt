use Rattle.std.proofs.Common.{rules, ◌≡◌, ◌∷◌, List, ℕ, Some, get_or, subst}
use Rattle.exb_audit_files.proofs.CaptureFrames.{first_read}
use Rattle.exb_audit_files.proofs.captured_frames.first_byte.Goals as goal

pub returns-clause-first : goal.returns-clause-first
returns-clause-first g c = λ t.
    let S = g.S.Shelf in
    subst (λ (name : List ℕ). (x : List ℕ) × (S.file c.args.shelf.now name ≡ Some (get_or c.read.new.into 0 0 ∷ x))) c.as_str.ensures
    (first_read (S.file c.args.shelf.now) (S.file c.open.new.self) (S.ids c.open.new.self c.in-Ok.id) c.as_str.result.now c.read.new.into c.in-Ok-read.n c.in-Ok.ensures.id c.in-Ok.ensures.files (c.in-Ok.ensures.there t)
    c.if-n-eq0.false (search rules) (c.in-Ok-read.ensures.bytes t))
