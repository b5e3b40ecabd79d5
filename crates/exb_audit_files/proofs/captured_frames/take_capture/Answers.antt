use Rattle.std.proofs.Common.{◌≡◌, [], ℕ, List, sym, ap, subst, ◌∙◌}
use Rattle.std.specs.Prelude.{◌⊎◌}
use Rattle.exb_capture.specs.Captures.{capture_records}
use Rattle.exb_capture.specs.CaptureFiles.{HasRead, HaltsBy}
use Rattle.exb_shelf.specs.Files.{bytes_of}
use Rattle.exb_shelf.specs.Shelf.{Id}
use Rattle.exb_audit_files.specs.declared.port_files.FramesFault.TheVariants.{Memory, Read}
use Rattle.exb_audit_files.specs.FrameFiles.{IsFlaw}
use Rattle.exb_audit_files.proofs.CaptureFrames.{halt_told}
use Rattle.exb_audit_files.proofs.captured_frames.take_capture.Goals as goal

pub returns-clause-flaw : goal.returns-clause-flaw
returns-clause-flaw g c = λ tells.
    let S = g.S.Shelf in
    let f = c.in-Ok.file in
    let halt = c.in-Err-take_frames.halt in
    let name = c.as_str.result.now in
    let bytes = bytes_of (S.file c.open.new.shelf (S.ids c.open.new.shelf f.id).name) in
    let same = ap (λ (i : Id). bytes_of (S.file c.open.new.shelf i.name)) c.in-Ok.ensures.id ∙ ap bytes_of (c.in-Ok.ensures.files name) in
    let halts = c.in-Err-take_frames.ensures.halts tells (subst (λ b. HasRead b [] f) (sym same) (c.in-Ok.ensures.read tells)) in
    subst (λ (n : List ℕ). IsFlaw capture_records c.args.left c.args.one.now (S.file c.args.shelf.now n) c.halted.result ⊎ (c.halted.result ≡ Read) ⊎ (c.halted.result ≡ Memory)) c.as_str.ensures
    (halt_told c.args.left c.args.one.now (S.file c.args.shelf.now name) bytes halt c.halted.result c.halted.ensures.halted (c.in-Ok.ensures.there tells) same (subst (λ n. HaltsBy bytes n halt) c.in-Ok.ensures.begun.limit_is halts))
