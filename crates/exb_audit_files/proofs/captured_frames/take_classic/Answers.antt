use Rattle.std.proofs.Common.{◌<◌, ℕ, Option, Some, inl, subst, arith}
use Rattle.std.proofs.lemmas.Result.{IfOk-weaker, IfErr-weaker}
use Rattle.exb_audit_files.specs.CaptureFrames.{BeginsWith}
use Rattle.exb_audit_files.proofs.CaptureFrames.{flaw_nothing, flaw_large, flaw_ten, flaw_classic, taken_classic}
use Rattle.exb_audit_files.proofs.captured_frames.take_classic.Goals as goal

pub returns-in_default-clause-flaw : goal.returns-in_default-clause-flaw
returns-in_default-clause-flaw g c = λ t.
    let file = g.S.Shelf.file c.args.shelf.now c.args.one.now.name in
    inl (flaw_nothing c.args.left c.args.one.now file c.no_classic.result (subst (λ (o : Option ℕ). BeginsWith o file) c.in_default.is (c.in_ok-first.ensures.first t)) c.no_classic.ensures.fault)

pub returns-then-left-eq0-clause-flaw : goal.returns-then-left-eq0-clause-flaw
returns-then-left-eq0-clause-flaw g c = λ t.
    let file = g.S.Shelf.file c.args.shelf.now c.args.one.now.name in
    inl (flaw_large c.args.one.now c.in-Some.byte file c.args.left c.if-left-eq0.true (subst (λ (o : Option ℕ). BeginsWith o file) c.in-Some.is (c.in_ok-first.ensures.first t)))

pub returns-then-byte-eq10-clause-flaw : goal.returns-then-byte-eq10-clause-flaw
returns-then-byte-eq10-clause-flaw g c = λ t.
    let file = g.S.Shelf.file c.args.shelf.now c.args.one.now.name in
    let some : 0 < c.args.left = omega (arith, c.if-left-eq0.false) in
    inl (flaw_ten c.args.left c.args.one.now file c.no_classic-then-byte-eq10.result some
    (subst (λ (b : ℕ). BeginsWith (Some b) file) c.if-byte-eq10.true (subst (λ (o : Option ℕ). BeginsWith o file) c.in-Some.is (c.in_ok-first.ensures.first t))) c.no_classic-then-byte-eq10.ensures.fault)

pub returns-clause-taken : goal.returns-clause-taken
returns-clause-taken g c = λ t.
    let S = g.S.Shelf in
    let file = S.file c.args.shelf.now c.args.one.now.name in
    let now = S.file c.first_byte.new.shelf c.args.one.now.name in
    IfOk-weaker c.take_capture.result _ _
    (λ taken h. taken_classic c.args.left c.in-Some.byte file now taken c.if-byte-eq10.false (subst (λ (o : Option ℕ). BeginsWith o file) c.in-Some.is (c.in_ok-first.ensures.first t)) (c.in_ok-first.ensures.files c.args.one.now.name) h)
    (c.take_capture.ensures.taken t)

pub returns-clause-flaw : goal.returns-clause-flaw
returns-clause-flaw g c = λ t.
    let S = g.S.Shelf in
    let file = S.file c.args.shelf.now c.args.one.now.name in
    let now = S.file c.first_byte.new.shelf c.args.one.now.name in
    let some : 0 < c.args.left = omega (arith, c.if-left-eq0.false) in
    IfErr-weaker c.take_capture.result _ _
    (λ fault h. flaw_classic c.args.left c.args.one.now c.in-Some.byte file now fault some c.if-byte-eq10.false (subst (λ (o : Option ℕ). BeginsWith o file) c.in-Some.is (c.in_ok-first.ensures.first t)) (c.in_ok-first.ensures.files c.args.one.now.name) h)
    (c.take_capture.ensures.flaw t)
