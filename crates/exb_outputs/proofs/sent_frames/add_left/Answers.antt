use Rattle.std.proofs.Common.{ℕ, List, [], length, ap, sym, subst, arith}
use Rattle.exb_world_spec.specs.Worlds.{Left as Leaving}
use Rattle.exb_outbox.specs.PortMaps.{ports_in}
use Rattle.exb_outputs.specs.CaptureSizes.{HasSent}
use Rattle.exb_outputs.specs.WrittenTexts.{HasTexts, pieces_of}
use Rattle.exb_outputs.proofs.CaptureSizes.{sent_as}
use Rattle.exb_outputs.proofs.ShelfEffects.{writes_none}
use Rattle.exb_outputs.specs.SentFrames.{sent_with_copies, with_copies}
use Rattle.exb_outputs.proofs.SentFrames.{copy_can, no_copies, row_none, sent_none}
use Rattle.exb_outputs.proofs.sent_frames.add_left.Goals as goal

pub record_text-head-requires : goal.record_text-head-requires
record_text-head-requires g c =
    let left = c.args.left.now in
    let some = c.is_empty.ensures.some c.if-is_empty.false in
    (copy_can left some.first (ports_in left.row) some.rest some.is c.args.manifest.now c.requires.frame).moment

pub overflow_cast-as_slice : goal.overflow_cast-as_slice
overflow_cast-as_slice g c =
    let left = c.args.left.now in
    let some = c.is_empty.ensures.some c.if-is_empty.false in
    let short = (copy_can left some.first (ports_in left.row) some.rest some.is c.args.manifest.now c.requires.frame).bytes in
    let same = ap (λ (xs : List ℕ). length xs) c.as_slice.ensures in
    omega (arith, short, same)

pub write_row-requires-clause-head : goal.write_row-requires-clause-head
write_row-requires-clause-head g c = c.record_text-head.ensures c.args.left.now.bytes (ap (λ (xs : List ℕ). length xs) (sym c.as_slice.ensures))

pub returns-then-is_empty-clause-texts : goal.returns-then-is_empty-clause-texts
returns-then-is_empty-clause-texts g c = λ t orig text p.
    let manifest = c.args.manifest.now in
    let file = g.S.Shelf.file c.args.shelf.now in
    let pieces = pieces_of c.args.outputs.now in
    subst (λ (xs : List Leaving). HasTexts manifest pieces orig file (with_copies text xs)) (sym (row_none c.args.left.now _ (c.is_empty.ensures.empty c.if-is_empty.true))) (no_copies manifest orig file pieces text p)

pub returns-then-is_empty-clause-sent : goal.returns-then-is_empty-clause-sent
returns-then-is_empty-clause-sent g c = λ sent has.
    let manifest = c.args.manifest.now in
    let outputs = c.args.outputs.now in
    subst (λ (xs : List Leaving). HasSent manifest outputs (sent_with_copies sent xs)) (sym (row_none c.args.left.now _ (c.is_empty.ensures.empty c.if-is_empty.true)))
    (sent_as manifest outputs sent (sent_with_copies sent []) (sent_none sent) has)

pub returns-then-is_empty-clause-only : goal.returns-then-is_empty-clause-only
returns-then-is_empty-clause-only g c = writes_none _ _ _ _
