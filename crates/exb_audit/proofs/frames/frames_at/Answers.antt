use Rattle.std.specs.Prelude.{slice_index}
use Rattle.exb_audit.proofs.FrameTables.{none_noted, noted_within, found_noted}
use Rattle.exb_audit.proofs.Rule5Relays.{get_item}
use Rattle.std.proofs.Common.{◌≡◌, ◌<◌, ◌-◌, rules, length, get_or, sym, ◌∙◌, ap, subst}
use Rattle.exb_audit.proofs.frames.frames_at.Goals as goal

pub returns-then-place-eq0 : goal.returns-then-place-eq0
returns-then-place-eq0 c =
    let at : get_or c.args.table.now c.number.result 0 ≡ slice_index c.args.table.now c.args.port = ap (λ n. get_or c.args.table.now n 0) c.number.ensures.value in
    sym (none_noted c.args.all.now c.args.port (slice_index c.args.table.now c.args.port) (sym at ∙ c.if-place-eq0.true) (c.requires.noted c.args.port c.number.ensures.range))

pub bounds-all-place : goal.bounds-all-place
bounds-all-place c =
    let at : get_or c.args.table.now c.number.result 0 ≡ slice_index c.args.table.now c.args.port = ap (λ n. get_or c.args.table.now n 0) c.number.ensures.value in
    subst (λ m. m - 1 < length c.args.all.now) (sym at) (noted_within c.args.all.now c.args.port (slice_index c.args.table.now c.args.port) (c.requires.noted c.args.port c.number.ensures.range) (λ z. c.if-place-eq0.false (at ∙ z)))

pub offset_bounds-all-place : goal.offset_bounds-all-place
offset_bounds-all-place c =
    let at : get_or c.args.table.now c.number.result 0 ≡ slice_index c.args.table.now c.args.port = ap (λ n. get_or c.args.table.now n 0) c.number.ensures.value in
    let within : get_or c.args.table.now c.number.result 0 - 1 < length c.args.all.now =
    subst (λ m. m - 1 < length c.args.all.now) (sym at) (noted_within c.args.all.now c.args.port (slice_index c.args.table.now c.args.port) (c.requires.noted c.args.port c.number.ensures.range) (λ z. c.if-place-eq0.false (at ∙ z))) in
    search rules

pub returns : goal.returns
returns c =
    let at : get_or c.args.table.now c.number.result 0 ≡ slice_index c.args.table.now c.args.port = ap (λ n. get_or c.args.table.now n 0) c.number.ensures.value in
    let noted = c.requires.noted c.args.port c.number.ensures.range in
    let some : slice_index c.args.table.now c.args.port ≡ 0 → ⊥ = λ z. c.if-place-eq0.false (at ∙ z) in
    let within = noted_within c.args.all.now c.args.port (slice_index c.args.table.now c.args.port) noted some in
    c.as_slice.ensures.value ∙ sym (found_noted c.args.all.now c.args.port (slice_index c.args.table.now c.args.port) c.index-all-place.result noted some
    (get_item c.args.all.now (slice_index c.args.table.now c.args.port - 1) c.index-all-place.result (c.index-all-place.is ∙ ap (λ m. get_or c.args.all.now (m - 1) c.index-all-place.result) at) within))
