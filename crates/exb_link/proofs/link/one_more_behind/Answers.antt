use Rattle.std.proofs.Common.{◌<◌, ◌≡◌, ◌-◌, ℕ, zero, suc, false, true, arith, refl, sym, ◌∙◌}
use Rattle.exb_link.proofs.Interleaving.{behind_within, set-more, more_behind-none}
use Rattle.exb_link.proofs.link.one_more_behind.Goals as goal

pub overflow_add-last : goal.overflow_add-last
overflow_add-last c =
    let ok = c.args.frames.now.ok.0 in
    let some : 0 < c.args.frames.now.len = c.in-Some.ensures.variant.0 refl in
    let h = behind_within c.args.frames.now.items (c.args.frames.now.len - 1) c.in-Some.last.now (omega (arith, ok)) c.in-Some.ensures.value in
    omega (arith, h)

pub returns-in-Some-clause-frames : goal.returns-in-Some-clause-frames
returns-in-Some-clause-frames c =
    set-more c.args.frames.now.items c.args.frames.now.len c.in-Some.last.now c.args.frames.now.ok.0 (c.in-Some.ensures.variant.0 refl) c.in-Some.ensures.value

pub returns-in-None-clause-frames : goal.returns-in-None-clause-frames
returns-in-None-clause-frames c = more_behind-none c.args.frames.now.items (sym c.args.frames.now.ok.0 ∙ none c.args.frames.now.len c.in-None.ensures.variant.1)
  where
    none : (n : ℕ) → (0 < n → false ≡ true) → n ≡ 0
    none zero h = refl
    none (suc n) h = absurd (cc (h (omega arith)))
