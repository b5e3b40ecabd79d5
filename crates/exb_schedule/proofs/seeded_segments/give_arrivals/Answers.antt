use Rattle.std.proofs.Common.{◌≡◌, ℕ, true, slice_index_or, inl, inr, ◌∙◌, refl, sym, subst, arith}
use Rattle.std.proofs.lemmas.Bool.{cases_eq}
use Rattle.exb_schedule.proofs.SeededSegments.{arrival_can}
use Rattle.exb_schedule.proofs.seeded_segments.give_arrivals.Goals as goal

pub loop-at-init : goal.loop-at-init
loop-at-init c = record { on = λ all old k. k; before = λ i low. absurd (omega (arith, low)); seconds = refl; taken = refl; failed = refl }

pub loop-at-preserved : goal.loop-at-preserved
loop-at-preserved c =
    let at : ℕ = c.loop-at.at in
    record {
      on = λ all old k. c.in_ok-come.ensures.ok c.args.commands.now all old (c.loop-at.invariant.on all old k);
      before = λ i low. elim (cases_eq i c.loop-at.at) [
        | inl e ↦ subst (λ (j : ℕ). slice_index_or c.come.new.rest.given.items j true ≡ true) (sym e) c.in_ok-come.ensures.here
        | inr ne ↦ c.in_ok-come.ensures.given i (c.loop-at.invariant.before i (omega (arith, low, ne)))
      ];
      seconds = c.come.ensures.seconds ∙ c.loop-at.invariant.seconds;
      taken = c.come.ensures.taken ∙ c.loop-at.invariant.taken;
      failed = (let r = c.requires.drawn in (c.in_ok-come.ensures.ok c.args.commands.now r.0 r.1 (c.loop-at.invariant.on r.0 r.1 r.2)).made.moved.same.failed ∙ sym r.2.made.moved.same.failed);
    }

pub come-requires-clause-whole : goal.come-requires-clause-whole
come-requires-clause-whole c = (let r = c.requires.drawn in (c.loop-at.invariant.on r.0 r.1 r.2).whole)

pub come-requires-clause-can : goal.come-requires-clause-can
come-requires-clause-can c not_yet a is =
    let r = c.requires.drawn in
    arrival_can r.0 c.args.commands.now c.args.arrivals.now _ _ _ r.1 c.loop-at.world c.loop-at.world (c.loop-at.invariant.on r.0 r.1 r.2) c.loop-at.at a c.loop-at-test.true
    c.loop-at.invariant.before not_yet is
