use Rattle.std.proofs.Common.{◌≡◌, ◌∙◌, ℕ, true, false, sym, ap, subst, refl, arith}
use Rattle.exb_model.specs.Setup.{Limits}
use Rattle.exb_plan.specs.SpaceContents.{HasSpaces, held_by}
use Rattle.exb_plan.specs.PlanValues.{CanClaimChannel}
use Rattle.exb_plan.proofs.ClaimLoop.{alike_more}
use Rattle.exb_plan.proofs.WholePlans.{alike_has}
use Rattle.exb_control_spec.specs.InitialState.{is_deep}
use Rattle.exb_control_spec.proofs.FirstClaims.{none_first, none_below, not_first, none_more, first_end, held_end}
use Rattle.exb_control.proofs.FirstSpaces.{can_claim, claimed_first, claimed_held}
use Rattle.exb_control.proofs.initial_channels.claim_all.Goals as goal
use Rattle.exb_control.proofs.initial_channels.claim_all.Goals.{then-is_deep, else-is_deep}

pub claim-requires : goal.claim-requires
claim-requires c =
    let t = c.args.tree.now in
    let n = c.loop-number.number in
    let v = c.loop-number.spaces in
    let l = c.requires.limits.0 in
    let at : c.unwrap-port.result ≡ n = rw c.unwrap-port.ensures at c.new.ensures.value in
    let on : is_deep t n ≡ true = ap (is_deep t) (sym at) ∙ (sym c.is_deep.ensures ∙ c.if-is_deep.true) in
    let has : HasSpaces t l v = alike_has t l c.args.spaces.now v c.loop-number.invariant.alike c.requires.limits.1 in
    subst (λ (p : ℕ). CanClaimChannel t v p) (sym at) (can_claim t n c.is_tree.ensures on l v has c.requires.limits.2 c.loop-number.invariant.first)

pub loop-number-init : goal.loop-number-init
loop-number-init c = record {
  first = none_first c.args.tree.now (held_by c.args.spaces.now) c.requires.none;
  held = λ l has. c.requires.none ∙ sym (none_below c.args.tree.now l);
  alike = record { spaces = λ k. refl; channels = λ k. refl; groups = λ k. refl };
}

pub loop-number-preserved : goal.loop-number-preserved
loop-number-preserved c =
    let t = c.args.tree.now in
    let n = c.loop-number.number in
    let v = c.loop-number.spaces in
    let old = c.args.spaces.now in
    let l = c.requires.limits.0 in
    let at : c.unwrap-port.result ≡ n = rw c.unwrap-port.ensures at c.new.ensures.value in
    let is : c.is_deep.result ≡ is_deep t n = c.is_deep.ensures ∙ ap (is_deep t) at in
    let has : (i : Limits) → HasSpaces t i old → HasSpaces t i v = λ i h. alike_has t i old v c.loop-number.invariant.alike h in
    elim c.if-is_deep.branch [
      | then-is_deep w ↦
          let on : is_deep t n ≡ true = sym is ∙ w.if-is_deep.true in
          rw w.spaces-is (record {
            first = claimed_first t n c.is_tree.ensures on l v w.claim.new.spaces c.unwrap-port.result at (has l c.requires.limits.1) c.requires.limits.2 c.loop-number.invariant.first w.claim.ensures.held;
            held = λ i h. claimed_held t n c.is_tree.ensures on i v w.claim.new.spaces c.unwrap-port.result at (has i h) (c.loop-number.invariant.held i h) w.claim.ensures.held;
            alike = alike_more old v w.claim.new.spaces c.loop-number.invariant.alike w.claim.ensures.alike;
          })
      | else-is_deep w ↦
          let off : is_deep t n ≡ false = sym is ∙ w.if-is_deep.false in
          rw w.spaces-is (record {
            first = not_first t n (held_by v) off c.loop-number.invariant.first;
            held = λ i h. c.loop-number.invariant.held i h ∙ sym (none_more t n i off);
            alike = c.loop-number.invariant.alike;
          })
    ]

pub returns : goal.returns
returns c =
    let t = c.args.tree.now in
    let end : c.loop-number.number ≡ 4160 = omega arith in
    record {
      held = λ l has. c.loop-number.invariant.held l has ∙ held_end t l c.loop-number.number end;
      first = first_end t c.is_tree.ensures (held_by c.loop-number.spaces) c.loop-number.number end c.loop-number.invariant.first;
      alike = c.loop-number.invariant.alike;
    }
