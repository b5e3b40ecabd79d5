use Rattle.std.proofs.Common.{◌≡◌, ◌≤◌, ◌+◌, ◌-◌, ◌&&◌, ◌∙◌, ℕ, false, Bool, sym, ap, subst, arith, nat_lt}
use Rattle.std.proofs.lemmas.Bool.{and_parts, lt-ltb}
use Rattle.exb_model.specs.Setup.{Limits}
use Rattle.exb_control_spec.specs.Plans.HeldNumbers.{is_place}
use Rattle.exb_control.proofs.FirstSpaces.{new_has}
use Rattle.exb_control.proofs.Copies.{AreCopied, copied, none_copied, copied_has, more_copied, none_more, copied_same}
use Rattle.exb_control.proofs.space_copies.copy_spaces.Goals as goal
use Rattle.exb_control.proofs.space_copies.copy_spaces.Goals.{then-is_place+in_ok-copy_space, else-is_place}

pub copy_space-requires-clause-there : goal.copy_space-requires-clause-there
copy_space-requires-clause-there c =
    let k = c.loop-bridge_port.bridge_port - 1 in
    c.requires.spaces.spaces k ∙ (and_parts (nat_lt 0 c.loop-bridge_port.bridge_port) (is_place c.args.tree.now k) (sym c.is_place.ensures ∙ c.if-is_place.true)).1

pub copy_space-requires-clause-place : goal.copy_space-requires-clause-place
copy_space-requires-clause-place c =
    let k = c.loop-bridge_port.bridge_port - 1 in
    c.loop-bridge_port.invariant.has.spaces k ∙ (and_parts (nat_lt 0 c.loop-bridge_port.bridge_port) (is_place c.args.tree.now k) (sym c.is_place.ensures ∙ c.if-is_place.true)).1

pub loop-bridge_port-init : goal.loop-bridge_port-init
loop-bridge_port-init c =
    let l : Limits = record { channels = c.args.channels; groups = c.args.groups } in
    record {
      has = new_has c.args.tree.now l c.in_ok-made.made c.in_ok-made.ensures.spaces c.in_ok-made.ensures.channels c.in_ok-made.ensures.limits;
      same = none_copied c.args.tree.now c.args.spaces.now c.in_ok-made.made;
    }

pub loop-bridge_port-preserved : goal.loop-bridge_port-preserved
loop-bridge_port-preserved c =
    let t = c.args.tree.now in
    let v = c.args.spaces.now in
    let w = c.loop-bridge_port.made in
    let l : Limits = record { channels = c.args.channels; groups = c.args.groups } in
    let n = c.loop-bridge_port.bridge_port in
    let k = n - 1 in
    let some : 1 ≤ n = c.loop-bridge_port.auto.bridge_port in
    let place : n + 1 - 1 ≡ k + 1 = omega (arith, some) in
    elim c.if-is_place.branch [
      | then-is_place+in_ok-copy_space b ↦
          let on = (and_parts (nat_lt 0 n) (is_place t k) (sym c.is_place.ensures ∙ b.if-is_place.true)).1 in
          let there = c.loop-bridge_port.invariant.has.spaces k ∙ on in
          rw (b.made-is, b.in_ok-copy_space.ensures) (record {
            has = copied_has v w k there t l c.requires.spaces c.loop-bridge_port.invariant.has;
            same = subst (λ (m : ℕ). AreCopied t v m (copied v k w)) (sym place) (more_copied v w k there t c.loop-bridge_port.invariant.same);
          })
      | else-is_place b ↦
          let off : is_place t k ≡ false = sym (ap (λ (x : Bool). x && is_place t k) (lt-ltb 0 n (omega (arith, some)))) ∙ (sym c.is_place.ensures ∙ b.if-is_place.false) in
          rw b.made-is (record {
            has = c.loop-bridge_port.invariant.has;
            same = subst (λ (m : ℕ). AreCopied t v m w) (sym place) (none_more t v w k (omega (arith, some, c.loop-bridge_port-test.true)) off c.loop-bridge_port.invariant.same);
          })
    ]

pub returns : goal.returns
returns c = record {
  spaces = c.loop-bridge_port.invariant.has;
  held = copied_same c.args.tree.now c.args.spaces.now c.loop-bridge_port.made (c.loop-bridge_port.bridge_port - 1) (omega (arith, c.loop-bridge_port-test.false)) c.loop-bridge_port.invariant.same;
}
