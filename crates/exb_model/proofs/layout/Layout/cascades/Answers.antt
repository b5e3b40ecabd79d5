use Rattle.std.proofs.Common.{arith, ◌≡◌, ◌∙◌, sym, ap, ℕ, ◌||◌, ◌==◌, true, false}
use Rattle.exb_model.specs.Ports.{port_in}
use Rattle.exb_model.specs.Tree.{is_extender}
use Rattle.exb_model.specs.declared.port_set.PortSet.{PortSet}
use Rattle.exb_model.proofs.Validity.{none_hung, hung_more, hung_same, hung_all, hung_below}
use Rattle.exb_model.proofs.layout.Layout.cascades.Goals as goal
use Rattle.exb_model.proofs.layout.Layout.cascades.Goals.{then-is_extender, else-is_extender}

pub loop-number-init : goal.loop-number-init
loop-number-init c q = c.empty-cascades.ensures q ∙ sym (none_hung c.args.self.now q)

pub loop-number-preserved : goal.loop-number-preserved
loop-number-preserved c q =
    let t = c.args.self.now in
    let n = c.loop-number.number in
    elim c.if-is_extender.branch [
      | then-is_extender w ↦
          let port : w.unwrap.result ≡ w.on.result = rw w.unwrap.ensures at w.new.ensures.value in
          let is : is_extender t n ≡ true = sym c.is_extender.ensures ∙ w.if-is_extender.true in
          ap (λ (s : PortSet). port_in s q) w.cascades-is ∙ w.insert.ensures q ∙ ap (λ b. q == w.unwrap.result || b) (c.loop-number.invariant q) ∙ sym (hung_more t n w.unwrap.result q is (port ∙ w.on.ensures.value))
      | else-is_extender w ↦
          let isnt : is_extender t n ≡ false = sym c.is_extender.ensures ∙ w.if-is_extender.false in
          ap (λ (s : PortSet). port_in s q) w.cascades-is ∙ c.loop-number.invariant q ∙ sym (hung_same t n q isnt)
    ]

pub returns : goal.returns
returns c q =
    let all : c.loop-number.number ≡ 65 = omega (arith, c.loop-number.auto.number-end, c.loop-number-test.false, c.devices-number-end.ensures.value) in
    c.loop-number.invariant q ∙ ap (λ (n : ℕ). hung_below c.args.self.now n q) all ∙ hung_all c.args.self.now q
