use Rattle.std.proofs.Common.{◌≡◌, ◌∙◌, ℕ, ◌+◌, ◌*◌, ◌&&◌, Bool, true, false, not, refl, sym, ap}
use Rattle.exb_model.specs.Ports.{port_in}
use Rattle.exb_model.specs.Configuration.{kind_in}
use Rattle.exb_model.specs.Refusals.{is_kind}
use Rattle.exb_model.proofs.MaskLemmas.{bits_of-same}
use Rattle.exb_config.specs.Tables.{bridge_of}
use Rattle.exb_config.proofs.PortMasks.{mask_both, mask_except}
use Rattle.exb_relay.proofs.hearers.Hearers.mask.Goals as goal

and_true : (b : Bool) → b ≡ (b && true)
and_true true = refl
and_true false = refl

pub returns-then-self : goal.returns-then-self
returns-then-self c =
    let h = c.args.self.now in
    let at = λ (j : ℕ). 64 * c.args.device + j in
    let b = bridge_of h.config.now in
    let kind = λ (q : ℕ). is_kind c.args.kind (kind_in h.members.now.tagged h.members.now.untagged q) in
    let there = λ (j : ℕ). b.present (at j) && port_in h.chosen.now (at j) && kind (at j) in
    rw (c.present_mask-present.ensures, c.mask-chosen.ensures, c.mask-members.ensures, c.isolated_mask.ensures)
    (rw (mask_both (λ j. b.present (at j)) (λ j. port_in h.chosen.now (at j)), mask_both (λ j. b.present (at j) && port_in h.chosen.now (at j)) (λ j. kind (at j)))
    (mask_except there (λ j. (b.rule (at j)).isolated)
    ∙ bits_of-same (λ j. there j && not (b.rule (at j)).isolated) (λ j. there j && not (h.isolated && (b.rule (at j)).isolated)) 64
    (λ j. ap (λ (i : Bool). there j && not (i && (b.rule (at j)).isolated)) (sym c.if-self.true))))

pub returns-else-self : goal.returns-else-self
returns-else-self c =
    let h = c.args.self.now in
    let at = λ (j : ℕ). 64 * c.args.device + j in
    let b = bridge_of h.config.now in
    let kind = λ (q : ℕ). is_kind c.args.kind (kind_in h.members.now.tagged h.members.now.untagged q) in
    let there = λ (j : ℕ). b.present (at j) && port_in h.chosen.now (at j) && kind (at j) in
    rw (c.present_mask-present.ensures, c.mask-chosen.ensures, c.mask-members.ensures)
    (rw (mask_both (λ j. b.present (at j)) (λ j. port_in h.chosen.now (at j)), mask_both (λ j. b.present (at j) && port_in h.chosen.now (at j)) (λ j. kind (at j)))
    (bits_of-same there (λ j. there j && not (h.isolated && (b.rule (at j)).isolated)) 64
    (λ j. and_true (there j) ∙ ap (λ (i : Bool). there j && not (i && (b.rule (at j)).isolated)) (sym c.if-self.false))))
