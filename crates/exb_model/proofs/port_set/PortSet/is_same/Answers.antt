use Rattle.std.proofs.Common.{◌≡◌, ◌∙◌, sym, ap, ℕ, List, inl, inr, arith}
use Rattle.std.proofs.lemmas.Bool.{cases_Bool}
use Rattle.std.proofs.lemmas.Grind.{same_number_lists}
use Rattle.std.specs.Cmp.Lexicographic.{same_text, other_text}
use Rattle.exb_model.specs.PortBits.{has_port}
use Rattle.exb_model.proofs.PortBits.{same_word}
use Rattle.exb_model.proofs.port_set.PortSet.is_same.Goals as goal

pub returns : goal.returns
returns c =
    let a = c.args.self.now in
    let b = c.args.other.now in (
      λ h p. ap (λ (ws : List ℕ). has_port ws p) (same_text a.words b.words (sym (sym c.eq.ensures ∙ h))),
      λ same.
          let e : a.words ≡ b.words = same_number_lists a.words b.words (a.sized ∙ sym b.sized) (λ k h. same_word a.words b.words 65 k (omega arith) (a.fits k) (b.fits k) (λ q _. same q)) in
          elim (cases_Bool c.eq.result) [
            | inl t ↦ t
            | inr f ↦ absurd (other_text a.words b.words (sym f ∙ c.eq.ensures) e)
          ],
    )
