-- Which extenders were heard.
use Rattle.std.proofs.Common.{◌≡◌, ℕ, ◌<◌, Bool, true, false, List, length, set, refl, inl, inr, eq-eqb}
use Rattle.std.proofs.lemmas.Bool.{cases_eq, ne_eqb}
use Rattle.std.proofs.lemmas.List.{get_or-set_same, get_or-set_other}
use Rattle.std.specs.Prelude.{replicate}
use mathlib.Core.Path.{fun_ext}
use Rattle.exb_model.proofs.PortBits.{get_or-same}
use Rattle.exb_control.specs.MachineSteps.{heard_of, noted}

pub none_heard : (n : ℕ) → heard_of (replicate n false) ≡ λ m. false
none_heard n = fun_ext (λ m. get_or-same n m false)

pub note_set : (hs : List Bool) (n : ℕ) → n < length hs → heard_of (set hs n true) ≡ noted n (heard_of hs)
note_set hs n within = fun_ext (λ m. by_place m)
  where
    by_place : (m : ℕ) → heard_of (set hs n true) m ≡ noted n (heard_of hs) m
    by_place m =
        elim (cases_eq m n) [
          | inl is ↦ rw (is, eq-eqb n n refl) (get_or-set_same hs n true false within)
          | inr ne ↦ rw (ne_eqb m n ne) (get_or-set_other hs n m true false ne)
        ]
