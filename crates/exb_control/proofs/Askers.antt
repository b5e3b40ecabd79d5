-- The sessions by extender.
use Rattle.std.proofs.Common.{◌≡◌, ℕ, ◌<◌, List, length, set, get_or, refl, ◌∙◌, inl, inr, eq-eqb}
use Rattle.std.proofs.lemmas.Bool.{cases_eq, ne_eqb}
use Rattle.std.proofs.lemmas.List.{get_or-set_same, get_or-set_other, get_or_default}
use Rattle.std.specs.Prelude.{replicate}
use mathlib.Core.Path.{fun_ext}
use Rattle.exb_model.proofs.PortBits.{get_or-same}
use Rattle.exb_csp.specs.Sessions.AskingEnd.{AskerState, begun}
use Rattle.exb_control.specs.MachineSteps.{askers_of, put}

pub put_set : (xs : List AskerState) (e : ℕ) (a : AskerState) → e < length xs → askers_of (set xs e a) ≡ put e a (askers_of xs)
put_set xs e a within = fun_ext (λ n. by_place n)
  where
    by_place : (n : ℕ) → askers_of (set xs e a) n ≡ put e a (askers_of xs) n
    by_place n =
        elim (cases_eq n e) [
          | inl is ↦ rw (is, eq-eqb e e refl) (get_or-set_same xs e a begun within)
          | inr ne ↦ rw (ne_eqb n e ne) (get_or-set_other xs e n a begun ne)
        ]

pub begun_all : (n : ℕ) → askers_of (replicate n begun) ≡ λ m. begun
begun_all n = fun_ext (λ m. get_or-same n m begun)

-- the element that was read
pub read : (xs : List AskerState) (e : ℕ) (a : AskerState) → e < length xs → a ≡ get_or xs e a → a ≡ askers_of xs e
read xs e a within is = is ∙ get_or_default xs e a begun within
