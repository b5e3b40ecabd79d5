-- All that is asked goes to extenders with a number of 1 to 64.
use Rattle.std.proofs.Common.{◌≡◌, ℕ, ◌<◌, true, nat_lt, List, [], ◌∷◌, slice_index, arith, inl, inr}
use Rattle.std.proofs.lemmas.Bool.{cases_lt, ltb-true, and_parts}
use Rattle.std.proofs.lemmas.List.{get_or_past}
use Rattle.exb_model.specs.Tree.{Shape, IsTree, is_extender}
use Rattle.exb_model.specs.Setup.{Limits}
use Rattle.exb_model.specs.Configuration.{Bridge}
use Rattle.exb_csp.specs.declared.ask_at.AskAt.{AskAt}
use Rattle.exb_control_spec.specs.declared.plan.change.Change.{Change}
use Rattle.exb_control_spec.specs.Plans.HeldNumbers.{Held}
use Rattle.exb_control_spec.specs.declared.job.Job.{Job}
use Rattle.exb_control_spec.specs.Decisions.{Ready, decide}
use Rattle.exb_control_spec.specs.JobsOfTree.{Fits}
use Rattle.exb_control_spec.specs.RequestLaws.{AreKnown as AreOfTree}
use Rattle.exb_control_spec.proofs.KnownExtenders.{plans_are_known}
use Rattle.exb_control.specs.Soundness.{AreKnown}

pub extender_low : (t : Shape) → IsTree t → (n : ℕ) → is_extender t n ≡ true → n < 65
extender_low t tree n e =
    elim (cases_lt n 65) [
      | inl low ↦ low
      | inr high ↦
          let none : slice_index t.ports n ≡ 0 = get_or_past t.ports n 0 (omega (arith, tree.sized)) in
          let some = ltb-true 0 (slice_index t.ports n) (and_parts (nat_lt 0 n) (nat_lt 0 (slice_index t.ports n)) e).1 in
          absurd (omega arith)
    ]

known_low : (t : Shape) → IsTree t → (asks : List AskAt) → AreOfTree t asks → AreKnown asks
known_low t tree [] of = tt
known_low t tree (a ∷ asks) of = (extender_low t tree a.extender of.0, known_low t tree asks of.1)

pub record IsKnown (x : Change) : Type 0 where
  pub prepare : AreKnown x.prepare
  pub cleanup : AreKnown x.cleanup

pub known : (t : Shape) (l : Limits) (b : Bridge) (h : Held) (j : Job) (x : Change) (claimed : Held) → IsTree t → Fits t j → decide t l b h j ≡ Ready x claimed → IsKnown x
known t l b h j x claimed tree fits is =
    let of = plans_are_known t l b h j x claimed fits is in
    record { prepare = known_low t tree x.prepare of.prepare; cleanup = known_low t tree x.cleanup of.cleanup }
