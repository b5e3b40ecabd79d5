-- What the counts of all ports say together.
use Rattle.std.specs.Prelude.{◌≡◌, ℕ, ◌+◌, ◌<◌, true, false, [], ◌∷◌, sum_by}
use Rattle.exb_model.specs.declared.event.Event.{Event}
use Rattle.exb_model.specs.declared.event.Event.TheVariants as event
use Rattle.exb_model.specs.History.{Basis, History}
use Rattle.exb_model.specs.Input.{Input, Mode, basis_of, tree_of}
use Rattle.exb_model.specs.LegalHistory.{Legal}
use Rattle.exb_model.specs.Texts.{counts}
use Rattle.exb_model.specs.Tree.{Shape, is_external, external_ports}
use Rattle.exb_counters.specs.Counters.{port_counts}

-- an external port of the tree
pub record IsIn (t : Shape) (p : ℕ) : Type 0 where
  pub out : is_external t p ≡ true
  pub low : p < 4160

abbrev pub ComesIn : Shape → Event → Type 0
ComesIn t (event.Relay p n m f) = IsIn t p
ComesIn t (event.Ignored p n) = IsIn t p
ComesIn t _ = Unit {0}

-- each arrival of a history came in at an external port
abbrev pub ComeIn : Shape → History → Type 0
ComeIn t [] = Unit {0}
ComeIn t (e ∷ h) = ComesIn t e × ComeIn t h

-- Over all external ports: what was relayed and what was ignored are the summary's arrivals, each by itself too, and
-- what left is what the summary says that it left.
pub record AreSummed (t : Shape) (i : Basis) (h : History) : Type 0 where
  pub arrivals : sum_by (λ q. (port_counts i h q).relayed + (port_counts i h q).ignored) (external_ports t)
      ≡ (counts t i h).relayed + (counts t i h).ignored
  pub relayed : sum_by (λ q. (port_counts i h q).relayed) (external_ports t) ≡ (counts t i h).relayed
  pub ignored : sum_by (λ q. (port_counts i h q).ignored) (external_ports t) ≡ (counts t i h).ignored
  pub left : sum_by (λ q. (port_counts i h q).left) (external_ports t) ≡ (counts t i h).left

abbrev pub CountsAreTheSummary : Type 0
CountsAreTheSummary = (t : Shape) (i : Basis) (h : History) → ComeIn t h → AreSummed t i h

-- only external ports have records
abbrev pub IsOfExternal : Input → Type 0
IsOfExternal i = (p : ℕ) → is_external (tree_of i) p ≡ false → i.records p ≡ []

-- So of every history that an input allows whose records are of external ports.
abbrev pub CountsOfInputsAreTheSummary : Type 0
CountsOfInputsAreTheSummary = (m : Mode) (i : Input) (h : History) → IsOfExternal i → Legal m i h
    → AreSummed (tree_of i) (basis_of i) h
