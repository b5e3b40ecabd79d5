-- Messages that are no answer.
use Rattle.std.specs.Prelude.{◌≡◌, ℕ, ◌<◌, None}
use Rattle.exb_csp.specs.declared.message.Message.{Message}
use Rattle.exb_control_spec.specs.Decisions.{Decide}
use Rattle.exb_control_spec.specs.Machine.{State, still, answered}
use Rattle.exb_control_spec.specs.Runs.Systems.{IsStray}

-- Such a message changes nothing, and nothing happens or goes out.
abbrev pub StraysChangeNothing : Type 0
StraysChangeNothing = (decide : Decide) (s : State) (n : ℕ) (m : Message) → IsStray s n m
    → answered decide n m s ≡ still s

-- It is one where its serial is that of an earlier request, or where its extender isn't waited for.
pub record OldIsStray (s : State) (n : ℕ) (m : Message) : Type 0 where
  pub earlier : m.serial < (s.askers n).serial → IsStray s n m
  pub unasked : (s.askers n).waiting ≡ None → IsStray s n m

abbrev pub OldAreStray : Type 0
OldAreStray = (s : State) (n : ℕ) (m : Message) → OldIsStray s n m
