-- How the number of exchanges that are still planned goes down.
use Rattle.std.specs.Prelude.{◌≡◌, ℕ, suc, ◌≤◌, true, false}
use Rattle.exb_model.specs.Tree.{Shape, is_extender}
use Rattle.exb_csp.specs.declared.message.Response.{Response}
use Rattle.exb_csp.specs.declared.message.Message.{Message}
use Rattle.exb_csp.specs.declared.session.asker.Taken.TheVariants as taken
use Rattle.exb_csp.specs.Sessions.AskingEnd.{took}
use Rattle.exb_control_spec.specs.Decisions.{Decide}
use Rattle.exb_control_spec.specs.Machine.{State, answered, heard, beats}
use Rattle.exb_control_spec.specs.PlannedExchanges.{planned}
use Rattle.exb_control_spec.specs.Runs.Systems.{IsStray}
use Rattle.exb_control_spec.specs.Runs.MachineInvariant.{OneWaits}

-- Each answer that is taken is one less.
abbrev pub AnswersCount : Type 0
AnswersCount =
    (t : Shape) (decide : Decide) (s : State) (n : ℕ) (m : Message) (response : Response) → OneWaits s
    → (took (s.askers n) m).1 ≡ taken.Answer response →
    suc (planned t decide (answered decide n m s).state) ≡ planned t decide s

-- So is each extender that is heard and wasn't before.
abbrev pub HearingCounts : Type 0
HearingCounts =
    (t : Shape) (decide : Decide) (s : State) (n : ℕ) → is_extender t n ≡ true → n ≤ 64 → s.heard n ≡ false →
    suc (planned t decide (heard decide n s).state) ≡ planned t decide s

-- Any other message and a beat leave it.
abbrev pub OthersLeaveCounts : Type 0
OthersLeaveCounts =
    (t : Shape) (decide : Decide) (s : State) →
    ((n : ℕ) (m : Message) → IsStray s n m → planned t decide (answered decide n m s).state ≡ planned t decide s)
    × (planned t decide (beats s).state ≡ planned t decide s)
