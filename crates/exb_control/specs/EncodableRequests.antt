-- What the control asks can be written in bytes.
use Rattle.std.specs.Prelude.{◌≡◌, ℕ, true, List, Option, Some, None, IfSome}
use Rattle.exb_model.specs.Tree.{Shape, is_extender}
use Rattle.exb_csp.specs.Encoding.{IsSpelledRequest, HasSpelling}
use Rattle.exb_csp.specs.declared.ask_at.AskAt.{AskAt}
use Rattle.exb_csp.specs.Sessions.AskingEnd.{AskerState, IsSound}
use Rattle.exb_control_spec.specs.declared.extender_message.Asked.{Asked}
use Rattle.exb_control_spec.specs.Machine.{Work}
use Rattle.exb_control_spec.specs.Runs.MonotoneRequests.{AllAsk}
use Rattle.exb_control_spec.specs.Runs.RequestTargets.{KnowsWork}

-- It goes to an extender of the tree, and its message has a spelling.
pub record CanBeSpelled (t : Shape) (a : Asked) : Type 0 where
  pub there : is_extender t a.extender ≡ true
  pub spelled : HasSpelling a.message

-- ---- what the control keeps for it
-- all of these requests can be spelled
abbrev pub AreSpelled : List AskAt → Type 0
AreSpelled asks = AllAsk IsSpelledRequest asks

-- the outstanding request, and those of the change at work that follow
pub record IsSpelledWork (w : Work) : Type 0 where
  pub first : IsSpelledRequest w.first.request
  pub rest : AreSpelled w.rest
  pub cleanup : AreSpelled w.change.cleanup

abbrev pub SpellsWork : Option Work → Type 0
SpellsWork None = Unit {0}
SpellsWork (Some w) = IsSpelledWork w

-- the request that is waited for has a serial, and can be spelled once more
pub record Repeats (a : AskerState) : Type 0 where
  pub sound : IsSound a
  pub spelled : IfSome a.waiting IsSpelledRequest

-- of the change at work and the sessions
pub record Spells (t : Shape) (w : Option Work) (all : ℕ → AskerState) : Type 0 where
  pub known : KnowsWork t w
  pub work : SpellsWork w
  pub askers : (n : ℕ) → Repeats (all n)
