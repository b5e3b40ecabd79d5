-- In a sound world all that the machine of changes asks, whatever comes from an extender, can be sent and goes to an extender of the tree, and the
-- ports on which extenders hang keep the channels with which the world began.
use Rattle.std.proofs.Common.{◌≡◌, inl, inr, ℕ, ◌+◌, ◌<◌, ◌^◌, ◌==◌, Bool, true, false, cond, List, [], ◌∷◌, Option, Some, None, refl, ap, sym, ◌∙◌, subst, arith}
use Rattle.exb_model.specs.declared.command.Command.{Command}
use Rattle.exb_model.specs.Setup.{Limits, NamesExternal}
use Rattle.exb_model.specs.Tree.{Shape, IsTree, on, trunk}
use Rattle.exb_model.proofs.TreeTrunks.{trunk-low}
use Rattle.exb_csp.specs.declared.message.Message.{Message}
use Rattle.exb_csp.specs.declared.message.Response.{Response}
use Rattle.exb_csp.specs.Execution.{ExtenderTables, response_to}
use Rattle.exb_csp.specs.declared.session.asker.Taken.{Taken}
use Rattle.exb_csp.specs.declared.session.asker.Taken.TheVariants as taken
use Rattle.exb_csp.specs.Sessions.AskingEnd.{AskerState, asked, took}
use Rattle.exb_control_spec.specs.InitialState.{first_held}
use Rattle.exb_control_spec.specs.declared.extender_message.Asked.{Asked}
use Rattle.exb_control_spec.specs.Decisions.{decide}
use Rattle.exb_control_spec.specs.Machine.{Work, State, Moved, still, with_asker, answered, answered_in, answered_where, heard, ordered}
use Rattle.exb_control_spec.specs.Runs.RequestTargets.{AreAddressed}
use Rattle.exb_control_spec.specs.Runs.PlannedChanges.{IsSetting}
use Rattle.exb_control_spec.specs.Runs.MachineInvariant.{Stands}
use Rattle.exb_control_spec.specs.Runs.Systems.{System, Order, Hear, Execute, Answer, Stray, answer_message, answer_of, takes_answer, stepped}
use Rattle.exb_control_spec.proofs.Runs.RequestTargets.{steps_know}
use Rattle.exb_control_spec.proofs.Runs.NumbersInForce.{answers_are_taken}
use Rattle.exb_control_spec.proofs.Runs.StepInvariants.{any_steps_stand}
use Rattle.exb_control_spec.proofs.Runs.StrayMessages.{strays_change_nothing}
use Rattle.exb_control_spec.proofs.Runs.AskerAnswers.{unchanged}
use Rattle.exb_world_spec.specs.Worlds.{World}
use Rattle.exb_world_spec.specs.BridgeLearning.{is_of}
use Rattle.exb_world_spec.specs.Runs.CascadeChannels.{fixing}
use Rattle.exb_world_spec.specs.Runs.Sessions.{Each, KeepsCascades}
use Rattle.exb_world_spec.specs.Runs.Simulation.{system_of, IsSound}
use Rattle.exb_world_spec.proofs.OneRequest.{AtMostOne, none, one, Asks, answered_asks, heard_asks, ordered_asks}
use Rattle.exb_world_spec.proofs.CascadeChannels.{forget, fixed_now, IsFixedNow, fixing_plans, trunk_is_cascade}
use Rattle.exb_world_spec.proofs.ControlSteps.{asked_now}
use Rattle.exb_world_spec.proofs.Routing.{IsUnderLaid, under_laid}
use Rattle.exb_world_spec.proofs.TakenAnswers.{IsTaken, took_cases, IsOutstanding, outstanding}
use Rattle.exb_world_spec.proofs.WritableRequests.{IsWritten, moved_wrote, all_be_sent}
use Rattle.exb_settling_laws.specs.SessionInvariant.{HasRoom}
use Rattle.exb_settling_laws.proofs.BridgeFramePlaces.{IsAskable, GoesWell, HearsWell}

-- ---- channels
-- the ports on which extenders hang have the channels with which the world began
pub to_first : (t : Shape) (l : Limits) → IsTree t → (y : System) → Stands (fixing t l) y → KeepsCascades t y.state.held (first_held t l)
to_first t l tree y stands n channel there deep some e =
    let a : IsFixedNow t l y.state.held = fixed_now t l y stands in
    let c = a.first n there deep in
    let u : IsUnderLaid t y = under_laid t y (forget t l y stands) in
    let mine : y.state.held.port (trunk t n) c.0 ≡ Some (on t n) = a.fixed n c.0 there deep c.1 c.2 in
    let same : c.0 ≡ channel = u.ones (trunk t n) c.0 channel (on t n) (trunk-low t tree n there) (trunk_is_cascade t tree n there deep) mine e in
    subst (λ (i : ℕ). (first_held t l).port (trunk t n) i ≡ Some (on t n)) same c.2

pub from_first : (t : Shape) (l : Limits) (y : System) → Stands (fixing t l) y → KeepsCascades t (first_held t l) y.state.held
from_first t l y stands n channel there deep some e = (fixed_now t l y stands).fixed n channel there deep some e

-- ---- requests
askable : (t : Shape) (s u : ℕ → AskerState) (xs : List Asked) → AtMostOne s xs u → HasRoom s → Each IsWritten xs → AreAddressed t xs → Each (IsAskable t) xs
askable t s u xs none room written addressed = tt
askable t s u xs (one n request) room written addressed =
    let a : AskerState = (asked (s n) request).0 in
    let sent = all_be_sent (λ i. (asked (s n) request).0) (record { extender = n; message = (asked (s n) request).1 } ∷ []) written (asked_now (s n) request, tt) (λ i. room n) in
    (record { there = addressed.0; can = sent.0; request = request; content = refl }, tt)

pub took_serial : (a : AskerState) (m : Message) → (took a m).0.serial ≡ a.serial
took_serial a m =
    elim (took_cases a m) [
      | inl k ↦ ap (λ (x : AskerState × Taken). x.0.serial) k.is
      | inr f ↦ ap (λ (x : AskerState). x.serial) (unchanged a a.waiting m.serial m.body f)
    ]

module _ (t : Shape) (l : Limits) (tree : IsTree t) (setting : IsSetting t l) (w : World) (sound : IsSound t l w) (room : HasRoom w.control.askers) where
  -- ---- a message
  room_after : (n : ℕ) (m : Message) → HasRoom (with_asker n (took (w.control.askers n) m).0 w.control).askers
  room_after n m i = by_test (i == n)
    where
      by_test : (b : Bool) → (cond b (took (w.control.askers n) m).0 (w.control.askers i)).serial + 1 < 2 ^ 64
      by_test true = (let same = took_serial (w.control.askers n) m in omega (arith, room n, same))
      by_test false = room i

  -- what becomes of the answer that is waited for, whatever it says
  answered_is : (n : ℕ) (m : Message) → IsTaken (w.control.askers n) m → answered (decide t l) n m w.control ≡ answered_in (decide t l) w.control.work (with_asker n (record { serial = (w.control.askers n).serial; waiting = None; beats = 0 }) w.control)
  answered_is n m k = ap (λ (p : AskerState × Taken). answered_where (decide t l) p.1 (with_asker n p.0 w.control)) k.is

  has_answer : (o : Option Work) (a : Option Response) (all : ℕ → ExtenderTables) (k : Work) → o ≡ Some k → (r : Response) × (answer_of o a all ≡ Some r)
  has_answer None a all k e = absurd (cc)
  has_answer (Some x) None all k e = (response_to (all x.first.extender) x.first.request, refl)
  has_answer (Some x) (Some r) all k e = (r, refl)

  -- So the machine stands after it, whether or not the request was executed.
  taken_stands : (n : ℕ) (m : Message) → IsTaken (w.control.askers n) m → (z : System) × (Stands (fixing t l) z × (z.state ≡ (answered (decide t l) n m w.control).state))
  taken_stands n m k =
      let y1 : System = stepped (decide t l) (system_of w) Execute in
      let s1 : Stands (fixing t l) (stepped (decide t l) (system_of w) Execute) = (any_steps_stand (fixing t l) (decide t l) (fixing_plans t l setting) (system_of w) Execute sound.stands tt).0 in
      let s2 : Stands (fixing t l) (stepped (decide t l) (stepped (decide t l) (system_of w) Execute) Answer) = (any_steps_stand (fixing t l) (decide t l) (fixing_plans t l setting) (stepped (decide t l) (system_of w) Execute) Answer s1 tt).0 in
      let out : IsOutstanding w.control n k.request = outstanding w.control n k.request sound.fits.ends.waits k.waited in
      let r = has_answer w.control.work (system_of w).answer (system_of w).tables out.work out.is in
      let mine = answers_are_taken t (stepped (decide t l) (system_of w) Execute) out.work r.0 (forget t l (stepped (decide t l) (system_of w) Execute) s1) out.is r.1 in
      let e : ℕ = out.work.first.extender in
      let taken_it : IsTaken (w.control.askers out.work.first.extender) (answer_message (w.control.askers out.work.first.extender).serial r.0) = is_taken (w.control.askers out.work.first.extender) (answer_message (w.control.askers out.work.first.extender).serial r.0) r.0 mine.0 in
      let same : takes_answer (decide t l) w.control.work (answer_of w.control.work (system_of w).answer (system_of w).tables) w.control ≡ answered (decide t l) n m w.control =
      ap (λ (o : Option Work). takes_answer (decide t l) o (answer_of w.control.work (system_of w).answer (system_of w).tables) w.control) out.is
      ∙ ap (λ (o : Option Response). takes_answer (decide t l) (Some out.work) o w.control) r.1
      ∙ answered_is out.work.first.extender (answer_message (w.control.askers out.work.first.extender).serial r.0) taken_it
      ∙ ap (λ (i : ℕ). answered_in (decide t l) w.control.work (with_asker i (record { serial = (w.control.askers i).serial; waiting = None; beats = 0 }) w.control)) out.of
      ∙ sym (answered_is n m k) in
      (stepped (decide t l) (stepped (decide t l) (system_of w) Execute) Answer, (s2, ap (λ (x : Moved). x.state) same))
    where
      is_taken : (a : AskerState) (x : Message) (r : Response) → (took a x).1 ≡ taken.Answer r → IsTaken a x
      is_taken a x r e = elim (took_cases a x) [ inl j ↦ j | inr f ↦ absurd (f r e) ]

  answered_keeps : (n : ℕ) (m : Message) → KeepsCascades t (answered (decide t l) n m w.control).state.held (first_held t l)
  answered_keeps n m =
      elim (took_cases (w.control.askers n) m) [
        | inl k ↦ (let z = taken_stands n m k in let P : State → Type 0 = λ s. KeepsCascades t s.held (first_held t l) in subst P z.1.1 (to_first t l tree z.0 z.1.0))
        | inr f ↦ (let P : Moved → Type 0 = λ x. KeepsCascades t x.state.held (first_held t l) in subst P (sym (strays_change_nothing (decide t l) w.control n m f)) (to_first t l tree (system_of w) sound.stands))
      ]

  answered_well : (n : ℕ) (m : Message) → GoesWell t l tree (first_held t l) (answered (decide t l) n m w.control)
  answered_well n m =
      let k : Asks (with_asker n (took (w.control.askers n) m).0 w.control) (answered (decide t l) n m w.control) = answered_asks (decide t l) n m w.control in
      let written = (moved_wrote t l setting (system_of w) (Stray n m) sound.fits.ends.writes sound.fits.ends.waits).asks in
      let known = (steps_know t l (system_of w) (Stray n m) sound.fits.ends.knows tt).1 in
      record {
        asks = askable t (with_asker n (took (w.control.askers n) m).0 w.control).askers (answered (decide t l) n m w.control).state.askers (answered (decide t l) n m w.control).asks k.one (room_after n m) written known;
        keeps = answered_keeps n m;
      }

  -- ---- an announcement
  heard_well : (n : ℕ) → GoesWell t l tree (first_held t l) (heard (decide t l) n w.control)
  heard_well n =
      let k : Asks w.control (heard (decide t l) n w.control) = heard_asks (decide t l) n w.control in
      let written = (moved_wrote t l setting (system_of w) (Hear n) sound.fits.ends.writes sound.fits.ends.waits).asks in
      let known = (steps_know t l (system_of w) (Hear n) sound.fits.ends.knows tt).1 in
      record {
        asks = askable t w.control.askers (heard (decide t l) n w.control).state.askers (heard (decide t l) n w.control).asks k.one room written known;
        keeps = to_first t l tree (stepped (decide t l) (system_of w) (Hear n)) (any_steps_stand (fixing t l) (decide t l) (fixing_plans t l setting) (system_of w) (Hear n) sound.stands tt).0;
      }

  announced_well : (n : ℕ) (b : Bool) → GoesWell t l tree (first_held t l) (cond b (heard (decide t l) n w.control) (still w.control))
  announced_well n true = heard_well n
  announced_well n false = record { asks = tt; keeps = to_first t l tree (system_of w) sound.stands }

  -- Whatever comes from the extenders.
  pub hears_well : HearsWell t l tree (first_held t l) w.control
  hears_well =
      record {
        answers = answered_well;
        hears = λ n a. announced_well n (is_of t n a);
        keeps = to_first t l tree (system_of w) sound.stands;
      }

  -- ---- a command
  pub ordered_well : (c : Command) → NamesExternal t c → GoesWell t l tree (first_held t l) (ordered (decide t l) c w.control)
  ordered_well c names =
      let k : Asks w.control (ordered (decide t l) c w.control) = ordered_asks (decide t l) c w.control in
      let written = (moved_wrote t l setting (system_of w) (Order c) sound.fits.ends.writes sound.fits.ends.waits).asks in
      let known = (steps_know t l (system_of w) (Order c) sound.fits.ends.knows names).1 in
      record {
        asks = askable t w.control.askers (ordered (decide t l) c w.control).state.askers (ordered (decide t l) c w.control).asks k.one room written known;
        keeps = to_first t l tree (stepped (decide t l) (system_of w) (Order c)) (any_steps_stand (fixing t l) (decide t l) (fixing_plans t l setting) (system_of w) (Order c) sound.stands names).0;
      }
