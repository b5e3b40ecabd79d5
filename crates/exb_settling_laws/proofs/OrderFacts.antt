-- In a sound world in which extenders are asked in their turn, all that the bound on settling asks of changes and their order holds.
use Rattle.std.proofs.Common.{◌≡◌, ℕ, ◌≤◌, Bool, true, false, List, [], ◌∷◌, Option, Some, None, refl, sym, ◌∙◌, ap, subst}
use Rattle.std.proofs.lemmas.Bool.{false≢true}
use Rattle.exb_model.specs.Setup.{Limits}
use Rattle.exb_model.specs.Tree.{Shape, device, on, is_extender}
use Rattle.exb_csp.specs.declared.message.Response.{Response}
use Rattle.exb_extender.specs.Machine.{is_open}
use Rattle.exb_control_spec.specs.declared.job.Job.{Job}
use Rattle.exb_control_spec.specs.declared.job.Job.TheVariants as job
use Rattle.exb_control_spec.specs.JobsOfTree.{AreFit}
use Rattle.exb_control_spec.specs.Machine.{Work}
use Rattle.exb_control_spec.specs.Runs.OpeningOrder.{Awaits, InTurn}
use Rattle.exb_control_spec.specs.Runs.PlannedChanges.{IsSetting}
use Rattle.exb_control_spec.specs.Runs.MachineInvariant.{Rests, StandsBy, opened_by}
use Rattle.exb_control_spec.specs.Runs.Systems.{System}
use Rattle.exb_world_spec.specs.Worlds.{World}
use Rattle.exb_world_spec.specs.Runs.CascadeChannels.{fixing}
use Rattle.exb_world_spec.specs.Runs.SessionLaws.{AreBytes}
use Rattle.exb_world_spec.specs.Runs.Simulation.{system_of, IsSound}
use Rattle.exb_world_spec.proofs.Trunks.{above_there}
use Rattle.exb_settling_laws.specs.SettlingFacts.{IsReached, QueueFacts}
use Rattle.exb_settling_laws.specs.SessionInvariant.{HasRoom, IsOrderly}
use Rattle.exb_settling_laws.proofs.ReachableExtenders.{IsOverWork, rest_over, work_over, reached}

module _ (t : Shape) (l : Limits) (setting : IsSetting t l) (w : World) (sound : IsSound t l w) (turn : InTurn t w.control) where
  y : System
  y = system_of w

  -- nothing is outstanding
  rest_reached : (k : Rests (fixing t l) w.control w.control.queue (λ (n : ℕ). (w.far n).tables)) → (n : ℕ) → is_extender t n ≡ true → (64 ≤ on t n → opened_by (is_extender t) w.control.queue (device (on t n)) ≡ true) → IsReached t w n
  unfolding rest_over
  rest_reached k n there were = reached t l setting.tree (system_of w) sound.stands (rest_over t l (system_of w) k) w refl n there were

  queue_facts : (o : Option Work) (js : List Job) (answer : Option Response) → w.control.queue ≡ js → StandsBy (fixing t l) o w.control w.control.queue (λ (n : ℕ). (w.far n).tables) answer → (answer ≡ (system_of w).answer) →
      AreFit t js → Awaits w.control.heard o js → QueueFacts t w o js
  queue_facts (Some v) js answer e h same fit awaits = (first_known, first_reached)
    where
      k : IsOverWork t l (system_of w)
      k = work_over t l setting.tree (system_of w) v (subst (λ (a : Option Response). StandsBy (fixing t l) (Some v) w.control w.control.queue (λ (n : ℕ). (w.far n).tables) a) same h)

      opened : opened_by (is_extender t) w.control.queue v.first.extender ≡ true
      opened = h.asks.go.0

      first_known : is_extender t v.first.extender ≡ true
      first_known = (Rattle.std.proofs.lemmas.Bool.and_parts (is_extender t v.first.extender) _ opened).0

      first_reached : IsReached t w v.first.extender
      first_reached = reached t l setting.tree (system_of w) sound.stands k.over w refl v.first.extender first_known (λ deep. k.tops v.first.extender first_known opened deep)
  queue_facts None [] answer e h same fit awaits =
      let open_now : (m : ℕ) → is_extender t m ≡ true → opened_by (is_extender t) w.control.queue m ≡ true = λ m x. rw (e, x) refl in
      λ n there. (turn.asked n (open_now n there), rest_reached h.0 n there (λ deep. open_now (device (on t n)) (above_there t setting.tree n there deep)))
  queue_facts None (job.Opening n ∷ js) answer e h same fit awaits =
      let fits = subst (λ (xs : List Job). Rattle.exb_control_spec.specs.Runs.MachineInvariant.AllFit (fixing t l) xs) e (h.0).fits in
      (fit.0, awaits, rest_reached h.0 n fit.0 (λ deep. rw e ((fits.0).fits.above deep)))
  queue_facts None (job.AutomaticUp p ∷ js) answer e h same fit awaits = absurd awaits
  queue_facts None (job.Ordered n c ∷ js) answer e h same fit awaits = absurd awaits

  pub orderly : AreBytes w → HasRoom w.control.askers → IsOrderly t w
  orderly bytes room =
      record {
        bytes = bytes;
        room = room;
        opens = λ n request waits one. ap is_open (turn.first n request waits one);
        unheard = λ n there none. by_opened n none (opened_by (is_extender t) w.control.queue n) refl;
        queue = queue_facts w.control.work w.control.queue (system_of w).answer refl sound.stands.stands refl sound.fits.ends.knows.queue turn.awaits;
      }
    where
      by_opened : (n : ℕ) → w.control.heard n ≡ false → (b : Bool) → opened_by (is_extender t) w.control.queue n ≡ b → (w.control.askers n).serial ≡ 0
      by_opened n none true e = absurd (false≢true (sym none ∙ turn.heard n e))
      by_opened n none false e = turn.unasked n e
