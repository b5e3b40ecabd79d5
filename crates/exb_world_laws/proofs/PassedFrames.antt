-- Steps say of each Relay whether its frame passes.
use Rattle.std.proofs.Common.{◌≡◌, ◌⊎◌, ◌++◌, Bool, true, false, cond, List, [], ◌∷◌, refl, ap, sym, ◌∙◌, subst, inl, inr}
use Rattle.std.proofs.lemmas.Bool.{cases_Bool, cases_lt}
use Rattle.std.proofs.lemmas.List.{append_assoc}
use Rattle.exb_model.specs.declared.command.Command.{Command}
use Rattle.exb_model.specs.declared.event.Event.{Event}
use Rattle.exb_model.specs.declared.event.Event.TheVariants as event
use Rattle.exb_model.specs.Configuration.{Bridge}
use Rattle.exb_model.specs.History.{Basis, History, ◌then◌, bridge_after}
use Rattle.exb_model.specs.Setup.{Limits}
use Rattle.exb_model.specs.Tree.{Shape, on, device, port_number}
use Rattle.exb_extender.specs.Forwarding.{is_ignored}
use Rattle.exb_frame.specs.TagValues.{TagRoundTrip}
use Rattle.exb_relay.specs.Laws.{SendsAreWords, SendsLeaveAsFlat}
use Rattle.exb_control_spec.specs.Runs.Journal.{StepsTell}
use Rattle.exb_world_spec.specs.Settling.{run}
use Rattle.exb_world_spec.specs.Steps.{Stepped, stepped}
use Rattle.exb_world_spec.specs.Worlds.{World, Up, Down, Step, Arrive, Carry, Control, Lose, Beat, Tick, Order, Mark, Left}
use Rattle.exb_world_spec.specs.Runs.Journal.{is_to_bridge}
use Rattle.exb_world_spec.specs.Runs.PassedFrames.{passed_by, passed_in, passed_over}
use Rattle.exb_world_spec.specs.Runs.Simulation.{jobs_in}
use Rattle.exb_world_spec.proofs.PassedFrames.{rest_same, none_of_jobs, too_few, steps_tell_passed}
use Rattle.exb_world_laws.specs.StepEvents.{TellsOf}
use Rattle.exb_world_laws.specs.WorldInput.{Given, given_by, commands_of, basis_with}
use Rattle.exb_world_laws.specs.WorldInvariant.{given_in}
use Rattle.exb_world_laws.specs.OneBridgeSteps.{RunsTellPassed}
use Rattle.exb_world_laws.specs.OneBridge.{Stands}
use Rattle.exb_world_laws.proofs.LongerHistories.{HasCommand, HasCommands, longer, bridge_stays}
use Rattle.exb_world_laws.proofs.InvariantSteps.{basis_more, step_kept}
use Rattle.exb_world_laws.proofs.OneBridgeKept.{its_commands, stands_go_on}
use Rattle.exb_world_laws.proofs.OneBridgeSteps.{kept_ageing}
use Rattle.exb_world_laws.proofs.Opening.{each_before}
use Rattle.exb_world_laws.proofs.StepEvents.{steps_tell_so}

-- the configuration of a world that stands is that after its history, with whatever is given later
pub bridge_now : (t : Shape) (l : Limits) (i : Basis) (w : World) (g more : List Given) (h : History) (left : List Left) → Stands t l i w g h left → bridge_after (basis_with i (g ++ more)) h ≡ w.control.bridge
bridge_now t l i w g more h left s =
    ap (λ (c : Basis). bridge_after c h) (basis_more i g more) ∙ (bridge_stays (basis_with i g) (commands_of more) h (its_commands t l w i g h left s) ∙ sym s.force.bridge)

-- ---- the events of a step
-- events of jobs alone, or one event
abbrev AreFew : List Event → Type 0
AreFew es = (jobs_in es ≡ es) ⊎ ((e : Event) × (es ≡ e ∷ []))

of_none : (es : List Event) → es ≡ [] → AreFew es
of_none es e = inl (rw e refl)

few_told : (t : Shape) (w : World) (step : Step) (es : List Event) → TellsOf t w step es → AreFew es
few_told t w (Arrive a) es k =
    elim (cases_lt a.port 64) [
      | inl low ↦ inr (_, k.local low)
      | inr deep ↦ subst AreFew (sym (k.extended deep)) (by_flag (is_ignored ((w.far (device a.port)).tables.own (port_number a.port)) a.bytes))
    ]
  where
    by_flag : (c : Bool) → AreFew (cond c (event.Ignored a.port a.index ∷ []) [])
    by_flag true = inr (event.Ignored a.port a.index, refl)
    by_flag false = inl refl
few_told t w (Carry n Up) es k =
    elim (cases_lt (on t n) 64) [
      | inl low ↦ inr (_, (k.bridge low).is)
      | inr deep ↦ of_none es (k.other deep)
    ]
few_told t w (Carry n Down) es k = of_none es k
few_told t w (Control n way j keep) es k =
    elim (cases_Bool (is_to_bridge t n way)) [
      | inl e ↦ inl (k.bridge e)
      | inr e ↦ of_none es (k.other e)
    ]
few_told t w (Lose n way j) es k = of_none es k
few_told t w Beat es k = of_none es k
few_told t w (Tick seconds) es k = inr (_, k)
few_told t w (Order c) es k = inl k
few_told t w Mark es k = inr (_, k)

none_over : (i : Basis) (h : History) (es : List Event) → jobs_in es ≡ es → passed_over i h es ≡ []
none_over i h [] e = refl
none_over i h (event.Relay p n m f ∷ es) e = absurd (too_few (event.Relay p n m f) es e)
none_over i h (event.Ignored p n ∷ es) e = absurd (too_few (event.Ignored p n) es e)
none_over i h (event.Tick seconds ∷ es) e = absurd (too_few (event.Tick seconds) es e)
none_over i h (event.Settled ∷ es) e = absurd (too_few event.Settled es e)
none_over i h (event.Commit n ∷ es) e = none_over i (event.Commit n ∷ h) es (rest_same e)
none_over i h (event.Refuse n x ∷ es) e = none_over i (event.Refuse n x ∷ h) es (rest_same e)
none_over i h (event.Up p ∷ es) e = none_over i (event.Up p ∷ h) es (rest_same e)
none_over i h (event.NoUp p x ∷ es) e = none_over i (event.NoUp p x ∷ h) es (rest_same e)

step_over : (i : Basis) (b : Bridge) (h : History) (es : List Event) → bridge_after i h ≡ b → AreFew es → passed_in b es ≡ passed_over i h es
step_over i b h es same (inl jobs) = none_of_jobs b es jobs ∙ sym (none_over i h es jobs)
step_over i b h es same (inr one) = ap (passed_in b) one.1 ∙ (ap (λ (c : Bridge). passed_by c one.0 ++ []) (sym same) ∙ sym (ap (passed_over i h) one.1))

over_both : (i : Basis) (h : History) (xs ys : List Event) → passed_over i h (xs ++ ys) ≡ passed_over i h xs ++ passed_over i (h then xs) ys
over_both i h [] ys = refl
over_both i h (x ∷ xs) ys = ap (λ (bs : List Bool). passed_by (bridge_after i h) x ++ bs) (over_both i (x ∷ h) xs ys) ∙ sym (append_assoc (passed_by (bridge_after i h) x) (passed_over i (x ∷ h) xs) (passed_over i (h then (x ∷ xs)) ys))

-- ---- what is said of more commands
pub passed_stays : (j : Basis) (cs : List Command) (es : List Event) (h : History) → HasCommands j (h then es) → passed_over (longer j cs) h es ≡ passed_over j h es
passed_stays j cs [] h has = refl
passed_stays j cs (e ∷ es) h has =
    let here : HasCommands j h = (each_before (λ (g : History) (x : Event). HasCommand j x) es (e ∷ h) has).0 in
    ap (λ (b : Bridge). passed_by b e ++ passed_over (longer j cs) (e ∷ h) es) (bridge_stays j cs h here) ∙ ap (λ (bs : List Bool). passed_by (bridge_after j h) e ++ bs) (passed_stays j cs es (e ∷ h) has)

-- ---- any steps
module _ (round : TagRoundTrip) (words : SendsAreWords) (leave : SendsLeaveAsFlat) (law : StepsTell) where
  pub runs_tell_passed : RunsTellPassed
  unfolding run
  runs_tell_passed t l b start w given told gone k [] may i aged g h left s = refl
  runs_tell_passed t l b start w given told gone k (step ∷ steps) may i aged g h left s =
      let x : Stepped = stepped t l step w in
      let r : Stepped = run t l steps x.world in
      let j : Basis = basis_with i (g ++ (given_by step ++ given_in steps)) in
      let kept = step_kept round words leave law t l b start w given told gone k step may.0 in
      let same : x.world.table.ageing ≡ w.table.ageing =
      kept_ageing t l b start x.world (given ++ given_by step) (told then x.events) (gone ++ x.left) kept ∙ sym (kept_ageing t l b start w given told gone k) in
      let next = stands_go_on round words leave law t l b start w given told gone k step may.0 i aged g h left s in
      let rest = runs_tell_passed t l b start x.world (given ++ given_by step) (told then x.events) (gone ++ x.left) kept steps may.1 i (aged ∙ sym same) (g ++ given_by step) (h then x.events) (left ++ x.left) next in
      let first : x.passed ≡ passed_over j h x.events =
      steps_tell_passed t l w step
      ∙ step_over j w.control.bridge h x.events (bridge_now t l i w g (given_by step ++ given_in steps) h left s) (few_told t w step x.events (steps_tell_so t l b start w given told gone k step may.0)) in
      let later : r.passed ≡ passed_over j (h then x.events) r.events = rest ∙ ap (λ (z : List Given). passed_over (basis_with i z) (h then x.events) r.events) (append_assoc g (given_by step) (given_in steps)) in
      ap (λ (bs : List Bool). bs ++ r.passed) first ∙ (ap (λ (bs : List Bool). passed_over j h x.events ++ bs) later ∙ sym (over_both j h x.events r.events))
