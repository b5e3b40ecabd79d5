-- A group of which the tables have a pair keeps its set in each step of the machine: numbers are given back and claimed anew within a
-- step, but not one that is laid.
use Rattle.std.proofs.Common.{◌≡◌, ℕ, ◌<◌, ◌≤◌, cond, not, Bool, true, false, List, [], ◌∷◌, Option, Some, None, refl, sym, ◌∙◌, ap, subst, inl, inr, arith}
use Rattle.std.proofs.lemmas.Bool.{cases_Bool, false≢true}
use Rattle.exb_model.specs.Tree.{Shape, IsTree, device, trunk}
use Rattle.exb_model.specs.TreeSets.{covers}
use Rattle.exb_model.specs.Setup.{Limits}
use Rattle.exb_model.specs.Configuration.{Bridge}
use Rattle.exb_model.specs.Refusals.{is_empty_set}
use Rattle.exb_csp.specs.declared.message.Response.{Response}
use Rattle.exb_csp.specs.Execution.{ExtenderTables}
use Rattle.exb_csp.specs.AllTables.{tables_at}
use Rattle.exb_csp.specs.declared.ask_at.AskAt.{AskAt}
use Rattle.exb_control_spec.specs.declared.plan.change.Change.{Change}
use Rattle.exb_model.specs.Lists.{is_listed}
use Rattle.exb_control_spec.specs.Plans.HeldNumbers.{Held, channel_in}
use Rattle.exb_control_spec.proofs.Plans.ChannelOwners.{IsChannelOf, channel_found}
use Rattle.exb_csp.specs.AllTables.{RunsAt}
use Rattle.exb_control_spec.specs.Runs.LaidTables.{laid, is_shown}
use Rattle.exb_control_spec.specs.Runs.Requests.{IsLaidOut}
use Rattle.exb_control_spec.proofs.Runs.ChannelRuns.{covers_none}
use Rattle.exb_control_spec.proofs.Runs.LaidTables.{rest_is_laid_out}
use Rattle.exb_control_spec.proofs.Runs.NeededChannels.{home_low, home_cascade}
use Rattle.exb_control_spec.specs.declared.job.Job.{Job}
use Rattle.exb_control_spec.specs.declared.job.Phase.{Phase}
use Rattle.exb_control_spec.specs.declared.job.Phase.TheVariants.{Preparing, Cleaning}
use Rattle.exb_control_spec.specs.Decisions.{Outcome, Refused, Ready, decide, release, is_number}
use Rattle.exb_control_spec.specs.Decisions as deciding
use Rattle.exb_control_spec.specs.Machine.{Work, State, Moved, ends, cleans, prepares, starts, waits, after_start, goes_on, wakes_by, answered_by, answered_in}
use Rattle.exb_control_spec.specs.Runs.MonotoneRequests.{Keeps, AllAdd, AllClear}
use Rattle.exb_control_spec.specs.Runs.MachineInvariant.{IsPlanned, Rests, Works, StandsBy, opened_by}
use Rattle.exb_control_spec.specs.Runs.PlannedChanges.{IsSetting, IsExact, planning}
use Rattle.exb_control_spec.proofs.Runs.PlannedChanges.{plans}
use Rattle.exb_control_spec.proofs.Runs.MachineInvariant.{cleans_stands, starts_stands}
use Rattle.exb_flight.specs.Tree.{IsDeep}
use Rattle.exb_flight.proofs.TableBounds.{laying, pair_at}

-- a group of which tables have a pair, where just what a configuration needs is laid, is one that is held
pub laid_used : (t : Shape) → IsTree t → (opened : ℕ → Bool) (b : Bridge) (h : Held) → IsExact t opened b h → (e q : ℕ) → IsDeep t q → 4096 ≤ e → (tables_at (laid t opened h)).pair e q ≡ true →
    is_empty_set (h.set (trunk t (device q)) e) ≡ false
laid_used t valid opened b h exact e q at high there =
    elim (laying t (is_shown t opened) h e q (sym (pair_at t opened h q at e) ∙ there)) [
      | inr g ↦ by_set (h.set (trunk t (device q)) e) g
      | inl c ↦
          let found : channel_in h k c.0 ≡ Some e = (exact.needed).one_channel k c.0 e (home_low t valid q at.deep at.known) (home_cascade t valid q at.deep at.known) c.1 in
          let is : IsChannelOf h k c.0 e = channel_found h k c.0 e found in
          let small : e < 4095 = is.high in
          absurd (omega (arith, small, high))
    ]
  where
    k : ℕ
    k = trunk t (device q)

    by_set : (set : List ℕ) → covers t (is_listed set) q ≡ true → is_empty_set set ≡ false
    by_set [] c = absurd (false≢true (sym (covers_none t q) ∙ c))
    by_set (x ∷ xs) c = refl

-- a port of such a group's set has its channel
pub laid_members : (t : Shape) → IsTree t → (opened : ℕ → Bool) (b : Bridge) (h : Held) → IsExact t opened b h → (e q r : ℕ) → IsDeep t q → is_empty_set (h.set (trunk t (device q)) e) ≡ false →
    is_listed (h.set (trunk t (device q)) e) r ≡ true → 0 < (tables_at (laid t opened h)).own r
laid_members t valid opened b h exact e q r at used listed =
    let out : IsLaidOut t opened b h = rest_is_laid_out t b h opened valid exact.needed exact.order in
    (out.groups (trunk t (device q)) e (home_low t valid q at.deep at.known) (home_cascade t valid q at.deep at.known) (ap not used)).channels r listed

-- what is left of a set that isn't given back
pub released_set : (x : Change) (h : Held) (k e : ℕ) → is_empty_set ((release x h).set k e) ≡ false → (release x h).set k e ≡ h.set k e
released_set x h k e some = by_number (is_number x.groups k e) some
  where
    by_number : (b : Bool) → is_empty_set (cond b [] (h.set k e)) ≡ false → ◌≡◌ {A = List ℕ} (cond b [] (h.set k e)) (h.set k e)
    by_number true s = absurd (false≢true (sym s))
    by_number false s = refl

module _ (t : Shape) (l : Limits) (setting : IsSetting t l) (all : ℕ → ExtenderTables) (e q : ℕ) (at : IsDeep t q) (high : 4096 ≤ e) (there : (tables_at all).pair e q ≡ true) where
  k : ℕ
  k = trunk t (device q)

  abbrev set_in : State → List ℕ
  set_in s = s.held.set (trunk t (device q)) e

  rests_used : (s : State) (js : List Job) → Rests (planning t) s js all → is_empty_set (set_in s) ≡ false
  rests_used s js r =
      laid_used t setting.tree (opened_by (planning t).there js) s.bridge s.held r.exact e q at high (subst (λ (u : ℕ → ExtenderTables). (tables_at u).pair e q ≡ true) r.laid there)

  keeps_set : (h g : Held) → Keeps h g → is_empty_set (h.set (trunk t (device q)) e) ≡ false → g.set (trunk t (device q)) e ≡ h.set (trunk t (device q)) e
  keeps_set h g kept some = kept.groups (trunk t (device q)) e (h.set (trunk t (device q)) e) some high refl

  cleans_set : (j : Job) (x : Change) (left : List AskAt) (s : State) (js : List Job) → StandsBy (planning t) (cleans j x left s).state.work (cleans j x left s).state js all None →
      set_in (cleans j x left s).state ≡ set_in s
  cleans_set j x [] s js h = released_set x s.held (trunk t (device q)) e (rests_used (ends x s) js h.0)
  cleans_set j x (a ∷ more) s js h = refl

  prepares_set : (j : Job) (x : Change) (left : List AskAt) (s : State) (js : List Job) → StandsBy (planning t) (prepares j x left s).state.work (prepares j x left s).state js all None →
      set_in (prepares j x left s).state ≡ set_in s
  prepares_set j x [] s js h = cleans_set j x x.cleanup (record s { bridge = deciding.bridge_after j s.bridge }) js h
  prepares_set j x (a ∷ more) s js h = refl

  starts_set : (j : Job) (d : Outcome) (s : State) (js : List Job) → decide t l s.bridge s.held j ≡ d → Rests (planning t) s (j ∷ js) all →
      StandsBy (planning t) (starts j d s).state.work (starts j d s).state js all None → set_in (starts j d s).state ≡ set_in s
  starts_set j (Refused cause) s js f r h = refl
  starts_set j (Ready x claimed) s js f r h =
      let p : IsPlanned (planning t) (opened_by (planning t).there (j ∷ js)) s.bridge s.held j x claimed =
      (plans t l setting).ready (opened_by (planning t).there (j ∷ js)) s.bridge s.held j x claimed r.exact (r.fits.0).fits f in
      prepares_set j x x.prepare (record s { held = claimed }) js h ∙ keeps_set s.held claimed p.kept (rests_used s (j ∷ js) r)

  after_start_set : (s : State) (js : List Job) (m onward : Moved) (o : Option Work) → m.state.work ≡ o → StandsBy (planning t) o m.state js all None → set_in m.state ≡ set_in s →
      (m.state.work ≡ None → Rests (planning t) m.state js all → set_in onward.state ≡ set_in m.state) → set_in (after_start js o m onward).state ≡ set_in s
  after_start_set s js m onward None f h same onwards = onwards f h.0 ∙ same
  after_start_set s js m onward (Some v) f h same onwards = same

  pub goes_on_set : (js : List Job) (s : State) → s.work ≡ None → Rests (planning t) s js all → set_in (goes_on (decide t l) js s).state ≡ set_in s
  unfolding goes_on
  goes_on_set [] s none r = refl
  goes_on_set (j ∷ js) s none r =
      elim (cases_Bool (waits s j)) [
        | inl w ↦ rw w refl
        | inr w ↦
            rw w (
            let d = decide t l s.bridge s.held j in
            let m : Moved = starts j d s in
            let h = starts_stands (planning t) (decide t l) (plans t l setting) j d s js all none refl r in
            after_start_set s js m (goes_on (decide t l) js m.state) m.state.work refl h (starts_set j d s js refl r h) (λ f rest. goes_on_set js m.state f rest))
      ]

  wakes_set : (o : Option Work) (s : State) → s.work ≡ o → StandsBy (planning t) o s s.queue all None → set_in (wakes_by (decide t l) o s).state ≡ set_in s
  wakes_set None s f h = goes_on_set s.queue s f h.0
  wakes_set (Some v) s f h = refl

  pub answered_set : (v : Work) (s : State) (response : Response) → Works (planning t) v s s.queue all (Some response) → set_in (answered_in (decide t l) (Some v) s).state ≡ set_in s
  answered_set v s response h = by_phase v.phase v.rest refl refl
    where
      by_phase : (f : Phase) (left : List AskAt) → v.phase ≡ f → v.rest ≡ left → set_in (answered_by (decide t l) v left s).state ≡ set_in s
      by_phase f (a ∷ more) d g = refl
      by_phase Preparing [] d g =
          let n = rw (d, g) at h.left in
          let kinds : AllAdd (v.first ∷ []) × AllClear v.change.cleanup = rw (d, g) at h.kinds in
          let x : Change = v.change in
          let b : s.bridge ≡ h.old = rw d at h.bridge in
          let c : State = record s { work = None; bridge = deciding.bridge_after v.job s.bridge } in
          let m : Moved = cleans v.job x x.cleanup c in
          let stands : StandsBy (planning t) m.state.work m.state s.queue all None =
          cleans_stands (planning t) v.job x x.cleanup c s.queue all h.old refl h.during (ap (deciding.bridge_after v.job) b)
          (subst (λ (u : ℕ → ExtenderTables). RunsAt u x.cleanup (laid t (opened_by (planning t).there s.queue) (release x s.held))) (sym n.0) n.1) h.exact h.fits h.before h.were h.had h.kept n.0 kinds.1 h.now h.last_asks h.last_asks in
          rw d (wakes_set m.state.work m.state refl (subst (λ (js : List Job). StandsBy (planning t) m.state.work m.state js all None) (same_queue x.cleanup c) stands) ∙ cleans_set v.job x x.cleanup c s.queue stands)
        where
          same_queue : (left : List AskAt) (c : State) → c.queue ≡ (cleans v.job v.change left c).state.queue
          same_queue [] c = refl
          same_queue (a ∷ more) c = refl
      by_phase Cleaning [] d g =
          let n : all ≡ laid t (opened_by (planning t).there s.queue) (release v.change s.held) = rw (d, g) at h.left in
          let b : s.bridge ≡ deciding.bridge_after v.job h.old = rw d at h.bridge in
          let c : State = ends v.change s in
          let r : Rests (planning t) c c.queue all = record { laid = n; exact = subst (λ (z : Bridge). IsExact t (opened_by (planning t).there s.queue) z (release v.change s.held)) (sym b) h.exact; fits = h.fits } in
          rw d (goes_on_set c.queue c refl r ∙ released_set v.change s.held (trunk t (device q)) e (rests_used c c.queue r))
