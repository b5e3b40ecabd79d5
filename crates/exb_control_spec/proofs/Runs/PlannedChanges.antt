-- The plans of changes are what the machine takes.
use Rattle.std.proofs.Common.{◌≡◌, ◌≢◌, ◌⊎◌, ℕ, ◌+◌, ◌-◌, ◌<◌, ◌≤◌, ◌==◌, ◌&&◌, ◌||◌, cond, Bool, true, false, not, List, [], Option, Some, None, refl, sym, ◌∙◌, ap, subst, arith, inl, inr, nat_lt}
use Rattle.std.proofs.lemmas.Bool.{cases_eq, and_parts, eq-eqb, ltb-true, ne_eqb, lt-ltb, or_left, or_right, false≢true}
use Rattle.exb_model.specs.declared.command.Command.{Command}
use Rattle.exb_model.specs.declared.command.Command.TheVariants as command
use Rattle.exb_model.specs.declared.event.Cause.{Cause}
use Rattle.exb_model.specs.Tree.{Shape, device, on, is_cascade, is_extender, is_extended, is_external}
use Rattle.exb_model.specs.Setup.{Limits, NamesExternal}
use Rattle.exb_model.specs.Configuration.{Bridge, after}
use Rattle.exb_control_spec.specs.Plans.Sets.{PortsAt}
use Rattle.exb_model.specs.Refusals.{is_empty_set}
use Rattle.exb_model.specs.Numbers.{IsReady as NumbersAreReady}
use Rattle.exb_control_spec.specs.declared.plan.change.Change.{Change}
use Rattle.exb_control_spec.specs.Plans.HeldNumbers.{Held, HoldsNeeded, group_in, group_used, numbers_in}
use Rattle.exb_control_spec.specs.Plans.Differences.{goes_up, refusal_between, fresh_sets}
use Rattle.exb_control_spec.specs.Plans.Plans.{claimed, freed, fresh_groups, with_up, new_channel, change_of, cleanup_of}
use Rattle.exb_control_spec.specs.Plans.Laws.{IsStep}
use Rattle.exb_control_spec.proofs.Plans.EachElement.{each_map}
use Rattle.exb_control_spec.proofs.Plans.SetFacts.{IsBelow}
use Rattle.exb_control_spec.proofs.Plans.Trunks.{extended_external}
use Rattle.exb_control_spec.proofs.Plans.Channels.{Rises, rises_is, goes_up_rises}
use Rattle.exb_control_spec.specs.Runs.LaidTables.{laid}
use Rattle.exb_csp.specs.AllTables.{RunsAt}
use Rattle.exb_control_spec.specs.Runs.Requests.{AreOpened, IsLaidOut, IsReady, CanOpen, with_opened}
use Rattle.exb_control_spec.proofs.Runs.PlanRuns.{plans_run, stands_claimed}
use Rattle.exb_control_spec.proofs.Runs.LaidTables.{rest_is_laid_out}
use Rattle.exb_control_spec.proofs.Runs.ClaimedMidChange.{claimed_is_laid_out}
use Rattle.exb_control_spec.proofs.Runs.Openings.{openings_run}
use Rattle.exb_control_spec.specs.declared.job.Job.{Job}
use Rattle.exb_control_spec.specs.declared.job.Job.TheVariants as job
use Rattle.exb_control_spec.specs.Decisions.{Refused, Ready, decide, release, is_number, outcome_by, outcome_between, opening_change}
use Rattle.exb_control_spec.specs.RequestLaws.{IsPlanned, IsHeldAtCascades}
use Rattle.exb_control_spec.proofs.FreshGroups.{given_elsewhere, with_set, fresh_below}
use Rattle.exb_control_spec.proofs.ReleasedNumbers.{released_is_freed, released_is_needed}
use Rattle.exb_control_spec.proofs.Commands.{step_of}
use Rattle.exb_control_spec.specs.Runs.MonotoneRequests.{AllAdd, AllClear, Keeps}
use Rattle.exb_control_spec.proofs.Runs.OpenedExtenders.{opening_goes, prepare_goes, cleanup_goes, change_few, opening_few, none_few}
use Rattle.exb_control_spec.proofs.Runs.MonotonePlans.{prepares_add, cleanups_clear, openings_add}
use Rattle.exb_control_spec.specs.Runs.MachineInvariant.{AreFew, opens, IsPlanned as IsSound, Plans}
use Rattle.exb_control_spec.specs.Runs.PlannedChanges.{IsSetting, IsExact, HasBoth, FitsJob, planning, PlannedStepsStand, PlannedRunsStand}
use Rattle.exb_control_spec.proofs.Runs.StepInvariants.{steps_stand, runs_stand}
use Rattle.exb_control_spec.proofs.Runs.BothConfigurations.{needed_numbers, numbers_kept, released_kept, claimed_kept, claimed_owns, all_kept}
use Rattle.exb_control_spec.proofs.Plans.OptionalNumbers.{some_is}

-- a port is present after a command where it was before, or the command made it go up
present_or_up : (c : Command) (b : Bridge) (q : ℕ) → (after c b).present q ≡ true → (b.present q ≡ true) ⊎ (c ≡ command.Up q)
present_or_up (command.Up p) b q e =
    elim (cases_eq q p) [
      | inl f ↦ inr (ap (λ (x : ℕ). command.Up x) (sym f))
      | inr f ↦ inl (let k : (q == p || b.present q) ≡ true = e in rw (ne_eqb q p f) at k)
    ]
present_or_up (command.Down p) b q e = inl (and_parts (not (q == p)) (b.present q) e).1
present_or_up (command.Vlan v tagged untagged) b q e = inl e
present_or_up (command.Member v p kind) b q e = inl e
present_or_up (command.Unmember v p) b q e = inl e
present_or_up (command.Pvid p v) b q e = inl e
present_or_up (command.Accept p types) b q e = inl e
present_or_up (command.Filter p on) b q e = inl e
present_or_up (command.Isolate p on) b q e = inl e
present_or_up (command.Static v m ports) b q e = inl e
present_or_up (command.Unstatic v m) b q e = inl e

module _ (t : Shape) (l : Limits) (setting : IsSetting t l) where
  -- ---- where groups are held
  claimed_elsewhere : (old new : Bridge) (h : Held) (k g : ℕ) → (nat_lt k 64 && is_cascade t k) ≡ false → (claimed t l old new h).set k g ≡ h.set k g
  unfolding claimed fresh_groups
  claimed_elsewhere old new h k g none =
      given_elsewhere l.groups (with_up t l old new h) (fresh_sets t old new) k (each_map (IsBelow t) (λ s. s.bridge_port ≢ k + 1) (fresh_sets t old new) other (fresh_below t setting.tree old new)) g
      ∙ ap (λ (f : ℕ → ℕ → List ℕ). f k g) (with_set t (new_channel t l h (goes_up t old new)) (goes_up t old new) h)
    where
      other : (s : PortsAt) → IsBelow t s → s.bridge_port ≢ k + 1
      other s is e =
          let at : s.bridge_port - 1 ≡ k = omega (arith, e) in
          let low : k < 64 = subst (λ (m : ℕ). m < 64) at is.low in
          let c : is_cascade t k ≡ true = subst (λ (m : ℕ). is_cascade t m ≡ true) at is.cascade in
          absurd (false≢true (sym none ∙ (rw (lt-ltb k 64 low, c) refl)))

  released_cascades : (x : Change) (h : Held) → IsHeldAtCascades t h → IsHeldAtCascades t (release x h)
  released_cascades x h at k g none = rw (at k g none) (emptied (is_number x.groups k g))
    where
      emptied : (b : Bool) → ◌≡◌ {A = List ℕ} (cond b [] []) []
      emptied true = refl
      emptied false = refl

  -- what a plan promises that leaves the extenders as they are
  record Changes (opened : ℕ → Bool) (b : Bridge) (h : Held) (c : Command) (x : Change) (held : Held) : Type 0 where
    prepared : RunsAt (laid t opened h) x.prepare (laid t opened held)
    cleaned : RunsAt (laid t opened held) x.cleanup (laid t opened (release x held))
    left : IsExact t opened (after c b) (release x held)
    during : HasBoth t opened b (after c b) held
    adds : AllAdd x.prepare
    clears : AllClear x.cleanup
    kept : Keeps h held
    first_asks : AreFew opened x.prepare
    last_asks : AreFew opened x.cleanup

  -- ---- a change by a command
  module _ (opened : ℕ → Bool) (b : Bridge) (h : Held) (exact : IsExact t opened b h) (c : Command) (names : NamesExternal t c)
      (up : (p : ℕ) → is_extended t p ≡ true → c ≡ command.Up p → opened (device p) ≡ true) (fits : refusal_between t l b (after c b) ≡ None) where
    step : IsStep t b (after c b)
    step = step_of t b c names exact.external

    planned : IsPlanned t l b (after c b) h
    planned = record { tree = setting.tree; channels = setting.channels; groups = setting.groups; step = step; needed = exact.needed; fits = fits }

    ready : IsReady t l b (after c b) h opened
    ready = record { planned = planned; order = exact.order; up = goes }
      where
        goes : (p : ℕ) → goes_up t b (after c b) ≡ Some p → opened (device p) ≡ true
        goes p e =
            let r : Rises t b (after c b) p = rises_is t b (after c b) p (goes_up_rises t b (after c b) p e) in
            elim (present_or_up c b p r.present) [
              | inl f ↦ absurd (false≢true (sym r.absent ∙ f))
              | inr f ↦ up p r.extended f
            ]

    order_after : AreOpened t opened (after c b)
    order_after = record { above = (exact.order).above; present = there }
      where
        there : (q : ℕ) → is_extended t q ≡ true → (after c b).present q ≡ true → opened (device q) ≡ true
        there q ext e = elim (present_or_up c b q e) [ inl f ↦ (exact.order).present q ext f | inr f ↦ up q ext f ]

    released : release (change_of t l b (after c b) h) (claimed t l b (after c b) h) ≡ freed t b (after c b) (claimed t l b (after c b) h)
    released = released_is_freed t l b (after c b) h planned exact.cascades

    exact_after : IsExact t opened (after c b) (release (change_of t l b (after c b) h) (claimed t l b (after c b) h))
    exact_after =
        record {
          needed = released_is_needed t l b (after c b) h planned;
          cascades = released_cascades (change_of t l b (after c b) h) (claimed t l b (after c b) h) (λ k g none. claimed_elsewhere b (after c b) h k g none ∙ exact.cascades k g none);
          order = order_after;
          external = step.external_new;
        }

    numbers_stay : Keeps h (claimed t l b (after c b) h)
    numbers_stay = claimed_kept t l b (after c b) h (each_map (IsBelow t) (λ s. 1 ≤ s.bridge_port) (fresh_sets t b (after c b)) (λ s is. is.from1) (fresh_below t setting.tree b (after c b)))

    has_both : HasBoth t opened b (after c b) (claimed t l b (after c b) h)
    has_both =
        record {
          before =
              numbers_kept t b h (claimed t l b (after c b) h)
              numbers_stay
              (needed_numbers t setting.tree b h exact.needed exact.external);
          after =
              numbers_kept t (after c b) (release (change_of t l b (after c b) h) (claimed t l b (after c b) h)) (claimed t l b (after c b) h)
              (released_kept (change_of t l b (after c b) h) (claimed t l b (after c b) h))
              (needed_numbers t setting.tree (after c b) _ (released_is_needed t l b (after c b) h planned) step.external_new);
          laid_before = (claimed_is_laid_out t l b (after c b) h opened ready).0;
          laid_after = (claimed_is_laid_out t l b (after c b) h opened ready).1;
          one_channel = λ k e d p low cas f g. ((stands_claimed t l b (after c b) h opened ready).gives k low cas).one e d p f g;
          one_group = λ k g m low cas u f. (claimed_owns t l b (after c b) h planned k low cas).one g m u f;
        }

    changes : Changes opened b h c (change_of t l b (after c b) h) (claimed t l b (after c b) h)
    unfolding change_of
    changes =
        let r = plans_run t l b (after c b) h opened ready in
        let few = change_few t l b (after c b) h planned opened (prepare_goes t setting.tree opened (exact.order).above l b (after c b) h order_after) (cleanup_goes t setting.tree opened (exact.order).above b (after c b) h exact.needed exact.order) in
        record {
          prepared = r.0;
          cleaned = subst (λ (g : Held). RunsAt (laid t opened (claimed t l b (after c b) h)) (cleanup_of t b (after c b) h) (laid t opened g)) (sym released) r.1;
          left = exact_after;
          during = has_both;
          adds = prepares_add t l b (after c b) h;
          clears = cleanups_clear t b (after c b) h;
          kept = numbers_stay;
          first_asks = few.0;
          last_asks = few.1;
        }

  changes_when : (opened : ℕ → Bool) (b : Bridge) (h : Held) (c : Command) (x : Change) (held : Held) → IsExact t opened b h → NamesExternal t c →
      ((p : ℕ) → is_extended t p ≡ true → c ≡ command.Up p → opened (device p) ≡ true) → outcome_between t l b (after c b) h ≡ Ready x held → Changes opened b h c x held
  changes_when opened b h c x held exact names up e = by_cause (refusal_between t l b (after c b)) refl e
    where
      by_cause : (o : Option Cause) → refusal_between t l b (after c b) ≡ o → outcome_by o (change_of t l b (after c b) h) (claimed t l b (after c b) h) ≡ Ready x held → Changes opened b h c x held
      by_cause None r f =
          let one : change_of t l b (after c b) h ≡ x = cc in
          let two : claimed t l b (after c b) h ≡ held = cc in
          subst (λ (g : Held). Changes opened b h c x g) two (subst (λ (y : Change). Changes opened b h c y (claimed t l b (after c b) h)) one (changes opened b h exact c names up r))
      by_cause (Some cause) r f = absurd (cc)

  -- ---- openings
  opens_order : (opened : ℕ → Bool) (b : Bridge) (n : ℕ) → AreOpened t opened b → (64 ≤ on t n → opened (device (on t n)) ≡ true) → AreOpened t (with_opened opened n) b
  opens_order opened b n order above = record { above = goes; present = λ q ext e. or_right (device q == n) (opened (device q)) (order.present q ext e) }
    where
      goes : (m : ℕ) → is_extender t m ≡ true → with_opened opened n m ≡ true → 64 ≤ on t m → with_opened opened n (device (on t m)) ≡ true
      goes m there e deep =
          elim (cases_eq m n) [
            | inl f ↦ or_right (device (on t m) == n) (opened (device (on t m))) (subst (λ (k : ℕ). 64 ≤ on t k → opened (device (on t k)) ≡ true) (sym f) above deep)
            | inr f ↦ or_right (device (on t m) == n) (opened (device (on t m))) (order.above m there (let k : (m == n || opened m) ≡ true = e in rw (ne_eqb m n f) at k) deep)
          ]

  opening_both : (opened : ℕ → Bool) (b : Bridge) (h : Held) → HoldsNeeded t b h → ((q : ℕ) → b.present q ≡ true → is_external t q ≡ true) → AreOpened t opened b → HasBoth t opened b b h
  opening_both opened b h needed external order =
      let numbers : NumbersAreReady t b (numbers_in h) = needed_numbers t setting.tree b h needed external in
      let laid_out : IsLaidOut t opened b h = rest_is_laid_out t b h opened setting.tree needed order in
      record {
        before = numbers;
        after = numbers;
        laid_before = laid_out;
        laid_after = laid_out;
        one_channel = λ k c d p low cas e f. some_is c d (sym (needed.one_channel k p c low cas e) ∙ needed.one_channel k p d low cas f);
        one_group = λ k g m low cas u e.
            let w : group_used h k m ≡ true = ap (λ (x : List ℕ). not (is_empty_set x)) (sym e) ∙ u in
            some_is g m (sym (needed.one_group k g low cas u) ∙ (ap (group_in h k) e ∙ needed.one_group k m low cas w));
      }

  -- ---- what the machine takes
  sound : (opened : ℕ → Bool) (b : Bridge) (h : Held) (j : Job) (x : Change) (held : Held) → IsExact t opened b h → FitsJob t opened j → decide t l b h j ≡ Ready x held → IsSound (planning t) opened b h j x held
  unfolding decide
  sound opened b h (job.Opening n) x held exact fits e =
      let one : opening_change t n h ≡ x = cc in
      let two : h ≡ held = cc in
      let some : 0 < n = ltb-true 0 n (and_parts (nat_lt 0 n) _ fits.there).0 in
      let can : CanOpen t b h opened n = record { tree = setting.tree; needed = exact.needed; order = exact.order; there = fits.there; closed = fits.closed; above = fits.above } in
      subst (λ (g : Held). IsSound (planning t) opened b h (job.Opening n) x g) two (
      subst (λ (y : Change). IsSound (planning t) opened b h (job.Opening n) y h) one (
      record {
        prepared = openings_run t b h opened n can;
        cleaned = refl;
        exact = record { needed = exact.needed; cascades = exact.cascades; order = opens_order opened b n exact.order fits.above; external = exact.external };
        during = opening_both (with_opened opened n) b h exact.needed exact.external (opens_order opened b n exact.order fits.above);
        adds = openings_add t n h;
        clears = tt;
        kept = all_kept h;
        first_asks = opening_few t n h (with_opened opened n) (opening_goes t setting.tree (with_opened opened n) (opens_order opened b n exact.order fits.above).above n h some (or_left (n == n) (opened n) (eq-eqb n n refl)));
        last_asks = none_few (with_opened opened n);
      }))
  sound opened b h (job.AutomaticUp p) x held exact fits e =
      let k = changes_when opened b h (command.Up p) x held exact (extended_external t p fits.extended) (λ q ext f. let same : p ≡ q = cc in subst (λ (m : ℕ). opened (device m) ≡ true) same fits.home) e in
      record { prepared = k.prepared; cleaned = k.cleaned; exact = k.left; during = k.during; adds = k.adds; clears = k.clears; kept = k.kept; first_asks = k.first_asks; last_asks = k.last_asks }
  sound opened b h (job.Ordered n c) x held exact fits e =
      let k = changes_when opened b h c x held exact fits.names (λ q ext f. fits.all q ext) e in
      record { prepared = k.prepared; cleaned = k.cleaned; exact = k.left; during = k.during; adds = k.adds; clears = k.clears; kept = k.kept; first_asks = k.first_asks; last_asks = k.last_asks }

  -- an opening isn't refused
  none_refused : (opened : ℕ → Bool) (b : Bridge) (h : Held) (j : Job) (cause : Cause) → decide t l b h j ≡ Refused cause → opens j opened ≡ opened
  unfolding decide
  none_refused opened b h (job.Opening n) cause e = absurd (cc)
  none_refused opened b h (job.AutomaticUp p) cause e = refl
  none_refused opened b h (job.Ordered n c) cause e = refl

  pub plans : Plans (planning t) (decide t l)
  plans = record { ready = sound; refused = none_refused }

pub planned_steps_stand : PlannedStepsStand
planned_steps_stand t l setting y step h m = steps_stand (planning t) (decide t l) (plans t l setting) y step h m

pub planned_runs_stand : PlannedRunsStand
planned_runs_stand t l setting y steps h m = runs_stand (planning t) (decide t l) (plans t l setting) y steps h m
