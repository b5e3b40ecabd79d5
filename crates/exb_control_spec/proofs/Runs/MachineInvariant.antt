-- What keeps the machine and the tables, whatever the plans are.
use Rattle.std.proofs.Common.{◌≡◌, ℕ, ◌&&◌, ◌||◌, ◌++◌, not, Bool, List, [], ◌∷◌, Option, Some, None, refl, sym, ◌∙◌, ap, subst, inl, inr, arith}
use Rattle.std.specs.List.{list_any}
use Rattle.std.proofs.lemmas.Bool.{cases_Bool}
use mathlib.Core.Path.{fun_ext}
use Rattle.exb_model.specs.declared.command.Command.{Command}
use Rattle.exb_model.specs.Configuration.{Bridge}
use Rattle.exb_csp.specs.declared.message.Response.{Response}
use Rattle.exb_csp.specs.Execution.{ExtenderTables, code_of, response_to}
use Rattle.exb_csp.specs.AllTables.{executes_at, RunsAt}
use Rattle.exb_csp.specs.declared.ask_at.AskAt.{AskAt}
use Rattle.exb_control_spec.specs.declared.plan.change.Change.{Change}
use Rattle.exb_control_spec.specs.Plans.HeldNumbers.{Held}
use Rattle.exb_control_spec.specs.declared.job.Job.{Job}
use Rattle.exb_control_spec.specs.declared.job.Job.TheVariants as job
use Rattle.exb_control_spec.specs.declared.job.Phase.{Phase}
use Rattle.exb_control_spec.specs.declared.job.Phase.TheVariants.{Preparing, Cleaning}
use Rattle.exb_control_spec.specs.Decisions.{Outcome, Refused, Ready, Decide, bridge_after, release}
use Rattle.exb_control_spec.specs.Machine.{Work, State, Moved, ends, cleans, prepares, starts, waits, after_start, goes_on, wakes_by, answered_by, answered_in}
use Rattle.exb_control_spec.specs.Runs.Systems.{executes, answer_of, code_by}
use Rattle.exb_control_spec.specs.Runs.MonotoneRequests.{AreWithin, AllAdd, AllClear, Keeps}
use Rattle.exb_control_spec.proofs.Runs.MonotoneRequests.{are_within, within_on, request_adds, request_clears}
use Rattle.exb_control_spec.specs.Runs.MachineInvariant.{is_opening, opened_by, opens, AreFew, Planning, IsPlanned, Plans, AllFit, Rests, Works, StandsBy}

-- ---- the queue with a command more
any_more : (n : ℕ) (number : ℕ) (c : Command) (js : List Job) → list_any (is_opening n) (js ++ job.Ordered number c ∷ []) ≡ list_any (is_opening n) js
any_more n number c [] = refl
any_more n number c (j ∷ js) = ap (λ (x : Bool). is_opening n j || x) (any_more n number c js)

pub opened_more : (there : ℕ → Bool) (number : ℕ) (c : Command) (js : List Job) → opened_by there (js ++ job.Ordered number c ∷ []) ≡ opened_by there js
opened_more there number c js = fun_ext (λ n. ap (λ (x : Bool). there n && not x) (any_more n number c js))

-- one request less is few too
rest_few : (opened : ℕ → Bool) (a b : AskAt) (more : List AskAt) → AreFew opened (a ∷ b ∷ more) → AreFew opened (b ∷ more)
rest_few opened a b more k = record { go = k.go.1; few = omega (arith, k.few) }

module _ (p : Planning) where
  pub fits_more : (number : ℕ) (c : Command) (js : List Job) → p.MayCome c → AllFit p js → AllFit p (js ++ job.Ordered number c ∷ [])
  fits_more number c [] m f = (record { fits = f number c m; once = refl }, f)
  fits_more number c (j ∷ js) m f = (
    record {
      fits = subst (λ (o : ℕ → Bool). p.Fits o j) (sym (opened_more p.there number c (j ∷ js))) (f.0).fits;
      once = subst (λ (o : ℕ → Bool). opens j o ≡ opened_by p.there (js ++ job.Ordered number c ∷ [])) (sym (opened_more p.there number c (j ∷ js))) ((f.0).once ∙ sym (opened_more p.there number c js));
    },
    fits_more number c js m f.1,
  )

  -- ---- one change
  -- where the cleanup begins, or there is none
  pub cleans_stands : (j : Job) (x : Change) (left : List AskAt) (s : State) (js : List Job) (all : ℕ → ExtenderTables) (old : Bridge) → s.work ≡ None →
      p.During (opened_by p.there js) old (bridge_after j old) s.held → s.bridge ≡ bridge_after j old → RunsAt all left (p.laid (opened_by p.there js) (release x s.held)) →
      p.Exact (opened_by p.there js) (bridge_after j old) (release x s.held) → AllFit p js → (before : Held) (were : ℕ → Bool) → p.Exact were old before →
      Keeps before s.held → all ≡ p.laid (opened_by p.there js) s.held → AllClear left → opens j were ≡ opened_by p.there js → AreFew (opened_by p.there js) left →
      AreFew (opened_by p.there js) x.cleanup → StandsBy p (cleans j x left s).state.work (cleans j x left s).state js all None
  cleans_stands j x [] s js all old n d b r e f before were had kept same clear now asks last =
      (record { laid = r; exact = subst (λ (c : Bridge). p.Exact (opened_by p.there js) c (release x s.held)) (sym b) e; fits = f }, refl)
  cleans_stands j x (a ∷ more) s js all old n d b r e f before were had kept same clear now asks last =
      record {
        left = r;
        old = old;
        bridge = b;
        during = d;
        exact = e;
        fits = f;
        answers = tt;
        before = before;
        were = were;
        had = had;
        kept = kept;
        since = subst (AreWithin all) same (are_within all);
        kinds = clear;
        now = now;
        asks = asks;
        last_asks = last;
      }

  prepares_stands : (j : Job) (x : Change) (left : List AskAt) (s : State) (js : List Job) (all : ℕ → ExtenderTables) → s.work ≡ None →
      p.During (opened_by p.there js) s.bridge (bridge_after j s.bridge) s.held → RunsAt all left (p.laid (opened_by p.there js) s.held) →
      RunsAt (p.laid (opened_by p.there js) s.held) x.cleanup (p.laid (opened_by p.there js) (release x s.held)) →
      p.Exact (opened_by p.there js) (bridge_after j s.bridge) (release x s.held) → AllFit p js → (before : Held) (were : ℕ → Bool) → p.Exact were s.bridge before →
      Keeps before s.held → all ≡ p.laid were before → AllAdd left → AllClear x.cleanup → opens j were ≡ opened_by p.there js → AreFew (opened_by p.there js) left →
      AreFew (opened_by p.there js) x.cleanup → StandsBy p (prepares j x left s).state.work (prepares j x left s).state js all None
  prepares_stands j x [] s js all n d r q e f before were had kept begun add clear now asks last =
      cleans_stands j x x.cleanup (record s { bridge = bridge_after j s.bridge }) js all s.bridge n d refl
      (subst (λ (u : ℕ → ExtenderTables). RunsAt u x.cleanup (p.laid (opened_by p.there js) (release x s.held))) (sym r) q) e f before were had kept r clear now last last
  prepares_stands j x (a ∷ more) s js all n d r q e f before were had kept begun add clear now asks last =
      record {
        left = (r, q);
        old = s.bridge;
        bridge = refl;
        during = d;
        exact = e;
        fits = f;
        answers = tt;
        before = before;
        were = were;
        had = had;
        kept = kept;
        since = subst (λ (u : ℕ → ExtenderTables). AreWithin u all) begun (are_within all);
        kinds = (add, clear);
        now = now;
        asks = asks;
        last_asks = last;
      }

  module _ (decide : Decide) (plans : Plans p decide) where
    pub starts_stands : (j : Job) (d : Outcome) (s : State) (js : List Job) (all : ℕ → ExtenderTables) → s.work ≡ None → decide s.bridge s.held j ≡ d → Rests p s (j ∷ js) all →
        StandsBy p (starts j d s).state.work (starts j d s).state js all None
    starts_stands j (Refused cause) s js all n e r =
        let same : opened_by p.there (j ∷ js) ≡ opened_by p.there js = sym (plans.refused (opened_by p.there (j ∷ js)) s.bridge s.held j cause e) ∙ (r.fits.0).once in
        rw n (
          record { laid = r.laid ∙ ap (λ (o : ℕ → Bool). p.laid o s.held) same; exact = subst (λ (o : ℕ → Bool). p.Exact o s.bridge s.held) same r.exact; fits = r.fits.1 },
          refl,
        )
    starts_stands j (Ready x claimed) s js all n e r =
        let k : IsPlanned p (opened_by p.there (j ∷ js)) s.bridge s.held j x claimed = plans.ready (opened_by p.there (j ∷ js)) s.bridge s.held j x claimed r.exact (r.fits.0).fits e in
        let o : opens j (opened_by p.there (j ∷ js)) ≡ opened_by p.there js = (r.fits.0).once in
        prepares_stands j x x.prepare (record s { held = claimed }) js all n
        (subst (λ (o : ℕ → Bool). p.During o s.bridge (bridge_after j s.bridge) claimed) o k.during)
        (subst (λ (u : ℕ → ExtenderTables). RunsAt u x.prepare (p.laid (opened_by p.there js) claimed)) (sym r.laid) (subst (λ (o : ℕ → Bool). RunsAt (p.laid (opened_by p.there (j ∷ js)) s.held) x.prepare (p.laid o claimed)) o k.prepared))
        (subst (λ (o : ℕ → Bool). RunsAt (p.laid o claimed) x.cleanup (p.laid o (release x claimed))) o k.cleaned)
        (subst (λ (o : ℕ → Bool). p.Exact o (bridge_after j s.bridge) (release x claimed)) o k.exact)
        r.fits.1 s.held (opened_by p.there (j ∷ js)) r.exact k.kept r.laid k.adds k.clears o
        (subst (λ (m : ℕ → Bool). AreFew m x.prepare) o k.first_asks) (subst (λ (m : ℕ → Bool). AreFew m x.cleanup) o k.last_asks)

    -- nothing is on its way
    abbrev Good : Moved → (ℕ → ExtenderTables) → Type 0
    Good m all = StandsBy p m.state.work m.state m.state.queue all None

    after_start_stands : (m : Moved) (js : List Job) (all : ℕ → ExtenderTables) (onward : Moved) (o : Option Work) → m.state.work ≡ o → StandsBy p o m.state js all None →
        (m.state.work ≡ None → Rests p m.state js all → Good onward all) → Good (after_start js o m onward) all
    after_start_stands m js all onward None e h f = f e h.0
    after_start_stands m js all onward (Some w) e h f = rw e (record { left = h.left; old = h.old; bridge = h.bridge; during = h.during; exact = h.exact; fits = h.fits; answers = h.answers; before = h.before; were = h.were; had = h.had; kept = h.kept; since = h.since; kinds = h.kinds; now = h.now; asks = h.asks; last_asks = h.last_asks })

    -- the queue is worked on
    goes_on_stands : (js : List Job) (s : State) (all : ℕ → ExtenderTables) → s.work ≡ None → Rests p s js all → Good (goes_on decide js s) all
    unfolding goes_on
    goes_on_stands [] s all n r = rw n (record { laid = r.laid; exact = r.exact; fits = r.fits }, refl)
    goes_on_stands (j ∷ js) s all n r =
        elim (cases_Bool (waits s j)) [
          | inl w ↦ rw (w, n) (record { laid = r.laid; exact = r.exact; fits = r.fits }, refl)
          | inr w ↦
              rw w (
              let m : Moved = starts j (decide s.bridge s.held j) s in
              after_start_stands m js all (goes_on decide js m.state) m.state.work refl (starts_stands j (decide s.bridge s.held j) s js all n refl r)
              (λ e h. goes_on_stands js m.state all e h))
        ]

    pub wakes_stands : (o : Option Work) (s : State) (all : ℕ → ExtenderTables) (answer : Option Response) → s.work ≡ o → StandsBy p o s s.queue all answer →
        StandsBy p (wakes_by decide o s).state.work (wakes_by decide o s).state (wakes_by decide o s).state.queue all answer
    wakes_stands None s all answer e h = rw h.1 (goes_on_stands s.queue s all e h.0)
    wakes_stands (Some w) s all answer e h = subst (λ (o : Option Work). StandsBy p o s s.queue all answer) (sym e) h

    -- ---- the outstanding request
    -- it is executed: its code is 0
    pub execute_stands : (o : Option Work) (s : State) (all : ℕ → ExtenderTables) (answer : Option Response) → StandsBy p o s s.queue all answer →
        StandsBy p o s s.queue (executes o answer all) (answer_of o answer all) × (code_by o answer all ≡ 0)
    unfolding response_to
    execute_stands None s all answer h = (h, refl)
    execute_stands (Some w) s all (Some response) h = (h, refl)
    execute_stands (Some w) s all None h = by_phase w.phase refl
      where
        by_phase : (f : Phase) → w.phase ≡ f → Works p w s s.queue (executes (Some w) None all) (answer_of (Some w) None all) × (code_by (Some w) None all ≡ 0)
        by_phase Preparing e =
            let k = rw e at h.left in
            let z : code_of (all w.first.extender) w.first.request ≡ 0 = k.0.0 in
            let add : AllAdd (w.first ∷ w.rest) × AllClear w.change.cleanup = rw e at h.kinds in
            let begun : AreWithin (p.laid h.were h.before) all = rw e at h.since in (
              record {
                left = rw e (k.0.1, k.1);
                old = h.old;
                bridge = h.bridge;
                during = h.during;
                exact = h.exact;
                fits = h.fits;
                answers = (refl, z);
                before = h.before;
                were = h.were;
                had = h.had;
                kept = h.kept;
                since = rw e (within_on (p.laid h.were h.before) all (executes_at w.first.extender w.first.request all) begun (request_adds all w.first z add.0.0));
                kinds = h.kinds;
                now = h.now;
                asks = h.asks;
                last_asks = h.last_asks;
              },
              z,
            )
        by_phase Cleaning e =
            let k = rw e at h.left in
            let z : code_of (all w.first.extender) w.first.request ≡ 0 = k.0 in
            let clear : AllClear (w.first ∷ w.rest) = rw e at h.kinds in
            let claimed : AreWithin all (p.laid (opened_by p.there s.queue) s.held) = rw e at h.since in (
              record {
                left = rw e k.1;
                old = h.old;
                bridge = h.bridge;
                during = h.during;
                exact = h.exact;
                fits = h.fits;
                answers = (refl, z);
                before = h.before;
                were = h.were;
                had = h.had;
                kept = h.kept;
                since = rw e (within_on (executes_at w.first.extender w.first.request all) all (p.laid (opened_by p.there s.queue) s.held) (request_clears all w.first z clear.0) claimed);
                kinds = h.kinds;
                now = h.now;
                asks = h.asks;
                last_asks = h.last_asks;
              },
              z,
            )

    -- its answer is taken
    pub answered_stands : (o : Option Work) (s : State) (all : ℕ → ExtenderTables) (response : Response) → s.work ≡ o → StandsBy p o s s.queue all (Some response) →
        Good (answered_in decide o s) all
    answered_stands None s all response e h = absurd (let f : Some response ≡ None = h.1 in cc)
    answered_stands (Some w) s all response e h = by_phase w.phase w.rest refl refl
      where
        by_phase : (f : Phase) (left : List AskAt) → w.phase ≡ f → w.rest ≡ left → Good (answered_by decide w left s) all
        by_phase Preparing (a ∷ more) d g =
            let k = rw (d, g) at h.left in
            let kinds : AllAdd (w.first ∷ a ∷ more) × AllClear w.change.cleanup = rw (d, g) at h.kinds in
            record {
              left = rw d k;
              old = h.old;
              bridge = rw d (rw d at h.bridge);
              during = h.during;
              exact = h.exact;
              fits = h.fits;
              answers = tt;
              before = h.before;
              were = h.were;
              had = h.had;
              kept = h.kept;
              since = h.since;
              kinds = rw d (kinds.0.1, kinds.1);
              now = h.now;
              asks = rest_few (opened_by p.there s.queue) w.first a more (rw g at h.asks);
              last_asks = h.last_asks;
            }
        by_phase Cleaning (a ∷ more) d g =
            let k = rw (d, g) at h.left in
            let kinds : AllClear (w.first ∷ a ∷ more) = rw (d, g) at h.kinds in
            record {
              left = rw d k;
              old = h.old;
              bridge = rw d (rw d at h.bridge);
              during = h.during;
              exact = h.exact;
              fits = h.fits;
              answers = tt;
              before = h.before;
              were = h.were;
              had = h.had;
              kept = h.kept;
              since = h.since;
              kinds = rw d kinds.1;
              now = h.now;
              asks = rest_few (opened_by p.there s.queue) w.first a more (rw g at h.asks);
              last_asks = h.last_asks;
            }
        by_phase Preparing [] d g =
            let k = rw (d, g) at h.left in
            let kinds : AllAdd (w.first ∷ []) × AllClear w.change.cleanup = rw (d, g) at h.kinds in
            let x : Change = w.change in
            let b : s.bridge ≡ h.old = rw d at h.bridge in
            let c : State = record s { work = None; bridge = bridge_after w.job s.bridge } in
            let m : Moved = cleans w.job x x.cleanup c in
            rw d (wakes_stands m.state.work m.state all None refl
            (subst (λ (js : List Job). StandsBy p m.state.work m.state js all None) (same_queue x.cleanup c)
            (cleans_stands w.job x x.cleanup c s.queue all h.old refl h.during (ap (bridge_after w.job) b)
            (subst (λ (u : ℕ → ExtenderTables). RunsAt u x.cleanup (p.laid (opened_by p.there s.queue) (release x s.held))) (sym k.0) k.1) h.exact h.fits h.before h.were h.had h.kept k.0 kinds.1 h.now h.last_asks h.last_asks)))
          where
            same_queue : (left : List AskAt) (c : State) → c.queue ≡ (cleans w.job w.change left c).state.queue
            same_queue [] c = refl
            same_queue (a ∷ more) c = refl
        by_phase Cleaning [] d g =
            let k = rw (d, g) at h.left in
            let b : s.bridge ≡ bridge_after w.job h.old = rw d at h.bridge in
            rw d (goes_on_stands s.queue (ends w.change s) all refl
            (record { laid = k; exact = subst (λ (c : Bridge). p.Exact (opened_by p.there s.queue) c (release w.change s.held)) (sym b) h.exact; fits = h.fits }))
