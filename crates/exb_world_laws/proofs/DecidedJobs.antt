-- What the journal tells of jobs stands where refusals say, and each job is decided once.
use Rattle.std.proofs.Common.{◌≡◌, ℕ, ◌++◌, List, [], ◌∷◌, Option, Some, None, refl, sym, ◌∙◌, ap, subst}
use Rattle.std.specs.Prelude.{IsSomeAnd}
use Rattle.exb_model.specs.declared.command.Command.{Command}
use Rattle.exb_model.specs.declared.command.Command.TheVariants as command
use Rattle.exb_model.specs.declared.event.Cause.{Cause}
use Rattle.exb_model.specs.declared.event.Event.{Event}
use Rattle.exb_model.specs.declared.event.Event.TheVariants as event
use Rattle.exb_model.specs.Tree.{Shape}
use Rattle.exb_model.specs.Setup.{Limits}
use Rattle.exb_model.specs.Configuration.{Bridge, after}
use Rattle.exb_model.specs.History.{Basis, History, ◌then◌, after_any, bridge_after}
use Rattle.exb_model.specs.Refusals.{refusal}
use Rattle.exb_model.specs.LegalHistory.{EachEvent, IsDecided}
use Rattle.exb_control_spec.specs.declared.job.Job.{Job}
use Rattle.exb_control_spec.specs.declared.job.Job.TheVariants as job
use Rattle.exb_control_spec.specs.Runs.Journal.{cause_of, told_by, kept_by, told, kept}
use Rattle.exb_world_spec.specs.Runs.Simulation.{jobs_in}
use Rattle.exb_flight.specs.FlightFacts.{IsOf, AreOf}
use Rattle.exb_world_laws.specs.OneBridge.{IsRisen}
use Rattle.exb_world_laws.proofs.LongerHistories.{HasCommand}

-- ---- where the events of jobs stand
-- An event of a job stands by what is refused, and one of a command is of a command that was given.
pub record IsJust (t : Shape) (l : Limits) (i : Basis) (h : History) (e : Event) : Type 0 where
  pub decided : IsDecided t l i h e
  pub risen : IsRisen t l i h e
  pub has : HasCommand i e

pub record AreJust (t : Shape) (l : Limits) (i : Basis) (h : History) (b : Bridge) : Type 0 where
  pub bridge : bridge_after i h ≡ b
  pub each : EachEvent (IsJust t l i) h

module _ (t : Shape) (l : Limits) (i : Basis) where
  -- jobs of which nothing is told leave the configuration
  told_none : (ds : List Job) (b : Bridge) → told t l b ds ≡ [] → kept t l b ds ≡ b
  told_none [] b e = refl
  told_none (job.Opening n ∷ ds) b e = told_none ds b e
  told_none (job.AutomaticUp p ∷ ds) b e = by_cause (cause_of t l b (job.AutomaticUp p)) e
    where
      by_cause : (o : Option Cause) → told_by (job.AutomaticUp p) o ++ told t l (kept_by (job.AutomaticUp p) b o) ds ≡ [] → kept t l (kept_by (job.AutomaticUp p) b o) ds ≡ b
      by_cause None z = absurd (cc)
      by_cause (Some x) z = absurd (cc)
  told_none (job.Ordered n c ∷ ds) b e = by_cause (cause_of t l b (job.Ordered n c)) e
    where
      by_cause : (o : Option Cause) → told_by (job.Ordered n c) o ++ told t l (kept_by (job.Ordered n c) b o) ds ≡ [] → kept t l (kept_by (job.Ordered n c) b o) ds ≡ b
      by_cause None z = absurd (cc)
      by_cause (Some x) z = absurd (cc)

  -- the job of the first event, and what is told after it
  record First (e : Event) (more : List Event) (ds : List Job) (b : Bridge) : Type 0 where
    job : Job
    rest : List Job
    of : IsOf i job
    all : AreOf i rest
    tells : told_by job (cause_of t l b job) ≡ e ∷ []
    after : more ≡ told t l (kept_by job b (cause_of t l b job)) rest
    keeps : kept t l b ds ≡ kept t l (kept_by job b (cause_of t l b job)) rest

  first_of : (e x : Event) (more : List Event) (j : Job) (js : List Job) (b : Bridge) → IsOf i j → AreOf i js → told_by j (cause_of t l b j) ≡ x ∷ [] →
      e ∷ more ≡ told t l b (j ∷ js) → First e more (j ∷ js) b
  first_of e x more j js b of all one eq =
      let rest : List Event = told t l (kept_by j b (cause_of t l b j)) js in
      let both : e ∷ more ≡ x ∷ rest = eq ∙ ap (λ (xs : List Event). xs ++ rest) one in
      record { job = j; rest = js; of = of; all = all; tells = one ∙ ap (λ (y : Event). y ∷ []) (sym (same_first both)); after = same_rest both; keeps = refl }
    where
      same_first : {y z : Event} {ys zs : List Event} → y ∷ ys ≡ z ∷ zs → y ≡ z
      same_first q = cc

      same_rest : {y z : Event} {ys zs : List Event} → y ∷ ys ≡ z ∷ zs → ys ≡ zs
      same_rest q = cc

  one_told : (j : Job) (o : Option Cause) → ((n : ℕ) → j ≡ job.Opening n → ⊥) → (x : Event) × (told_by j o ≡ x ∷ [])
  one_told (job.Opening n) o never = absurd (never n refl)
  one_told (job.AutomaticUp p) None never = (event.Up p, refl)
  one_told (job.AutomaticUp p) (Some x) never = (event.NoUp p x, refl)
  one_told (job.Ordered n c) None never = (event.Commit n, refl)
  one_told (job.Ordered n c) (Some x) never = (event.Refuse n x, refl)

  job_first : (e : Event) (more : List Event) (ds : List Job) (b : Bridge) → AreOf i ds → e ∷ more ≡ told t l b ds → First e more ds b
  job_first e more [] b all eq = absurd (cc)
  job_first e more (job.Opening n ∷ ds) b all eq =
      let k = job_first e more ds b all.1 eq in
      record { job = k.job; rest = k.rest; of = k.of; all = k.all; tells = k.tells; after = k.after; keeps = k.keeps }
  job_first e more (job.AutomaticUp p ∷ ds) b all eq =
      let one = one_told (job.AutomaticUp p) (cause_of t l b (job.AutomaticUp p)) (λ n z. cc) in
      first_of e one.0 more (job.AutomaticUp p) ds b all.0 all.1 one.1 eq
  job_first e more (job.Ordered m c ∷ ds) b all eq =
      let one = one_told (job.Ordered m c) (cause_of t l b (job.Ordered m c)) (λ n z. cc) in
      first_of e one.0 more (job.Ordered m c) ds b all.0 all.1 one.1 eq

  -- so the event is just, and leaves the configuration that its job leaves
  record Justly (h : History) (e : Event) (b : Bridge) : Type 0 where
    just : IsJust t l i h e
    bridge : bridge_after i (e ∷ h) ≡ b

  justly : (h : History) (e : Event) (j : Job) (o : Option Cause) (b : Bridge) → IsOf i j → bridge_after i h ≡ b → cause_of t l b j ≡ o → told_by j o ≡ e ∷ [] → Justly h e (kept_by j b o)
  unfolding bridge_after
  justly h e (job.Opening n) None b of is cause tells = absurd (cc)
  justly h e (job.Opening n) (Some x) b of is cause tells = absurd (cc)
  justly h e (job.AutomaticUp p) None b of is cause tells =
      subst (λ (x : Event). Justly h x (after (command.Up p) b)) (same tells)
      (let r : bridge_after i (event.Up p ∷ h) ≡ after (command.Up p) b = up_after is in
      record { just = record { decided = tt; risen = ap (λ (k : Bridge). refusal t l k (command.Up p)) is ∙ cause; has = tt }; bridge = r })
    where
      same : {x y : Event} → x ∷ [] ≡ y ∷ [] → x ≡ y
      same q = cc

      up_after : bridge_after i h ≡ b → bridge_after i (event.Up p ∷ h) ≡ after (command.Up p) b
      up_after q = ap (after (command.Up p)) q
  justly h e (job.AutomaticUp p) (Some x) b of is cause tells =
      subst (λ (y : Event). Justly h y b) (same tells)
      (let r : bridge_after i (event.NoUp p x ∷ h) ≡ b = stays is in
      record { just = record { decided = tt; risen = ap (λ (k : Bridge). refusal t l k (command.Up p)) is ∙ cause; has = tt }; bridge = r })
    where
      same : {x y : Event} → x ∷ [] ≡ y ∷ [] → x ≡ y
      same q = cc

      stays : bridge_after i h ≡ b → bridge_after i (event.NoUp p x ∷ h) ≡ b
      stays q = q
  justly h e (job.Ordered n c) None b of is cause tells =
      subst (λ (y : Event). Justly h y (after c b)) (same tells)
      (let r : bridge_after i (event.Commit n ∷ h) ≡ after c b = commits is in
      record {
        just = record {
          decided = subst (λ (o : Option Command). IsSomeAnd o (λ d. refusal t l (bridge_after i h) d ≡ None)) (sym of) (ap (λ (k : Bridge). refusal t l k c) is ∙ cause);
          risen = tt;
          has = (c, of);
        };
        bridge = r;
      })
    where
      same : {x y : Event} → x ∷ [] ≡ y ∷ [] → x ≡ y
      same q = cc

      commits : bridge_after i h ≡ b → bridge_after i (event.Commit n ∷ h) ≡ after c b
      commits q = ap (λ (o : Option Command). after_any o (bridge_after i h)) of ∙ ap (after c) q
  justly h e (job.Ordered n c) (Some x) b of is cause tells =
      subst (λ (y : Event). Justly h y b) (same tells)
      (let r : bridge_after i (event.Refuse n x ∷ h) ≡ b = stays is in
      record {
        just = record {
          decided = subst (λ (o : Option Command). IsSomeAnd o (λ d. refusal t l (bridge_after i h) d ≡ Some x)) (sym of) (ap (λ (k : Bridge). refusal t l k c) is ∙ cause);
          risen = tt;
          has = (c, of);
        };
        bridge = r;
      })
    where
      same : {x y : Event} → x ∷ [] ≡ y ∷ [] → x ≡ y
      same q = cc

      stays : bridge_after i h ≡ b → bridge_after i (event.Refuse n x ∷ h) ≡ b
      stays q = q

  -- ---- a journal
  -- another event leaves the configuration
  stays : (h : History) (e : Event) (b : Bridge) → jobs_in (e ∷ []) ≡ [] → AreJust t l i h b → AreJust t l i (e ∷ h) b
  unfolding bridge_after
  stays h (event.Relay p n moment f) b other k = record { bridge = k.bridge; each = (k.each, record { decided = tt; risen = tt; has = tt }) }
  stays h (event.Ignored p n) b other k = record { bridge = k.bridge; each = (k.each, record { decided = tt; risen = tt; has = tt }) }
  stays h (event.Tick seconds) b other k = record { bridge = k.bridge; each = (k.each, record { decided = tt; risen = tt; has = tt }) }
  stays h event.Settled b other k = record { bridge = k.bridge; each = (k.each, record { decided = tt; risen = tt; has = tt }) }
  stays h (event.Commit n) b other k = absurd (cc)
  stays h (event.Refuse n x) b other k = absurd (cc)
  stays h (event.Up p) b other k = absurd (cc)
  stays h (event.NoUp p x) b other k = absurd (cc)

  -- a job's event, and then the rest
  job_next : (e : Event) (es : List Event) (ds : List Job) (b : Bridge) (h : History) → AreJust t l i h b → First e (jobs_in es) ds b →
      ((rest : List Job) (c : Bridge) → AreOf i rest → jobs_in es ≡ told t l c rest → AreJust t l i (e ∷ h) c → AreJust t l i ((e ∷ h) then es) (kept t l c rest)) →
      AreJust t l i ((e ∷ h) then es) (kept t l b ds)
  job_next e es ds b h k first next =
      let c : Bridge = kept_by first.job b (cause_of t l b first.job) in
      let j = justly h e first.job (cause_of t l b first.job) b first.of k.bridge refl first.tells in
      let just : AreJust t l i (e ∷ h) c = record { bridge = j.bridge; each = (k.each, j.just) } in
      subst (AreJust t l i ((e ∷ h) then es)) (sym first.keeps) (next first.rest c first.all first.after just)

  -- From a history on, events whose jobs are these leave what the jobs leave.
  pub journal_just : (es : List Event) (ds : List Job) (b : Bridge) (h : History) → AreOf i ds → jobs_in es ≡ told t l b ds → AreJust t l i h b → AreJust t l i (h then es) (kept t l b ds)
  journal_just [] ds b h all eq k = subst (AreJust t l i h) (sym (told_none ds b (sym eq))) k
  journal_just (event.Relay p n moment f ∷ es) ds b h all eq k = journal_just es ds b (event.Relay p n moment f ∷ h) all eq (stays h (event.Relay p n moment f) b refl k)
  journal_just (event.Ignored p n ∷ es) ds b h all eq k = journal_just es ds b (event.Ignored p n ∷ h) all eq (stays h (event.Ignored p n) b refl k)
  journal_just (event.Tick seconds ∷ es) ds b h all eq k = journal_just es ds b (event.Tick seconds ∷ h) all eq (stays h (event.Tick seconds) b refl k)
  journal_just (event.Settled ∷ es) ds b h all eq k = journal_just es ds b (event.Settled ∷ h) all eq (stays h event.Settled b refl k)
  journal_just (event.Commit n ∷ es) ds b h all eq k = job_next (event.Commit n) es ds b h k (job_first (event.Commit n) (jobs_in es) ds b all eq)
      (λ rest c of after just. journal_just es rest c (event.Commit n ∷ h) of after just)
  journal_just (event.Refuse n x ∷ es) ds b h all eq k = job_next (event.Refuse n x) es ds b h k (job_first (event.Refuse n x) (jobs_in es) ds b all eq)
      (λ rest c of after just. journal_just es rest c (event.Refuse n x ∷ h) of after just)
  journal_just (event.Up p ∷ es) ds b h all eq k = job_next (event.Up p) es ds b h k (job_first (event.Up p) (jobs_in es) ds b all eq)
      (λ rest c of after just. journal_just es rest c (event.Up p ∷ h) of after just)
  journal_just (event.NoUp p x ∷ es) ds b h all eq k = job_next (event.NoUp p x) es ds b h k (job_first (event.NoUp p x) (jobs_in es) ds b all eq)
      (λ rest c of after just. journal_just es rest c (event.NoUp p x ∷ h) of after just)
