-- Bounds on the tables at every moment: they lie within those where just what is held is laid.
use Rattle.std.proofs.Common.{◌≡◌, ◌≢◌, ◌⊎◌, ℕ, ◌+◌, ◌%◌, ◌<◌, ◌==◌, ◌&&◌, cond, Bool, true, List, [], ◌∷◌, Option, Some, None, refl, sym, ◌∙◌, ap, subst, arith, inl, inr, not, false}
use Rattle.std.specs.Prelude.{is_some}
use Rattle.std.proofs.lemmas.Bool.{cases_Bool, and_parts, or_cases, false≢true}
use Rattle.exb_model.specs.Tree.{Shape, IsTree, device, trunk, is_cascade, is_port}
use Rattle.exb_model.specs.TreeSets.{covers}
use Rattle.exb_model.specs.Configuration.{Bridge}
use Rattle.exb_csp.specs.declared.message.Response.{Response}
use Rattle.exb_csp.specs.Execution.{ExtenderTables}
use Rattle.exb_csp.specs.AllTables.{tables_at, port_of}
use Rattle.exb_csp.specs.declared.ask_at.AskAt.{AskAt}
use Rattle.exb_model.specs.Lists.{is_listed}
use Rattle.exb_control_spec.specs.Plans.HeldNumbers.{Held, channel_in, needs_channel, group_used}
use Rattle.exb_control_spec.specs.declared.job.Phase.{Phase}
use Rattle.exb_control_spec.specs.declared.job.Phase.TheVariants.{Preparing, Cleaning}
use Rattle.exb_control_spec.specs.Decisions.{channel_of}
use Rattle.exb_control_spec.specs.Machine.{Work}
use Rattle.exb_control_spec.specs.Runs.LaidTables.{is_shown, channel_pair, group_pair, laid_by, laid}
use Rattle.exb_control_spec.specs.Runs.Requests.{IsLaidOut}
use Rattle.exb_control_spec.proofs.Runs.EqualTables.{port_there, port_back}
use Rattle.exb_control_spec.proofs.Runs.ChannelRuns.{covers_none}
use Rattle.exb_control_spec.proofs.Runs.LaidTables.{rest_is_laid_out}
use Rattle.exb_control_spec.proofs.Runs.NeededChannels.{home_low, home_cascade}
use Rattle.exb_control_spec.specs.Runs.MonotoneRequests.{AreWithin, AllAdd}
use Rattle.exb_control_spec.specs.Runs.MachineInvariant.{Stands, StandsBy, InPhase, IsSince, AreKinds, RunsLeft, opened_by}
use Rattle.exb_control_spec.specs.Runs.PlannedChanges.{planning, IsExact}
use Rattle.exb_control_spec.specs.Runs.Systems.{System}
use Rattle.exb_control_spec.proofs.Runs.MonotoneRequests.{are_within, runs_add}
use Rattle.exb_flight.specs.Tree.{IsDeep}
use Rattle.exb_flight.specs.ChannelPaths.{BoundedMidway}
use Rattle.exb_flight.proofs.LaidRows.{laid_owns}

left_add : (answer : Option Response) (all end : ℕ → ExtenderTables) (first : AskAt) (rest : List AskAt) → RunsLeft answer all first rest end → AllAdd (first ∷ rest) → AreWithin all end
left_add None all end first rest r a = runs_add (first ∷ rest) all end r a
left_add (Some response) all end first rest r a = runs_add rest all end r a.1

-- the tables where just what is held is laid have all that the tables have
pub within_laid : (t : Shape) (y : System) → Stands (planning t) y → (opened : ℕ → Bool) × AreWithin y.tables (laid t opened y.state.held)
within_laid t y stands = by_work y.state.work stands.stands
  where
    by_work : (o : Option Work) → StandsBy (planning t) o y.state y.state.queue y.tables y.answer → (opened : ℕ → Bool) × AreWithin y.tables (laid t opened y.state.held)
    by_work None h =
        (opened_by (planning t).there y.state.queue, subst (λ (all : ℕ → ExtenderTables). AreWithin y.tables all) (h.0).laid (are_within y.tables))
    by_work (Some w) h = (opened_by (planning t).there y.state.queue, by_phase w.phase h.left h.since h.kinds)
      where
        by_phase : (f : Phase) → InPhase (planning t) f w (opened_by (planning t).there y.state.queue) y.answer y.tables y.state.held →
            IsSince f (laid t h.were h.before) y.tables (laid t (opened_by (planning t).there y.state.queue) y.state.held) → AreKinds f w.first w.rest w.change.cleanup →
            AreWithin y.tables (laid t (opened_by (planning t).there y.state.queue) y.state.held)
        by_phase Preparing left since kinds = left_add y.answer y.tables (laid t (opened_by (planning t).there y.state.queue) y.state.held) w.first w.rest left.0 kinds.0
        by_phase Cleaning left since kinds = since

-- ---- what is laid, port by port
module _ (t : Shape) (opened : ℕ → Bool) (h : Held) (q : ℕ) (at : IsDeep t q) where
  pub own_at : (tables_at (laid t opened h)).own q ≡ (laid_by t (is_shown t opened) h).own q
  own_at =
      ap (λ b. cond b ((laid_by t (is_shown t opened) h).own (port_of (device q) (q % 64 + 1))) 0) (port_there t q at.deep at.known)
      ∙ ap (laid_by t (is_shown t opened) h).own (port_back q)

  pub pair_at : (e : ℕ) → (tables_at (laid t opened h)).pair e q ≡ (laid_by t (is_shown t opened) h).pair e q
  pair_at e =
      ap (λ b. b && (laid_by t (is_shown t opened) h).pair e (port_of (device q) (q % 64 + 1))) (port_there t q at.deep at.known)
      ∙ ap ((laid_by t (is_shown t opened) h).pair e) (port_back q)

  pub kind_at : (tables_at (laid t opened h)).cascade q ≡ (laid_by t (is_shown t opened) h).cascade q
  kind_at =
      ap (λ b. b && (laid_by t (is_shown t opened) h).cascade (port_of (device q) (q % 64 + 1))) (port_there t q at.deep at.known)
      ∙ ap (laid_by t (is_shown t opened) h).cascade (port_back q)

  pub laid_channel : 0 < (tables_at (laid t opened h)).own q → channel_of t h q ≡ (tables_at (laid t opened h)).own q
  laid_channel some =
      elim (cases_Bool (is_shown t opened q)) [
        | inl e ↦ sym (own_at ∙ ap (λ b. cond b (channel_of t h q) 0) e)
        | inr e ↦
            let none : (tables_at (laid t opened h)).own q ≡ 0 = own_at ∙ ap (λ b. cond b (channel_of t h q) 0) e in
            absurd (omega (arith, none, some))
      ]

-- why a pair is laid
abbrev pub Laying : Shape → (ℕ → Bool) → Held → ℕ → ℕ → Type 0
Laying t shown h e q =
    ((r : ℕ) × (h.port (trunk t (device q)) e ≡ Some r) × (shown r ≡ true) × (covers t (λ x. x == r) q ≡ true))
    ⊎ (covers t (is_listed (h.set (trunk t (device q)) e)) q ≡ true)

pub laying : (t : Shape) (shown : ℕ → Bool) (h : Held) (e q : ℕ) → (laid_by t shown h).pair e q ≡ true → Laying t shown h e q
laying t shown h e q yes_it =
    elim (or_cases (channel_pair t shown q (h.port (trunk t (device q)) e)) (group_pair t q (h.set (trunk t (device q)) e)) yes_it) [
      | inl c ↦ inl (by_port (h.port (trunk t (device q)) e) refl c)
      | inr g ↦ inr g
    ]
  where
    by_port : (o : Option ℕ) → h.port (trunk t (device q)) e ≡ o → channel_pair t shown q o ≡ true →
        (r : ℕ) × (h.port (trunk t (device q)) e ≡ Some r) × (shown r ≡ true) × (covers t (λ x. x == r) q ≡ true)
    by_port None f c = absurd (false≢true c)
    by_port (Some r) f c = (let both = and_parts (shown r) (covers t (λ x. x == r) q) c in (r, f, both.0, both.1))

-- ---- at every moment
module _ (t : Shape) (y : System) (stands : Stands (planning t) y) (q : ℕ) (at : IsDeep t q) where
  bound : (opened : ℕ → Bool) × AreWithin y.tables (laid t opened y.state.held)
  bound = within_laid t y stands

  -- an own channel is the one that is held
  pub own_held : 0 < (tables_at y.tables).own q → channel_of t y.state.held q ≡ (tables_at y.tables).own q
  own_held some =
      let same : (tables_at (laid t bound.0 y.state.held)).own q ≡ (tables_at y.tables).own q = (bound.1 (device q)).own (q % 64 + 1) some in
      laid_channel t bound.0 y.state.held q at (subst (λ (x : ℕ). 0 < x) (sym same) some) ∙ same

  -- a number with a pair is held
  pub pair_held : (e : ℕ) → (tables_at y.tables).pair e q ≡ true → (y.state.held.port (trunk t (device q)) e ≢ None) ⊎ (y.state.held.set (trunk t (device q)) e ≢ [])
  pair_held e there =
      let more : (tables_at (laid t bound.0 y.state.held)).pair e q ≡ true = (bound.1 (device q)).pairs e (q % 64 + 1) there in
      elim (laying t (is_shown t bound.0) y.state.held e q (sym (pair_at t bound.0 y.state.held q at e) ∙ more)) [
        | inl c ↦ inl (λ none. some_none c.0 (sym c.1 ∙ none))
        | inr g ↦ inr (λ none. false≢true (sym (covers_none t q) ∙ (ap (λ (set : List ℕ). covers t (is_listed set) q) (sym none) ∙ g)))
      ]
    where
      some_none : (r : ℕ) → Some r ≡ None → ⊥
      some_none r e = cc

-- ---- at rest
-- where just what a configuration needs is laid, each port of a row has its channel
pub laid_channels : (t : Shape) → IsTree t → (opened : ℕ → Bool) (b : Bridge) (h : Held) → IsExact t opened b h → (e p : ℕ) → IsDeep t p →
    (tables_at (laid t opened h)).pair e p ≡ true → 0 < (tables_at (laid t opened h)).own p
laid_channels t valid opened b h exact e p at there =
    elim (laying t (is_shown t opened) h e p (sym (pair_at t opened h p at e) ∙ there)) [
      | inl c ↦
          let found : channel_in h k c.0 ≡ Some e = (exact.needed).one_channel k c.0 e low cascade c.1 in
          let needs : needs_channel t b k c.0 ≡ true = sym ((exact.needed).channels k c.0 low cascade) ∙ ap is_some found in
          laid_owns t valid (tables_at (laid t opened h)) k (λ x. x == c.0) (channel_of t h c.0) (out.channels k c.0 low cascade needs c.2) p at refl c.3
      | inr g ↦
          laid_owns t valid (tables_at (laid t opened h)) k (is_listed (h.set k e)) e (out.groups k e low cascade (used (h.set k e) refl g)) p at refl g
    ]
  where
    k : ℕ
    k = trunk t (device p)

    low : k < 64
    low = home_low t valid p at.deep at.known

    cascade : is_cascade t k ≡ true
    cascade = home_cascade t valid p at.deep at.known

    out : IsLaidOut t opened b h
    out = rest_is_laid_out t b h opened valid exact.needed exact.order

    used : (set : List ℕ) → h.set k e ≡ set → covers t (is_listed set) p ≡ true → group_used h k e ≡ true
    used [] f c = absurd (false≢true (sym (covers_none t p) ∙ c))
    used (x ∷ xs) f c = rw f refl

-- ---- all together
pub bounded_midway : BoundedMidway
bounded_midway s y stands =
    record {
      own = λ q at some. own_held s y stands q at some;
      pair = λ e q at there. pair_held s y stands q at e there;
      kind = λ q at ext some.
          let bound = within_laid s y stands in
          let same : (tables_at (laid s bound.0 y.state.held)).cascade q ≡ (tables_at y.tables).cascade q = (bound.1 (device q)).kinds (q % 64 + 1) some in
          sym same ∙ (kind_at s bound.0 y.state.held q at ∙ ap (λ (b : Bool). b && is_shown s bound.0 q) (not_cascade (is_cascade s q) (and_parts (is_port s q) (not (is_cascade s q)) ext).1));
    }
  where
    not_cascade : (c : Bool) → not c ≡ true → c ≡ false
    not_cascade true e = sym e
    not_cascade false e = refl
