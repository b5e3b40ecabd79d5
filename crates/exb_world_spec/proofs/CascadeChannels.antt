-- The plans of changes keep the channels of the ports on which extenders hang, and give no channel to a group.
use Rattle.std.proofs.Common.{◌≡◌, ℕ, ◌+◌, ◌-◌, ◌<◌, ◌≤◌, ◌==◌, ◌&&◌, nat_le, not, Bool, true, false, cond, List, [], ◌∷◌, Option, Some, None, refl, ap, ◌∙◌, subst, arith}
use Rattle.std.specs.Prelude.{is_some}
use Rattle.std.proofs.lemmas.Bool.{and_from, or_right, le-leb, eq-eqb, ne_eqb, false≢true}
use Rattle.exb_model.specs.declared.command.Command.TheVariants as command
use Rattle.exb_model.specs.declared.event.Cause.{Cause}
use Rattle.exb_model.specs.Tree.{Shape, IsTree, device, on, trunk, is_port, is_extender, is_cascade, is_cascade_under, is_under}
use Rattle.exb_model.specs.Setup.{Limits}
use Rattle.exb_model.specs.Configuration.{Bridge, after}
use Rattle.exb_model.specs.Refusals.{is_empty_set}
use Rattle.exb_model.proofs.TreeTrunks.{trunk-low}
use Rattle.exb_csp.specs.declared.message.Response.{Response}
use Rattle.exb_csp.specs.Execution.{ExtenderTables}
use Rattle.exb_control_spec.specs.declared.plan.change.Change.{Change}
use Rattle.exb_control_spec.specs.Plans.HeldNumbers.{Held, HoldsNeeded, channel_in, group_used, needs_channel, or_zero, free_group, give, give_all, group_for, numbered}
use Rattle.exb_control_spec.specs.Plans.Differences.{refusal_between, goes_up}
use Rattle.exb_control_spec.specs.Plans.Plans.{claimed, change_of, fresh_groups, with_up, with_channel, new_channel}
use Rattle.exb_control_spec.specs.Plans.Sets.{PortsAt}
use Rattle.exb_model.specs.LowestFree.{lowest_free}
use Rattle.exb_control_spec.proofs.Plans.Ranges.{IsFound, found}
use Rattle.exb_control_spec.proofs.Plans.ChannelOwners.{IsChannelOf, channel_found}
use Rattle.exb_control_spec.proofs.Plans.GroupOwners.{group_found}
use Rattle.exb_control_spec.proofs.Plans.Trunks.{hung_cascade}
use Rattle.exb_control_spec.specs.declared.job.Job.{Job}
use Rattle.exb_control_spec.specs.declared.job.Job.TheVariants as job
use Rattle.exb_control_spec.specs.declared.job.Phase.{Phase}
use Rattle.exb_control_spec.specs.declared.job.Phase.TheVariants.{Preparing, Cleaning}
use Rattle.exb_control_spec.specs.InitialState.{first_held, first_jobs}
use Rattle.exb_control_spec.specs.Decisions.{Ready, decide, release, outcome_by}
use Rattle.exb_control_spec.specs.Machine.{Work, State}
use Rattle.exb_control_spec.proofs.Claims.{trunk_cascade}
use Rattle.exb_control_spec.specs.Runs.Systems.{System}
use Rattle.exb_control_spec.specs.Runs.MonotoneRequests.{Keeps}
use Rattle.exb_control_spec.specs.Runs.MachineInvariant.{Plans, IsPlanned, Stands, StandsBy, Rests, AllFit, InPhase, opens}
use Rattle.exb_control_spec.specs.Runs.InitialSystem.{first_system}
use Rattle.exb_control_spec.specs.Runs.PlannedChanges.{IsSetting, planning, IsExact, HasBoth}
use Rattle.exb_control_spec.specs.Runs.InitialMachine.{MayBegin}
use Rattle.exb_control_spec.proofs.Runs.BothConfigurations.{released_kept}
use Rattle.exb_control_spec.proofs.Runs.PlannedChanges.{plans}
use Rattle.exb_control_spec.proofs.Runs.InitialMachine.{begins}
use Rattle.exb_world_spec.specs.Runs.CascadeChannels.{AreFirst, AreFixed, AreHigh, IsExactly, fixing}
use Rattle.exb_world_spec.proofs.Trunks.{trunk_above, hangs_there}

some_same : {x y : ℕ} → Some x ≡ Some y → x ≡ y
some_same e = cc

-- ---- groups have high numbers
pub needed_high : (t : Shape) (b : Bridge) (h : Held) → HoldsNeeded t b h → AreHigh t h
needed_high t b h needed k c low cascade some small = by_set (h.set k c) refl
  where
    by_set : (s : List ℕ) → h.set k c ≡ s → s ≡ []
    by_set [] e = refl
    by_set (x ∷ xs) e =
        let used : group_used h k c ≡ true = ap (λ (s : List ℕ). not (is_empty_set s)) e in
        let is = group_found h k (h.set k c) c (needed.one_group k c low cascade used) in
        absurd (omega (arith, is.low))

-- a number that a group gets is 0 or high
number_high : (used : ℕ → Bool) (n c : ℕ) → 0 < c → c < 4096 → (c == or_zero (lowest_free used 4096 n)) ≡ false
unfolding lowest_free
number_high used n c some small = by_option (lowest_free used 4096 n) refl
  where
    by_option : (o : Option ℕ) → lowest_free used 4096 n ≡ o → (c == or_zero o) ≡ false
    by_option None e = ne_eqb c 0 (λ z. omega arith)
    by_option (Some m) e = let is : IsFound (λ i. not (used i)) 4096 n m = found (λ i. not (used i)) 4096 n m e in ne_eqb c m (λ z. omega (arith, is.low))

given_high : (t : Shape) (groups : ℕ) (sets : List PortsAt) (h : Held) → AreHigh t h → AreHigh t (give_all (numbered groups h sets) h)
unfolding give_all numbered
given_high t groups [] h high = high
given_high t groups (s ∷ sets) h high =
    given_high t groups sets (give (group_for groups h s) h) (λ k c low cascade some small.
    let e : (c == free_group groups h (s.bridge_port - 1)) ≡ false = number_high (group_used h (s.bridge_port - 1)) groups c some small in
    by_place (k + 1 == s.bridge_port) (c == free_group groups h (s.bridge_port - 1)) s.ports (h.set k c) e (high k c low cascade some small))
  where
    by_place : (a b : Bool) (x y : List ℕ) → b ≡ false → y ≡ [] → cond (a && b) x y ≡ []
    by_place true b x y e f = rw e f
    by_place false b x y e f = f

claimed_high : (t : Shape) (l : Limits) (old new : Bridge) (h : Held) → AreHigh t h → AreHigh t (claimed t l old new h)
unfolding claimed fresh_groups
claimed_high t l old new h high = given_high t l.groups _ (with_up t l old new h) (by_up (goes_up t old new))
  where
    by_up : (o : Option ℕ) → AreHigh t (with_channel t (new_channel t l h o) o h)
    by_up None = high
    by_up (Some p) = high

-- what is claimed for a job
decided_high : (t : Shape) (l : Limits) (b : Bridge) (h : Held) (j : Job) (x : Change) (g : Held) → decide t l b h j ≡ Ready x g → AreHigh t h → AreHigh t g
unfolding decide
decided_high t l b h (job.Opening n) x g e high = let same : h ≡ g = cc in subst (AreHigh t) same high
decided_high t l b h (job.AutomaticUp p) x g e high = between_high (after (command.Up p) b) (refusal_between t l b (after (command.Up p) b)) e
  where
    between_high : (new : Bridge) (o : Option Cause) → outcome_by o (change_of t l b new h) (claimed t l b new h) ≡ Ready x g → AreHigh t g
    between_high new None e = let same : claimed t l b new h ≡ g = cc in subst (AreHigh t) same (claimed_high t l b new h high)
    between_high new (Some cause) e = absurd (cc)
decided_high t l b h (job.Ordered n c) x g e high = between_high (after c b) (refusal_between t l b (after c b)) e
  where
    between_high : (new : Bridge) (o : Option Cause) → outcome_by o (change_of t l b new h) (claimed t l b new h) ≡ Ready x g → AreHigh t g
    between_high new None e = let same : claimed t l b new h ≡ g = cc in subst (AreHigh t) same (claimed_high t l b new h high)
    between_high new (Some cause) e = absurd (cc)

-- ---- channels stay
-- the space above an extender that hangs on another one
pub trunk_is_cascade : (t : Shape) → IsTree t → (n : ℕ) → is_extender t n ≡ true → 64 ≤ on t n → is_cascade t (trunk t n) ≡ true
trunk_is_cascade t tree n there deep =
    let top = hangs_there t n there in
    subst (λ (k : ℕ). is_cascade t k ≡ true) (trunk_above t tree n there deep) (trunk_cascade t tree (on t n) deep (tree.on_port n top.extender top.there))

-- a port on which an extender hangs needs its channel
needs_it : (t : Shape) → IsTree t → (b : Bridge) (n : ℕ) → is_extender t n ≡ true → 64 ≤ on t n → needs_channel t b (trunk t n) (on t n) ≡ true
needs_it t tree b n there deep =
    let q : ℕ = on t n in
    let top = hangs_there t n there in
    let known : is_port t q ≡ true = tree.on_port n top.extender top.there in
    let cascade : is_cascade t q ≡ true = hung_cascade t tree n q top in
    let under : is_cascade_under t (trunk t n) q ≡ true =
    and_from (nat_le 64 q && is_port t q && is_cascade t q) (trunk t (device q) == trunk t n)
    (and_from (nat_le 64 q && is_port t q) (is_cascade t q) (and_from (nat_le 64 q) (is_port t q) (le-leb 64 q deep) known) cascade) (eq-eqb (trunk t (device q)) (trunk t n) (trunk_above t tree n there deep))
    in
    or_right (is_under t (trunk t n) q && b.present q) (is_cascade_under t (trunk t n) q) under

has_some : (o : Option ℕ) → is_some o ≡ true → (c : ℕ) × (o ≡ Some c)
has_some None e = absurd (false≢true e)
has_some (Some c) e = (c, refl)

-- so it has one where just what is needed is held
pub needed_first : (t : Shape) → IsTree t → (b : Bridge) (h : Held) → HoldsNeeded t b h → AreFirst t h
needed_first t tree b h needed n there deep =
    let c = has_some (channel_in h (trunk t n) (on t n)) (needed.channels (trunk t n) (on t n) (trunk-low t tree n there) (trunk_is_cascade t tree n there deep) ∙ needs_it t tree b n there deep) in
    let is : IsChannelOf h (trunk t n) (on t n) c.0 = channel_found h (trunk t n) (on t n) c.0 c.1 in
    (c.0, is.low, is.is)

-- what is claimed keeps it
kept_fixed : (t : Shape) (f h g : Held) → Keeps h g → AreFixed t f h → AreFixed t f g
kept_fixed t f h g keeps fixed n channel there deep some e = keeps.ports (trunk t n) channel (on t n) some (fixed n channel there deep some e)

-- and what is left at the end of a change, since the port needs one and has just one
left_fixed : (t : Shape) → IsTree t → (f h : Held) (x : Change) (b : Bridge) → ((k c d p : ℕ) → k < 64 → is_cascade t k ≡ true → h.port k c ≡ Some p → h.port k d ≡ Some p → c ≡ d) →
    HoldsNeeded t b (release x h) → AreFixed t f h → AreFixed t f (release x h)
left_fixed t tree f h x b ones needed fixed n channel there deep some e =
    let mine = needed_first t tree b (release x h) needed n there deep in
    let low : trunk t n < 64 = trunk-low t tree n there in
    let cascade : is_cascade t (trunk t n) ≡ true = trunk_is_cascade t tree n there deep in
    let before : h.port (trunk t n) mine.0 ≡ Some (on t n) = (released_kept x h).ports (trunk t n) mine.0 (on t n) mine.1 mine.2 in
    let same : mine.0 ≡ channel = ones (trunk t n) mine.0 channel (on t n) low cascade before (fixed n channel there deep some e) in
    subst (λ (c : ℕ). (release x h).port (trunk t n) c ≡ Some (on t n)) same mine.2

-- ---- the plans
module _ (t : Shape) (l : Limits) (setting : IsSetting t l) where
  fixing_ready : (opened : ℕ → Bool) (b : Bridge) (h : Held) (j : Job) (x : Change) (g : Held) → IsExactly t (first_held t l) opened b h → (planning t).Fits opened j → decide t l b h j ≡ Ready x g → IsPlanned (fixing t l) opened b h j x g
  fixing_ready opened b h j x g exact fits e =
      let k : IsPlanned (planning t) opened b h j x g = (plans t l setting).ready opened b h j x g exact.exact fits e in
      let left : IsExact t (opens j opened) (Rattle.exb_control_spec.specs.Decisions.bridge_after j b) (release x g) = k.exact in
      let during : HasBoth t (opens j opened) b (Rattle.exb_control_spec.specs.Decisions.bridge_after j b) g = k.during in
      let fixed : AreFixed t (first_held t l) g = kept_fixed t (first_held t l) h g k.kept exact.fixed in
      record {
        prepared = k.prepared;
        cleaned = k.cleaned;
        exact = record { exact = left; first = exact.first; fixed = left_fixed t setting.tree (first_held t l) g x (Rattle.exb_control_spec.specs.Decisions.bridge_after j b) during.one_channel left.needed fixed };
        during = record { both = during; fixed = fixed; high = decided_high t l b h j x g e (needed_high t b h exact.exact.needed) };
        adds = k.adds;
        clears = k.clears;
        kept = k.kept;
        first_asks = k.first_asks;
        last_asks = k.last_asks;
      }

  pub fixing_plans : Plans (fixing t l) (decide t l)
  fixing_plans = record { ready = fixing_ready; refused = (plans t l setting).refused }

-- ---- what stands
module _ (t : Shape) (l : Limits) where
  fit_back : (js : List Job) → AllFit (fixing t l) js → AllFit (planning t) js
  fit_back [] all = all
  fit_back (j ∷ js) all = (record { fits = (all.0).fits; once = (all.0).once }, fit_back js all.1)

  fit_on : (js : List Job) → AllFit (planning t) js → AllFit (fixing t l) js
  fit_on [] all = all
  fit_on (j ∷ js) all = (record { fits = (all.0).fits; once = (all.0).once }, fit_on js all.1)

  phase_back : (q : Phase) (w : Work) (opened : ℕ → Bool) (answer : Option Response) (all : ℕ → ExtenderTables) (g : Held) → InPhase (fixing t l) q w opened answer all g → InPhase (planning t) q w opened answer all g
  phase_back Preparing w opened answer all g k = k
  phase_back Cleaning w opened answer all g k = k

  by_work : (o : Option Work) (s : State) (js : List Job) (all : ℕ → ExtenderTables) (answer : Option Response) → StandsBy (fixing t l) o s js all answer → StandsBy (planning t) o s js all answer
  by_work None s js all answer h = (record { laid = (h.0).laid; exact = ((h.0).exact).exact; fits = fit_back js (h.0).fits }, h.1)
  by_work (Some w) s js all answer h =
      record {
        left = phase_back w.phase w _ answer all s.held h.left;
        old = h.old;
        bridge = h.bridge;
        during = (h.during).both;
        exact = (h.exact).exact;
        fits = fit_back js h.fits;
        answers = h.answers;
        before = h.before;
        were = h.were;
        had = (h.had).exact;
        kept = h.kept;
        since = h.since;
        kinds = h.kinds;
        now = h.now;
        asks = h.asks;
        last_asks = h.last_asks;
      }

  -- what stands by these plans stands by those of the machine
  pub forget : (y : System) → Stands (fixing t l) y → Stands (planning t) y
  forget y stands = record { stands = by_work y.state.work y.state y.state.queue y.tables y.answer stands.stands; waits = stands.waits }

  -- what is then known of the channels
  pub record IsFixedNow (h : Held) : Type 0 where
    pub first : AreFirst t (first_held t l)
    pub fixed : AreFixed t (first_held t l) h
    pub high : AreHigh t h

  pub fixed_now : (y : System) → Stands (fixing t l) y → IsFixedNow y.state.held
  fixed_now y stands = of_work y.state.work y.state y.state.queue y.tables y.answer stands.stands
    where
      of_work : (o : Option Work) (s : State) (js : List Job) (all : ℕ → ExtenderTables) (answer : Option Response) → StandsBy (fixing t l) o s js all answer → IsFixedNow s.held
      of_work None s js all answer h = (let x = (h.0).exact in record { first = x.first; fixed = x.fixed; high = needed_high t s.bridge s.held x.exact.needed })
      of_work (Some w) s js all answer h = record { first = (h.exact).first; fixed = (h.during).fixed; high = (h.during).high }

-- as it begins
pub fixing_begins : (t : Shape) (l : Limits) (b : Bridge) → IsSetting t l → MayBegin t l b → Stands (fixing t l) (first_system t l b)
fixing_begins t l b setting may =
    let k : Stands (planning t) (first_system t l b) = begins t l b setting may in
    let r : Rests (planning t) (first_system t l b).state (first_jobs t) (first_system t l b).tables = (k.stands).0 in
    let exact : IsExact t _ b (first_held t l) = r.exact in
    record {
      stands = (
        record {
          laid = r.laid;
          exact = record { exact = exact; first = needed_first t setting.tree b (first_held t l) exact.needed; fixed = λ n c there deep some e. e };
          fits = fit_on t l (first_jobs t) r.fits;
        },
        (k.stands).1,
      );
      waits = k.waits;
    }
