-- What the tables carry, also in the middle of a change.
use Rattle.std.proofs.Common.{◌≡◌, ◌≢◌, ℕ, ◌+◌, ◌%◌, ◌<◌, ◌==◌, not, Bool, true, false, List, ◌∷◌, Option, Some, None, refl, sym, ◌∙◌, ap, subst}
use Rattle.std.specs.Prelude.{is_some, bytes_eq}
use Rattle.std.specs.List.{list_any}
use Rattle.std.proofs.lemmas.Bool.{and_parts, false≢true, false_from_ne_true}
use Rattle.exb_model.specs.Tree.{Shape, IsTree, device, trunk, is_extender, is_cascade, is_port, is_under}
use Rattle.exb_model.specs.TreeSets.{covers}
use Rattle.exb_model.specs.Configuration.{Bridge}
use Rattle.exb_model.specs.Refusals.{is_empty_set, sets_at}
use Rattle.exb_control_spec.specs.Plans.LaidRows.{is_port_under, SendsOn, IsLaid}
use Rattle.exb_csp.specs.Execution.{ExtenderTables}
use Rattle.exb_csp.specs.AllTables.{tables_at}
use Rattle.exb_model.specs.Lists.{is_listed}
use Rattle.exb_model.specs.Numbers.{IsReady}
use Rattle.exb_control_spec.specs.Plans.HeldNumbers.{Held, or_zero, needs_channel, channel_in, group_in, group_used, numbers_in}
use Rattle.exb_control_spec.proofs.Plans.GroupOwners.{IsGroupOf, group_found}
use Rattle.exb_control_spec.proofs.Plans.ChannelOwners.{IsChannelOf, channel_found}
use Rattle.exb_control_spec.proofs.Plans.Trunks.{under_extended, under_trunk, home_low, home_cascade, extended_external}
use Rattle.exb_control_spec.specs.Runs.LaidTables.{is_shown, laid}
use Rattle.exb_control_spec.specs.Runs.Requests.{IsLaidOut}
use Rattle.exb_control_spec.proofs.Runs.LaidTables.{rest_is_laid_out}
use Rattle.exb_csp.specs.declared.ask_at.AskAt.{AskAt}
use Rattle.exb_csp.specs.declared.message.Response.{Response}
use Rattle.exb_control_spec.specs.declared.job.Phase.{Phase}
use Rattle.exb_control_spec.specs.declared.job.Phase.TheVariants.{Preparing, Cleaning}
use Rattle.exb_control_spec.specs.Machine.{Work}
use Rattle.exb_control_spec.specs.Decisions.{channel_of, bridge_after, release}
use Rattle.exb_control_spec.specs.Runs.MonotoneRequests.{AreWithin, AllAdd, AllClear, Keeps}
use Rattle.exb_control_spec.specs.Runs.MachineInvariant.{opened_by, RunsLeft, InPhase, IsBefore, IsSince, AreKinds, StandsBy}
use Rattle.exb_control_spec.proofs.Runs.MonotoneRequests.{runs_add, runs_clear}
use Rattle.exb_control_spec.specs.Runs.PlannedChanges.{IsExact, planning}
use Rattle.exb_control_spec.specs.Runs.TablesMidChange.{IsLaidFor, LaidMidway}
use Rattle.exb_control_spec.proofs.Runs.BothConfigurations.{set_cascade, needed_numbers, released_kept}

-- ---- between tables
module _ (t : Shape) (low all high : ℕ → ExtenderTables) (under : AreWithin low all) (over : AreWithin all high) where
  same_own : (q : ℕ) → 0 < (tables_at low).own q → (tables_at all).own q ≡ (tables_at low).own q
  same_own q some = (under (device q)).own (q % 64 + 1) some

  same_kind : (q : ℕ) → 0 < (tables_at low).own q → (tables_at all).cascade q ≡ (tables_at low).cascade q
  same_kind q some = (under (device q)).kinds (q % 64 + 1) some

  -- rows that both have are there
  laid_between : (k g : ℕ) (set : ℕ → Bool) → IsLaid t (tables_at low) k set g → IsLaid t (tables_at high) k set g → IsLaid t (tables_at all) k set g
  laid_between k g set a b =
      record {
        rows = λ p u. rows_are p u (covers t set p) refl;
        ways = λ p u c s. (
            let w : SendsOn (tables_at low) g p = a.ways p u c s in
            record {
              kind = same_kind p w.channel ∙ w.kind;
              channel = subst (λ (n : ℕ). 0 < n) (sym (same_own p w.channel)) w.channel;
              other = subst (λ (n : ℕ). n ≢ g) (sym (same_own p w.channel)) w.other;
            });
        kinds = λ p s. same_kind p (a.channels p s) ∙ a.kinds p s;
        channels = λ p s. subst (λ (n : ℕ). 0 < n) (sym (same_own p (a.channels p s))) (a.channels p s);
      }
    where
      rows_are : (p : ℕ) → is_port_under t k p ≡ true → (c : Bool) → covers t set p ≡ c → (tables_at all).pair g p ≡ covers t set p
      rows_are p u true e = (under (device p)).pairs g (p % 64 + 1) (a.rows p u ∙ e) ∙ sym e
      rows_are p u false e = false_from_ne_true ((tables_at all).pair g p) (λ f. false≢true (sym (b.rows p u ∙ e) ∙ (over (device p)).pairs g (p % 64 + 1) f)) ∙ sym e

-- ---- what is laid out is laid for its configuration
used_of : (h : Held) (k g : ℕ) (set : List ℕ) → IsGroupOf h k set g → group_used h k g ≡ true
used_of h k g set is = ap (λ (x : List ℕ). not (is_empty_set x)) is.is ∙ ap not is.some

module _ (t : Shape) (valid : IsTree t) (opened : ℕ → Bool) (b : Bridge) (h : Held) (out : IsLaidOut t opened b h) where
  group_laid : (k g : ℕ) (set : List ℕ) → k < 64 → list_any (bytes_eq set) (sets_at t k b) ≡ true → group_in h k set ≡ Some g → IsLaid t (tables_at (laid t opened h)) k (is_listed set) g
  group_laid k g set low e f =
      let is : IsGroupOf h k set g = group_found h k set g f in
      subst (λ (x : List ℕ). IsLaid t (tables_at (laid t opened h)) k (is_listed x) g) is.is (out.groups k g low (set_cascade t valid b k set low e) (used_of h k g set is))

  -- a present port of an extender
  record Spot (k q : ℕ) : Type 0 where
    low : k < 64
    cascade : is_cascade t k ≡ true
    needs : needs_channel t b k q ≡ true
    shown : is_shown t opened q ≡ true
    home : trunk t (device q) ≡ k

  spot : (k q : ℕ) → is_under t k q ≡ true → b.present q ≡ true → Spot k q
  spot k q u e =
      let ext = under_extended t k q u in
      let home : trunk t (device q) ≡ k = under_trunk t k q u in
      let external : is_cascade t q ≡ false = not_cascade (is_cascade t q) (and_parts (is_port t q) (not (is_cascade t q)) (extended_external t q ext)).1 in
      record {
        low = subst (λ (m : ℕ). m < 64) home (home_low t valid q ext);
        cascade = subst (λ (m : ℕ). is_cascade t m ≡ true) home (home_cascade t valid q ext);
        needs = rw (u, e) refl;
        shown = rw external refl;
        home = home;
      }
    where
      not_cascade : (c : Bool) → not c ≡ true → c ≡ false
      not_cascade true e = sym e
      not_cascade false e = refl

  channel_is : (k q c : ℕ) → is_under t k q ≡ true → b.present q ≡ true → channel_in h k q ≡ Some c → channel_of t h q ≡ c
  channel_is k q c u e f = ap (λ (m : ℕ). or_zero (channel_in h m q)) (spot k q u e).home ∙ ap or_zero f

  own_laid : (k q c : ℕ) → is_under t k q ≡ true → b.present q ≡ true → channel_in h k q ≡ Some c → (tables_at (laid t opened h)).own q ≡ c
  own_laid k q c u e f = let s = spot k q u e in out.own k q s.low s.cascade s.needs s.shown ∙ channel_is k q c u e f

  channel_laid : (k q c : ℕ) → is_under t k q ≡ true → b.present q ≡ true → channel_in h k q ≡ Some c → IsLaid t (tables_at (laid t opened h)) k (λ x. x == q) c
  channel_laid k q c u e f =
      let s = spot k q u e in
      subst (λ (m : ℕ). IsLaid t (tables_at (laid t opened h)) k (λ x. x == q) m) (channel_is k q c u e f) (out.channels k q s.low s.cascade s.needs s.shown)

  pub laid_for : IsLaidFor t b h (tables_at (laid t opened h))
  laid_for = record { groups = group_laid; own = own_laid; channels = channel_laid }

-- ---- in the middle of a change
-- what is held first, and what is held with more numbers
module _ (t : Shape) (valid : IsTree t) (b : Bridge) (first more : Held) (has : IsReady t b (numbers_in first)) (keeps : Keeps first more)
    (one_channel : (k c d p : ℕ) → k < 64 → is_cascade t k ≡ true → more.port k c ≡ Some p → more.port k d ≡ Some p → c ≡ d)
    (one_group : (k g m : ℕ) → k < 64 → is_cascade t k ≡ true → group_used more k g ≡ true → more.set k g ≡ more.set k m → g ≡ m) where
  some_of : (o : Option ℕ) → is_some o ≡ true → (n : ℕ) × (o ≡ Some n)
  some_of None e = absurd (false≢true e)
  some_of (Some n) e = (n, refl)

  -- a set that the configuration has keeps its group
  same_group : (k g : ℕ) (set : List ℕ) → k < 64 → list_any (bytes_eq set) (sets_at t k b) ≡ true → group_in more k set ≡ Some g → group_in first k set ≡ Some g
  same_group k g set low e f =
      let m = some_of (group_in first k set) (has.groups k set low e) in
      let old : IsGroupOf first k set m.0 = group_found first k set m.0 m.1 in
      let now : IsGroupOf more k set g = group_found more k set g f in
      let stays : more.set k m.0 ≡ set = keeps.groups k m.0 set old.some old.low old.is in
      let same : g ≡ m.0 = one_group k g m.0 low (set_cascade t valid b k set low e) (used_of more k g set now) (now.is ∙ sym stays) in
      m.1 ∙ ap (λ (x : ℕ). Some x) (sym same)

  -- a present port keeps its channel
  same_channel : (k q c : ℕ) → is_under t k q ≡ true → b.present q ≡ true → channel_in more k q ≡ Some c → channel_in first k q ≡ Some c
  same_channel k q c u e f =
      let m = some_of (channel_in first k q) (has.channels k q u e) in
      let old : IsChannelOf first k q m.0 = channel_found first k q m.0 m.1 in
      let now : IsChannelOf more k q c = channel_found more k q c f in
      let ext = under_extended t k q u in
      let home : trunk t (device q) ≡ k = under_trunk t k q u in
      let low : k < 64 = subst (λ (x : ℕ). x < 64) home (home_low t valid q ext) in
      let cascade : is_cascade t k ≡ true = subst (λ (x : ℕ). is_cascade t x ≡ true) home (home_cascade t valid q ext) in
      let same : c ≡ m.0 = one_channel k c m.0 q low cascade now.is (keeps.ports k m.0 q old.low old.is) in
      m.1 ∙ ap (λ (x : ℕ). Some x) (sym same)

  for_between : (low all high : ℕ → ExtenderTables) → AreWithin low all → AreWithin all high → IsLaidFor t b first (tables_at low) → IsLaidFor t b more (tables_at high) →
      IsLaidFor t b more (tables_at all)
  for_between low all high under over a c =
      record {
        groups = λ k g set l e f. laid_between t low all high under over k g (is_listed set) (a.groups k g set l e (same_group k g set l e f)) (c.groups k g set l e f);
        own = λ k q n u e f.
            let mine : (tables_at low).own q ≡ n = a.own k q n u e (same_channel k q n u e f) in
            let is : IsChannelOf more k q n = channel_found more k q n f in
            same_own t low all high under over q (subst (λ (x : ℕ). 0 < x) (sym mine) is.low) ∙ mine;
        channels = λ k q n u e f. laid_between t low all high under over k n (λ x. x == q) (a.channels k q n u e (same_channel k q n u e f)) (c.channels k q n u e f);
      }

-- the requests that are left only add, or only clear
left_add : (answer : Option Response) (all end : ℕ → ExtenderTables) (first : AskAt) (rest : List AskAt) → RunsLeft answer all first rest end → AllAdd (first ∷ rest) → AreWithin all end
left_add None all end first rest r a = runs_add (first ∷ rest) all end r a
left_add (Some response) all end first rest r a = runs_add rest all end r a.1

pub left_clear : (answer : Option Response) (all end : ℕ → ExtenderTables) (first : AskAt) (rest : List AskAt) → RunsLeft answer all first rest end → AllClear (first ∷ rest) → AreWithin end all
left_clear None all end first rest r a = runs_clear (first ∷ rest) all end r a
left_clear (Some response) all end first rest r a = runs_clear rest all end r a.1

pub laid_midway : LaidMidway
laid_midway t y valid stands = by_work y.state.work stands.stands
  where
    by_work : (o : Option Work) → StandsBy (planning t) o y.state y.state.queue y.tables y.answer → IsLaidFor t y.state.bridge y.state.held (tables_at y.tables)
    by_work None h =
        let opened : ℕ → Bool = opened_by (is_extender t) y.state.queue in
        let exact : IsExact t opened y.state.bridge y.state.held = (h.0).exact in
        subst (λ (all : ℕ → ExtenderTables). IsLaidFor t y.state.bridge y.state.held (tables_at all)) (sym (h.0).laid)
        (laid_for t valid opened y.state.bridge y.state.held (rest_is_laid_out t y.state.bridge y.state.held opened valid exact.needed exact.order))
    by_work (Some w) h = by_phase w.phase h.left h.bridge h.since h.kinds
      where
        by_phase : (f : Phase) → InPhase (planning t) f w (opened_by (is_extender t) y.state.queue) y.answer y.tables y.state.held → IsBefore f w.job h.old y.state.bridge →
            IsSince f (laid t h.were h.before) y.tables (laid t (opened_by (is_extender t) y.state.queue) y.state.held) → AreKinds f w.first w.rest w.change.cleanup →
            IsLaidFor t y.state.bridge y.state.held (tables_at y.tables)
        by_phase Preparing left e since kinds =
            let o : ℕ → Bool = opened_by (is_extender t) y.state.queue in
            let had : IsExact t h.were h.old h.before = h.had in
            subst (λ (b : Bridge). IsLaidFor t b y.state.held (tables_at y.tables)) (sym e)
            (for_between t valid h.old h.before y.state.held (needed_numbers t valid h.old h.before had.needed had.external) h.kept (h.during).one_channel (h.during).one_group
            (laid t h.were h.before) y.tables (laid t o y.state.held) since (left_add y.answer y.tables (laid t o y.state.held) w.first w.rest left.0 kinds.0)
            (laid_for t valid h.were h.old h.before (rest_is_laid_out t h.old h.before h.were valid had.needed had.order))
            (laid_for t valid o h.old y.state.held (h.during).laid_before))
        by_phase Cleaning left e since kinds =
            let o : ℕ → Bool = opened_by (is_extender t) y.state.queue in
            let new : Bridge = bridge_after w.job h.old in
            let less : Held = release w.change y.state.held in
            let exact : IsExact t o new less = h.exact in
            subst (λ (b : Bridge). IsLaidFor t b y.state.held (tables_at y.tables)) (sym e)
            (for_between t valid new less y.state.held (needed_numbers t valid new less exact.needed exact.external) (released_kept w.change y.state.held) (h.during).one_channel (h.during).one_group
            (laid t o less) y.tables (laid t o y.state.held) (left_clear y.answer y.tables (laid t o less) w.first w.rest left kinds) since
            (laid_for t valid o new less (rest_is_laid_out t new less o valid exact.needed exact.order))
            (laid_for t valid o new y.state.held (h.during).laid_after))
