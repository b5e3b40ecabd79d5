-- At every moment the tables of the extenders above an extender whose frames are to go send them on.
use Rattle.std.proofs.Common.{◌≡◌, ◌≢◌, ◌⊎◌, inl, inr, ℕ, zero, suc, ◌%◌, ◌<◌, ◌≤◌, ◌==◌, ◌&&◌, ◌||◌, not, nat_lt, nat_le, Bool, true, false, cond, List, [], ◌∷◌, Option, Some, None, slice_index, refl, ap, sym, ◌∙◌, subst, arith, eq-eqb}
use Rattle.std.proofs.lemmas.Bool.{cases_Bool, cases_eq, cases_lt, and_parts, and_from, ltb-true, lt-ltb, leb-true, le-leb, eqb-true, ne_eqb, false≢true, false_from_ne_true}
use Rattle.exb_model.specs.Setup.{Limits}
use Rattle.exb_model.specs.Tree.{Shape, IsTree, device, on, trunk, depth, is_port, is_extender, is_cascade, above, path, up, port_number}
use Rattle.exb_model.specs.TreeSets.{covers}
use Rattle.exb_model.specs.Configuration.{Bridge}
use Rattle.exb_model.proofs.TreeTrunks.{trunk-low}
use Rattle.exb_model.proofs.TreeOrder.{less_deep}
use Rattle.exb_model.proofs.TreeWays.{among, among_above, among_rest, up_high, up_itself, covers-true, Covered}
use Rattle.exb_csp.specs.declared.ask_at.AskAt.{AskAt}
use Rattle.exb_csp.specs.declared.message.Request.{Request}
use Rattle.exb_csp.specs.declared.message.Request.TheVariants.{Open, PortCreate, PortDelete, Register, Unregister, RegisterMany, UnregisterMany}
use Rattle.exb_csp.specs.declared.message.Response.{Response}
use Rattle.exb_csp.specs.AllTables.{port_of, executes_at, RunsAt}
use Rattle.exb_csp.specs.Execution.{ExtenderTables, code_of, done, executed}
use Rattle.exb_extender.specs.Machine.{ExtenderState}
use Rattle.exb_control_spec.specs.Plans.HeldNumbers.{Held, channel_in, or_zero}
use Rattle.exb_control_spec.proofs.Plans.ChannelOwners.{IsChannelOf, channel_found, channel_there}
use Rattle.exb_control_spec.proofs.Plans.Trunks.{hung_cascade}
use Rattle.exb_control_spec.proofs.Plans.TreeWays.{covers_above}
use Rattle.exb_control_spec.specs.InitialState.{first_held}
use Rattle.exb_control_spec.specs.Decisions.{channel_of, bridge_after, release}
use Rattle.exb_control_spec.specs.declared.job.Job.{Job}
use Rattle.exb_control_spec.specs.declared.job.Job.TheVariants as job
use Rattle.exb_control_spec.specs.declared.job.Phase.{Phase}
use Rattle.exb_control_spec.specs.declared.job.Phase.TheVariants.{Preparing, Cleaning}
use Rattle.exb_control_spec.specs.Machine.{Work}
use Rattle.exb_control_spec.specs.Runs.MonotoneRequests.{AreWithin}
use Rattle.exb_control_spec.specs.Runs.LaidTables.{has_port, is_shown, channel_pair, group_pair, laid}
use Rattle.exb_control_spec.specs.Runs.MachineInvariant.{Stands, Rests, Works, InPhase, IsSince, AreKinds, RunsLeft, opened_by, opens}
use Rattle.exb_control_spec.specs.Runs.Systems.{System}
use Rattle.exb_control_spec.proofs.Runs.MonotoneRequests.{are_within}
use Rattle.exb_control_spec.proofs.Runs.TablesMidChange.{left_clear}
use Rattle.exb_control_spec.proofs.Runs.PortsAbove.{covers_itself, covered_trunk}
use Rattle.exb_world_spec.specs.Worlds.{World}
use Rattle.exb_world_spec.specs.Runs.CascadeChannels.{IsExactly, fixing}
use Rattle.exb_world_spec.specs.Runs.Simulation.{system_of}
use Rattle.exb_world_spec.proofs.CascadeChannels.{forget, fixed_now, trunk_is_cascade}
use Rattle.exb_world_spec.proofs.Hops.{alone_on_way}
use Rattle.exb_world_spec.proofs.Routing.{IsUnderLaid, under_laid, no_group}
use Rattle.exb_world_spec.proofs.Trunks.{hangs_there, above_there, trunk_above, port_there}
use Rattle.exb_settling_laws.specs.SettlingFacts.{HopsAbove, IsReached}

-- ---- an extender keeps its ports
done_ports : (x : ExtenderTables) (r : Request) → (done x r).ports ≡ x.ports
unfolding done
done_ports x Open = refl
done_ports x (PortCreate port cascade channel) = refl
done_ports x (PortDelete port) = refl
done_ports x (Register ecid mask) = refl
done_ports x (Unregister ecid) = refl
done_ports x (RegisterMany rows) = refl
done_ports x (UnregisterMany ecids) = refl

executed_ports : (x : ExtenderTables) (r : Request) → (executed x r).ports ≡ x.ports
unfolding executed
executed_ports x r = elim (cases_Bool (code_of x r == 0)) [ inl e ↦ rw e (done_ports x r) | inr e ↦ rw e refl ]

runs_ports : (asks : List AskAt) (all end : ℕ → ExtenderTables) → RunsAt all asks end → (n : ℕ) → (all n).ports ≡ (end n).ports
runs_ports [] all end r n = ap (λ (f : ℕ → ExtenderTables). (f n).ports) r
runs_ports (a ∷ more) all end r n = sym one ∙ runs_ports more (executes_at a.extender a.request all) end r.1 n
  where
    one : (executes_at a.extender a.request all n).ports ≡ (all n).ports
    one = elim (cases_Bool (n == a.extender)) [ inl e ↦ rw e (executed_ports (all n) a.request) | inr e ↦ rw e refl ]

left_ports : (answer : Option Response) (all end : ℕ → ExtenderTables) (first : AskAt) (rest : List AskAt) → RunsLeft answer all first rest end → (n : ℕ) → (all n).ports ≡ (end n).ports
left_ports None all end first rest r n = runs_ports (first ∷ rest) all end r n
left_ports (Some response) all end first rest r n = runs_ports rest all end r n

-- ---- what is laid at least
-- At every moment the tables have what was laid where these extenders were opened, and the ports of the tree.
pub record IsOverLaid (t : Shape) (l : Limits) (y : System) : Type 0 where
  pub were : ℕ → Bool
  pub before : Held
  pub bridge : Bridge
  pub exact : IsExactly t (first_held t l) were bridge before
  pub within : AreWithin (laid t were before) y.tables
  pub ports : (n : ℕ) → (y.tables n).ports ≡ slice_index t.ports n

-- nothing is outstanding
unfoldable pub rest_over : (t : Shape) (l : Limits) (y : System) → Rests (fixing t l) y.state y.state.queue y.tables → IsOverLaid t l y
rest_over t l y h =
    record {
      were = opened_by (is_extender t) y.state.queue;
      before = y.state.held;
      bridge = y.state.bridge;
      exact = h.exact;
      within = (let x = laid t (opened_by (is_extender t) y.state.queue) y.state.held in subst (λ (all : ℕ → ExtenderTables). AreWithin x all) (sym h.laid) (are_within x));
      ports = λ n. ap (λ (all : ℕ → ExtenderTables). (all n).ports) h.laid;
    }

-- a request is outstanding
pub record IsOverWork (t : Shape) (l : Limits) (y : System) : Type 0 where
  pub over : IsOverLaid t l y
  -- the extenders above each opened one were opened before
  pub tops : (n : ℕ) → is_extender t n ≡ true → opened_by (is_extender t) y.state.queue n ≡ true → 64 ≤ on t n → over.were (device (on t n)) ≡ true

module _ (t : Shape) (l : Limits) (tree : IsTree t) where
  -- extenders above one that is opened were so before the job that opens it, or any other
  opened_before : (j : Job) (were : ℕ → Bool) (n d : ℕ) → n ≢ d → (were n ≡ true → were d ≡ true) → opens j were n ≡ true → opens j were d ≡ true → were d ≡ true
  opened_before (job.Opening m) were n d apart tops a b =
      elim (cases_eq d m) [
        | inl e ↦ tops (let other : n ≢ m = λ f. apart (f ∙ sym e) in let x : (n == m || were n) ≡ true = a in rw (ne_eqb n m other) at x)
        | inr e ↦ (let x : (d == m || were d) ≡ true = b in rw (ne_eqb d m e) at x)
      ]
  opened_before (job.AutomaticUp p) were n d apart tops a b = b
  opened_before (job.Ordered number c) were n d apart tops a b = b

  not_above_itself : (n : ℕ) → is_extender t n ≡ true → 64 ≤ on t n → n ≢ device (on t n)
  not_above_itself n there deep e =
      let less = less_deep t tree n (on t n) (hangs_there t n there) deep in
      let same : depth t n ≡ depth t (device (on t n)) = ap (depth t) e in
      omega (arith, less, same)

  pub work_over : (y : System) (w : Work) → Works (fixing t l) w y.state y.state.queue y.tables y.answer → IsOverWork t l y
  work_over y w h = by_phase w.phase h.left h.since h.kinds
    where
      by_phase : (f : Phase) → InPhase (fixing t l) f w (opened_by (is_extender t) y.state.queue) y.answer y.tables y.state.held →
          IsSince f (laid t h.were h.before) y.tables (laid t (opened_by (is_extender t) y.state.queue) y.state.held) → AreKinds f w.first w.rest w.change.cleanup → IsOverWork t l y
      by_phase Preparing left since kinds =
          record {
            over = record {
              were = h.were;
              before = h.before;
              bridge = h.old;
              exact = h.had;
              within = since;
              ports = λ n. left_ports y.answer y.tables (laid t (opened_by (is_extender t) y.state.queue) y.state.held) w.first w.rest left.0 n;
            };
            tops = λ n there o deep.
                let now : (m : ℕ) → opens w.job h.were m ≡ opened_by (is_extender t) y.state.queue m = λ m. ap (λ (f : ℕ → Bool). f m) h.now in
                opened_before w.job h.were n (device (on t n)) (not_above_itself n there deep) (λ e. h.had.exact.order.above n there e deep) (now n ∙ o) (now (device (on t n)) ∙ h.exact.exact.order.above n there o deep);
          }
      by_phase Cleaning left since kinds =
          let less : Held = release w.change y.state.held in
          record {
            over = record {
              were = opened_by (is_extender t) y.state.queue;
              before = less;
              bridge = bridge_after w.job h.old;
              exact = h.exact;
              within = left_clear y.answer y.tables (laid t (opened_by (is_extender t) y.state.queue) less) w.first w.rest left kinds;
              ports = λ n. left_ports y.answer y.tables (laid t (opened_by (is_extender t) y.state.queue) less) w.first w.rest left n;
            };
            tops = λ n there o deep. h.exact.exact.order.above n there o deep;
          }

  -- ---- ways
  module _ (y : System) (stands : Stands (fixing t l) y) (over : IsOverLaid t l y) where
    some_same : {x z : ℕ} → Some x ≡ Some z → x ≡ z
    some_same e = cc

    -- the channel of the port on which extender m hangs
    record HasChannel (m : ℕ) : Type 0 where
      channel : ℕ
      some : 0 < channel
      small : channel < 4095
      before : over.before.port (trunk t m) channel ≡ Some (on t m)
      now : y.state.held.port (trunk t m) channel ≡ Some (on t m)
      is : channel_of t over.before (on t m) ≡ channel

    has_channel : (m : ℕ) → is_extender t m ≡ true → 64 ≤ on t m → HasChannel m
    has_channel m there deep =
        let a = over.exact.first m there deep in
        let before = over.exact.fixed m a.0 there deep a.1 a.2 in
        let found = over.exact.exact.needed.one_channel (trunk t m) (on t m) a.0 (trunk-low t tree m there) (trunk_is_cascade t tree m there deep) before in
        record {
          channel = a.0;
          some = a.1;
          small = (channel_found over.before (trunk t m) (on t m) a.0 found).high;
          before = before;
          now = (fixed_now t l y stands).fixed m a.0 there deep a.1 a.2;
          is = ap (λ (k : ℕ). or_zero (channel_in over.before k (on t m))) (trunk_above t tree m there deep) ∙ ap or_zero found;
        }

    -- a port of an extender that was opened
    record IsSpot (q : ℕ) : Type 0 where
      deep : 64 ≤ q
      known : is_port t q ≡ true
      cascade : is_cascade t q ≡ true
      were : over.were (device q) ≡ true

    there_at : (q : ℕ) → 64 ≤ q → is_port t q ≡ true → has_port t (device q) (port_number q) ≡ true
    there_at q deep known =
        let fits : q % 64 < slice_index t.ports (device q) = ltb-true (q % 64) (slice_index t.ports (device q)) known in
        and_from (nat_lt 0 (device q)) _ (lt-ltb 0 (device q) (omega (arith, deep)))
        (and_from (nat_lt 0 (port_number q)) _ (lt-ltb 0 (port_number q) (omega arith))
        (and_from (nat_le (port_number q) 64) _ (le-leb (port_number q) 64 (omega arith)) (le-leb (port_number q) (slice_index t.ports (device q)) (omega (arith, fits)))))

    shown_at : (q : ℕ) → over.were (device q) ≡ true → is_shown t over.were q ≡ true
    shown_at q were = by_kind (is_cascade t q)
      where
        by_kind : (b : Bool) → (not b || over.were (device q)) ≡ true
        by_kind true = were
        by_kind false = refl

    own_by : (q Q : ℕ) → Q ≡ q → (h : Bool) → h ≡ true → is_shown t over.were q ≡ true → cond h (cond (is_shown t over.were Q) (channel_of t over.before Q) 0) 0 ≡ channel_of t over.before q
    own_by q Q e true f s = rw (e, s) refl
    own_by q Q e false f s = absurd (false≢true f)

    kind_by : (q Q : ℕ) → Q ≡ q → (h : Bool) → h ≡ true → is_shown t over.were q ≡ true → is_cascade t q ≡ true → (h && (is_cascade t Q && is_shown t over.were Q)) ≡ true
    kind_by q Q e true f s c = rw (e, s, c) refl
    kind_by q Q e false f s c = absurd (false≢true f)

    -- the port on which extender m hangs, at the extender above
    record IsHop (m : ℕ) : Type 0 where
      own : (y.tables (device (on t m))).own (port_number (on t m)) ≡ (channel_of t over.before (on t m))
      cascade : (y.tables (device (on t m))).cascade (port_number (on t m)) ≡ true

    hop_at : (m : ℕ) → is_extender t m ≡ true → 64 ≤ on t m → over.were (device (on t m)) ≡ true → IsHop m
    hop_at m there deep were =
        let q : ℕ = on t m in
        let hangs = hangs_there t m there in
        let known : is_port t q ≡ true = tree.on_port m hangs.extender hangs.there in
        let cascade : is_cascade t q ≡ true = hung_cascade t tree m q hangs in
        let here = there_at q deep known in
        let shown = shown_at q were in
        let own : (laid t over.were over.before (device q)).own (port_number q) ≡ channel_of t over.before q = own_by q (port_of (device q) (port_number q)) (port_there q) (has_port t (device q) (port_number q)) here shown in
        let kind : (laid t over.were over.before (device q)).cascade (port_number q) ≡ true = kind_by q (port_of (device q) (port_number q)) (port_there q) (has_port t (device q) (port_number q)) here shown cascade in
        let c : HasChannel m = has_channel m there deep in
        let low : 0 < c.channel = c.some in
        let is = c.is in
        let some : 0 < (laid t over.were over.before (device q)).own (port_number q) = omega (arith, own, is, low) in
        record { own = (over.within (device q)).own (port_number q) some ∙ own; cascade = (over.within (device q)).kinds (port_number q) some ∙ kind }

    -- ---- the way to extender n
    module _ (n : ℕ) (n_there : is_extender t n ≡ true) (n_deep : 64 ≤ on t n) (n_were : over.were (device (on t n)) ≡ true) where
      goal : HasChannel n
      goal = has_channel n n_there n_deep

      goal_known : is_port t (on t n) ≡ true
      goal_known = (let h = hangs_there t n n_there in tree.on_port n h.extender h.there)

      covered_path : (q : ℕ) → covers t (λ x. x == on t n) q ≡ true → above t q (on t n) ≡ true
      covered_path q e =
          let c : Covered t (λ x. x == on t n) q = covers-true t (λ x. x == on t n) q e in
          let same : c.member ≡ on t n = eqb-true c.member (on t n) c.chosen in
          among_above t q (on t n) ∙ subst (λ (i : ℕ). among q (path t.on i) ≡ true) same c.below

      -- the rows of the channel at extender a are those of the way
      pair_by : (x q Q : ℕ) → Q ≡ q → (h : Bool) → h ≡ true → (k : ℕ) → k ≡ trunk t n → over.before.port (trunk t n) x ≡ Some (on t n) → covers t (λ z. z == on t n) q ≡ true →
          (h && (channel_pair t (is_shown t over.were) Q (over.before.port k x) || group_pair t Q (over.before.set k x))) ≡ true
      pair_by x q Q e true f k g holds c = rw (e, g, holds, shown_at (on t n) n_were, c) refl
      pair_by x q Q e false f k g holds c = absurd (false≢true f)

      -- what is laid at most
      under : IsUnderLaid t y
      under = under_laid t y (forget t l y stands)

      only_by : (Q : ℕ) → (o : Option ℕ) → o ≡ Some (on t n) → (set : List ℕ) → set ≡ [] → (channel_pair t (is_shown t under.opened) Q o || group_pair t Q set) ≡ true → covers t (λ z. z == on t n) Q ≡ true
      only_by Q o e set f two = by_left (channel_pair t (is_shown t under.opened) Q o) refl two
        where
          by_left : (b : Bool) → channel_pair t (is_shown t under.opened) Q o ≡ b → (b || group_pair t Q set) ≡ true → covers t (λ z. z == on t n) Q ≡ true
          by_left true g h = (and_parts (is_shown t under.opened (on t n)) (covers t (λ z. z == on t n) Q) (ap (channel_pair t (is_shown t under.opened) Q) (sym e) ∙ g)).1
          by_left false g h = absurd (false≢true (sym (no_group t Q set f) ∙ h))

      -- the tables of the extender above m have the channel's pair at the port on which m hangs alone
      pairs_at : (m : ℕ) → is_extender t m ≡ true → 64 ≤ on t m → covers t (λ z. z == on t n) (on t m) ≡ true → (x : ℕ) → (y.tables (device (on t m))).pair goal.channel x ≡ (x == port_number (on t m))
      pairs_at m there deep covered x =
          elim (cases_eq x p) [
            | inl e ↦ subst (λ (i : ℕ). (y.tables a).pair goal.channel i ≡ (i == p)) (sym e) ((over.within a).pairs goal.channel p here ∙ sym (eq-eqb p p refl))
            | inr e ↦ false_from_ne_true ((y.tables a).pair goal.channel x) (λ f. e (other f)) ∙ sym (ne_eqb x p e)
          ]
        where
          q : ℕ
          q = on t m

          a : ℕ
          a = device (on t m)

          p : ℕ
          p = port_number (on t m)

          known : is_port t (on t m) ≡ true
          known = (let h = hangs_there t m there in tree.on_port m h.extender h.there)

          trunk_is : trunk t (device (on t m)) ≡ trunk t n
          trunk_is = covered_trunk t tree (on t n) n_deep goal_known (on t m) covered deep ∙ trunk_above t tree n n_there n_deep

          here : (laid t over.were over.before (device (on t m))).pair goal.channel (port_number (on t m)) ≡ true
          here =
              pair_by goal.channel (on t m) (port_of (device (on t m)) (port_number (on t m))) (port_there (on t m)) (has_port t (device (on t m)) (port_number (on t m))) (there_at (on t m) deep known)
              (trunk t (device (port_of (device (on t m)) (port_number (on t m))))) (ap (λ (i : ℕ). trunk t (device i)) (port_there (on t m)) ∙ trunk_is) goal.before covered

          other : (y.tables (device (on t m))).pair goal.channel x ≡ true → x ≡ port_number (on t m)
          other f =
              let Q : ℕ = port_of (device (on t m)) x in
              let both = and_parts (has_port t (device (on t m)) x) (channel_pair t (is_shown t under.opened) Q (y.state.held.port (trunk t (device Q)) goal.channel) || group_pair t Q (y.state.held.set (trunk t (device Q)) goal.channel))
              ((under.within (device (on t m))).pairs goal.channel x f) in
              let one = and_parts (nat_lt 0 (device (on t m))) (nat_lt 0 x && (nat_le x 64 && nat_le x (slice_index t.ports (device (on t m))))) both.0 in
              let two = and_parts (nat_lt 0 x) (nat_le x 64 && nat_le x (slice_index t.ports (device (on t m)))) one.1 in
              let three = and_parts (nat_le x 64) (nat_le x (slice_index t.ports (device (on t m)))) two.1 in
              let some : 0 < x = ltb-true 0 x two.0 in
              let few : x ≤ 64 = leb-true x 64 three.0 in
              let home : device Q ≡ device (on t m) = omega (arith, some, few, deep) in
              let low : trunk t n < 64 = trunk-low t tree n n_there in
              let small : goal.channel < 4095 = goal.small in
              let place : trunk t (device Q) ≡ trunk t n = ap (trunk t) home ∙ trunk_is in
              let holds : y.state.held.port (trunk t (device Q)) goal.channel ≡ Some (on t n) = subst (λ (k : ℕ). y.state.held.port k goal.channel ≡ Some (on t n)) (sym place) goal.now in
              let none : y.state.held.set (trunk t (device Q)) goal.channel ≡ [] =
              subst (λ (k : ℕ). y.state.held.set k goal.channel ≡ []) (sym place) ((fixed_now t l y stands).high (trunk t n) goal.channel low (trunk_is_cascade t tree n n_there n_deep) goal.some (omega (arith, small))) in
              let c = only_by Q (y.state.held.port (trunk t (device Q)) goal.channel) holds (y.state.held.set (trunk t (device Q)) goal.channel) none both.1 in
              let far : 64 ≤ Q = omega (arith, deep) in
              let same : Q ≡ on t m = alone_on_way t tree (on t n) Q (on t m) goal_known far deep home (covered_path Q c) (covered_path (on t m) covered) in
              omega (arith, same, some, few, deep)

      -- its own channel is that one at the port of n alone
      ends_at : (m : ℕ) → is_extender t m ≡ true → 64 ≤ on t m → covers t (λ z. z == on t n) (on t m) ≡ true → (last : Bool) → ((m ≡ n) × (last ≡ true)) ⊎ ((depth t m < depth t n) × (last ≡ false)) → (channel_of t over.before (on t m) == goal.channel) ≡ last
      ends_at m there deep covered last (inl e) = eq-eqb (channel_of t over.before (on t m)) goal.channel (ap (λ (i : ℕ). channel_of t over.before (on t i)) e.0 ∙ goal.is) ∙ sym e.1
      ends_at m there deep covered last (inr e) =
          ne_eqb (channel_of t over.before (on t m)) goal.channel (λ f.
          let c : HasChannel m = has_channel m there deep in
          let place : trunk t m ≡ trunk t n = sym (trunk_above t tree m there deep) ∙ (covered_trunk t tree (on t n) n_deep goal_known (on t m) covered deep ∙ trunk_above t tree n n_there n_deep) in
          let number : c.channel ≡ goal.channel = sym c.is ∙ f in
          let mine : over.before.port (trunk t n) goal.channel ≡ Some (on t m) = subst (λ (k : ℕ). over.before.port k goal.channel ≡ Some (on t m)) place (subst (λ (i : ℕ). over.before.port (trunk t m) i ≡ Some (on t m)) number c.before) in
          let port : on t m ≡ on t n = some_same (sym mine ∙ goal.before) in
          let h = hangs_there t m there in
          let same : m ≡ n = tree.alone m n (on t n) (record { extender = h.extender; there = h.there; at = port }) (hangs_there t n n_there) in
          let depths : depth t m ≡ depth t n = ap (depth t) same in
          let less : depth t m < depth t n = e.0 in
          absurd (omega (arith, depths, less))) ∙ sym e.1

      hops_above : (far : ℕ → ExtenderState) → ((i : ℕ) → (far i).tables ≡ y.tables i) → (d m : ℕ) (last : Bool) → is_extender t m ≡ true → (64 ≤ on t m → (over.were (device (on t m)) ≡ true) × (covers t (λ z. z == on t n) (on t m) ≡ true)) →
          ((m ≡ n) × (last ≡ true)) ⊎ ((depth t m < depth t n) × (last ≡ false)) → HopsAbove t far goal.channel last d m
      hops_above far is zero m last there way place = tt
      hops_above far is (suc d) m last there way place =
          elim (cases_lt (on t m) 64) [
            | inl low ↦ inl low
            | inr deep ↦
                let a : ℕ = device (on t m) in
                let p : ℕ = port_number (on t m) in
                let w = way deep in
                let h : IsHop m = hop_at m there deep w.0 in
                let c : HasChannel m = has_channel m there deep in
                let less : depth t a < depth t m = less_deep t tree m (on t m) (hangs_there t m there) deep in
                let known : is_port t (on t m) ≡ true = (let k = hangs_there t m there in tree.on_port m k.extender k.there) in
                let fits : (on t m) % 64 < slice_index t.ports a = ltb-true ((on t m) % 64) (slice_index t.ports a) known in
                let ports = over.ports a in
                let some = c.some in
                let own = h.own in
                let is_own = c.is in
                inr (
                  record {
                    some = omega arith;
                    port = subst (λ (x : ExtenderTables). p ≤ x.ports) (sym (is a)) (omega (arith, fits, ports));
                    cascade = ap (λ (x : ExtenderTables). x.cascade p) (is a) ∙ h.cascade;
                    own = subst (λ (x : ExtenderTables). 0 < x.own p) (sym (is a)) (omega (arith, own, is_own, some));
                    pairs = λ x. ap (λ (z : ExtenderTables). z.pair goal.channel x) (is a) ∙ pairs_at m there deep w.1 x;
                    ends = ap (λ (z : ExtenderTables). z.own p == goal.channel) (is a) ∙ (ap (λ (i : ℕ). i == goal.channel) h.own ∙ ends_at m there deep w.1 last place);
                  },
                  hops_above far is d a false (above_there t tree m there deep)
                      (λ high. (
                        over.exact.exact.order.above a (above_there t tree m there deep) w.0 high,
                        covers_above t tree (λ z. z == on t n) 64 (on t m) (on t a) w.1 (rw (up_high t 63 (on t m) deep) (among_rest (on t a) (on t m) (up t.on 63 (on t a)) (up_itself t 63 (on t a)))),
                      ))
                      (inr (by_place place less, refl)),
                )
          ]
        where
          by_place : {last : Bool} {m x : ℕ} → ((m ≡ n) × (last ≡ true)) ⊎ ((depth t m < depth t n) × (last ≡ false)) → x < depth t m → x < depth t n
          by_place (inl e) less = (let same = ap (depth t) e.0 in omega (arith, same, less))
          by_place (inr e) less = (let more = e.0 in omega (arith, more, less))

    -- an extender that hangs on the bridge, or below one that was opened
    pub reached : (w : World) → y ≡ system_of w → (n : ℕ) → is_extender t n ≡ true → (64 ≤ on t n → over.were (device (on t n)) ≡ true) → IsReached t w n
    unfolding has_channel goal
    reached w same n there were =
        elim (cases_lt (on t n) 64) [
          | inl low ↦ inl low
          | inr deep ↦
              let c : HasChannel n = has_channel n there deep in
              let held : y.state.held ≡ w.control.held = ap (λ (z : System). z.state.held) same in
              let now : w.control.held.port (trunk t n) c.channel ≡ Some (on t n) = subst (λ (h : Held). h.port (trunk t n) c.channel ≡ Some (on t n)) held c.now in
              let ones : (k : ℕ) → w.control.held.port (trunk t n) k ≡ Some (on t n) → k ≡ c.channel = λ k e. (under_laid t y (forget t l y stands)).ones (trunk t n) k c.channel (on t n) (trunk-low t tree n there) (trunk_is_cascade t tree n there deep) (subst (λ (h : Held). h.port (trunk t n) k ≡ Some (on t n)) (sym held) e) c.now in
              let m = channel_there w.control.held (trunk t n) (on t n) c.channel c.some c.small now in
              let found : IsChannelOf w.control.held (trunk t n) (on t n) m.0 = channel_found w.control.held (trunk t n) (on t n) m.0 m.1 in
              let known : is_port t (on t n) ≡ true = (let k = hangs_there t n there in tree.on_port n k.extender k.there) in
              inr (record {
                channel = c.channel;
                high = c.small;
                low = c.some;
                holds = now;
                found = m.1 ∙ ap (λ (x : ℕ). Some x) (ones m.0 found.is);
                only = ones;
                hops = hops_above n there deep (were deep) w.far (λ i. ap (λ (z : System). z.tables i) (sym same)) 64 n true there (λ high. (were high, covers_itself t tree (on t n) high known)) (inl (refl, refl));
              })
        ]
