-- The tables send control frames on towards their extenders, at every moment.
use Rattle.std.proofs.Common.{◌≡◌, ◌≢◌, ℕ, ◌-◌, ◌%◌, ◌<◌, ◌≤◌, ◌==◌, ◌&&◌, ◌||◌, nat_lt, nat_le, Bool, true, false, cond, List, [], ◌∷◌, Option, Some, None, slice_index, refl, ap, sym, ◌∙◌, subst, arith, inl, inr}
use Rattle.std.proofs.lemmas.Bool.{cases_Bool, cases_eq, and_parts, and_from, eqb-true, ltb-true, lt-ltb, leb-true, false≢true}
use Rattle.exb_model.specs.Tree.{Shape, IsTree, device, on, trunk, is_port, is_extender, is_cascade, up, above, path}
use Rattle.exb_model.specs.TreeSets.{covers}
use Rattle.exb_model.proofs.TreeWays.{among_above, Covered, covers-true, among, path_is, cascade_above}
use Rattle.exb_csp.specs.declared.message.Response.{Response}
use Rattle.exb_csp.specs.Execution.{ExtenderTables}
use Rattle.exb_csp.specs.AllTables.{port_of}
use Rattle.exb_extender.specs.Machine.{ExtenderState}
use Rattle.exb_csp.specs.declared.ask_at.AskAt.{AskAt}
use Rattle.exb_model.specs.Lists.{is_listed}
use Rattle.exb_control_spec.specs.Plans.HeldNumbers.{Held, channel_in, or_zero}
use Rattle.exb_control_spec.proofs.Plans.Trunks.{hung_cascade}
use Rattle.exb_control_spec.proofs.Plans.ChannelOwners.{channel_found}
use Rattle.exb_control_spec.specs.Runs.LaidTables.{has_port, laid, is_shown, channel_pair, group_pair}
use Rattle.exb_control_spec.specs.Decisions.{channel_of}
use Rattle.exb_control_spec.specs.Machine.{Work}
use Rattle.exb_control_spec.specs.declared.job.Phase.{Phase}
use Rattle.exb_control_spec.specs.declared.job.Phase.TheVariants.{Preparing, Cleaning}
use Rattle.exb_control_spec.proofs.Claims.{trunk_low, trunk_cascade}
use Rattle.exb_control_spec.specs.Runs.Systems.{System}
use Rattle.exb_control_spec.specs.Runs.MonotoneRequests.{IsWithin, AreWithin, AllAdd}
use Rattle.exb_control_spec.specs.Runs.MachineInvariant.{Stands, StandsBy, opened_by, InPhase, IsSince, AreKinds, RunsLeft}
use Rattle.exb_control_spec.specs.Runs.PlannedChanges.{planning, IsExact}
use Rattle.exb_control_spec.proofs.Runs.MonotoneRequests.{are_within, runs_add}
use Rattle.exb_model.specs.Setup.{Limits}
use Rattle.exb_model.proofs.TreeTrunks.{trunk-low}
use Rattle.exb_world_spec.specs.Runs.CascadeChannels.{AreHigh, fixing}
use Rattle.exb_world_spec.specs.Runs.Sessions.{Routes, IsNextHop, KeepsCascades}
use Rattle.exb_world_spec.proofs.CascadeChannels.{forget, fixed_now, IsFixedNow, trunk_is_cascade}

some_same : {x y : ℕ} → Some x ≡ Some y → x ≡ y
some_same e = cc

none_some : {x : ℕ} → None ≡ Some x → ⊥
none_some e = cc

-- ---- what is laid at most
pub left_add : (answer : Option Response) (all end : ℕ → ExtenderTables) (first : AskAt) (rest : List AskAt) → RunsLeft answer all first rest end → AllAdd (first ∷ rest) → AreWithin all end
left_add None all end first rest r a = runs_add (first ∷ rest) all end r a
left_add (Some response) all end first rest r a = runs_add rest all end r a.1

-- no port has two channels
abbrev HasOnes : Shape → Held → Type 0
HasOnes t h = (k c d p : ℕ) → k < 64 → is_cascade t k ≡ true → h.port k c ≡ Some p → h.port k d ≡ Some p → c ≡ d

-- At every moment the tables are within those where all that is held is laid.
pub record IsUnderLaid (t : Shape) (y : System) : Type 0 where
  pub opened : ℕ → Bool
  pub within : AreWithin y.tables (laid t opened y.state.held)
  pub ones : HasOnes t y.state.held

pub under_laid : (t : Shape) (y : System) → Stands (planning t) y → IsUnderLaid t y
under_laid t y stands = by_work y.state.work stands.stands
  where
    by_work : (o : Option Work) → StandsBy (planning t) o y.state y.state.queue y.tables y.answer → IsUnderLaid t y
    by_work None h =
        let opened : ℕ → Bool = opened_by (is_extender t) y.state.queue in
        let exact : IsExact t opened y.state.bridge y.state.held = (h.0).exact in
        record {
          opened = opened;
          within = subst (λ (all : ℕ → ExtenderTables). AreWithin all (laid t opened y.state.held)) (sym (h.0).laid) (are_within (laid t opened y.state.held));
          ones = λ k c d p low cascade e f. some_same (sym (exact.needed.one_channel k p c low cascade e) ∙ exact.needed.one_channel k p d low cascade f);
        }
    by_work (Some w) h = record { opened = opened_by (is_extender t) y.state.queue; within = by_phase w.phase h.left h.since h.kinds; ones = h.during.one_channel }
      where
        by_phase : (f : Phase) → InPhase (planning t) f w (opened_by (is_extender t) y.state.queue) y.answer y.tables y.state.held →
            IsSince f (laid t h.were h.before) y.tables (laid t (opened_by (is_extender t) y.state.queue) y.state.held) → AreKinds f w.first w.rest w.change.cleanup →
            AreWithin y.tables (laid t (opened_by (is_extender t) y.state.queue) y.state.held)
        by_phase Preparing left since kinds = left_add y.answer y.tables (laid t (opened_by (is_extender t) y.state.queue) y.state.held) w.first w.rest left.0 kinds.0
        by_phase Cleaning left since kinds = since

-- ---- channels stay
-- Between two moments the ports on which extenders hang keep their channels.
pub keeps_now : (t : Shape) (l : Limits) → IsTree t → (y z : System) → Stands (fixing t l) y → Stands (fixing t l) z → KeepsCascades t y.state.held z.state.held
keeps_now t l tree y z before after n channel there deep some e =
    let a : IsFixedNow t l y.state.held = fixed_now t l y before in
    let b : IsFixedNow t l z.state.held = fixed_now t l z after in
    let c = a.first n there deep in
    let u : IsUnderLaid t y = under_laid t y (forget t l y before) in
    let mine : y.state.held.port (trunk t n) c.0 ≡ Some (on t n) = a.fixed n c.0 there deep c.1 c.2 in
    let same : c.0 ≡ channel = u.ones (trunk t n) c.0 channel (on t n) (trunk-low t tree n there) (trunk_is_cascade t tree n there deep) mine e in
    subst (λ (i : ℕ). z.state.held.port (trunk t n) i ≡ Some (on t n)) same (b.fixed n c.0 there deep c.1 c.2)

-- ---- routes
-- no group's row
pub no_group : (t : Shape) (q : ℕ) (set : List ℕ) → set ≡ [] → group_pair t q set ≡ false
no_group t q set e =
    elim (cases_Bool (covers t (is_listed set) q)) [
      | inr f ↦ f
      | inl f ↦ absurd (let c : Covered t (is_listed set) q = covers-true t (is_listed set) q f in false≢true (ap (λ (xs : List ℕ). is_listed xs c.member) (sym e) ∙ c.chosen))
    ]

module _ (t : Shape) (tree : IsTree t) (y : System) (stands : Stands (planning t) y) (high : AreHigh t y.state.held) (far : ℕ → ExtenderState) (is : (n : ℕ) → (far n).tables ≡ y.tables n) where
  under : IsUnderLaid t y
  under = under_laid t y stands

  or_left : (a b : Bool) → b ≡ false → (a || b) ≡ true → a ≡ true
  or_left true b e f = refl
  or_left false b e f = absurd (false≢true (sym e ∙ f))

  -- a channel that a port holds is found again
  channel_holds : (q : ℕ) → 0 < channel_of t y.state.held q → y.state.held.port (trunk t (device q)) (channel_of t y.state.held q) ≡ Some q
  channel_holds q some = by_option (channel_in y.state.held (trunk t (device q)) q) refl some
    where
      by_option : (o : Option ℕ) → channel_in y.state.held (trunk t (device q)) q ≡ o → 0 < or_zero o → y.state.held.port (trunk t (device q)) (or_zero o) ≡ Some q
      by_option None e z = absurd (omega arith)
      by_option (Some c) e z = (channel_found y.state.held (trunk t (device q)) q c e).is

  -- a port of extender m that has a channel
  record IsOwned (m p : ℕ) : Type 0 where
    device_is : device (port_of m p) ≡ m
    known : is_port t (port_of m p) ≡ true
    deep : 64 ≤ port_of m p
    own : (far m).tables.own p ≡ channel_of t y.state.held (port_of m p)
    kind : (far m).tables.cascade p ≡ (is_cascade t (port_of m p) && is_shown t under.opened (port_of m p))
    shown : is_shown t under.opened (port_of m p) ≡ true

  owned_by : (m p : ℕ) → 0 < p → p ≤ 64 → 0 < (far m).tables.own p → (there shown : Bool) → has_port t m p ≡ there → is_shown t under.opened (port_of m p) ≡ shown →
      cond there (cond shown (channel_of t y.state.held (port_of m p)) 0) 0 ≡ (far m).tables.own p → (there && (is_cascade t (port_of m p) && is_shown t under.opened (port_of m p))) ≡ (far m).tables.cascade p → IsOwned m p
  owned_by m p first few some false shown e f own kind = absurd (omega (arith, own))
  owned_by m p first few some true false e f own kind = absurd (omega (arith, own))
  owned_by m p first few some true true e f own kind =
      let a = and_parts (nat_lt 0 m) (nat_lt 0 p && (nat_le p 64 && nat_le p (slice_index t.ports m))) e in
      let b = and_parts (nat_lt 0 p) (nat_le p 64 && nat_le p (slice_index t.ports m)) a.1 in
      let c = and_parts (nat_le p 64) (nat_le p (slice_index t.ports m)) b.1 in
      let low : 0 < m = ltb-true 0 m a.0 in
      let fits : p ≤ slice_index t.ports m = leb-true p (slice_index t.ports m) c.1 in
      let dev : device (port_of m p) ≡ m = omega (arith, low) in
      let place : port_of m p % 64 ≡ p - 1 = omega (arith, low) in
      record {
        device_is = dev;
        known = lt-ltb (port_of m p % 64) (slice_index t.ports (device (port_of m p))) (rw (place, dev) (omega (arith, fits)));
        deep = omega (arith, low);
        own = sym own;
        kind = sym kind;
        shown = f;
      }

  owned : (m p : ℕ) → 0 < p → p ≤ 64 → 0 < (far m).tables.own p → IsOwned m p
  owned m p first few some =
      let w : IsWithin (y.tables m) (laid t under.opened y.state.held m) = under.within m in
      let mine : (far m).tables.own p ≡ (y.tables m).own p = ap (λ (x : ExtenderTables). x.own p) (is m) in
      let some' : 0 < (y.tables m).own p = omega (arith, mine) in
      owned_by m p first few some (has_port t m p) (is_shown t under.opened (port_of m p)) refl refl (w.own p some' ∙ sym mine) (w.kinds p some' ∙ sym (ap (λ (x : ExtenderTables). x.cascade p) (is m)))

  holds_own : (m p : ℕ) → (o : IsOwned m p) → 0 < (far m).tables.own p → y.state.held.port (trunk t m) ((far m).tables.own p) ≡ Some (port_of m p)
  holds_own m p o some =
      let k : y.state.held.port (trunk t (device (port_of m p))) (channel_of t y.state.held (port_of m p)) ≡ Some (port_of m p) = channel_holds (port_of m p) (omega (arith, o.own)) in
      subst (λ (i : ℕ). y.state.held.port (trunk t i) ((far m).tables.own p) ≡ Some (port_of m p)) o.device_is (subst (λ (c : ℕ). y.state.held.port (trunk t (device (port_of m p))) c ≡ Some (port_of m p)) (sym o.own) k)

  -- the pair of a channel is at a port above the one that holds it
  covered_by : (m p channel q : ℕ) → IsOwned m p → 0 < channel → channel < 4095 → y.state.held.port (trunk t m) channel ≡ Some q → (far m).tables.pair channel p ≡ true → covers t (λ x. x == q) (port_of m p) ≡ true
  covered_by m p channel q o some small holds pair =
      let Q : ℕ = port_of m p in
      let mine : (y.tables m).pair channel p ≡ true = ap (λ (x : ExtenderTables). x.pair channel p) (sym (is m)) ∙ pair in
      let both = and_parts (has_port t m p) (channel_pair t (is_shown t under.opened) Q (y.state.held.port (trunk t (device Q)) channel) || group_pair t Q (y.state.held.set (trunk t (device Q)) channel)) ((under.within m).pairs channel p mine) in
      let one : channel_pair t (is_shown t under.opened) Q (y.state.held.port (trunk t (device Q)) channel) ≡ true =
      or_left (channel_pair t (is_shown t under.opened) Q (y.state.held.port (trunk t (device Q)) channel)) (group_pair t Q (y.state.held.set (trunk t (device Q)) channel))
      (no_group t Q (y.state.held.set (trunk t (device Q)) channel) (high (trunk t (device Q)) channel (trunk_low t tree Q o.deep o.known) (trunk_cascade t tree Q o.deep o.known) some (omega arith))) both.1
      in
      let here : y.state.held.port (trunk t (device Q)) channel ≡ Some q = subst (λ (i : ℕ). y.state.held.port (trunk t i) channel ≡ Some q) (sym o.device_is) holds in
      let two : channel_pair t (is_shown t under.opened) Q (Some q) ≡ true = subst (λ (x : Option ℕ). channel_pair t (is_shown t under.opened) Q x ≡ true) here one in
      (and_parts (is_shown t under.opened q) (covers t (λ x. x == q) Q) two).1

  hops : (m p channel n : ℕ) → IsOwned m p → 0 < (far m).tables.own p → y.state.held.port (trunk t m) channel ≡ Some (on t n) → Covered t (λ x. x == on t n) (port_of m p) → IsNextHop t (far m) m p channel n
  hops m p channel n o some holds c =
      let Q : ℕ = port_of m p in
      let same : c.member ≡ on t n = eqb-true c.member (on t n) c.chosen in
      let own_holds : y.state.held.port (trunk t m) ((far m).tables.own p) ≡ Some Q = holds_own m p o some in
      let above_it : above t Q (on t n) ≡ true = among_above t Q (on t n) ∙ subst (λ (i : ℕ). among Q (path t.on i) ≡ true) same c.below in
      elim (cases_eq Q (on t n)) [
        | inl e ↦
            let low : trunk t m < 64 = subst (λ (i : ℕ). trunk t i < 64) o.device_is (trunk_low t tree Q o.deep o.known) in
            let cascade : is_cascade t (trunk t m) ≡ true = subst (λ (i : ℕ). is_cascade t (trunk t i) ≡ true) o.device_is (trunk_cascade t tree Q o.deep o.known) in
            record { way = above_it; hop = inl (e, under.ones (trunk t m) ((far m).tables.own p) channel Q low cascade own_holds (holds ∙ ap (λ (x : ℕ). Some x) (sym e))) }
        | inr ne ↦
            let known : is_port t (on t n) ≡ true = subst (λ (i : ℕ). is_port t i ≡ true) same c.known in
            let below : among Q (up t.on 64 (on t n)) ≡ true = subst (λ (i : ℕ). among Q (up t.on 64 i) ≡ true) same (ap (among Q) (sym (path_is t c.member)) ∙ c.below) in
            let higher = cascade_above t tree 64 (on t n) Q known ne below in
            let cascade : is_cascade t Q ≡ true = hung_cascade t tree (higher.0).0 Q (higher.0).1 in
            let kind : (far m).tables.cascade p ≡ true = o.kind ∙ and_from (is_cascade t Q) (is_shown t under.opened Q) cascade o.shown in
            let other : (far m).tables.own p ≢ channel = λ e. ne (some_same (sym own_holds ∙ ap (y.state.held.port (trunk t m)) e ∙ holds)) in
            record { way = above_it; hop = inr (kind, other, higher.0) }
      ]

  -- an external port with a channel is no cascade port, and holds its channel
  pub external_owned : (m p : ℕ) → 0 < p → p ≤ 64 → 0 < (far m).tables.own p → is_cascade t (port_of m p) ≡ false → ((far m).tables.cascade p ≡ false) × (y.state.held.port (trunk t m) ((far m).tables.own p) ≡ Some (port_of m p))
  external_owned m p first few some external =
      let o : IsOwned m p = owned m p first few some in
      (o.kind ∙ ap (λ (b : Bool). b && is_shown t under.opened (port_of m p)) external, holds_own m p o some)

  pub stands_route : Routes t y.state.held far
  stands_route =
      record {
        down = λ m p channel n there goal deep holds some small first few own pair.
            let o : IsOwned m p = owned m p first few own in
            hops m p channel n o own holds (covers-true t (λ x. x == on t n) (port_of m p) (covered_by m p channel (on t n) o some small holds pair));
        up = λ m p n there hangs first few own. holds_own m p (owned m p first few own) own;
      }
