-- The steps of the system among others, and steps by which a request comes to its extender.
use Rattle.std.proofs.Common.{◌≡◌, ◌≢◌, ◌⊎◌, ℕ, zero, suc, ◌<◌, ◌≤◌, ◌==◌, ◌++◌, cond, Bool, true, false, List, [], ◌∷◌, Option, Some, None, nat_lt, slice_index, refl, sym, ◌∙◌, ap, subst, arith, inl, inr, eq-eqb}
use Rattle.std.proofs.lemmas.Bool.{cases_Bool, cases_lt, ne_eqb, ltb-true, or_left, or_right, and_from, and_parts, false_from_ne_true}
use Rattle.exb_model.specs.Tree.{Shape, IsTree, device, on, top, is_extender}
use Rattle.exb_model.specs.Setup.{Limits}
use Rattle.exb_model.specs.History.{Basis}
use Rattle.exb_model.proofs.TreeWays.{top_high, top_none}
use Rattle.exb_csp.specs.declared.message.Response.{Response}
use Rattle.exb_control_spec.specs.Decisions.{decide}
use Rattle.exb_control_spec.specs.Machine.{Work}
use Rattle.exb_control_spec.specs.Runs.RequestTargets.{KnowsWork}
use Rattle.exb_control_spec.specs.Runs.PlannedChanges.{planning}
use Rattle.exb_control_spec.specs.Runs.MachineInvariant.{MayStep, MayRun}
use Rattle.exb_control_spec.specs.Runs.Systems.{System}
use Rattle.exb_control_spec.specs.Runs.Systems as systems
use Rattle.exb_model.specs.ExtenderForwarding.{emits}
use Rattle.exb_flight.specs.Items.{Word, Key, is_key, Item, Data, Token, words_of, copies, data_of, without_data, leads}
use Rattle.exb_flight.specs.Tree.{Over, itself, further, IsLink}
use Rattle.exb_flight.specs.Flight.{Flight, Stamp, Step, Arrive, CarryUp, CarryIn, Relay, CarryDown, SendDown, SendUp, LoseDown, LoseUp, Move, Note, tables_of, work_of, key_of, hangs_under, moved_down, carry_down, stepped}
use Rattle.exb_flight.specs.AllowedSteps.{CanMove, run, Runs}
use Rattle.exb_flight.specs.FlightFacts.{Facts}
use Rattle.exb_flight.specs.RequestDelivery.{moves_of, GoesOn, SystemsGoOn, RequestsComeThrough}
use Rattle.exb_flight.proofs.ItemLists.{words_without_data}
use Rattle.exb_flight.proofs.LinkItems.{under, words_add}
use Rattle.exb_flight.proofs.ExtendersAbove.{over_trans, link_above, no_circle, top_alone}

-- ---- the system
arrives_still : (s : Shape) (l : Limits) (i : Basis) (w : Flight) (p : Stamp) (g : List ℕ) → (stepped s l i w (Arrive p g)).system ≡ w.system
arrives_still s l i w p g =
    elim (cases_Bool (nat_lt 0 ((tables_of w).own p.port))) [
      | inl e ↦ rw e refl
      | inr e ↦ rw e refl
    ]

may_step : (s : Shape) (i : Basis) (w : Flight) (step : systems.Step) → CanMove s i w step → MayStep (planning s) w.system step
may_step s i w (systems.Order c) k = k.0
may_step s i w (systems.Hear n) k = tt
may_step s i w systems.Execute k = tt
may_step s i w systems.Answer k = tt
may_step s i w (systems.Stray n m) k = k
may_step s i w systems.Beat k = tt

-- a step that leaves the system
skipped : (s : Shape) (l : Limits) (i : Basis) (w next : Flight) (xs : List Step) → next.system ≡ w.system → GoesOn s l i next xs →
    ((run s l i next xs).system ≡ systems.run (decide s l) (moves_of xs) w.system) × MayRun (planning s) (decide s l) w.system (moves_of xs)
skipped s l i w next xs same k =
    (k.same ∙ ap (systems.run (decide s l) (moves_of xs)) same, subst (λ (y : System). MayRun (planning s) (decide s l) y (moves_of xs)) same k.may)

pub systems_go_on : SystemsGoOn
systems_go_on s l i w [] r = record { same = refl; may = tt }
systems_go_on s l i w (Arrive p g ∷ xs) r = let k = skipped s l i w (stepped s l i w (Arrive p g)) xs (arrives_still s l i w p g) (systems_go_on s l i (stepped s l i w (Arrive p g)) xs r.1) in record { same = k.0; may = k.1 }
systems_go_on s l i w (CarryUp n f ∷ xs) r = let k = systems_go_on s l i (stepped s l i w (CarryUp n f)) xs r.1 in record { same = k.same; may = k.may }
systems_go_on s l i w (CarryIn n f ∷ xs) r = let k = systems_go_on s l i (stepped s l i w (CarryIn n f)) xs r.1 in record { same = k.same; may = k.may }
systems_go_on s l i w (Relay p f ∷ xs) r = let k = systems_go_on s l i (stepped s l i w (Relay p f)) xs r.1 in record { same = k.same; may = k.may }
systems_go_on s l i w (CarryDown n f ∷ xs) r = let k = systems_go_on s l i (stepped s l i w (CarryDown n f)) xs r.1 in record { same = k.same; may = k.may }
systems_go_on s l i w (SendDown n j ∷ xs) r = let k = systems_go_on s l i (stepped s l i w (SendDown n j)) xs r.1 in record { same = k.same; may = k.may }
systems_go_on s l i w (SendUp n j ∷ xs) r = let k = systems_go_on s l i (stepped s l i w (SendUp n j)) xs r.1 in record { same = k.same; may = k.may }
systems_go_on s l i w (LoseDown n at ∷ xs) r = let k = systems_go_on s l i (stepped s l i w (LoseDown n at)) xs r.1 in record { same = k.same; may = k.may }
systems_go_on s l i w (LoseUp n at ∷ xs) r = let k = systems_go_on s l i (stepped s l i w (LoseUp n at)) xs r.1 in record { same = k.same; may = k.may }
systems_go_on s l i w (Move step ∷ xs) r = let k = systems_go_on s l i (stepped s l i w (Move step)) xs r.1 in record { same = k.same; may = (may_step s i w step r.0, k.may) }
systems_go_on s l i w (Note e ∷ xs) r = let k = systems_go_on s l i (stepped s l i w (Note e)) xs r.1 in record { same = k.same; may = k.may }

-- ---- runs one after another
module _ (s : Shape) (l : Limits) (i : Basis) where
  run_append : (w : Flight) (xs ys : List Step) → run s l i w (xs ++ ys) ≡ run s l i (run s l i w xs) ys
  run_append w [] ys = refl
  run_append w (x ∷ xs) ys = run_append (stepped s l i w x) xs ys

  runs_append : (w : Flight) (xs ys : List Step) → Runs s l i w xs → Runs s l i (run s l i w xs) ys → Runs s l i w (xs ++ ys)
  runs_append w [] ys a b = b
  runs_append w (x ∷ xs) ys a b = (a.0, runs_append (stepped s l i w x) xs ys a.1 b)

  -- ---- all data words of a link are taken
  record Drained (w : Flight) (n : ℕ) : Type 0 where
    steps : List Step
    runs : Runs s l i w steps
    system : (run s l i w steps).system ≡ w.system
    empty : words_of ((run s l i w steps).down n) ≡ []
    others : (m : ℕ) → m ≢ n → (64 ≤ on s m → device (on s m) ≢ n) → (run s l i w steps).down m ≡ w.down m

  drain : (ws : List Word) (w : Flight) (n : ℕ) → IsLink s n → words_of (w.down n) ≡ ws → Drained w n
  drain [] w n link e = record { steps = []; runs = tt; system = refl; empty = e; others = λ m a b. refl }
  drain (f ∷ ws) w n link e =
      let next = carry_down s w n f in
      let left : words_of (next.down n) ≡ ws = ap (λ (b : Bool). words_of (cond b (without_first (w.down n)) (other_way n))) (eq-eqb n n refl) ∙ words_without_data (w.down n) f ws e in
      let d = drain ws next n link left in
      record {
        steps = CarryDown n f ∷ d.steps;
        runs = (record { link = link; rest = ws; first = e }, d.runs);
        system = d.system;
        empty = d.empty;
        others = λ m a b. d.others m a b ∙ untouched m a b;
      }
    where
      without_first : List Item → List Item
      without_first xs = without_data xs

      other_way : ℕ → List Item
      other_way m = cond (hangs_under s n m) (w.down m ++ data_of (copies f (emits (tables_of w) (on s m) f.bytes))) (w.down m)

      untouched : (m : ℕ) → m ≢ n → (64 ≤ on s m → device (on s m) ≢ n) → moved_down s (tables_of w) n f w.down m ≡ w.down m
      untouched m a b =
          let none : hangs_under s n m ≡ false = false_from_ne_true (hangs_under s n m) (λ c. let u = under s n m c in b u.0 u.1) in
          rw (ne_eqb m n a, none) refl

  -- ---- so are those of all links on the way to an extender
  record Cleared (w : Flight) (n : ℕ) : Type 0 where
    steps : List Step
    runs : Runs s l i w steps
    system : (run s l i w steps).system ≡ w.system
    empty : (m : ℕ) → Over s m n → words_of ((run s l i w steps).down m) ≡ []

  module _ (valid : IsTree s) where
    -- the link of n, where nothing is above it
    clear_top : (n : ℕ) (w : Flight) → IsLink s n → on s n < 64 → Cleared w n
    clear_top n w link here =
        let c = drain (words_of (w.down n)) w n link refl in
        record { steps = c.steps; runs = c.runs; system = c.system; empty = λ m o. subst (λ (x : ℕ). words_of ((run s l i w c.steps).down x) ≡ []) (sym (top_alone s m n here o)) c.empty }

    -- the link of n, after those above it
    clear_next : (n : ℕ) (w : Flight) → IsLink s n → 64 ≤ on s n → Cleared w (device (on s n)) → Cleared w n
    clear_next n w link high a =
        let mid = run s l i w a.steps in
        let c = drain (words_of (mid.down n)) mid n link refl in
        let end = run_append w a.steps c.steps in
        record {
          steps = a.steps ++ c.steps;
          runs = runs_append w a.steps c.steps a.runs c.runs;
          system = ap (λ (z : Flight). z.system) end ∙ (c.system ∙ a.system);
          empty = λ m o. ap (λ (z : Flight). words_of (z.down m)) end ∙ after mid a.empty c m o;
        }
      where
        after : (mid : Flight) → ((m : ℕ) → Over s m (device (on s n)) → words_of (mid.down m) ≡ []) → (c : Drained mid n) → (m : ℕ) → Over s m n → words_of ((run s l i mid c.steps).down m) ≡ []
        after mid before c m (itself e) = subst (λ (x : ℕ). words_of ((run s l i mid c.steps).down x) ≡ []) e c.empty
        after mid before c m (further g o) =
            let other : m ≢ n = λ e. no_circle s valid n link high (subst (λ (x : ℕ). Over s x (device (on s n))) e o) in
            let no_child : 64 ≤ on s m → device (on s m) ≢ n = λ h e. no_circle s valid n link high (over_trans s n m (device (on s n)) (further h (itself e)) o) in
            ap words_of (c.others m other no_child) ∙ before m o

    clear : (d n : ℕ) (w : Flight) → IsLink s n → top s.on d (on s n) < 64 → Cleared w n
    clear zero n w link low = clear_top n w link (let z : top s.on zero (on s n) ≡ on s n = top_none s (on s n) in omega (arith, low, z))
    clear (suc d) n w link low =
        elim (cases_lt (on s n) 64) [
          | inl here ↦ clear_top n w link here
          | inr high ↦ clear_next n w link high (clear d (device (on s n)) w (link_above s valid n link high) (rw (top_high s d (on s n) high) at low))
        ]

    -- ---- the request goes down a way without data words
    record Led (w : Flight) (v : Work) (n : ℕ) : Type 0 where
      steps : List Step
      runs : Runs s l i w steps
      system : (run s l i w steps).system ≡ w.system
      words : (m : ℕ) → words_of ((run s l i w steps).down m) ≡ words_of (w.down m)
      leading : leads (key_of w.system.state v) ((run s l i w steps).down n) ≡ true

    same_key : (k : Key) → is_key k k ≡ true
    same_key k = and_from (k.extender == k.extender) (k.serial == k.serial) (eq-eqb k.extender k.extender refl) (eq-eqb k.serial k.serial refl)

    -- behind other control words alone
    leads_alone : (k : Key) (xs : List Item) → words_of xs ≡ [] → leads k (xs ++ Token k ∷ []) ≡ true
    leads_alone k [] e = or_left (is_key k k) false (same_key k)
    leads_alone k (Data f ∷ xs) e = absurd (let z : ◌≡◌ {A = List Word} (f ∷ words_of xs) [] = e in cc)
    leads_alone k (Token j ∷ xs) e = or_right (is_key j k) (leads k (xs ++ Token k ∷ [])) (leads_alone k xs e)

    send_on : (n : ℕ) (w : Flight) (v : Work) → work_of w ≡ Some v → words_of (w.down n) ≡ [] → (on s n < 64) ⊎ (leads (key_of w.system.state v) (w.down (device (on s n))) ≡ true) → Led w v n
    send_on n w v at_work empty from =
        let k = key_of w.system.state v in
        record {
          steps = SendDown n k ∷ [];
          runs = (inr (record { work = v; at_work = at_work; key = refl; from = from }), tt);
          system = refl;
          words = λ m. words_add w.down n k m;
          leading = ap (λ (b : Bool). leads k (cond b (w.down n ++ Token k ∷ []) (w.down n))) (eq-eqb n n refl) ∙ leads_alone k (w.down n) empty;
        }

    send_next : (n : ℕ) (w : Flight) (v : Work) → work_of w ≡ Some v → words_of (w.down n) ≡ [] → Led w v (device (on s n)) → Led w v n
    send_next n w v at_work empty a =
        let mid = run s l i w a.steps in
        let key : key_of mid.system.state v ≡ key_of w.system.state v = ap (λ (y : System). key_of y.state v) a.system in
        let c = send_on n mid v (ap (λ (y : System). y.state.work) a.system ∙ at_work) (a.words n ∙ empty) (inr (subst (λ (j : Key). leads j (mid.down (device (on s n))) ≡ true) (sym key) a.leading)) in
        let end = run_append w a.steps c.steps in
        record {
          steps = a.steps ++ c.steps;
          runs = runs_append w a.steps c.steps a.runs c.runs;
          system = ap (λ (z : Flight). z.system) end ∙ (c.system ∙ a.system);
          words = λ m. ap (λ (z : Flight). words_of (z.down m)) end ∙ (c.words m ∙ a.words m);
          leading = subst (λ (j : Key). leads j ((run s l i w (a.steps ++ c.steps)).down n) ≡ true) key (ap (λ (z : Flight). leads (key_of mid.system.state v) (z.down n)) end ∙ c.leading);
        }

    send : (d n : ℕ) (w : Flight) (v : Work) → work_of w ≡ Some v → ((m : ℕ) → Over s m n → words_of (w.down m) ≡ []) → IsLink s n → top s.on d (on s n) < 64 → Led w v n
    send zero n w v at_work empty link low = send_on n w v at_work (empty n (itself refl)) (inl (let z : top s.on zero (on s n) ≡ on s n = top_none s (on s n) in omega (arith, low, z)))
    send (suc d) n w v at_work empty link low =
        elim (cases_lt (on s n) 64) [
          | inl here ↦ send_on n w v at_work (empty n (itself refl)) (inl here)
          | inr high ↦
              send_next n w v at_work (empty n (itself refl))
              (send d (device (on s n)) w v at_work (λ m o. empty m (further high o)) (link_above s valid n link high) (rw (top_high s d (on s n) high) at low))
        ]

-- ---- it is executed
some_none : {A : Type 0} (x : A) → Some x ≡ None → ⊥
some_none x e = cc

some_same : {A : Type 0} (x y : A) → Some x ≡ Some y → x ≡ y
some_same x y e = cc

-- an extender of the tree has a way up to the bridge
asked_link : (s : Shape) (i : Basis) (w : Flight) → Facts s i w → (v : Work) → work_of w ≡ Some v → IsLink s v.first.extender
asked_link s i w h v e =
    let k : is_extender s v.first.extender ≡ true = (subst (KnowsWork s) e h.knows.work).first in
    let both = and_parts (nat_lt 0 v.first.extender) (nat_lt 0 (slice_index s.ports v.first.extender)) k in
    record { extender = ltb-true 0 _ both.0; there = ltb-true 0 _ both.1; at = refl }

pub requests_come_through : RequestsComeThrough
requests_come_through s l i setting w h v at_work idle =
    let x = v.first.extender in
    let link = asked_link s i w h v at_work in
    let low = (setting.tree).rooted x link.extender link.there in
    let c = clear s l i setting.tree 63 x w link low in
    let mid = run s l i w c.steps in
    let t = send s l i setting.tree 63 x mid v (ap (λ (y : System). y.state.work) c.system ∙ at_work) c.empty link low in
    let ready = run s l i mid t.steps in
    let system : ready.system ≡ w.system = t.system ∙ c.system in
    let key : key_of mid.system.state v ≡ key_of ready.system.state v = ap (λ (y : System). key_of y.state v) (sym t.system) in
    let steps = c.steps ++ (t.steps ++ Move systems.Execute ∷ []) in
    let end : run s l i w steps ≡ stepped s l i ready (Move systems.Execute) = run_append s l i w c.steps (t.steps ++ Move systems.Execute ∷ []) ∙ run_append s l i mid t.steps (Move systems.Execute ∷ []) in
    let may : CanMove s i ready systems.Execute =
    λ u e.
    let same : v ≡ u = some_same v u (sym at_work ∙ (ap (λ (y : System). y.state.work) (sym system) ∙ e)) in
    subst (λ (z : Work). leads (key_of ready.system.state z) (ready.down z.first.extender) ≡ true) same (subst (λ (j : Key). leads j (ready.down x) ≡ true) key t.leading) in (
      steps,
      runs_append s l i w c.steps (t.steps ++ Move systems.Execute ∷ []) c.runs (runs_append s l i mid t.steps (Move systems.Execute ∷ []) t.runs (may, tt)),
      λ none. executed w.system at_work idle (ap (λ (y : System). systems.answer_of y.state.work y.answer y.tables) (sym system) ∙ (ap (λ (z : Flight). z.system.answer) (sym end) ∙ none)),
    )
  where
    executed : (y : System) → y.state.work ≡ Some v → y.answer ≡ None → systems.answer_of y.state.work y.answer y.tables ≡ None → ⊥
    executed y e f none = by_both y.state.work y.answer e f none
      where
        by_both : (o : Option Work) (a : Option Response) → o ≡ Some v → a ≡ None → systems.answer_of o a y.tables ≡ None → ⊥
        by_both None a e f none = some_none v (sym e)
        by_both (Some u) (Some r) e f none = some_none r f
        by_both (Some u) None e f none = some_none _ none
