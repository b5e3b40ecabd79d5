-- Of a segment whose order is drawn: what was given, and that what is left can be given.
use Rattle.std.proofs.Common.{◌≡◌, ◌≢◌, ℕ, zero, suc, ◌+◌, ◌<◌, ◌≤◌, ◌^◌, ◌++◌, ◌==◌, Bool, true, false, inl, inr, List, [], ◌∷◌, map, drop, length, set, replicate, get_or, append_assoc, append-nil, refl, ap, sym, ◌∙◌, subst, arith}
use Rattle.std.specs.Prelude.{IsPermutation, if◌then◌else◌, Result, Ok, Err, OnOk}
use Rattle.std.proofs.lemmas.Bool.{cases_Bool, cases_eq, eq-eqb, eqb-true, ne_eqb, false≢true}
use Rattle.std.proofs.lemmas.List.{drop_all, drop_more, length-replicate, length-set}
use Rattle.std.proofs.lemmas.List.Sorted.{IsPermutation-refl, IsPermutation-trans, IsPermutation-sym, IsPermutation-middle, IsPermutation-append_right}
use Rattle.exb_model.specs.declared.command.Command.{Command}
use Rattle.exb_model.specs.declared.setup.Timed.{Timed}
use Rattle.exb_model.specs.Input.{Input, Segment, Seeded}
use Rattle.exb_model.specs.declared.arrival.Arrival.{Arrival}
use Rattle.exb_model.specs.Setup.{Limits}
use Rattle.exb_model.specs.Tree.{Shape}
use Rattle.exb_world_spec.specs.AllowedSteps.{Can}
use Rattle.exb_world_spec.specs.Steps.{stepped}
use Rattle.exb_world_spec.specs.Worlds.{World, Step, Arrive, Tick, Order}
use Rattle.exb_model.specs.Tables.{at}
use Rattle.exb_world_spec.specs.Runs.SessionLaws.{IsMove}
use Rattle.exb_flight.specs.Items.{Each}
use Rattle.exb_world_laws.specs.WorldInput.{Given, Came, Told, given_by, arrivals_of, commands_of}
use Rattle.exb_world_laws.specs.WorldInvariant.{given_in}
use Rattle.exb_world_laws.specs.SegmentRuns.{seconds_by, seconds_in, IsUnmarked}
use Rattle.exb_world.specs.WorldContracts.{Network, world_of, tree_of, bounds_of, IsStepped}
use Rattle.exb_bridge.specs.TreeIndexes.{Site}
use Rattle.exb_world_spec.specs.Runs.ReachedWorlds.{MayTake}
use Rattle.exb_schedule.specs.SeededSegments.{left_of, seconds_of, MayCome, MayComeAll, MayOrderAll, IsReady, GoesOn, HasDrawn, Keeps}
use Rattle.exb_schedule.specs.declared.remaining_input.RemainingInput.{RemainingInput}
use Rattle.exb_schedule.specs.SegmentRuns.{arrive, gives, orders, CanAll, CanFrom, IsSegment}
use Rattle.exb_schedule.specs.PlayedSegments.{GivesThese}
use Rattle.exb_schedule.proofs.StepSequences.{run_nothing, run_step, run_steps}
use Rattle.exb_schedule.proofs.SegmentRuns.{moves_give_nothing}
use Rattle.exb_schedule.proofs.PlayedSegments.{GivesIt}
use Rattle.exb_schedule.proofs.AwaitedIndices.{HasAs, move_stays, tick_stays, order_stays, arrival_stays}

-- ---- indices that are awaited
abbrev bumped : ℕ → (ℕ → ℕ) → ℕ → ℕ
bumped q f = at q (f q + 1) f

bumped_same : (f g : ℕ → ℕ) (q : ℕ) → ((p : ℕ) → g p ≡ f p) → (p : ℕ) → bumped q g p ≡ bumped q f p
bumped_same f g q same p = elim (cases_Bool (p == q)) [ inl e ↦ rw e (ap (λ (n : ℕ). n + 1) (same q)) | inr e ↦ rw e (same p) ]

bumped_here : (f : ℕ → ℕ) (q p : ℕ) → p ≡ q → bumped q f p ≡ f p + 1
bumped_here f q p e = rw (eq-eqb p q e) (ap (λ (n : ℕ). f n + 1) (sym e))

bumped_other : (f : ℕ → ℕ) (q p : ℕ) → p ≢ q → bumped q f p ≡ f p
bumped_other f q p ne = rw (ne_eqb p q ne) refl

bumped_twice : (f : ℕ → ℕ) (q r : ℕ) → q ≢ r → (p : ℕ) → bumped q (bumped r f) p ≡ bumped r (bumped q f) p
bumped_twice f q r ne p =
    elim (cases_eq p q) [
      | inl e ↦
          let apart : p ≢ r = λ same. ne (sym e ∙ same) in
          bumped_here (bumped r f) q p e ∙ (ap (λ (n : ℕ). n + 1) (bumped_other f r p apart) ∙ (sym (bumped_here f q p e) ∙ sym (bumped_other (bumped q f) r p apart)))
      | inr other ↦ elim (cases_eq p r) [
        | inl e ↦ bumped_other (bumped r f) q p other ∙ (bumped_here f r p e ∙ (sym (ap (λ (n : ℕ). n + 1) (bumped_other f q p other)) ∙ sym (bumped_here (bumped q f) r p e)))
        | inr apart ↦ bumped_other (bumped r f) q p other ∙ (bumped_other f r p apart ∙ (sym (bumped_other f q p other) ∙ sym (bumped_other (bumped q f) r p apart)))
      ]
    ]

module _ (t : Shape) where
  come_one : (f g : ℕ → ℕ) (a : Arrival) → g a.port ≡ f a.port → MayCome t f a → MayCome t g a
  come_one f g a same k = record { external = k.external; index = k.index ∙ sym same; few = k.few; short = k.short }

  come_same : (f g : ℕ → ℕ) (frames : List Arrival) → ((p : ℕ) → g p ≡ f p) → MayComeAll t f frames → MayComeAll t g frames
  come_same f g [] same k = tt
  come_same f g (a ∷ frames) same k =
      (come_one f g a (same a.port) k.0, come_same (bumped a.port f) (bumped a.port g) frames (bumped_same f g a.port same) k.1)

  -- an arrival further behind has no lower index
  rises : (f : ℕ → ℕ) (ys zs : List Arrival) (x : Arrival) → MayComeAll t f (ys ++ x ∷ zs) → f x.port ≤ x.index
  rises f [] zs x k = (let e = k.0.index in omega (arith, e))
  rises f (y ∷ ys) zs x k =
      let r = rises (bumped y.port f) ys zs x k.1 in
      elim (cases_eq x.port y.port) [
        | inl e ↦ (let here = bumped_here f y.port x.port e in omega (arith, r, here))
        | inr ne ↦ (let other = bumped_other f y.port x.port ne in omega (arith, r, other))
      ]

  -- one that may come now comes first
  pull : (f : ℕ → ℕ) (ys zs : List Arrival) (x : Arrival) → MayComeAll t f (ys ++ x ∷ zs) → x.index ≡ f x.port → MayComeAll t (bumped x.port f) (ys ++ zs)
  pull f [] zs x k is = k.1
  pull f (y ∷ ys) zs x k is =
      elim (cases_eq x.port y.port) [
        | inl e ↦
            let r = rises (bumped y.port f) ys zs x k.1 in
            let here = bumped_here f y.port x.port e in
            absurd (omega (arith, r, here, is))
        | inr ne ↦
            let other : y.port ≢ x.port = λ e. ne (sym e) in
            let ahead : MayComeAll t (bumped x.port (bumped y.port f)) (ys ++ zs) = pull (bumped y.port f) ys zs x k.1 (is ∙ sym (bumped_other f y.port x.port ne)) in
            (come_one f (bumped x.port f) y (bumped_other f x.port y.port other) k.0, come_same (bumped x.port (bumped y.port f)) (bumped y.port (bumped x.port f)) (ys ++ zs) (bumped_twice f y.port x.port other) ahead)
      ]

-- ---- the arrivals that are left
pub record IsLeft (flags : List Bool) (frames : List Arrival) (k : ℕ) (a : Arrival) : Type 0 where
  pub front : List Arrival
  pub rest : List Arrival
  pub is : left_of flags frames ≡ front ++ a ∷ rest
  pub less : left_of (set flags k true) frames ≡ front ++ rest

left_at : (flags : List Bool) (frames : List Arrival) (k : ℕ) (a : Arrival) → k < length flags → k < length frames → get_or flags k true ≡ false → a ≡ get_or frames k a → IsLeft flags frames k a
left_at [] frames k a low few not_yet is = absurd (omega (arith, low))
left_at (b ∷ flags) [] k a low few not_yet is = absurd (omega (arith, few))
left_at (true ∷ flags) (x ∷ frames) zero a low few not_yet is = absurd (false≢true (sym not_yet))
left_at (false ∷ flags) (x ∷ frames) zero a low few not_yet is = record { front = []; rest = left_of flags frames; is = ap (λ (y : Arrival). y ∷ left_of flags frames) (sym is); less = refl }
left_at (true ∷ flags) (x ∷ frames) (suc k) a low few not_yet is =
    let r = left_at flags frames k a (omega (arith, low)) (omega (arith, few)) not_yet is in
    record { front = r.front; rest = r.rest; is = r.is; less = r.less }
left_at (false ∷ flags) (x ∷ frames) (suc k) a low few not_yet is =
    let r = left_at flags frames k a (omega (arith, low)) (omega (arith, few)) not_yet is in
    record { front = x ∷ r.front; rest = r.rest; is = ap (λ (ys : List Arrival). x ∷ ys) r.is; less = ap (λ (ys : List Arrival). x ∷ ys) r.less }

none_yet : (n : ℕ) (frames : List Arrival) → left_of (replicate n false) frames ≡ frames
none_yet zero frames = refl
none_yet (suc n) [] = refl
none_yet (suc n) (a ∷ frames) = ap (λ (ys : List Arrival). a ∷ ys) (none_yet n frames)

-- all before it are given
record IsFirst (flags : List Bool) (frames : List Arrival) (a : Arrival) : Type 0 where
  rest : List Arrival
  is : left_of flags frames ≡ a ∷ rest

first_left : (flags : List Bool) (frames : List Arrival) (k : ℕ) (a : Arrival) → k < length flags → k < length frames → ((i : ℕ) → i < k → get_or flags i true ≡ true) → get_or flags k true ≡ false → a ≡ get_or frames k a →
    IsFirst flags frames a
first_left [] frames k a low few before not_yet is = absurd (omega (arith, low))
first_left (b ∷ flags) [] k a low few before not_yet is = absurd (omega (arith, few))
first_left (true ∷ flags) (x ∷ frames) zero a low few before not_yet is = absurd (false≢true (sym not_yet))
first_left (false ∷ flags) (x ∷ frames) zero a low few before not_yet is = record { rest = left_of flags frames; is = ap (λ (y : Arrival). y ∷ left_of flags frames) (sym is) }
first_left (true ∷ flags) (x ∷ frames) (suc k) a low few before not_yet is =
    let r = first_left flags frames k a (omega (arith, low)) (omega (arith, few)) (λ i h. before (suc i) (omega (arith, h))) not_yet is in
    record { rest = r.rest; is = r.is }
first_left (false ∷ flags) (x ∷ frames) (suc k) a low few before not_yet is = absurd (false≢true (before 0 (omega arith)))

none_left : (flags : List Bool) (frames : List Arrival) → length frames ≤ length flags → ((i : ℕ) → i < length frames → get_or flags i true ≡ true) → left_of flags frames ≡ []
none_left [] [] few every = refl
none_left [] (x ∷ frames) few every = absurd (omega (arith, few))
none_left (b ∷ flags) [] few every = refl
none_left (true ∷ flags) (x ∷ frames) few every = none_left flags frames (omega (arith, few)) (λ i h. every (suc i) (omega (arith, h)))
none_left (false ∷ flags) (x ∷ frames) few every = absurd (false≢true (every 0 (omega arith)))

-- one flag more
pub set_flags : (flags : List Bool) (k i : ℕ) → get_or flags i true ≡ true → get_or (set flags k true) i true ≡ true
set_flags [] k i is = is
set_flags (b ∷ flags) zero zero is = refl
set_flags (b ∷ flags) zero (suc i) is = is
set_flags (b ∷ flags) (suc k) zero is = is
set_flags (b ∷ flags) (suc k) (suc i) is = set_flags flags k i is

pub set_here : (flags : List Bool) (k : ℕ) → get_or (set flags k true) k true ≡ true
set_here [] k = refl
set_here (b ∷ flags) zero = refl
set_here (b ∷ flags) (suc k) = set_here flags k

-- ---- what may be given
module _ (t : Shape) (l : Limits) where
  can_come : (frames : List Arrival) (w : World) (next : ℕ → ℕ) → ((p : ℕ) → w.next p ≡ next p) → CanFrom t l w (arrive frames) → MayComeAll t next frames
  can_come [] w next same can = tt
  can_come (a ∷ frames) w next same can = (
    record { external = can.0.external; index = can.0.next ∙ same a.port; few = can.0.few; short = can.0.short },
    can_come frames (stepped t l (Arrive a) w).world (bumped a.port next) (λ p. (arrival_stays t l a w).awaits p ∙ sym (bumped_same w.next next a.port (λ r. sym (same r)) p)) can.1,
  )

  can_order : (cs : List Timed) (frames : List Arrival) (w : World) (next : ℕ → ℕ) (given : ℕ) → ((p : ℕ) → w.next p ≡ next p) → w.control.given ≡ given → CanFrom t l w (orders cs ++ arrive frames) →
      MayOrderAll t given cs × MayComeAll t next frames
  can_order [] frames w next given same is can = (tt, can_come frames w next same can)
  can_order (c ∷ cs) frames w next given same is can =
      let v = order_stays t l c.command w in
      let rest = can_order cs frames (stepped t l (Order c.command) w).world next (given + 1) (λ p. v.awaits p ∙ same p) (v.given ∙ ap (λ (n : ℕ). n + 1) is) can.1 in
      let low = can.0.1 in
      (((can.0.0, omega (arith, low, is)), rest.0), rest.1)

  can_all : (seconds : ℕ) (cs : List Timed) (frames : List Arrival) (w : World) → CanFrom t l w (gives seconds cs frames) → (seconds ≢ 0 → w.table.clock + seconds < 2 ^ 63) × (MayOrderAll t w.control.given cs × MayComeAll t w.next frames)
  can_all seconds cs frames w can =
      elim (cases_Bool (seconds == 0)) [
        | inl e ↦
            let all : CanFrom t l w (orders cs ++ arrive frames) = subst (CanFrom t l w) (ap (λ (b : Bool). (if b then [] else Tick seconds ∷ []) ++ (orders cs ++ arrive frames)) e) can in
            ((λ ne. absurd (ne (eqb-true seconds 0 e))), can_order cs frames w w.next w.control.given (λ p. refl) refl all)
        | inr e ↦
            let all : CanFrom t l w (Tick seconds ∷ (orders cs ++ arrive frames)) = subst (CanFrom t l w) (ap (λ (b : Bool). (if b then [] else Tick seconds ∷ []) ++ (orders cs ++ arrive frames)) e) can in
            let v = tick_stays t l seconds w in
            ((λ ne. all.0.1), can_order cs frames (stepped t l (Tick seconds) w).world w.next w.control.given v.awaits v.given all.1)
      ]

pub drawn_first : (seconds : ℕ) (cs : List Timed) (frames : List Arrival) (n : ℕ) (now : Network) → n ≡ length frames → CanAll now (gives seconds cs frames) → HasDrawn seconds cs frames seconds 0 (replicate n false) now now
drawn_first seconds cs frames n now is can =
    let k = can_all (tree_of now) (bounds_of now) seconds cs frames (world_of now) can in
    let all : left_of (replicate n false) frames ≡ frames = none_yet n frames in
    let whole : length (replicate n false) ≡ length frames = length-replicate n false ∙ is in
    record {
      steps = [];
      made = run_nothing now;
      time = refl;
      commands = refl;
      arrivals = subst (λ (zs : List Arrival). IsPermutation zs frames) (sym all) (IsPermutation-refl frames);
      unmarked = tt;
      whole = whole;
      ready = record { time = k.0; orders = k.1.0; comes = subst (MayComeAll (tree_of now) (world_of now).next) (sym all) k.1.1 };
    }

-- ---- one step more
given_then : (xs ys : List Step) → given_in (xs ++ ys) ≡ given_in xs ++ given_in ys
given_then [] ys = refl
given_then (x ∷ xs) ys = ap (λ (g : List Given). given_by x ++ g) (given_then xs ys) ∙ sym (append_assoc (given_by x) (given_in xs) (given_in ys))

seconds_then : (xs ys : List Step) → seconds_in (xs ++ ys) ≡ seconds_in xs ++ seconds_in ys
seconds_then [] ys = refl
seconds_then (x ∷ xs) ys = ap (λ (g : List ℕ). seconds_by x ++ g) (seconds_then xs ys) ∙ sym (append_assoc (seconds_by x) (seconds_in xs) (seconds_in ys))

commands_then : (xs ys : List Given) → commands_of (xs ++ ys) ≡ commands_of xs ++ commands_of ys
commands_then [] ys = refl
commands_then (Came a ∷ xs) ys = commands_then xs ys
commands_then (Told c ∷ xs) ys = ap (λ (g : List Command). c ∷ g) (commands_then xs ys)

arrivals_then : (xs ys : List Given) → arrivals_of (xs ++ ys) ≡ arrivals_of xs ++ arrivals_of ys
arrivals_then [] ys = refl
arrivals_then (Came a ∷ xs) ys = ap (λ (g : List Arrival). a ∷ g) (arrivals_then xs ys)
arrivals_then (Told c ∷ xs) ys = arrivals_then xs ys

unmarked_then : (xs ys : List Step) → Each IsUnmarked xs → Each IsUnmarked ys → Each IsUnmarked (xs ++ ys)
unmarked_then [] ys a b = b
unmarked_then (x ∷ xs) ys a b = (a.0, unmarked_then xs ys a.1 b)

-- the tree stays
ready_there : (now new : Network) (step : Step) (seconds : ℕ) (cs : List Timed) (frames : List Arrival) (w : World) → IsStepped step now new → w ≡ (stepped (tree_of now) (bounds_of now) step (world_of now)).world →
    (seconds ≢ 0 → w.table.clock + seconds < 2 ^ 63) → MayOrderAll (tree_of now) w.control.given cs → MayComeAll (tree_of now) w.next frames → IsReady new seconds cs frames
ready_there now new step seconds cs frames w x is time orders comes =
    let same : w ≡ world_of new = is ∙ sym x.world in
    let tree : tree_of now ≡ tree_of new = sym (ap (λ (s : Site). s.tree) x.same.site) in
    record {
      time = subst (λ (v : World). seconds ≢ 0 → v.table.clock + seconds < 2 ^ 63) same time;
      orders = subst (λ (v : World). MayOrderAll (tree_of new) v.control.given cs) same (subst (λ (t : Shape). MayOrderAll t w.control.given cs) tree orders);
      comes = subst (λ (v : World). MayComeAll (tree_of new) v.next frames) same (subst (λ (t : Shape). MayComeAll t w.next frames) tree comes);
    }

module _ (all : ℕ) (cs : List Timed) (frames : List Arrival) (seconds taken : ℕ) (given : List Bool) (old now new : Network) (k : HasDrawn all cs frames seconds taken given old now) where
  -- a step that gives this, and what is left then
  longer : (step : Step) (left more : ℕ) (flags : List Bool) → IsStepped step now new → MayTake (tree_of now) (world_of now) step → IsUnmarked step → length flags ≡ length frames → seconds_by step ++ seconds_of left ≡ seconds_of seconds →
      commands_of (given_by step) ++ map (λ (c : Timed). c.command) (drop more cs) ≡ map (λ (c : Timed). c.command) (drop taken cs) →
      IsPermutation (arrivals_of (given_by step) ++ left_of flags frames) (left_of given frames) → IsReady new left (drop more cs) (left_of flags frames) →
      HasDrawn all cs frames left more flags old new
  longer step left more flags x may unmarked whole time commands arrivals ready =
      let one : List Step = step ∷ [] in
      let given_is : given_in (k.steps ++ step ∷ []) ≡ given_in k.steps ++ given_by step = given_then k.steps (step ∷ []) ∙ ap (λ (g : List Given). given_in k.steps ++ g) (append-nil (given_by step)) in
      let seconds_is : seconds_in (k.steps ++ step ∷ []) ≡ seconds_in k.steps ++ seconds_by step = seconds_then k.steps (step ∷ []) ∙ ap (λ (g : List ℕ). seconds_in k.steps ++ g) (append-nil (seconds_by step)) in
      let told : List Command = map (λ (c : Timed). c.command) (drop more cs) in
      let came : List Arrival = left_of flags frames in
      let same : arrivals_of (given_in (k.steps ++ step ∷ [])) ++ left_of flags frames ≡ arrivals_of (given_in k.steps) ++ (arrivals_of (given_by step) ++ left_of flags frames) =
      ap (λ (g : List Given). arrivals_of g ++ came) given_is ∙ (ap (λ (ys : List Arrival). ys ++ came) (arrivals_then (given_in k.steps) (given_by step)) ∙ append_assoc (arrivals_of (given_in k.steps)) (arrivals_of (given_by step)) came) in
      record {
        steps = k.steps ++ step ∷ [];
        made = run_steps k.steps (step ∷ []) old now new k.made (run_step step now new x may);
        time = ap (λ (ys : List ℕ). ys ++ seconds_of left) seconds_is ∙ (append_assoc (seconds_in k.steps) (seconds_by step) (seconds_of left) ∙ (ap (λ (ys : List ℕ). seconds_in k.steps ++ ys) time ∙ k.time));
        commands =
            ap (λ (g : List Given). commands_of g ++ told) given_is
            ∙ (ap (λ (ys : List Command). ys ++ told) (commands_then (given_in k.steps) (given_by step))
            ∙ (append_assoc (commands_of (given_in k.steps)) (commands_of (given_by step)) told ∙ (ap (λ (ys : List Command). commands_of (given_in k.steps) ++ ys) commands ∙ k.commands)));
        arrivals = subst (λ (ys : List Arrival). IsPermutation ys frames) (sym same)
            (IsPermutation-trans _ _ _ (IsPermutation-append_right (arrivals_of (given_in k.steps)) _ _ arrivals) k.arrivals);
        unmarked = unmarked_then k.steps (step ∷ []) k.unmarked (unmarked, tt);
        whole = whole;
        ready = ready;
      }

  pub drawn_move : (step : Step) → IsMove step → IsStepped step now new → MayTake (tree_of now) (world_of now) step → HasDrawn all cs frames seconds taken given old new
  drawn_move step is x may =
      let none = moves_give_nothing (step ∷ []) (is, tt) in
      let v : HasAs (world_of now) (stepped (tree_of now) (bounds_of now) step (world_of now)).world = move_stays (tree_of now) (bounds_of now) step (world_of now) is in
      let no_seconds : seconds_by step ≡ [] = sym (append-nil (seconds_by step)) ∙ none.0 in
      let nothing : given_by step ≡ [] = sym (append-nil (given_by step)) ∙ none.1 in
      let w : World = (stepped (tree_of now) (bounds_of now) step (world_of now)).world in
      longer step seconds taken given x may none.2.0 k.whole (ap (λ (ys : List ℕ). ys ++ seconds_of seconds) no_seconds)
      (ap (λ (g : List Given). commands_of g ++ map (λ (c : Timed). c.command) (drop taken cs)) nothing)
      (subst (λ (g : List Given). IsPermutation (arrivals_of g ++ left_of given frames) (left_of given frames)) (sym nothing) (IsPermutation-refl _))
      (ready_there now new step seconds (drop taken cs) (left_of given frames) w x refl (subst (λ (n : ℕ). seconds ≢ 0 → n + seconds < 2 ^ 63) (sym v.clock) k.ready.time)
      (subst (λ (n : ℕ). MayOrderAll (tree_of now) n (drop taken cs)) (sym v.given) k.ready.orders) (come_same (tree_of now) (world_of now).next w.next (left_of given frames) v.awaits k.ready.comes))

  pub drawn_tick : seconds ≢ 0 → IsStepped (Tick seconds) now new → MayTake (tree_of now) (world_of now) (Tick seconds) → HasDrawn all cs frames 0 taken given old new
  drawn_tick some x may =
      let v = tick_stays (tree_of now) (bounds_of now) seconds (world_of now) in
      let w : World = (stepped (tree_of now) (bounds_of now) (Tick seconds) (world_of now)).world in
      longer (Tick seconds) 0 taken given x may tt k.whole (rw (ne_eqb seconds 0 some) refl) refl (IsPermutation-refl _)
      (ready_there now new (Tick seconds) 0 (drop taken cs) (left_of given frames) w x refl (λ never. absurd (never refl))
      (subst (λ (n : ℕ). MayOrderAll (tree_of now) n (drop taken cs)) (sym v.given) k.ready.orders) (come_same (tree_of now) (world_of now).next w.next (left_of given frames) v.awaits k.ready.comes))

  drop_one : (c : Timed) → taken < length cs → c ≡ get_or cs taken c → drop taken cs ≡ c ∷ drop (taken + 1) cs
  drop_one c few is = drop_more cs taken c few ∙ ap (λ (y : Timed). y ∷ drop (taken + 1) cs) (sym is)

  pub order_can : (c : Timed) → taken < length cs → c ≡ get_or cs taken c → Can (tree_of now) (world_of now) (Order c.command)
  order_can c few is = (subst (MayOrderAll (tree_of now) (world_of now).control.given) (drop_one c few is) k.ready.orders).0

  pub drawn_order : (c : Timed) → taken < length cs → c ≡ get_or cs taken c → IsStepped (Order c.command) now new → MayTake (tree_of now) (world_of now) (Order c.command) → HasDrawn all cs frames seconds (taken + 1) given old new
  drawn_order c few is x may =
      let v = order_stays (tree_of now) (bounds_of now) c.command (world_of now) in
      let w : World = (stepped (tree_of now) (bounds_of now) (Order c.command) (world_of now)).world in
      longer (Order c.command) seconds (taken + 1) given x may tt k.whole refl (sym (ap (map (λ (d : Timed). d.command)) (drop_one c few is))) (IsPermutation-refl _)
      (ready_there now new (Order c.command) seconds (drop (taken + 1) cs) (left_of given frames) w x refl (subst (λ (n : ℕ). seconds ≢ 0 → n + seconds < 2 ^ 63) (sym v.clock) k.ready.time)
      (subst (λ (n : ℕ). MayOrderAll (tree_of now) n (drop (taken + 1) cs)) (sym v.given) (subst (MayOrderAll (tree_of now) (world_of now).control.given) (drop_one c few is) k.ready.orders).1)
      (come_same (tree_of now) (world_of now).next w.next (left_of given frames) v.awaits k.ready.comes))

  pub tick_can : seconds ≢ 0 → Can (tree_of now) (world_of now) (Tick seconds)
  tick_can some = (omega (arith, some), k.ready.time some)

  pub drawn_arrival : (j : ℕ) (a : Arrival) → j < length given → j < length frames → get_or given j true ≡ false → a ≡ get_or frames j a → IsStepped (Arrive a) now new →
      MayTake (tree_of now) (world_of now) (Arrive a) → HasDrawn all cs frames seconds taken (set given j true) old new
  drawn_arrival j a low few not_yet is x may =
      let v = arrival_stays (tree_of now) (bounds_of now) a (world_of now) in
      let w : World = (stepped (tree_of now) (bounds_of now) (Arrive a) (world_of now)).world in
      let z : IsLeft given frames j a = left_at given frames j a low few not_yet is in
      let comes : MayComeAll (tree_of now) (bumped a.port (world_of now).next) (z.front ++ z.rest) =
      pull (tree_of now) (world_of now).next z.front z.rest a (subst (MayComeAll (tree_of now) (world_of now).next) z.is k.ready.comes) may.can.next in
      let perm : IsPermutation (a ∷ left_of (set given j true) frames) (left_of given frames) =
      subst (λ (ys : List Arrival). IsPermutation (a ∷ ys) (left_of given frames)) (sym z.less)
      (subst (IsPermutation (a ∷ (z.front ++ z.rest))) (sym z.is) (IsPermutation-sym _ _ (IsPermutation-middle z.front a z.rest))) in
      longer (Arrive a) seconds taken (set given j true) x may tt (length-set given j true ∙ k.whole) refl refl perm
      (ready_there now new (Arrive a) seconds (drop taken cs) (left_of (set given j true) frames) w x refl (subst (λ (n : ℕ). seconds ≢ 0 → n + seconds < 2 ^ 63) (sym v.clock) k.ready.time)
      (subst (λ (n : ℕ). MayOrderAll (tree_of now) n (drop taken cs)) (sym v.given) k.ready.orders)
      (come_same (tree_of now) (bumped a.port (world_of now).next) w.next (left_of (set given j true) frames) v.awaits (subst (MayComeAll (tree_of now) (bumped a.port (world_of now).next)) (sym z.less) comes)))

  pub arrival_can : (j : ℕ) (a : Arrival) → j < length frames → ((i : ℕ) → i < j → get_or given i true ≡ true) → get_or given j true ≡ false → a ≡ get_or frames j a → Can (tree_of now) (world_of now) (Arrive a)
  arrival_can j a few before not_yet is =
      let whole = k.whole in
      let z : IsFirst given frames a = first_left given frames j a (omega (arith, few, whole)) few before not_yet is in
      let one = (subst (MayComeAll (tree_of now) (world_of now).next) z.is k.ready.comes).0 in
      record { external = one.external; next = one.index; few = one.few; short = one.short }

  -- all is given
  pub drawn_last : seconds ≡ 0 → length cs ≤ taken → ((j : ℕ) → j < length frames → get_or given j true ≡ true) → GivesThese all cs frames k.steps
  drawn_last none last every =
      let whole = k.whole in
      let no_frames : left_of given frames ≡ [] = none_left given frames (omega (arith, whole)) every in
      let no_commands : drop taken cs ≡ [] = drop_all taken cs last in
      record {
        time = sym (append-nil (seconds_in k.steps)) ∙ (ap (λ (n : ℕ). seconds_in k.steps ++ seconds_of n) (sym none) ∙ k.time);
        commands = sym (append-nil (commands_of (given_in k.steps))) ∙ (ap (λ (ds : List Timed). commands_of (given_in k.steps) ++ map (λ (c : Timed). c.command) ds) (sym no_commands) ∙ k.commands);
        arrivals = subst (λ (ys : List Arrival). IsPermutation ys frames) (ap (λ (ds : List Arrival). arrivals_of (given_in k.steps) ++ ds) no_frames ∙ append-nil (arrivals_of (given_in k.steps))) k.arrivals;
        unmarked = k.unmarked;
      }

-- so a segment is given, whatever moves come after it
pub these_give : (i : Input) (s : Segment) (seconds : ℕ) (cs : List Timed) (frames : List Arrival) (steps : List Step) → IsSegment i s seconds cs frames → GivesThese seconds cs frames steps → GivesIt Seeded i s steps
these_give i s seconds cs frames steps is k = record {
  gives = λ moves only.
      let none_more = moves_give_nothing moves only in
      let same : given_in (steps ++ moves) ≡ given_in steps = given_then steps moves ∙ (ap (λ (g : List Given). given_in steps ++ g) none_more.1 ∙ append-nil (given_in steps)) in
      record {
        seconds = seconds_then steps moves ∙ (ap (λ (ys : List ℕ). seconds_in steps ++ ys) none_more.0 ∙ (append-nil (seconds_in steps) ∙ (k.time ∙ ap seconds_of (sym is.seconds_are))));
        commands = ap commands_of same ∙ (k.commands ∙ sym is.commands);
        arrivals = subst (λ (g : List Given). IsPermutation (arrivals_of g) s.arrivals) (sym same) (subst (IsPermutation (arrivals_of (given_in steps))) (sym is.arrivals_are) k.arrivals);
        unmarked = unmarked_then steps moves k.unmarked none_more.2;
      };
  ordered = λ moves. tt;
}

-- a move gives nothing
pub keeps_by : (step : Step) (now new : Network) → IsMove step → IsStepped step now new → MayTake (tree_of now) (world_of now) step → Keeps now new
keeps_by step now new move made may = λ all cs frames seconds taken given old k. drawn_move all cs frames seconds taken given old now new k step move made may

-- ---- results
pub on_ok_four : {A E P Q R S T : Type 0} (r : Result A E) → (P → Q → R → S → T) → OnOk r P → OnOk r Q → OnOk r R → OnOk r S → OnOk r T
on_ok_four (Ok x) f p q r s = f p q r s
on_ok_four (Err e) f p q r s = tt

pub on_ok_any : {A E P : Type 0} (r : Result A E) → P → OnOk r P
on_ok_any (Ok x) p = p
on_ok_any (Err e) p = tt

pub keeps_on : {A E : Type 0} (r : Result A E) (cs : List Timed) (frames : List Arrival) (rest : RemainingInput) (now new : Network) → OnOk r (Keeps now new) → OnOk r (GoesOn cs frames rest rest now new)
keeps_on (Ok x) cs frames rest now new k = λ all old drawn. k all cs frames rest.seconds rest.taken rest.given.items old drawn
keeps_on (Err e) cs frames rest now new k = tt

-- as it begins
pub drawn_begin : (seconds : ℕ) (cs : List Timed) (frames : List Arrival) (left taken : ℕ) (given : List Bool) (now : Network) → left ≡ seconds → taken ≡ 0 → given ≡ replicate (length frames) false →
    CanAll now (gives seconds cs frames) → HasDrawn seconds cs frames left taken given now now
drawn_begin seconds cs frames left taken given now e f g can =
    subst (λ (n : ℕ). HasDrawn seconds cs frames n taken given now now) (sym e)
    (subst (λ (n : ℕ). HasDrawn seconds cs frames seconds n given now now) (sym f)
    (subst (λ (bs : List Bool). HasDrawn seconds cs frames seconds 0 bs now now) (sym g) (drawn_first seconds cs frames (length frames) now refl can)))
