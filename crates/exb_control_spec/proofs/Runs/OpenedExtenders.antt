-- All that is asked for a job goes to extenders that are opened after it, and isn't much.
use Rattle.std.proofs.Common.{◌≡◌, ◌≢◌, ◌⊎◌, ℕ, ◌*◌, ◌<◌, ◌≤◌, ◌==◌, ◌&&◌, Bool, true, false, not, nat_lt, List, [], ◌∷◌, ◌++◌, Option, Some, None, map, filter, refl, sym, ◌∙◌, ap, subst, arith, inl, inr}
use Rattle.std.specs.List.{flat_map, filter_map, list_any, range_with_len}
use Rattle.std.proofs.lemmas.Bool.{cases_Bool, and_parts, ltb-true, eqb-true, or_right, eqb-false}
use Rattle.std.proofs.lemmas.List.Concat.{flat_map-cons}
use Rattle.exb_model.specs.Tree.{Shape, IsTree, device, on, is_port, is_cascade, is_extender, is_extended, by_depth}
use Rattle.exb_model.specs.TreeSets.{mask_of}
use Rattle.exb_model.specs.Setup.{Limits}
use Rattle.exb_model.specs.Configuration.{Bridge}
use Rattle.exb_model.proofs.TreeWays.{path_is, covers-true}
use Rattle.exb_csp.specs.declared.group_rows.GroupRow.{GroupRow}
use Rattle.exb_csp.specs.declared.ask_at.AskAt.{AskAt}
use Rattle.exb_csp.specs.AllTables.{port_of}
use Rattle.exb_control_spec.specs.declared.plan.row.Row.{Row}
use Rattle.exb_control_spec.specs.declared.plan.row_action.RowAction.{RowAction}
use Rattle.exb_control_spec.specs.declared.plan.row_action.RowAction.TheVariants.{Lay, Clear}
use Rattle.exb_model.specs.Lists.{is_listed}
use Rattle.exb_control_spec.specs.Plans.ChangeRequests.{ask, message, rows_at, asks_with, in_messages, pieces, group_asks, channel_rows, channel_ask, channel_asks, create_asks, delete_asks}
use Rattle.exb_control_spec.specs.Plans.Differences.{goes_up, goes_down, fresh_sets, gone_groups}
use Rattle.exb_control_spec.specs.Plans.HeldNumbers.{Held, Group, HoldsNeeded, group_used, group_for, give, numbered}
use Rattle.exb_control_spec.specs.Plans.Plans.{new_channel, own_channel, with_up, up_asks, down_asks, fresh_groups, prepare_of, cleanup_of}
use Rattle.exb_control_spec.specs.Plans.Rows.{row_of, rows_of}
use Rattle.exb_control_spec.specs.Plans.Sets.{PortsAt, sets_of}
use Rattle.exb_control_spec.proofs.Plans.Channels.{Rises, rises_is, goes_up_rises}
use Rattle.exb_control_spec.proofs.Plans.EachElement.{Each, each_map, each_filter, few-filter}
use Rattle.exb_control_spec.proofs.Plans.GoneGroups.{IsGoneAt, gone_found}
use Rattle.exb_control_spec.proofs.Plans.PlanLengths.{flat_at_most, few_range}
use Rattle.exb_control_spec.proofs.Plans.Trunks.{under_extended, extended_high}
use Rattle.exb_control_spec.specs.Decisions.{cascades_of, channel_of, opening_asks}
use Rattle.exb_control_spec.specs.RequestLaws.{IsPlanned}
use Rattle.exb_control_spec.proofs.RequestCounts.{channel_few, changes_are_short}
use Rattle.exb_control_spec.specs.Runs.Requests.{AreOpened}
use Rattle.exb_control_spec.specs.Runs.MachineInvariant.{most_asks, GoTo, AreFew}
use Rattle.exb_control_spec.proofs.Runs.Members.{LiesBelow, sets_lie, set_lies}
use Rattle.exb_control_spec.proofs.Runs.Openings.{IsCascadeOf, cascades_are}
use Rattle.exb_control_spec.proofs.Runs.InitialQueue.{AreOrdered, by_depth_ordered, extender_is}
use Rattle.exb_control_spec.proofs.Runs.PortsAbove.{mask_some, opened_along}

abbrev IsHere : Shape → ℕ → Type 0
IsHere t n = is_extender t n ≡ true

all_here : (t : Shape) (ns : List ℕ) → AreOrdered t ns → Each (IsHere t) ns
unfolding AreOrdered
all_here t [] o = tt
all_here t (n ∷ ns) o = (extender_is t n o.0, all_here t ns o.3)

order_here : (t : Shape) → Each (IsHere t) (by_depth t)
order_here t = all_here t (by_depth t) (by_depth_ordered t)

-- ---- lists of requests
go_append : (opened : ℕ → Bool) (xs ys : List AskAt) → GoTo opened xs → GoTo opened ys → GoTo opened (xs ++ ys)
go_append opened [] ys a b = b
go_append opened (x ∷ xs) ys a b = (a.0, go_append opened xs ys a.1 b)

go_map : {X : Type 0} (opened : ℕ → Bool) (f : X → AskAt) (n : ℕ) → opened n ≡ true → ((x : X) → (f x).extender ≡ n) → (xs : List X) → GoTo opened (map f xs)
go_map opened f n o same [] = tt
go_map opened f n o same (x ∷ xs) = (ap opened (same x) ∙ o, go_map opened f n o same xs)

go_flat : {X : Type 0} (opened : ℕ → Bool) (P : X → Type 0) (g : X → List AskAt) → ((x : X) → P x → GoTo opened (g x)) → (xs : List X) → Each P xs → GoTo opened (flat_map g xs)
go_flat opened P g each [] all = tt
go_flat opened P g each (x ∷ xs) all = rw (flat_map-cons g x xs) (go_append opened (g x) (flat_map g xs) (each x all.0) (go_flat opened P g each xs all.1))

go_none : (opened : ℕ → Bool) (step : RowAction) (n : ℕ) (rows : List GroupRow) → rows ≡ [] → GoTo opened (asks_with step rows n)
unfolding in_messages pieces
go_none opened step n rows e = subst (λ (rs : List GroupRow). GoTo opened (asks_with step rs n)) (sym e) tt

-- ---- rows
-- a group has a row at extender n
abbrev has_row : Shape → ℕ → Group → Bool
has_row t n x = not (mask_of t (is_listed x.ports) n == 0)

rows_cases : (t : Shape) (n : ℕ) (groups : List Group) → (rows_at t groups n ≡ []) ⊎ (list_any (has_row t n) groups ≡ true)
rows_cases t n [] = inl refl
rows_cases t n (x ∷ xs) =
    elim (cases_Bool (mask_of t (is_listed x.ports) n == 0)) [
      | inl e ↦ elim (rows_cases t n xs) [ inl f ↦ inl (rw e f) | inr f ↦ inr (or_right (has_row t n x) (list_any (has_row t n) xs) f) ]
      | inr e ↦ inr (rw e refl)
    ]

-- a member of a list that passes a test
record Passes {X : Type 0} (P : X → Type 0) (test : X → Bool) : Type 0 where
  item : X
  is : P item
  passes : test item ≡ true

passes_one : {X : Type 0} (P : X → Type 0) (test : X → Bool) (xs : List X) → Each P xs → list_any test xs ≡ true → Passes P test
passes_one P test [] all e = absurd (cc)
passes_one P test (x ∷ xs) all e = elim (cases_Bool (test x)) [
  | inl f ↦ record { item = x; is = all.0; passes = f }
  | inr f ↦ passes_one P test xs all.1 (rw f at e)
]

not_zero : (n : ℕ) → not (n == 0) ≡ true → n ≢ 0
not_zero n e z = (let f : not (0 == 0) ≡ true = subst (λ (m : ℕ). not (m == 0) ≡ true) z e in cc)

module _ (t : Shape) (tree : IsTree t) (opened : ℕ → Bool) (above : (n : ℕ) → is_extender t n ≡ true → opened n ≡ true → 64 ≤ on t n → opened (device (on t n)) ≡ true) where
  -- the ports of a set are ones of opened extenders
  abbrev AreThere : (ℕ → Bool) → Type 0
  AreThere set = (m : ℕ) → set m ≡ true → (64 ≤ m) × (opened (device m) ≡ true)

  -- so is an extender that has a row of it
  row_opened : (set : ℕ → Bool) (n : ℕ) → IsHere t n → AreThere set → mask_of t set n ≢ 0 → opened n ≡ true
  row_opened set n here there mask =
      let some : 0 < n = ltb-true 0 n (and_parts (nat_lt 0 n) _ here).0 in
      let k = mask_some t set n mask in
      let c = covers-true t set (port_of n k.0) k.1.covered in
      let at = there c.member c.chosen in
      let low : 0 < k.0 = k.1.low in
      let few : k.0 ≤ 64 = k.1.high in
      let high : 64 ≤ port_of n k.0 = omega (arith, some) in
      let home : device (port_of n k.0) ≡ n = omega (arith, low, few, some) in
      let below = c.below in
      ap opened (sym home) ∙ opened_along t tree opened above 64 c.member (port_of n k.0) at.0 c.known at.1 high (rw (path_is t c.member) at below)

  -- ---- groups
  go_groups : (step : RowAction) (groups : List Group) → ((n : ℕ) → list_any (has_row t n) groups ≡ true → Passes (λ (x : Group). AreThere (is_listed x.ports)) (has_row t n)) → GoTo opened (group_asks step t groups)
  unfolding group_asks
  go_groups step groups there = go_flat opened (IsHere t) (λ n. asks_with step (rows_at t groups n) n) at_one (by_depth t) (order_here t)
    where
      at_one : (n : ℕ) → IsHere t n → GoTo opened (asks_with step (rows_at t groups n) n)
      at_one n here = elim (rows_cases t n groups) [
        | inl e ↦ go_none opened step n (rows_at t groups n) e
        | inr e ↦
            let p = there n e in
            go_map opened (λ piece. ask n (message step piece)) n (row_opened (is_listed p.item.ports) n here p.is (not_zero _ p.passes)) (λ piece. refl) (in_messages (rows_at t groups n))
      ]

  -- ---- channels
  rows_there : (set : ℕ → Bool) → AreThere set → (ns : List ℕ) → Each (IsHere t) ns → Each (λ (r : Row). opened r.extender ≡ true) (filter_map (row_of t set) ns)
  rows_there set there [] all = tt
  rows_there set there (n ∷ ns) all =
      let rest = rows_there set there ns all.1 in
      elim (cases_Bool (mask_of t set n == 0)) [ inl e ↦ rw e rest | inr e ↦ rw e (row_opened set n all.0 there (λ z. eqb-false (mask_of t set n) 0 e z), rest) ]

  go_rows : (step : RowAction) (c : ℕ) (rs : List Row) → Each (λ (r : Row). opened r.extender ≡ true) rs → GoTo opened (map (channel_ask step c) rs)
  go_rows step c [] all = tt
  go_rows step c (r ∷ rs) all = (all.0, go_rows step c rs all.1)

  go_channel : (step : RowAction) (p c : ℕ) → 64 ≤ p → opened (device p) ≡ true → GoTo opened (channel_asks step t p c)
  unfolding channel_rows rows_of
  go_channel step p c deep o =
      let test : Row → Bool = λ row. not (row.extender == device p) in
      go_rows step c (channel_rows t p)
      (each_map (λ (r : Row). (opened r.extender ≡ true) × (test r ≡ true)) (λ (r : Row). opened r.extender ≡ true) (filter test (rows_of t (λ q. q == p))) (λ r k. k.0)
      (each_filter (λ (r : Row). opened r.extender ≡ true) test (rows_of t (λ q. q == p)) (rows_there (λ q. q == p) only (by_depth t) (order_here t))))
    where
      only : AreThere (λ q. q == p)
      only m e = (let same : m ≡ p = eqb-true m p e in (subst (λ (x : ℕ). 64 ≤ x) (sym same) deep, ap (λ (x : ℕ). opened (device x)) same ∙ o))

  go_create : (p : ℕ) (cascade : Bool) (c : ℕ) → 64 ≤ p → opened (device p) ≡ true → GoTo opened (create_asks t p cascade c)
  unfolding create_asks
  go_create p cascade c deep o = go_append opened (channel_asks Lay t p c) _ (go_channel Lay p c deep o) (o, tt)

  go_delete : (p c : ℕ) → 64 ≤ p → opened (device p) ≡ true → GoTo opened (delete_asks t p c)
  unfolding delete_asks
  go_delete p c deep o = go_append opened (channel_asks Clear t p c) _ (go_channel Clear p c deep o) (o, tt)

  -- ---- openings
  pub opening_goes : (n : ℕ) (h : Held) → 0 < n → opened n ≡ true → GoTo opened (opening_asks t n h)
  unfolding opening_asks
  opening_goes n h some o = (
    o,
    go_flat opened (IsCascadeOf t n) (λ q. create_asks t q true (channel_of t h q)) (λ q k. go_create q true (channel_of t h q) k.deep (ap opened k.home ∙ o)) (cascades_of t n) (cascades_are t n some),
  )

  -- ---- changes
  -- the ports of a set of a configuration whose present ports are ones of opened extenders
  lies_there : (b : Bridge) → ((q : ℕ) → is_extended t q ≡ true → b.present q ≡ true → opened (device q) ≡ true) → (s : PortsAt) → LiesBelow t b s → AreThere (is_listed s.ports)
  lies_there b present s lies m e =
      let ext : is_extended t m ≡ true = under_extended t _ m (lies.under m e) in
      (extended_high t m ext, present m ext (lies.present m e))

  numbered_there : (groups : ℕ) (h : Held) (sets : List PortsAt) → Each (λ (s : PortsAt). AreThere (is_listed s.ports)) sets → Each (λ (x : Group). AreThere (is_listed x.ports)) (numbered groups h sets)
  unfolding numbered
  numbered_there groups h [] all = tt
  numbered_there groups h (s ∷ sets) all = (all.0, numbered_there groups (give (group_for groups h s) h) sets all.1)

  go_up : (c : ℕ) (o : Option ℕ) → ((p : ℕ) → o ≡ Some p → (64 ≤ p) × (opened (device p) ≡ true)) → GoTo opened (up_asks t c o)
  go_up c None there = tt
  go_up c (Some p) there = (let k = there p refl in go_create p false c k.0 k.1)

  go_down : (c : ℕ) (o : Option ℕ) → ((p : ℕ) → o ≡ Some p → (64 ≤ p) × (opened (device p) ≡ true)) → GoTo opened (down_asks t c o)
  go_down c None there = tt
  go_down c (Some p) there = (let k = there p refl in go_delete p c k.0 k.1)

  risen : (old new : Bridge) → ((q : ℕ) → is_extended t q ≡ true → new.present q ≡ true → opened (device q) ≡ true) → (p : ℕ) → goes_up t old new ≡ Some p → (64 ≤ p) × (opened (device p) ≡ true)
  risen old new present p e =
      let r : Rises t old new p = rises_is t old new p (goes_up_rises t old new p e) in
      (extended_high t p r.extended, present p r.extended r.present)

  pub prepare_goes : (l : Limits) (old new : Bridge) (h : Held) → AreOpened t opened new → GoTo opened (prepare_of t l old new h)
  unfolding prepare_of fresh_groups fresh_sets
  prepare_goes l old new h order =
      go_append opened (up_asks t (new_channel t l h (goes_up t old new)) (goes_up t old new)) (group_asks Lay t (fresh_groups t l old new h))
      (go_up (new_channel t l h (goes_up t old new)) (goes_up t old new) (risen old new order.present))
      (go_groups Lay (fresh_groups t l old new h) (λ n e. passes_one (λ (x : Group). AreThere (is_listed x.ports)) (has_row t n) (fresh_groups t l old new h) all e))
    where
      all : Each (λ (x : Group). AreThere (is_listed x.ports)) (fresh_groups t l old new h)
      all =
          numbered_there l.groups (with_up t l old new h) (fresh_sets t old new)
          (each_map (λ (s : PortsAt). LiesBelow t new s × _) (λ (s : PortsAt). AreThere (is_listed s.ports)) (fresh_sets t old new) (λ s k. lies_there new order.present s k.0)
          (each_filter (LiesBelow t new) _ (sets_of t new) (sets_lie t new)))

  pub cleanup_goes : (old new : Bridge) (h : Held) → HoldsNeeded t old h → AreOpened t opened old → GoTo opened (cleanup_of t old new h)
  unfolding cleanup_of
  cleanup_goes old new h needed order =
      go_append opened (group_asks Clear t (gone_groups t (sets_of t new) h)) (down_asks t (own_channel t h (goes_down t old new)) (goes_down t old new))
      (go_groups Clear (gone_groups t (sets_of t new) h) gone)
      (go_down (own_channel t h (goes_down t old new)) (goes_down t old new) (risen new old order.present))
    where
      gone : (n : ℕ) → list_any (has_row t n) (gone_groups t (sets_of t new) h) ≡ true → Passes (λ (x : Group). AreThere (is_listed x.ports)) (has_row t n)
      gone n e =
          let k : IsGoneAt t (sets_of t new) h (has_row t n) = gone_found t (sets_of t new) h (has_row t n) e in
          let used : group_used h k.port k.group ≡ true = (and_parts (group_used h k.port k.group) _ k.gone).0 in
          let there = needed.groups k.port (h.set k.port k.group) k.low_port k.cascade in
          let found = needed.one_group k.port k.group k.low_port k.cascade used in
          let lies = set_lies t old k.port (h.set k.port k.group) k.low_port (sym there ∙ ap Rattle.std.specs.Prelude.is_some found) in
          record { item = Rattle.exb_control_spec.specs.Plans.Differences.group_at h k.port k.group; is = lies_there old order.present _ lies; passes = k.passes }

-- ---- few
pub change_few : (t : Shape) (l : Limits) (old new : Bridge) (h : Held) → IsPlanned t l old new h → (opened : ℕ → Bool) → GoTo opened (prepare_of t l old new h) → GoTo opened (cleanup_of t old new h) →
    AreFew opened (prepare_of t l old new h) × AreFew opened (cleanup_of t old new h)
unfolding most_asks
change_few t l old new h planned opened a b =
    let few = changes_are_short t l old new h planned in
    (record { go = a; few = few.0 }, record { go = b; few = few.1 })

pub opening_few : (t : Shape) (n : ℕ) (h : Held) (opened : ℕ → Bool) → GoTo opened (opening_asks t n h) → AreFew opened (opening_asks t n h)
unfolding most_asks opening_asks cascades_of create_asks
opening_few t n h opened a =
    let test : ℕ → Bool = λ q. is_port t q && is_cascade t q in
    let ports = few-filter test (range_with_len (64 * n) 64) in
    let range = few_range (64 * n) 64 in
    let asks = flat_at_most (λ q. create_asks t q true (channel_of t h q)) 65 (λ q. channel_few t Lay q (channel_of t h q) _) (cascades_of t n) in
    record { go = a; few = omega (arith, asks, ports, range) }

pub none_few : (opened : ℕ → Bool) → AreFew opened []
unfolding most_asks
none_few opened = record { go = tt; few = omega arith }
