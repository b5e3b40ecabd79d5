-- A plan has not too many requests.
use Rattle.std.proofs.Common.{◌≡◌, ℕ, ◌+◌, ◌*◌, ◌<◌, ◌≤◌, ◌==◌, cond, Bool, true, false, not, [], ◌∷◌, ◌++◌, Option, Some, None, length, refl, sym, ◌∙◌, ap, arith, length-append, nat_lt}
use Rattle.std.specs.Prelude.{find, filter_map}
use Rattle.std.specs.List.{range_with_len}
use Rattle.std.proofs.lemmas.Bool.{and_parts, ltb-false, ne_eqb, false≢true}
use Rattle.std.proofs.lemmas.List.{length-map}
use Rattle.exb_model.specs.declared.event.Cause.{Cause}
use Rattle.exb_model.specs.Ports.{below}
use Rattle.exb_model.specs.Tree.{Shape, IsTree, is_cascade, device, by_depth}
use Rattle.exb_model.specs.Setup.{Limits}
use Rattle.exb_model.specs.Configuration.{Bridge}
use Rattle.exb_control_spec.specs.declared.plan.row.Row.{Row}
use Rattle.exb_control_spec.specs.Plans.Rows.{row_of, rows_of}
use Rattle.exb_control_spec.specs.Plans.Sets.{sets_of}
use Rattle.exb_csp.specs.declared.ask_at.AskAt.{AskAt}
use Rattle.exb_control_spec.specs.declared.plan.row_action.RowAction.{RowAction}
use Rattle.exb_control_spec.specs.declared.plan.row_action.RowAction.TheVariants.{Lay, Clear}
use Rattle.exb_control_spec.specs.Plans.Differences.{goes_up, goes_down, fresh_sets, gone_groups}
use Rattle.exb_control_spec.specs.Plans.ChangeRequests.{channel_rows, channel_ask, channel_asks, create_asks, delete_asks, group_asks}
use Rattle.exb_control_spec.specs.Plans.Plans.{new_channel, own_channel, with_up, up_asks, down_asks, fresh_groups, prepare_of, cleanup_of}
use Rattle.exb_control_spec.specs.Plans.FreshSets.{how_many, is_at, needed_at, is_short, short_of, short_by}
use Rattle.exb_control_spec.proofs.Plans.EachElement.{each_map, few-filter, how_many-none}
use Rattle.exb_control_spec.proofs.Plans.Ranges.{IsFound, found, none_passes}
use Rattle.exb_control_spec.proofs.Plans.SetFacts.{IsBelow}
use Rattle.exb_control_spec.proofs.Plans.Sufficiency.{none_short}
use Rattle.exb_control_spec.specs.RequestLaws.{ChangesAreShort}
use Rattle.exb_control_spec.proofs.FreshGroups.{fresh_below}
use Rattle.exb_control_spec.proofs.Plans.PlanLengths.{few-filter_map, few_extenders, group_asks_few, numbered_many, all_gone_few, IsUpTo, sets_few}

-- ---- channels
rows_few : (t : Shape) (p : ℕ) → length (channel_rows t p) ≤ 64
unfolding channel_rows rows_of
rows_few t p =
    let out = few-filter (λ (row : Row). not (row.extender == device p)) (filter_map (row_of t (λ q. q == p)) (by_depth t)) in
    let rows = few-filter_map (row_of t (λ q. q == p)) (by_depth t) in
    let extenders = few_extenders t in
    omega (arith, out, rows, extenders)

pub channel_few : (t : Shape) (step : RowAction) (p c : ℕ) (last : AskAt) → length (channel_asks step t p c ++ last ∷ []) ≤ 65
channel_few t step p c last =
    let rows = rows_few t p in
    let same = length-map (channel_rows t p) (channel_ask step c) in
    rw (length-append (channel_asks step t p c) (last ∷ [])) (omega (arith, rows, same))

up_few : (t : Shape) (c : ℕ) (o : Option ℕ) → length (up_asks t c o) ≤ 65
unfolding create_asks
up_few t c None = omega arith
up_few t c (Some p) = channel_few t Lay p c _

down_few : (t : Shape) (c : ℕ) (o : Option ℕ) → length (down_asks t c o) ≤ 65
unfolding delete_asks
down_few t c None = omega arith
down_few t c (Some p) = channel_few t Clear p c _

-- ---- fresh sets
module _ (t : Shape) (valid : IsTree t) (l : Limits) (old new : Bridge) (enough : l.groups ≤ 12288) (fits : short_by t l (sets_of t old) (fresh_sets t old new) ≡ None) where
  none_found : (o : Option ℕ) → ((k : ℕ) → o ≡ Some k → is_short t l (sets_of t old) (fresh_sets t old new) k ≡ true) →
      short_of l (sets_of t old) (fresh_sets t old new) o ≡ None → o ≡ None
  none_found None is e = refl
  none_found (Some k) is e =
      let both = and_parts (is_cascade t k) (nat_lt l.groups (needed_at (sets_of t old) (fresh_sets t old new) (k + 1))) (is k refl) in
      absurd (never (nat_lt l.groups (needed_at (sets_of t old) (fresh_sets t old new) (k + 1))) _ both.1 e)
    where
      never : (b : Bool) (x : Cause) → b ≡ true → cond b (Some x) None ≡ None → ⊥
      never true x f e = cc
      never false x f e = false≢true f

  not_short : (k : ℕ) → k < 64 → is_short t l (sets_of t old) (fresh_sets t old new) k ≡ false
  unfolding short_by below
  not_short k low =
      let test = is_short t l (sets_of t old) (fresh_sets t old new) in
      let none : find test (range_with_len 0 64) ≡ None = none_found (find test (range_with_len 0 64)) (λ m e. (let f : IsFound test 0 64 m = found test 0 64 m e in f.passes)) fits in
      none_passes test 0 64 none k (omega arith) (omega (arith, low))

  at_each : (k : ℕ) → k < 64 → how_many (is_at (k + 1)) (fresh_sets t old new) ≤ 12288
  at_each k low = by_cascade (is_cascade t k) refl
    where
      by_cascade : (b : Bool) → is_cascade t k ≡ b → how_many (is_at (k + 1)) (fresh_sets t old new) ≤ 12288
      by_cascade true c =
          let s : nat_lt l.groups (needed_at (sets_of t old) (fresh_sets t old new) (k + 1)) ≡ false = rw c at (not_short k low) in
          let m : how_many (is_at (k + 1)) (sets_of t old) + how_many (is_at (k + 1)) (fresh_sets t old new) ≤ l.groups = ltb-false l.groups _ s in
          omega (arith, m, enough)
      by_cascade false c =
          let none : how_many (is_at (k + 1)) (fresh_sets t old new) ≡ 0 =
          how_many-none (is_at (k + 1)) (fresh_sets t old new) (each_map (IsBelow t) (λ s. is_at (k + 1) s ≡ false) (fresh_sets t old new)
          (λ s a. ne_eqb s.bridge_port (k + 1) (λ e. false≢true (sym c ∙ (ap (is_cascade t) (let n = a.from1 in omega (arith, e, n)) ∙ a.cascade)))) (fresh_below t valid old new)) in
          omega (arith, none)

  fresh_few : length (fresh_sets t old new) ≤ 12288 * 64
  fresh_few =
      sets_few 64 12288 (fresh_sets t old new)
      (each_map (IsBelow t) (IsUpTo 64) (fresh_sets t old new) (λ s a. (a.from1, let n = a.from1 in let low = a.low in omega (arith, n, low))) (fresh_below t valid old new)) at_each

pub changes_are_short : ChangesAreShort
unfolding prepare_of cleanup_of fresh_groups
changes_are_short t l old new h p = (before, after)
  where
    before : length (prepare_of t l old new h) ≤ 1048576
    before =
        let groups = fresh_groups t l old new h in
        let up = up_asks t (new_channel t l h (goes_up t old new)) (goes_up t old new) in
        let same : length (fresh_groups t l old new h) ≡ length (fresh_sets t old new) = numbered_many l.groups (with_up t l old new h) (fresh_sets t old new) in
        let few = fresh_few t p.tree l old new p.groups (none_short t p.tree l old new p.fits).1 in
        let asks : length (group_asks Lay t groups) ≤ 12289 * 64 = group_asks_few t Lay groups 12289 (omega (arith, same, few)) in
        let ups : length up ≤ 65 = up_few t (new_channel t l h (goes_up t old new)) (goes_up t old new) in
        rw (length-append up (group_asks Lay t groups)) (omega (arith, asks, ups))

    after : length (cleanup_of t old new h) ≤ 1048576
    after =
        let groups = gone_groups t (sets_of t new) h in
        let down = down_asks t (own_channel t h (goes_down t old new)) (goes_down t old new) in
        let few = all_gone_few t (sets_of t new) h in
        let asks : length (group_asks Clear t groups) ≤ 12289 * 64 = group_asks_few t Clear groups 12289 (omega (arith, few)) in
        let downs : length down ≤ 65 = down_few t (own_channel t h (goes_down t old new)) (goes_down t old new) in
        rw (length-append (group_asks Clear t groups) down) (omega (arith, asks, downs))
