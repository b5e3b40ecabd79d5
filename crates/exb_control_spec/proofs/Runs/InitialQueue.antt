-- The jobs to begin with fit in their order.
use Rattle.std.proofs.Common.{◌≡◌, ℕ, zero, suc, ◌+◌, ◌*◌, ◌<◌, ◌≤◌, ◌==◌, ◌||◌, ◌++◌, Bool, true, false, List, [], ◌∷◌, length, slice_index, refl, sym, ◌∙◌, ap, subst, arith, inl, inr, eq-eqb}
use Rattle.std.specs.Prelude.{map, flat_map, filter}
use Rattle.std.specs.List.{list_any, range_with_len}
use Rattle.std.proofs.lemmas.Bool.{cases_Bool, cases_eq, ne_eqb, eqb-true, or_cases, lt-ltb, le-leb, false_from_ne_true}
use mathlib.Core.Path.{fun_ext}
use Rattle.exb_model.specs.Tree.{Shape, IsTree, HangsOn, device, on, depth, is_extender, is_external, is_extended, is_port, by_depth, externals_of}
use Rattle.exb_model.proofs.TreeOrder.{by_depth-sorted, by_depth-hangs, less_deep, place_of}
use Rattle.exb_model.specs.Lists.{is_listed}
use Rattle.exb_control_spec.proofs.Plans.Trunks.{extended_extender, port_extender}
use Rattle.exb_control_spec.proofs.Runs.EqualTables.{AreDistinct}
use Rattle.exb_control_spec.proofs.Runs.ExtenderOrder.{distinct_by_depth}
use Rattle.exb_control_spec.specs.declared.job.Job.{Job}
use Rattle.exb_control_spec.specs.declared.job.Job.TheVariants as job
use Rattle.exb_control_spec.specs.InitialState.{jobs_of, first_jobs}
use Rattle.exb_control_spec.specs.Runs.MachineInvariant.{is_opening, opened_by, AllFit}
use Rattle.exb_control_spec.specs.Runs.PlannedChanges.{planning}

-- ---- extenders in their order
-- each is of the tree, stands once, and isn't deeper than those behind it
unfoldable pub AreOrdered : Shape → List ℕ → Type 0
AreOrdered t [] = Unit {0}
AreOrdered t (n ∷ ns) = HangsOn t n (on t n) × ((m : ℕ) → is_listed ns m ≡ true → depth t n ≤ depth t m) × (is_listed ns n ≡ false) × AreOrdered t ns

ordered : (t : Shape) (ns : List ℕ) → ((i : ℕ) → i < length ns → HangsOn t (slice_index ns i) (on t (slice_index ns i))) →
    ((i j : ℕ) → i ≤ j → j < length ns → depth t (slice_index ns i) ≤ depth t (slice_index ns j)) → AreDistinct ns → AreOrdered t ns
unfolding AreOrdered
ordered t [] there sorted distinct = tt
ordered t (n ∷ ns) there sorted distinct = (
  there 0 (omega arith),
  λ m e. let at : (j : ℕ) × (j < length ns) × (slice_index ns j ≡ m) = place_of m ns e in
      subst (λ (x : ℕ). depth t n ≤ depth t x) at.2 (sorted 0 (suc at.0) (omega arith) (let l = at.1 in omega (arith, l))),
  distinct.0,
  ordered t ns (λ i l. there (suc i) (omega (arith, l))) (λ i j b l. sorted (suc i) (suc j) (omega (arith, b)) (omega (arith, l))) distinct.1,
)

pub by_depth_ordered : (t : Shape) → AreOrdered t (by_depth t)
by_depth_ordered t = ordered t (by_depth t) (by_depth-hangs t) (by_depth-sorted t) (distinct_by_depth t)

-- ---- whose openings are queued
no_openings : (n : ℕ) (ports : List ℕ) (js : List Job) → list_any (is_opening n) (map job.AutomaticUp ports ++ js) ≡ list_any (is_opening n) js
no_openings n [] js = refl
no_openings n (p ∷ ports) js = no_openings n ports js

pub openings_are : (t : Shape) (ns : List ℕ) (n : ℕ) → list_any (is_opening n) (flat_map (jobs_of t) ns) ≡ is_listed ns n
openings_are t [] n = refl
openings_are t (m ∷ ns) n = ap (λ (x : Bool). m == n || x) (no_openings n (externals_of t m) (flat_map (jobs_of t) ns) ∙ openings_are t ns n)

pub extender_is : (t : Shape) (n : ℕ) → HangsOn t n (on t n) → is_extender t n ≡ true
extender_is t n h = rw (lt-ltb 0 n h.extender, lt-ltb 0 (slice_index t.ports n) h.there) refl

module _ (t : Shape) (valid : IsTree t) where
  -- ---- ports of an extender
  Below : ℕ → List ℕ → Type 0
  Below n [] = Unit {0}
  Below n (p ∷ ps) = (is_extended t p ≡ true) × (device p ≡ n) × Below n ps

  device_is : (n a : ℕ) → 64 * n ≤ a → a < 64 * n + 64 → device a ≡ n
  device_is n a low high = omega (arith, low, high)

  range_below : (n a k : ℕ) → 0 < n → 64 * n ≤ a → a + k ≤ 64 * n + 64 → Below n (filter (is_external t) (range_with_len a k))
  unfolding Below
  range_below n a zero some low high = tt
  range_below n a (suc k) some low high =
      let rest = range_below n (a + 1) k some (omega (arith, low)) (omega (arith, high)) in
      elim (cases_Bool (is_external t a)) [
        | inl e ↦ rw e ((rw (le-leb 64 a (omega (arith, some, low)), e) refl, device_is n a low (omega (arith, high)), rest))
        | inr e ↦ rw e rest
      ]

  externals_below : (n : ℕ) → 0 < n → Below n (externals_of t n)
  unfolding externals_of
  externals_below n some = range_below n (64 * n) 64 some (omega arith) (omega arith)

  -- where an extender is opened, each of its ports may go up
  ups_fit : (n : ℕ) (ports : List ℕ) (js : List Job) → is_extender t n ≡ true → list_any (is_opening n) js ≡ false → Below n ports → AllFit (planning t) js →
      AllFit (planning t) (map job.AutomaticUp ports ++ js)
  unfolding Below
  ups_fit n [] js there none below fits = fits
  ups_fit n (p ∷ ports) js there none below fits = (
    record {
      fits = record {
        extended = below.0;
        home = subst (λ (m : ℕ). opened_by (is_extender t) (map job.AutomaticUp (p ∷ ports) ++ js) m ≡ true) (sym below.1) (rw (there, no_openings n ports js ∙ none) refl);
      };
      once = refl;
    },
    ups_fit n ports js there none below.2 fits,
  )

  -- the extender on which one hangs isn't behind it
  above_opened : (n : ℕ) (ns : List ℕ) → AreOrdered t (n ∷ ns) → 64 ≤ on t n → (is_extender t (device (on t n)) ≡ true) × (is_listed (n ∷ ns) (device (on t n)) ≡ false)
  unfolding AreOrdered
  above_opened n ns o deep =
      let port : is_port t (on t n) ≡ true = valid.on_port n (o.0).extender (o.0).there in
      let less : depth t (device (on t n)) < depth t n = less_deep t valid n (on t n) o.0 deep in (
        port_extender t (on t n) deep port,
        false_from_ne_true _ (λ e.
            elim (or_cases (n == device (on t n)) (is_listed ns (device (on t n))) e) [
              | inl f ↦ let same : n ≡ device (on t n) = eqb-true n (device (on t n)) f in let d : depth t n ≡ depth t (device (on t n)) = ap (depth t) same in absurd (omega (arith, less, d))
              | inr f ↦ let d = o.1 (device (on t n)) f in absurd (omega (arith, less, d))
            ]),
      )

  after_opening : (n m : ℕ) (js : List Job) → is_extender t n ≡ true → list_any (is_opening n) js ≡ false →
      (m == n || opened_by (is_extender t) (job.Opening n ∷ js) m) ≡ opened_by (is_extender t) js m
  after_opening n m js there later =
      elim (cases_eq m n) [
        | inl e ↦ subst (λ (k : ℕ). (k == n || opened_by (is_extender t) (job.Opening n ∷ js) k) ≡ opened_by (is_extender t) js k) (sym e) (rw (eq-eqb n n refl, there, later) refl)
        | inr e ↦ rw (ne_eqb m n e, ne_eqb n m (λ f. e (sym f))) refl
      ]

  list_fits : (ns : List ℕ) → AreOrdered t ns → AllFit (planning t) (flat_map (jobs_of t) ns)
  unfolding AreOrdered
  list_fits [] o = λ n c names. record { names = names; all = λ q ext. rw (extended_extender t q ext) refl }
  list_fits (n ∷ ns) o =
      let there : is_extender t n ≡ true = extender_is t n o.0 in
      let js : List Job = map job.AutomaticUp (externals_of t n) ++ flat_map (jobs_of t) ns in
      let gone : list_any (is_opening n) (flat_map (jobs_of t) ns) ≡ false = openings_are t ns n ∙ o.2 in
      let later : list_any (is_opening n) js ≡ false = no_openings n (externals_of t n) (flat_map (jobs_of t) ns) ∙ gone in (
        record {
          fits = record {
            there = there;
            closed = rw (there, eq-eqb n n refl) refl;
            above = λ deep.
                let k = above_opened n ns o deep in
                let other : list_any (is_opening (device (on t n))) (flat_map (jobs_of t) (n ∷ ns)) ≡ false = openings_are t (n ∷ ns) (device (on t n)) ∙ k.1 in
                rw (k.0, other) refl;
          };
          once = fun_ext (λ m. after_opening n m js there later);
        },
        ups_fit n (externals_of t n) (flat_map (jobs_of t) ns) there gone (externals_below n (o.0).extender) (list_fits ns o.3),
      )

  pub first_fit : AllFit (planning t) (first_jobs t)
  unfolding first_jobs
  first_fit = list_fits (by_depth t) (by_depth_ordered t)
