-- The sets of a configuration have present ports below their bridge port.
use Rattle.std.proofs.Common.{◌≡◌, ℕ, ◌+◌, ◌-◌, ◌<◌, ◌==◌, ◌&&◌, ◌||◌, ◌++◌, cond, Bool, true, false, not, List, [], ◌∷◌, filter, fold, refl, sym, ◌∙◌, ap, subst, arith, inl, inr}
use Rattle.std.specs.Prelude.{bytes_eq}
use Rattle.std.specs.List.{list_any, flat_map}
use Rattle.std.proofs.lemmas.Bool.{eqb-true, or_cases, or_right, and_parts, false≢true}
use Rattle.exb_model.specs.Ports.{below, all_ports}
use Rattle.exb_model.specs.Tree.{Shape, is_under}
use Rattle.exb_model.specs.Configuration.{Bridge}
use Rattle.exb_model.specs.Refusals.{Source, sources, part, without_isolated, is_empty_set, sets_at, is_kind}
use Rattle.exb_control_spec.specs.Plans.Sets.{PortsAt, parts_of, parts_below, is_same_set, with_set_at, sets_of}
use Rattle.exb_model.specs.Lists.{is_listed}
use Rattle.exb_control_spec.specs.Plans.Differences.{has_set}
use Rattle.exb_control_spec.proofs.Plans.EachElement.{Each, each_append, each_flat, each_range}
use Rattle.exb_control_spec.proofs.Plans.GroupClaims.{set_is}
use Rattle.exb_control_spec.proofs.Plans.SetFacts.{has_at}

-- ---- lists
listed_passes : (test : ℕ → Bool) (xs : List ℕ) (q : ℕ) → is_listed (filter test xs) q ≡ true → (is_listed xs q ≡ true) × (test q ≡ true)
listed_passes test [] q e = absurd (false≢true e)
listed_passes test (x ∷ xs) q e = by_test (test x) refl e (listed_passes test xs q)
  where
    later : (is_listed xs q ≡ true) × (test q ≡ true) → ((x == q || is_listed xs q) ≡ true) × (test q ≡ true)
    later r = (or_right (x == q) (is_listed xs q) r.0, r.1)

    by_test : (b : Bool) → test x ≡ b → is_listed (cond b (x ∷ filter test xs) (filter test xs)) q ≡ true →
        (is_listed (filter test xs) q ≡ true → (is_listed xs q ≡ true) × (test q ≡ true)) → ((x == q || is_listed xs q) ≡ true) × (test q ≡ true)
    by_test false t e rest = later (rest e)
    by_test true t e rest = elim (or_cases (x == q) (is_listed (filter test xs) q) e) [
      | inl f ↦ (ap (λ b. b || is_listed xs q) f, ap test (sym (eqb-true x q f)) ∙ t)
      | inr f ↦ later (rest f)
    ]

fold_each : (P : PortsAt → Type 0) (xs sets : List PortsAt) → Each P xs → Each P sets → Each P (fold with_set_at sets xs)
fold_each P [] sets new old = old
fold_each P (x ∷ xs) sets new old = fold_each P xs (with_set_at sets x) new.1 (by_test (is_empty_set x.ports || list_any (is_same_set x) sets))
  where
    by_test : (b : Bool) → Each P (cond b sets (sets ++ x ∷ []))
    by_test true = old
    by_test false = each_append P sets (x ∷ []) old (new.0, tt)

pub each_has : (P : PortsAt → Type 0) (xs : List PortsAt) (s : PortsAt) → Each P xs → has_set xs s ≡ true → P s
each_has P [] s each e = absurd (false≢true e)
each_has P (x ∷ xs) s each e = elim (or_cases (is_same_set s x) (has_set xs s) e) [
  | inl f ↦ subst P (sym (set_is s x f)) each.0
  | inr f ↦ each_has P xs s each.1 f
]

-- ---- the ports of a set
pub record LiesBelow (t : Shape) (b : Bridge) (s : PortsAt) : Type 0 where
  pub under : (q : ℕ) → is_listed s.ports q ≡ true → is_under t (s.bridge_port - 1) q ≡ true
  pub present : (q : ℕ) → is_listed s.ports q ≡ true → b.present q ≡ true

module _ (t : Shape) (b : Bridge) where
  part_lies : (k : ℕ) (x : Source) (q : ℕ) → is_listed (part t k b x) q ≡ true → (is_under t k q ≡ true) × (b.present q ≡ true)
  unfolding part
  part_lies k x q e =
      let passes = (listed_passes (λ q. is_under t k q && b.present q && x.among q && is_kind x.kind (b.member x.vid q)) all_ports q e).1 in
      let one = and_parts (is_under t k q && b.present q && x.among q) (is_kind x.kind (b.member x.vid q)) passes in
      let two = and_parts (is_under t k q && b.present q) (x.among q) one.0 in
      and_parts (is_under t k q) (b.present q) two.0

  parts_lie : (x : Source) (k : ℕ) → Each (LiesBelow t b) (parts_of t b x k)
  parts_lie x k = (lies (part t k b x) (λ q e. part_lies k x q e), (lies (without_isolated b (part t k b x)) (λ q e. part_lies k x q (listed_passes (λ q. not (b.rule q).isolated) (part t k b x) q e).0), tt))
    where
      lies : (ports : List ℕ) → ((q : ℕ) → is_listed ports q ≡ true → (is_under t k q ≡ true) × (b.present q ≡ true)) → LiesBelow t b (record { bridge_port = k + 1; ports = ports })
      lies ports each =
          let back : k ≡ k + 1 - 1 = omega arith in
          record { under = λ q e. subst (λ (m : ℕ). is_under t m q ≡ true) back (each q e).0; present = λ q e. (each q e).1 }

  all_lie : (xs : List Source) → Each (LiesBelow t b) (flat_map (parts_below t b) xs)
  unfolding parts_below below
  all_lie xs = each_flat (LiesBelow t b) (parts_below t b) xs (λ x. each_range (LiesBelow t b) (parts_of t b x) 0 64 (λ k l. parts_lie x k))

  pub sets_lie : Each (LiesBelow t b) (sets_of t b)
  unfolding sets_of
  sets_lie = fold_each (LiesBelow t b) (flat_map (parts_below t b) (sources b)) [] (all_lie (sources b)) tt

  -- a set of one bridge port
  pub set_lies : (k : ℕ) (set : List ℕ) → k < 64 → list_any (bytes_eq set) (sets_at t k b) ≡ true → LiesBelow t b (record { bridge_port = k + 1; ports = set })
  set_lies k set low e =
      let back : k + 1 - 1 ≡ k = omega arith in
      each_has (LiesBelow t b) (sets_of t b) (record { bridge_port = k + 1; ports = set }) sets_lie
      (has_at t b (record { bridge_port = k + 1; ports = set }) (omega arith) (omega (arith, low)) ∙ (ap (λ (m : ℕ). list_any (bytes_eq set) (sets_at t m b)) back ∙ e))
