-- An extender is opened: the channels of its cascade ports are laid.
use Rattle.std.proofs.Common.{◌≡◌, ℕ, zero, suc, ◌+◌, ◌*◌, ◌<◌, ◌≤◌, ◌==◌, ◌&&◌, ◌||◌, cond, Bool, true, false, not, List, [], ◌∷◌, filter, refl, sym, ◌∙◌, ap, subst, arith, inl, inr, eq-eqb}
use Rattle.std.specs.List.{flat_map, range_with_len}
use Rattle.std.proofs.lemmas.Bool.{cases_Bool, eqb-true, ne_eqb, and_from, and_parts, or_parts, or_left, or_right, or_from, ltb-true, false≢true, false_from_ne_true}
use mathlib.Core.Path.{fun_ext}
use Rattle.exb_model.specs.Tree.{Shape, HangsOn, device, on, is_port, is_cascade}
use Rattle.exb_model.specs.Configuration.{Bridge}
use Rattle.exb_model.proofs.TreeTrunks.{cascade_hangs}
use Rattle.exb_csp.specs.declared.message.Request.TheVariants.{Open}
use Rattle.exb_csp.specs.Execution.{code_of, done}
use Rattle.exb_control_spec.specs.Plans.HeldNumbers.{Held}
use Rattle.exb_model.specs.Lists.{is_listed}
use Rattle.exb_control_spec.specs.Plans.ChangeRequests.{ask, create_asks}
use Rattle.exb_control_spec.proofs.Plans.EachElement.{Each, each_map, each_filter}
use Rattle.exb_control_spec.specs.Decisions.{channel_of, cascades_of, opening_asks}
use Rattle.exb_control_spec.proofs.Plans.Bools.{same_tests, eq_turned, PassesIn, any_found, any_there}
use Rattle.exb_control_spec.specs.Runs.LaidTables.{by_extender, is_shown, laid_by, laid}
use Rattle.exb_csp.specs.AllTables.{RunsAt}
use Rattle.exb_control_spec.specs.Runs.Requests.{CanOpen, with_opened, OpeningsRun}
use Rattle.exb_control_spec.proofs.Runs.EqualTables.{AreDistinct, runs_append, runs_to, runs_one}
use Rattle.exb_control_spec.proofs.Runs.ChannelRuns.{IsHeld, channel_laid}
use Rattle.exb_control_spec.proofs.Runs.NeededChannels.{Stands, stands_from, cascade_needs, is_held}

abbrev and_shown : ℕ → (ℕ → Bool) → ℕ → Bool
and_shown p shown q = q == p || shown q

-- these ports are shown too
abbrev shown_all : List ℕ → (ℕ → Bool) → ℕ → Bool
shown_all [] shown = shown
shown_all (q ∷ qs) shown = shown_all qs (and_shown q shown)

shown_is : (qs : List ℕ) (shown : ℕ → Bool) (q : ℕ) → shown_all qs shown q ≡ (is_listed qs q || shown q)
shown_is [] shown q = refl
shown_is (x ∷ xs) shown q = shown_is xs (and_shown x shown) q ∙ turned (is_listed xs q) (q == x) (x == q) (shown q) (eq_turned q x)
  where
    turned : (l a b s : Bool) → a ≡ b → (l || (a || s)) ≡ ((b || l) || s)
    turned l a true s e = rw e (or_right l true refl)
    turned l a false s e = rw e refl

abbrev EachHidden : (ℕ → Bool) → List ℕ → Type 0
EachHidden shown qs = Each (λ q. shown q ≡ false) qs

still_hidden : (shown : ℕ → Bool) (x : ℕ) (qs : List ℕ) → is_listed qs x ≡ false → EachHidden shown qs → EachHidden (and_shown x shown) qs
still_hidden shown x [] apart hidden = tt
still_hidden shown x (q ∷ qs) apart hidden =
    let parts = or_parts (q == x) (is_listed qs x) apart in
    (or_from _ _ parts.0 hidden.0, still_hidden shown x qs parts.1 hidden.1)

-- ---- the cascade ports of extender n
pub record IsCascadeOf (t : Shape) (n q : ℕ) : Type 0 where
  pub home : device q ≡ n
  pub deep : 64 ≤ q
  pub known : is_port t q ≡ true
  pub cascade : is_cascade t q ≡ true

each_range : (a m : ℕ) → Each (λ q. (a ≤ q) × (q < a + m)) (range_with_len a m)
each_range a zero = tt
each_range a (suc m) =
    ((omega arith, omega arith), each_map (λ q. (a + 1 ≤ q) × (q < a + 1 + m)) (λ q. (a ≤ q) × (q < a + suc m)) (range_with_len (a + 1) m) (λ q h. (omega (arith, h.0), omega (arith, h.1))) (each_range (a + 1) m))

distinct_range : (test : ℕ → Bool) (a m : ℕ) → AreDistinct (filter test (range_with_len a m))
distinct_range test a zero = tt
distinct_range test a (suc m) = by_test (test a) (distinct_range test (a + 1) m)
  where
    later : is_listed (filter test (range_with_len (a + 1) m)) a ≡ false
    later = false_from_ne_true _ (λ e.
        let f : PassesIn test (λ x. x == a) (a + 1) m = any_found test (λ x. x == a) (a + 1) m e in
        let same : f.at ≡ a = eqb-true f.at a f.passes in
        let low : a + 1 ≤ f.at = f.low in
        absurd (omega arith))

    by_test : (b : Bool) → AreDistinct (filter test (range_with_len (a + 1) m)) → AreDistinct (cond b (a ∷ filter test (range_with_len (a + 1) m)) (filter test (range_with_len (a + 1) m)))
    by_test true rest = (later, rest)
    by_test false rest = rest

pub cascades_are : (t : Shape) (n : ℕ) → 0 < n → Each (IsCascadeOf t n) (cascades_of t n)
unfolding cascades_of
cascades_are t n some =
    each_map (λ q. ((64 * n ≤ q) × (q < 64 * n + 64)) × ((is_port t q && is_cascade t q) ≡ true)) (IsCascadeOf t n) (filter (λ q. is_port t q && is_cascade t q) (range_with_len (64 * n) 64))
    (λ q a. is_one q a.0.0 a.0.1 (and_parts (is_port t q) (is_cascade t q) a.1))
    (each_filter (λ q. (64 * n ≤ q) × (q < 64 * n + 64)) (λ q. is_port t q && is_cascade t q) (range_with_len (64 * n) 64) (each_range (64 * n) 64))
  where
    is_one : (q : ℕ) → 64 * n ≤ q → q < 64 * n + 64 → (is_port t q ≡ true) × (is_cascade t q ≡ true) → IsCascadeOf t n q
    is_one q low high both = record { home = omega arith; deep = omega (arith, some, low); known = both.0; cascade = both.1 }

module _ (t : Shape) (b : Bridge) (h : Held) (opened : ℕ → Bool) (n : ℕ) (can : CanOpen t b h opened n) where
  some : 0 < n
  some = ltb-true 0 n (and_parts _ _ can.there).0

  stands : Stands t opened b h
  stands = stands_from t opened b h can.tree can.needed can.order

  are_cascades : Each (IsCascadeOf t n) (cascades_of t n)
  are_cascades = cascades_are t n some

  are_distinct : AreDistinct (cascades_of t n)
  unfolding cascades_of
  are_distinct = distinct_range (λ q. is_port t q && is_cascade t q) (64 * n) 64

  in_cascades : (q : ℕ) → is_cascade t q ≡ true → is_listed (cascades_of t n) q ≡ (device q == n)
  unfolding cascades_of
  in_cascades q c =
      same_tests (is_listed (filter (λ q. is_port t q && is_cascade t q) (range_with_len (64 * n) 64)) q) (device q == n)
      (λ e.
      let f : PassesIn (λ q. is_port t q && is_cascade t q) (λ x. x == q) (64 * n) 64 = any_found (λ q. is_port t q && is_cascade t q) (λ x. x == q) (64 * n) 64 e in
      let same : f.at ≡ q = eqb-true f.at q f.passes in
      let low : 64 * n ≤ f.at = f.low in
      let high : f.at < 64 * n + 64 = f.high in
      eq-eqb (device q) n (omega arith))
      (λ e.
      let home : device q ≡ n = eqb-true (device q) n e in
      any_there (λ q. is_port t q && is_cascade t q) (λ x. x == q) (64 * n) 64 q (omega arith) (omega arith) (and_from _ _ (port_of_cascade q c) c) (eq-eqb q q refl))
    where
      port_of_cascade : (q : ℕ) → is_cascade t q ≡ true → is_port t q ≡ true
      port_of_cascade q c =
          let m : (m : ℕ) × HangsOn t m q = cascade_hangs t q c in
          subst (λ (x : ℕ). is_port t x ≡ true) m.1.at (can.tree.on_port m.0 m.1.extender m.1.there)

  not_in_cascades : (qs : List ℕ) (q : ℕ) → is_cascade t q ≡ false → Each (IsCascadeOf t n) qs → is_listed qs q ≡ false
  not_in_cascades [] q off each = refl
  not_in_cascades (x ∷ xs) q off each =
      or_from _ _ (ne_eqb x q (λ e. false≢true (sym off ∙ (ap (is_cascade t) (sym e) ∙ each.0.cascade)))) (not_in_cascades xs q off each.1)

  all_shown : (q : ℕ) → shown_all (cascades_of t n) (is_shown t opened) q ≡ is_shown t (with_opened opened n) q
  all_shown q =
      shown_is (cascades_of t n) (is_shown t opened) q ∙ (
      elim (cases_Bool (is_cascade t q)) [
        | inl c ↦ rw (in_cascades q c, c) refl
        | inr c ↦ rw (not_in_cascades (cascades_of t n) q c are_cascades, c) refl
      ])

  first_hidden : (qs : List ℕ) → Each (IsCascadeOf t n) qs → EachHidden (is_shown t opened) qs
  first_hidden [] each = tt
  first_hidden (q ∷ qs) each = (or_from _ _ (ap not each.0.cascade) (ap opened each.0.home ∙ can.closed), first_hidden qs each.1)

  cascades_run : (qs : List ℕ) (shown : ℕ → Bool) → Each (IsCascadeOf t n) qs → AreDistinct qs → EachHidden shown qs →
      ((q : ℕ) → is_cascade t q ≡ true → opened (device q) ≡ true → shown q ≡ true) →
      RunsAt (by_extender t (laid_by t shown h)) (flat_map (λ q. create_asks t q true (channel_of t h q)) qs) (by_extender t (laid_by t (shown_all qs shown) h))
  cascades_run [] shown each apart hidden all = refl
  cascades_run (p ∷ ps) shown each apart hidden all =
      let home : device p ≡ n = each.0.home in
      let held : IsHeld t shown (and_shown p shown) h p (channel_of t h p) =
      is_held t opened b h stands p each.0.deep each.0.known (cascade_needs t opened b h stands p each.0.deep each.0.known each.0.cascade)
      (λ high. ap (λ (m : ℕ). opened (device (on t m))) home ∙ can.above (subst (λ (m : ℕ). 64 ≤ on t m) home high))
      shown (and_shown p shown) hidden.0 (or_left (p == p) (shown p) (eq-eqb p p refl)) (λ q d. sym (ap (λ b. b || shown q) (ne_eqb q p d))) (λ q c o d. all q c o) in
      runs_append (by_extender t (laid_by t shown h)) (by_extender t (laid_by t (and_shown p shown) h)) (by_extender t (laid_by t (shown_all ps (and_shown p shown)) h))
      (create_asks t p true (channel_of t h p)) (flat_map (λ q. create_asks t q true (channel_of t h q)) ps)
      (subst (λ (kind : Bool). RunsAt (by_extender t (laid_by t shown h)) (create_asks t p kind (channel_of t h p)) (by_extender t (laid_by t (and_shown p shown) h))) each.0.cascade
      (channel_laid t can.tree shown (and_shown p shown) h p (channel_of t h p) held))
      (cascades_run ps (and_shown p shown) each.1 apart.1 (still_hidden shown p ps apart.0 hidden.1) (λ q c o. or_right (q == p) (shown q) (all q c o)))

  open_runs : RunsAt (laid t opened h) (ask n Open ∷ []) (laid t opened h)
  unfolding code_of done
  open_runs = runs_one n Open (laid t opened h) (laid t opened h) refl (λ m e. refl) (λ m e. refl)

  pub opening_runs : RunsAt (laid t opened h) (opening_asks t n h) (laid t (with_opened opened n) h)
  unfolding opening_asks
  opening_runs =
      runs_append (laid t opened h) (laid t opened h) (laid t (with_opened opened n) h) (ask n Open ∷ []) (flat_map (λ q. create_asks t q true (channel_of t h q)) (cascades_of t n)) open_runs
      (runs_to (laid t opened h) (by_extender t (laid_by t (shown_all (cascades_of t n) (is_shown t opened)) h)) (laid t (with_opened opened n) h)
      (flat_map (λ q. create_asks t q true (channel_of t h q)) (cascades_of t n))
      (cascades_run (cascades_of t n) (is_shown t opened) are_cascades are_distinct (first_hidden (cascades_of t n) are_cascades) (λ q c o. or_right (not (is_cascade t q)) (opened (device q)) o))
      (ap (λ (f : ℕ → Bool). by_extender t (laid_by t f h)) (fun_ext all_shown)))

pub openings_run : OpeningsRun
openings_run t b h opened n can = opening_runs t b h opened n can
