-- The greatest of what is needed, and nothing where there is no extender.
use Rattle.std.proofs.Common.{◌≡◌, ◌⊎◌, ◌∙◌, ℕ, zero, suc, ◌+◌, ◌<◌, ◌≤◌, ◌==◌, ◌&&◌, ◌||◌, Bool, true, false, nat_lt, List, [], replicate, set, slice_index, map, refl, sym, ap, subst, arith, add-one, inl, inr}
use Rattle.std.proofs.lemmas.Bool.{cases_Bool, cases_eq, cases_lt, false≢true}
use Rattle.exb_model.specs.declared.setup.Setup.{Setup}
use Rattle.exb_model.specs.declared.setup.ExtenderSetup.{ExtenderSetup}
use Rattle.exb_model.specs.Setup.{shape_of, lay}
use Rattle.exb_model.specs.Tree.{Shape, is_cascade, is_extender, any_below, on}
use Rattle.exb_model.proofs.PortLemmas.{filter_below-none}
use Rattle.exb_capacity.specs.NeededNumbers.{greatest, greatest_below, channels_below, sets_below, opened}
use Rattle.exb_capacity.specs.declared.needs.Needs.{Needs}
use Rattle.exb_capacity.specs.Laws.{NothingWithoutExtenders, IsTheGreatest}
use Rattle.exb_capacity.proofs.FullestPort.{most_before, most-none, most-more_yes, most-more_no, most-all}

module _ (t : Shape) (f : ℕ → ℕ) where
  abbrev Reached : ℕ → ℕ → Type 0
  Reached n most = (k : ℕ) × (k < n) × (is_cascade t k ≡ true) × (f k ≡ most)

  upper : (n k : ℕ) → k < n → is_cascade t k ≡ true → f k ≤ most_before t f n
  upper zero k l is = absurd (omega arith)
  upper (suc n) k l is =
      subst (λ (m : ℕ). f k ≤ most_before t f m) (add-one n)
      (elim (cases_Bool (is_cascade t n)) [
        | inl here ↦
            let e = most-more_yes t f n here in
            elim (cases_eq k n) [
              | inl same ↦ (let h : f k ≡ f n = ap f same in omega (arith, e, h))
              | inr other ↦ (let h = upper n k (omega arith) is in omega (arith, e, h))
            ]
        | inr none ↦
            let e = most-more_no t f n none in
            elim (cases_eq k n) [
              | inl same ↦ absurd (false≢true (sym none ∙ (ap (is_cascade t) (sym same) ∙ is)))
              | inr other ↦ (let h = upper n k (omega arith) is in omega (arith, e, h))
            ]
      ])

  higher : (n m most : ℕ) → n ≤ m → Reached n most → Reached m most
  higher n m most l r = (r.0, omega (arith, r.1), r.2, r.3)

  attained : (n : ℕ) → (most_before t f n ≡ 0) ⊎ Reached n (most_before t f n)
  attained zero = inl (sym (most-none t f))
  attained (suc n) =
      subst (λ (m : ℕ). (most_before t f m ≡ 0) ⊎ Reached m (most_before t f m)) (add-one n)
      (elim (cases_Bool (is_cascade t n)) [
        | inl here ↦
            let e = most-more_yes t f n here in
            elim (cases_lt (most_before t f n) (f n)) [
              | inl less ↦ inr (n, omega arith, here, omega (arith, e))
              | inr most ↦ as_before n (attained n) (omega (arith, e))
            ]
        | inr none ↦ as_before n (attained n) (most-more_no t f n none)
      ])
    where
      as_before : (n : ℕ) → (most_before t f n ≡ 0) ⊎ Reached n (most_before t f n) → most_before t f (n + 1) ≡ most_before t f n →
          (most_before t f (n + 1) ≡ 0) ⊎ Reached (n + 1) (most_before t f (n + 1))
      as_before n (inl z) e = inl (e ∙ z)
      as_before n (inr r) e = inr (r.0, omega (arith, r.1), r.2, r.3 ∙ sym e)

pub the_greatest : IsTheGreatest
the_greatest t f =
    let whole = most-all t f 64 refl in
    (λ k l is. subst (λ (m : ℕ). f k ≤ m) whole (upper t f 64 k l is), subst (λ (m : ℕ). (m ≡ 0) ⊎ Reached t f 64 m) whole (attained t f 64))

-- ---- no extender
any-none : (test : ℕ → Bool) → ((k : ℕ) → test k ≡ false) → (n : ℕ) → any_below test n ≡ false
unfolding any_below
any-none test none zero = refl
any-none test none (suc n) = by_tests (any_below test n) (test n) (any-none test none n) (none n)
  where
    by_tests : (a b : Bool) → a ≡ false → b ≡ false → (a || b) ≡ false
    by_tests true b e h = e
    by_tests false b e h = h

zeros : (n i : ℕ) → slice_index (replicate n 0) i ≡ 0
zeros zero i = refl
zeros (suc n) zero = refl
zeros (suc n) (suc i) = zeros n i

right_false : (a b : Bool) → b ≡ false → (a && b) ≡ false
right_false true b e = e
right_false false b e = refl

-- one device alone has ports
alone : (p n : ℕ) → (nat_lt 0 n && nat_lt 0 (slice_index (set (replicate 65 0) 0 p) n)) ≡ false
alone p zero = refl
alone p (suc n) = right_false (nat_lt 0 (suc n)) (nat_lt 0 (slice_index (replicate 64 0) n)) (ap (λ (m : ℕ). nat_lt 0 m) (zeros 64 n))

no_cascade : (s : Setup) → s.extenders ≡ [] → (p : ℕ) → is_cascade (shape_of s) p ≡ false
unfolding is_cascade shape_of
no_cascade s none p =
    any-none (λ n. is_extender (shape_of s) n && on (shape_of s) n == p)
    (λ n. by_test (is_extender (shape_of s) n) (on (shape_of s) n == p) (ap (λ (es : List ExtenderSetup). nat_lt 0 n && nat_lt 0 (slice_index (lay (λ e. e.ports) (set (replicate 65 0) 0 s.ports) es) n)) none ∙ alone s.ports n)) 65
  where
    by_test : (a b : Bool) → a ≡ false → (a && b) ≡ false
    by_test true b e = absurd (false≢true (sym e))
    by_test false b e = refl

nothing : (t : Shape) (f : ℕ → ℕ) → ((p : ℕ) → is_cascade t p ≡ false) → greatest_below t f ≡ 0
unfolding greatest_below
nothing t f none = ap (λ (xs : List ℕ). greatest (map f xs)) (filter_below-none (is_cascade t) 64 none)

abbrev needs_with : ℕ → ℕ → Needs
needs_with channels sets = record { channels = channels; sets = sets }

pub nothing_needed : NothingWithoutExtenders
nothing_needed s none =
    let t = shape_of s in
    ap (λ (c : ℕ). needs_with c (greatest_below t (sets_below t (opened s)))) (nothing t (channels_below t) (no_cascade s none))
    ∙ ap (needs_with 0) (nothing t (sets_below t (opened s)) (no_cascade s none))
