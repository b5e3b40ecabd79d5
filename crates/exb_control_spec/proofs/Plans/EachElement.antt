-- What holds of each element of a list.
use Rattle.std.proofs.Common.{◌≡◌, ℕ, zero, suc, ◌+◌, ◌<◌, ◌≤◌, ◌==◌, ◌||◌, cond, Bool, true, false, List, [], ◌∷◌, ◌++◌, length, map, filter, refl, sym, ◌∙◌, ap, arith, inl, inr, eq-eqb}
use Rattle.std.specs.List.{list_any, flat_map, range_with_len}
use Rattle.std.proofs.lemmas.Bool.{cases_Bool, cases_eq, or_left, or_right}
use Rattle.exb_control_spec.specs.Plans.FreshSets.{how_many}

abbrev pub Each : {X : Type 0} → (X → Type 0) → List X → Type 0
Each P [] = Unit {0}
Each P (x ∷ xs) = P x × Each P xs

pub each_append : {X : Type 0} (P : X → Type 0) (xs ys : List X) → Each P xs → Each P ys → Each P (xs ++ ys)
each_append P [] ys a b = b
each_append P (x ∷ xs) ys a b = (a.0, each_append P xs ys a.1 b)

pub each_map : {X : Type 0} (P Q : X → Type 0) (xs : List X) → ((x : X) → P x → Q x) → Each P xs → Each Q xs
each_map P Q [] f a = tt
each_map P Q (x ∷ xs) f a = (f x a.0, each_map P Q xs f a.1)

pub each_flat : {X Y : Type 0} (P : Y → Type 0) (f : X → List Y) (xs : List X) → ((x : X) → Each P (f x)) → Each P (flat_map f xs)
each_flat P f [] h = tt
each_flat P f (x ∷ xs) h = each_append P (f x) (flat_map f xs) (h x) (each_flat P f xs h)

pub each_range : {Y : Type 0} (P : Y → Type 0) (f : ℕ → List Y) (a n : ℕ) → ((k : ℕ) → k < a + n → Each P (f k)) → Each P (flat_map f (range_with_len a n))
each_range P f a zero h = tt
each_range P f a (suc n) h =
    each_append P (f a) (flat_map f (range_with_len (a + 1) n)) (h a (omega arith)) (each_range P f (a + 1) n (λ k l. h k (omega (arith, l))))

pub each_filter : {X : Type 0} (P : X → Type 0) (test : X → Bool) (xs : List X) → Each P xs → Each (λ x. P x × (test x ≡ true)) (filter test xs)
each_filter P test [] a = tt
each_filter P test (x ∷ xs) a =
    elim (cases_Bool (test x)) [
      | inl e ↦ rw e ((a.0, e), each_filter P test xs a.1)
      | inr e ↦ rw e (each_filter P test xs a.1)
    ]

-- filters by tests that agree on each
pub filter_each : {X : Type 0} (P : X → Type 0) (p r : X → Bool) (xs : List X) → Each P xs → ((x : X) → P x → p x ≡ r x) → filter p xs ≡ filter r xs
filter_each P p r [] a same = refl
filter_each P p r (x ∷ xs) a same =
    ap (λ b. cond b (x ∷ filter p xs) (filter p xs)) (same x a.0) ∙ ap (λ l. cond (r x) (x ∷ l) l) (filter_each P p r xs a.1 same)

-- a list is a filter's where something passes
pub some_passes : {X : Type 0} (test : X → Bool) (xs : List X) → (length (filter test xs) ≡ 0 → ⊥) → (x : X) × (test x ≡ true)
some_passes test [] some = absurd (some refl)
some_passes test (x ∷ xs) some =
    elim (cases_Bool (test x)) [
      | inl e ↦ (x, e)
      | inr e ↦ some_passes test xs (λ z. some (rw e z))
    ]

pub how_many-none : {X : Type 0} (test : X → Bool) (xs : List X) → Each (λ x. test x ≡ false) xs → how_many test xs ≡ 0
how_many-none test [] a = refl
how_many-none test (x ∷ xs) a = rw a.0 (how_many-none test xs a.1)

pub few-filter : {X : Type 0} (test : X → Bool) (xs : List X) → length (filter test xs) ≤ length xs
few-filter test [] = omega arith
few-filter test (x ∷ xs) =
    elim (cases_Bool (test x)) [
      | inl e ↦ rw e (let r = few-filter test xs in omega (arith, r))
      | inr e ↦ rw e (let r = few-filter test xs in omega (arith, r))
    ]

-- of a list's image, those that pass
pub image_passes : {X Y : Type 0} (f : X → Y) (q r : X → Bool) (p : Y → Bool) (xs : List X) → ((x : X) → q x ≡ true → p (f x) ≡ r x) →
    length (filter p (map f (filter q xs))) ≡ length (filter q (filter r xs))
image_passes f q r p [] same = refl
image_passes f q r p (x ∷ xs) same =
    elim (cases_Bool (q x)) [
      | inl e ↦ elim (cases_Bool (r x)) [
        | inl g ↦ rw (e, same x e, g, e) (ap suc (image_passes f q r p xs same))
        | inr g ↦ rw (e, same x e, g) (image_passes f q r p xs same)
      ]
      | inr e ↦ elim (cases_Bool (r x)) [
        | inl g ↦ rw (e, g, e) (image_passes f q r p xs same)
        | inr g ↦ rw (e, g) (image_passes f q r p xs same)
      ]
    ]

-- a member of a range that passes is in its filter
pub in_filter : (test : ℕ → Bool) (a n p : ℕ) → a ≤ p → p < a + n → test p ≡ true → list_any (λ x. p == x) (filter test (range_with_len a n)) ≡ true
in_filter test a zero p low high is = absurd (omega arith)
in_filter test a (suc n) p low high is =
    elim (cases_eq p a) [
      | inl e ↦ here e
      | inr e ↦ there (in_filter test (a + 1) n p (omega arith) (omega arith) is)
    ]
  where
    here : p ≡ a → list_any (λ x. p == x) (filter test (a ∷ range_with_len (a + 1) n)) ≡ true
    here e = let passes : test a ≡ true = ap test (sym e) ∙ is in rw passes (or_left (p == a) _ (eq-eqb p a e))

    there : list_any (λ x. p == x) (filter test (range_with_len (a + 1) n)) ≡ true → list_any (λ x. p == x) (filter test (a ∷ range_with_len (a + 1) n)) ≡ true
    there rest = by_test (test a)
      where
        by_test : (b : Bool) → list_any (λ x. p == x) (cond b (a ∷ filter test (range_with_len (a + 1) n)) (filter test (range_with_len (a + 1) n))) ≡ true
        by_test true = or_right (p == a) _ rest
        by_test false = rest

pub list_any-map : {X Y : Type 0} (p : Y → Bool) (f : X → Y) (xs : List X) → list_any p (map f xs) ≡ list_any (λ x. p (f x)) xs
list_any-map p f [] = refl
list_any-map p f (x ∷ xs) = ap (λ b. p (f x) || b) (list_any-map p f xs)
