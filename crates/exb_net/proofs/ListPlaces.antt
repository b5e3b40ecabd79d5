-- Lists that are changed place by place.
use Rattle.std.proofs.Common.{◌≡◌, ◌≢◌, ℕ, zero, suc, ◌+◌, ◌<◌, ◌≤◌, ◌++◌, ◌==◌, cond, List, [], ◌∷◌, length, get_or, drop, take, set, Some, refl, ap, sym, ◌∙◌, subst, arith, inl, inr}
use Rattle.std.specs.Prelude.{All, slice_get}
use Rattle.std.proofs.lemmas.Bool.{cases_eq, cases_lt, eq-eqb, ne_eqb}
use Rattle.std.proofs.lemmas.List.{append-nil, drop_all, length-set, take_all}
use Rattle.std.proofs.lemmas.Option.{same_Some, slice_get-get_or, slice_get_within}
use Rattle.exb_net.specs.PairedLists.{AreEach}

-- ---- an element in another place
pub set_here : {A : Type 0} (xs : List A) (i : ℕ) (y : A) → i < length xs → slice_get (set xs i y) i ≡ Some y
set_here [] i y h = absurd (omega (arith, h))
set_here (x ∷ xs) zero y h = refl
set_here (x ∷ xs) (suc i) y h = set_here xs i y (omega (arith, h))

pub set_there : {A : Type 0} (xs : List A) (i k : ℕ) (y : A) → k ≢ i → slice_get (set xs i y) k ≡ slice_get xs k
set_there [] i k y ne = refl
set_there (x ∷ xs) zero zero y ne = absurd (ne refl)
set_there (x ∷ xs) zero (suc k) y ne = refl
set_there (x ∷ xs) (suc i) zero y ne = refl
set_there (x ∷ xs) (suc i) (suc k) y ne = set_there xs i k y (λ e. ne (ap suc e))

pub put_there : {A : Type 0} (xs : List A) (y : A) (k : ℕ) → k < length xs → slice_get (xs ++ y ∷ []) k ≡ slice_get xs k
put_there [] y k h = absurd (omega (arith, h))
put_there (x ∷ xs) y zero h = refl
put_there (x ∷ xs) y (suc k) h = put_there xs y k (omega (arith, h))

pub put_here : {A : Type 0} (xs : List A) (y : A) → slice_get (xs ++ y ∷ []) (length xs) ≡ Some y
put_here [] y = refl
put_here (x ∷ xs) y = put_here xs y

-- it is there
pub at_place : {A : Type 0} (xs : List A) (i : ℕ) (x : A) → i < length xs → x ≡ get_or xs i x → slice_get xs i ≡ Some x
at_place xs i x h is = slice_get-get_or xs i x h ∙ ap Some (sym is)

pub is_there : {A : Type 0} (xs : List A) (i : ℕ) → i < length xs → (x : A) × (slice_get xs i ≡ Some x)
is_there [] i h = absurd (omega (arith, h))
is_there (x ∷ xs) zero h = (x, refl)
is_there (x ∷ xs) (suc i) h = is_there xs i (omega (arith, h))

pub none_there : {A : Type 0} (xs : List A) → length xs ≡ 0 → xs ≡ []
none_there [] e = refl
none_there (x ∷ xs) e = absurd (omega (arith, e))

-- what holds of all
pub of_all : {A : Type 0} (P : A → Type 0) (xs : List A) (i : ℕ) (x : A) → All P xs → slice_get xs i ≡ Some x → P x
of_all P xs i x all e =
    let low : i < length xs = slice_get_within xs i x e in
    subst P (same_Some (get_or xs i x) x (sym (slice_get-get_or xs i x low) ∙ e)) (all i x low)

pub all_by : {A : Type 0} (P : A → Type 0) (xs : List A) → ((i : ℕ) (x : A) → slice_get xs i ≡ Some x → P x) → All P xs
all_by P xs each i d h = each i (get_or xs i d) (slice_get-get_or xs i d h)

-- ---- so far
-- Up to this place R holds, and behind it nothing has changed.
pub record AreSoFar {A : Type 0} (R : ℕ → A → A → Type 0) (i : ℕ) (xs ys : List A) : Type 0 where
  pub long : length ys ≡ length xs
  pub each : (k : ℕ) (x y : A) → k < i → slice_get xs k ≡ Some x → slice_get ys k ≡ Some y → R k x y
  pub rest : (k : ℕ) → i ≤ k → slice_get ys k ≡ slice_get xs k

module _ {A : Type 0} (R : ℕ → A → A → Type 0) (xs : List A) where
  pub none_so_far : AreSoFar R 0 xs xs
  none_so_far = record { long = refl; each = λ k x y h. absurd (omega (arith, h)); rest = λ k h. refl }

  module _ (ys : List A) (i : ℕ) where
    -- the element there is still the old one
    pub still : (x : A) → AreSoFar R i xs ys → i < length ys → x ≡ get_or ys i x → slice_get xs i ≡ Some x
    still x f low is = sym (f.rest i (omega arith)) ∙ at_place ys i x low is

    -- so what held of all holds of it
    pub still_all : (P : A → Type 0) (x : A) → All P xs → AreSoFar R i xs ys → i < length ys → x ≡ get_or ys i x → P (get_or ys i x)
    still_all P x all f low is = subst P is (of_all P xs i x all (still x f low is))

    pub one_more : (x y : A) → AreSoFar R i xs ys → i < length ys → x ≡ get_or ys i x → R i x y → AreSoFar R (i + 1) xs (set ys i y)
    one_more x y f low is r =
        record {
          long = length-set ys i y ∙ f.long;
          each = λ k u v h was now. elim (cases_eq k i) [
            | inl e ↦
                let was_here : slice_get xs i ≡ Some u = subst (λ (z : ℕ). slice_get xs z ≡ Some u) e was in
                let now_here : slice_get (set ys i y) i ≡ Some v = subst (λ (z : ℕ). slice_get (set ys i y) z ≡ Some v) e now in
                let old : x ≡ u = same_Some x u (sym (still x f low is) ∙ was_here) in
                let new : y ≡ v = same_Some y v (sym (set_here ys i y low) ∙ now_here) in
                subst (λ (z : ℕ). R z u v) (sym e) (subst (λ (z : A). R i z v) old (subst (λ (z : A). R i x z) new r))
            | inr ne ↦ f.each k u v (omega (arith, h, ne)) was (sym (set_there ys i k y ne) ∙ now)
          ];
          rest = λ k h. (let ne : k ≢ i = omega (arith, h) in set_there ys i k y ne ∙ f.rest k (omega (arith, h)));
        }

    -- the same, where the element is read
    pub one_more_at : (x y : A) → AreSoFar R i xs ys → i < length ys → x ≡ get_or ys i x → R i (get_or ys i x) y → AreSoFar R (i + 1) xs (set ys i y)
    one_more_at x y f low is r = one_more x y f low is (subst (λ (z : A). R i z y) (sym is) r)

    -- none has changed up to another place, if R holds of what is there
    pub skip_to : (j : ℕ) → i ≤ j → AreSoFar R i xs ys → ((k : ℕ) (x : A) → i ≤ k → k < j → slice_get xs k ≡ Some x → R k x x) → AreSoFar R j xs ys
    skip_to j high f same = record {
      long = f.long;
      each = λ k x y h was now. elim (cases_lt k i) [
        | inl low ↦ f.each k x y low was now
        | inr on ↦ subst (λ (z : A). R k x z) (same_Some x y (sym was ∙ (sym (f.rest k on) ∙ now))) (same k x on h was)
      ];
      rest = λ k h. f.rest k (omega (arith, h, high));
    }

    -- so R holds of all, if it holds of what is behind it
    pub all_from : AreSoFar R i xs ys → ((k : ℕ) (x : A) → i ≤ k → slice_get xs k ≡ Some x → R k x x) → AreEach R xs ys
    all_from f same = record {
      long = f.long;
      each = λ k x y was now. elim (cases_lt k i) [
        | inl low ↦ f.each k x y low was now
        | inr on ↦ subst (λ (z : A). R k x z) (same_Some x y (sym was ∙ (sym (f.rest k on) ∙ now))) (same k x on was)
      ];
    }

    pub all_so_far : AreSoFar R i xs ys → length ys ≤ i → AreEach R xs ys
    all_so_far f end = record { long = f.long; each = λ k x y was now. (let low = slice_get_within ys k y now in f.each k x y (omega (arith, low, end)) was now) }

    -- they are written back
    pub all_written : (n : ℕ) → n ≡ length xs → AreSoFar R i xs ys → length ys ≤ i → AreEach R xs (take n (ys ++ drop (length ys) xs))
    all_written n size f end = subst (AreEach R xs) (sym written) (all_so_far f end)
      where
        written : take n (ys ++ drop (length ys) xs) ≡ ys
        written =
            let long = f.long in
            ap (λ (zs : List A). take n (ys ++ zs)) (drop_all (length ys) xs (omega (arith, long)))
            ∙ (ap (λ (zs : List A). take n zs) (append-nil ys) ∙ take_all n ys (omega (arith, long, size)))

  pub begins_so_far : (ys : List A) → ys ≡ xs → AreSoFar R 0 xs ys
  begins_so_far ys e = subst (AreSoFar R 0 xs) (sym e) none_so_far

-- ---- another element in one place
module _ {A : Type 0} (R : ℕ → A → A → Type 0) where
  pub each_set : (xs : List A) (i : ℕ) (x y : A) → slice_get xs i ≡ Some x → R i x y → ((k : ℕ) (z : A) → k ≢ i → R k z z) → AreEach R xs (set xs i y)
  each_set xs i x y is r same =
      let low = slice_get_within xs i x is in
      record {
        long = length-set xs i y;
        each = λ k u v was now. elim (cases_eq k i) [
          | inl e ↦
              let was_here : slice_get xs i ≡ Some u = subst (λ (z : ℕ). slice_get xs z ≡ Some u) e was in
              let now_here : slice_get (set xs i y) i ≡ Some v = subst (λ (z : ℕ). slice_get (set xs i y) z ≡ Some v) e now in
              let old : x ≡ u = same_Some x u (sym is ∙ was_here) in
              let new : y ≡ v = same_Some y v (sym (set_here xs i y low) ∙ now_here) in
              subst (λ (z : ℕ). R z u v) (sym e) (subst (λ (z : A). R i z v) old (subst (λ (z : A). R i x z) new r))
          | inr ne ↦ subst (λ (z : A). R k u z) (same_Some u v (sym was ∙ (sym (set_there xs i k y ne) ∙ now))) (same k u ne)
        ];
      }

-- ---- a number of each that doesn't rise
module _ {A : Type 0} (f : A → ℕ) where
  abbrev Falls : ℕ → A → A → Type 0
  Falls k x y = f y ≤ f x

  pub falls_same : (xs : List A) → AreEach (λ k x y. f y ≤ f x) xs xs
  falls_same xs = record { long = refl; each = λ k x y was now. (let e = ap f (same_Some x y (sym was ∙ now)) in omega (arith, e)) }

  pub falls_set : (xs : List A) (i : ℕ) (x y : A) → slice_get xs i ≡ Some x → f y ≤ f x → AreEach (λ k x y. f y ≤ f x) xs (set xs i y)
  falls_set xs i x y is low = each_set (λ k x y. f y ≤ f x) xs i x y is low (λ k z ne. omega arith)

  pub falls_then : (xs ys zs : List A) → AreEach (λ k x y. f y ≤ f x) xs ys → AreEach (λ k x y. f y ≤ f x) ys zs → AreEach (λ k x y. f y ≤ f x) xs zs
  falls_then xs ys zs a b =
      record {
        long = b.long ∙ a.long;
        each = λ k x z was now.
            (let low = slice_get_within zs k z now in
            let same = b.long in
            let mid = is_there ys k (omega (arith, low, same)) in
            let first = a.each k x mid.0 was mid.1 in
            let next = b.each k mid.0 z mid.1 now in
            omega (arith, first, next));
      }

  pub stay_few : (most : ℕ) (xs ys : List A) → All (λ x. f x < most) xs → AreEach (λ k x y. f y ≤ f x) xs ys → All (λ y. f y < most) ys
  stay_few most xs ys all a =
      all_by (λ y. f y < most) ys (λ k y now.
      (let low = slice_get_within ys k y now in
      let same = a.long in
      let was = is_there xs k (omega (arith, low, same)) in
      let before = of_all (λ x. f x < most) xs k was.0 all was.1 in
      let falls = a.each k was.0 y was.1 now in
      omega (arith, before, falls)))

-- ---- one for each number
module _ {A : Type 0} (P : ℕ → A → Type 0) (other : A) where
  pub choose : (m : ℕ) → ((b : ℕ) → b < m → (x : A) × P b x) → (f : ℕ → A) × ((b : ℕ) → b < m → P b (f b))
  choose zero all = ((λ b. other), (λ b h. absurd (omega (arith, h))))
  choose (suc m) all =
      let before = choose m (λ b h. all b (omega (arith, h))) in
      let last = all m (omega arith) in (
        (λ b. cond (b == m) last.0 (before.0 b)),
        (λ b h. elim (cases_eq b m) [
          | inl e ↦ rw (eq-eqb b m e) (subst (λ (z : ℕ). P z last.0) (sym e) last.1)
          | inr ne ↦ rw (ne_eqb b m ne) (before.1 b (omega (arith, h, ne)))
        ]),
      )
