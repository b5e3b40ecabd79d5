-- Two lists that go together, and what is opened for one element of a list after another.
use Rattle.std.proofs.Common.{◌≡◌, ◌<◌, ◌++◌, ◌⊎◌, inl, inr, ℕ, zero, suc, List, [], ◌∷◌, Some, length, map, take, get_or, refl, ap, sym, subst, arith}
use Rattle.std.specs.Prelude.{All, AllPairs, slice_get}
use Rattle.std.proofs.lemmas.List.{get_or-map, length-map}
use Rattle.std.proofs.lemmas.List.Elements.{All-append}
use Rattle.exb_shelf.specs.Shelf.{Id, Opens}
use Rattle.exb_shelf.proofs.IdLemmas.{opens_none, opens_same, opens_then, opens_weaker}
use Rattle.exb_inputs.specs.PairedLists.{OneByOne, OpensOneByOne}

-- ---- places
-- what stands at a place stands there in each front that reaches so far
pub taken_at : {A : Type 0} (xs : List A) (n k : ℕ) (x : A) → k < n → slice_get xs k ≡ Some x → slice_get (take n xs) k ≡ Some x
taken_at [] n k x low is = absurd (cc)
taken_at (y ∷ ys) zero k x low is = absurd (omega arith)
taken_at (y ∷ ys) (suc n) zero x low is = is
taken_at (y ∷ ys) (suc n) (suc k) x low is = taken_at ys n k x (omega arith) is

pub front_at : {A : Type 0} (xs : List A) (n k : ℕ) (x : A) → slice_get (take n xs) k ≡ Some x → slice_get xs k ≡ Some x
front_at [] zero k x is = is
front_at [] (suc n) k x is = is
front_at (y ∷ ys) zero k x is = absurd (cc)
front_at (y ∷ ys) (suc n) zero x is = is
front_at (y ∷ ys) (suc n) (suc k) x is = front_at ys n k x is

-- nothing stands among the first none
pub nothing_at : {A Q : Type 0} (xs : List A) (k : ℕ) (x : A) → slice_get (take 0 xs) k ≡ Some x → Q
nothing_at [] k x is = absurd (cc)
nothing_at (y ∷ ys) k x is = absurd (cc)

-- an element of a list with one more is one of it or that
pub pushed_at : {A : Type 0} (xs : List A) (k : ℕ) (x y : A) → slice_get (xs ++ y ∷ []) k ≡ Some x → (slice_get xs k ≡ Some x) ⊎ (x ≡ y)
pushed_at [] zero x y is = inr cc
pushed_at [] (suc k) x y is = absurd (cc)
pushed_at (z ∷ xs) zero x y is = inl is
pushed_at (z ∷ xs) (suc k) x y is = pushed_at xs k x y is

pub get_here : {A : Type 0} (xs : List A) (k : ℕ) (x : A) → k < length xs → get_or xs k x ≡ x → slice_get xs k ≡ Some x
get_here [] k x low is = absurd (omega arith)
get_here (y ∷ ys) zero x low is = ap Some is
get_here (y ∷ ys) (suc k) x low is = get_here ys k x (omega arith) is

-- one element more
one : {X : Type 0} (P : X → Type 0) (x : X) → P x → All P (x ∷ [])
one P x p zero d h = p
one P x p (suc k) d h = absurd (omega arith)

pub all_push : {X : Type 0} (P : X → Type 0) (xs : List X) (x : X) → All P xs → P x → All P (xs ++ x ∷ [])
all_push P xs x h p = All-append P xs (x ∷ []) h (one P x p)

-- ---- what holds of each holds of what is seen of each
module _ {X Y : Type 0} (f : X → Y) where
  within : (xs : List X) (k : ℕ) → k < length xs → k < length (map f xs)
  within xs k low = subst (λ (n : ℕ). k < n) (sym (length-map xs f)) low

  pub all_unmap : (P : Y → Type 0) (xs : List X) → All P (map f xs) → All (λ (x : X). P (f x)) xs
  all_unmap P xs h k d low = subst P (get_or-map f xs k d (f d) low) (h k (f d) (within xs k low))

  pub pairs_unmap : (R : Y → Y → Type 0) (xs : List X) → AllPairs R (map f xs) → AllPairs (λ (x y : X). R (f x) (f y)) xs
  pairs_unmap R xs h i j d less low =
      subst (λ (y : Y). R y (f (get_or xs j d))) (get_or-map f xs i d (f d) (omega (arith, less, low)))
      (subst (λ (y : Y). R (get_or (map f xs) i (f d)) y) (get_or-map f xs j d (f d) low) (h i j (f d) less (within xs j low)))

  pub pairs_map : (R : Y → Y → Type 0) (xs : List X) → AllPairs (λ (x y : X). R (f x) (f y)) xs → AllPairs R (map f xs)
  pairs_map R [] h i j d less low = absurd (omega (arith, low))
  pairs_map R (x ∷ xs) h i j d less low =
      let under : j < length (x ∷ xs) = subst (λ (n : ℕ). j < n) (length-map (x ∷ xs) f) low in
      subst (λ (y : Y). R y (get_or (map f (x ∷ xs)) j d)) (sym (get_or-map f (x ∷ xs) i x d (omega (arith, less, under))))
      (subst (λ (y : Y). R (f (get_or (x ∷ xs) i x)) y) (sym (get_or-map f (x ∷ xs) j x d under)) (h i j x less under))

-- ---- two lists
module _ {A B : Type 0} (R : A → B → Type 0) where
  pub both_push : (xs : List A) (ys : List B) (x : A) (y : B) → OneByOne R xs ys → R x y → OneByOne R (xs ++ x ∷ []) (ys ++ y ∷ [])
  both_push [] [] x y h r = (r, tt)
  both_push [] (b ∷ ys) x y h r = absurd h
  both_push (a ∷ xs) [] x y h r = absurd h
  both_push (a ∷ xs) (b ∷ ys) x y (p, h) r = (p, both_push xs ys x y h r)

  pub both_long : (xs : List A) (ys : List B) → OneByOne R xs ys → length ys ≡ length xs
  both_long [] [] h = refl
  both_long [] (b ∷ ys) h = absurd h
  both_long (a ∷ xs) [] h = absurd h
  both_long (a ∷ xs) (b ∷ ys) (p, h) = ap suc (both_long xs ys h)

  pub both_at : (xs : List A) (ys : List B) (k : ℕ) (x : A) (y : B) → OneByOne R xs ys → slice_get xs k ≡ Some x → slice_get ys k ≡ Some y → R x y
  both_at [] ys k x y h is there = absurd (cc)
  both_at (a ∷ xs) [] k x y h is there = absurd h
  both_at (a ∷ xs) (b ∷ ys) zero x y (p, h) is there = let e : a ≡ x = cc in let f : b ≡ y = cc in subst (λ (z : B). R x z) f (subst (λ (z : A). R z b) e p)
  both_at (a ∷ xs) (b ∷ ys) (suc k) x y (p, h) is there = both_at xs ys k x y h is there

  -- with each of the first goes one of the others
  pub both_some : (xs : List A) (ys : List B) (k : ℕ) (x : A) → OneByOne R xs ys → slice_get xs k ≡ Some x → (y : B) × (slice_get ys k ≡ Some y) × R x y
  both_some [] ys k x h is = absurd (cc)
  both_some (a ∷ xs) [] k x h is = absurd h
  both_some (a ∷ xs) (b ∷ ys) zero x (p, h) is = let e : a ≡ x = cc in (b, refl, subst (λ (z : A). R z b) e p)
  both_some (a ∷ xs) (b ∷ ys) (suc k) x (p, h) is = both_some xs ys k x h is

-- ---- what is opened
module _ {A : Type 0} (P : A → Id → Type 0) where
  -- nothing
  pub ones_none : (xs : List A) (a : ℕ → Id) → OpensOneByOne P xs a a
  ones_none [] a = λ j. refl
  ones_none (x ∷ xs) a = (a, opens_none (P x) a, ones_none xs a)

  -- for one more
  pub ones_push : (xs : List A) (x : A) (a b c : ℕ → Id) → OpensOneByOne P xs a b → Opens (P x) b c → OpensOneByOne P (xs ++ x ∷ []) a c
  ones_push [] x a b c same opens = (c, opens_then (P x) a b c (opens_same (P x) a b same) opens, λ j. refl)
  ones_push (y ∷ xs) x a b c (between, first, rest) opens = (between, first, ones_push xs x between b c rest opens)

  -- for some, and then for others perhaps nothing
  pub ones_more : (xs ys : List A) (a b : ℕ → Id) → OpensOneByOne P xs a b → OpensOneByOne P (xs ++ ys) a b
  ones_more [] [] a b same = same
  ones_more [] (y ∷ ys) a b same = (b, opens_same (P y) a b same, ones_none ys b)
  ones_more (x ∷ xs) ys a b (between, first, rest) = (between, first, ones_more xs ys between b rest)

  -- all of it is of one kind
  pub ones_all : (Q : Id → Type 0) (xs : List A) (a b : ℕ → Id) → ((k : ℕ) (x : A) → slice_get xs k ≡ Some x → (i : Id) → P x i → Q i) → OpensOneByOne P xs a b → Opens Q a b
  ones_all Q [] a b so same = opens_same Q a b same
  ones_all Q (x ∷ xs) a b so (between, first, rest) = opens_then Q a between b (opens_weaker (P x) Q a between (so 0 x refl) first) (ones_all Q xs between b (λ k y is. so (suc k) y is) rest)
