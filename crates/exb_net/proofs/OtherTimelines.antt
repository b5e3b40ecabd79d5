-- What comes of one programme leaves the others.
use Rattle.std.proofs.Common.{◌≡◌, ◌≢◌, ℕ, zero, suc, ◌+◌, ◌≤◌, List, [], ◌∷◌, length, refl, ap, ◌∙◌, arith}
use Rattle.std.specs.Prelude.{Some, None, slice_get, sum_by}
use Rattle.std.specs.List.{AllByRecursion}
use Rattle.std.proofs.lemmas.List.Sums.{sum_by-cons}
use Rattle.std.proofs.lemmas.Option.{same_Some}
use Rattle.exb_timeline.specs.declared.bridge_timeline.Timeline.{Timeline}
use Rattle.exb_timeline.specs.Timelines.{IsFrom}
use Rattle.exb_timeline.proofs.TimelineProgress.{from_earlier}

-- from an earlier moment on, of all
pub all-earlier : (m k : ℕ) (ps : List Timeline) → m ≤ k → AllByRecursion (IsFrom k) ps → AllByRecursion (IsFrom m) ps
all-earlier m k [] low all = tt
all-earlier m k (p ∷ ps) low all = (from_earlier m k p low all.0, all-earlier m k ps low all.1)

same-lists : {A : Type 0} (us vs : List A) → ((k : ℕ) → slice_get us k ≡ slice_get vs k) → us ≡ vs
same-lists [] [] same = refl
same-lists [] (v ∷ vs) same = absurd (let z : None ≡ Some v = same 0 in cc)
same-lists (u ∷ us) [] same = absurd (let z : Some u ≡ None = same 0 in cc)
same-lists {A} (u ∷ us) (v ∷ vs) same = ap (λ (w : A). w ∷ us) (same_Some u v (same 0)) ∙ ap (λ (ws : List A). v ∷ ws) (same-lists us vs (λ k. same (suc k)))

-- a sum where one place has another value
pub sum-place : {A : Type 0} (f : A → ℕ) (xs ys : List A) (i : ℕ) (x y : A) → length ys ≡ length xs → slice_get xs i ≡ Some x → slice_get ys i ≡ Some y → ((b : ℕ) → b ≢ i → slice_get ys b ≡ slice_get xs b) →
    sum_by f ys + f x ≡ sum_by f xs + f y
sum-place f [] ys i x y long is there others = absurd (let z : None ≡ Some x = is in cc)
sum-place f (a ∷ xs) [] i x y long is there others = absurd (let z : None ≡ Some y = there in cc)
sum-place f (a ∷ xs) (b ∷ ys) zero x y long is there others =
    let one : a ≡ x = same_Some a x is in
    let two : b ≡ y = same_Some b y there in
    let rest : ys ≡ xs = same-lists ys xs (λ k. others (suc k) (λ e. (let z : suc k ≡ 0 = e in omega (arith, z)))) in
    let s = sum_by-cons f a xs in
    let u = sum_by-cons f b ys in
    let r = ap (sum_by f) rest in
    let p = ap f one in
    let q = ap f two in
    omega (arith, s, u, r, p, q)
sum-place f (a ∷ xs) (b ∷ ys) (suc i) x y long is there others =
    let one : b ≡ a = same_Some b a (others 0 (λ e. (let z : 0 ≡ suc i = e in omega (arith, z)))) in
    let rest = sum-place f xs ys i x y (omega (arith, long)) is there (λ k ne. others (suc k) (λ e. ne (omega (arith, e)))) in
    let s = sum_by-cons f a xs in
    let u = sum_by-cons f b ys in
    let p = ap f one in
    omega (arith, s, u, rest, p)
