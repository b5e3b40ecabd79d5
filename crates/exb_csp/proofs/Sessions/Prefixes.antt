-- Fronts of lists, and what stands at a place.
use Rattle.std.proofs.Common.{◌≡◌, ℕ, zero, suc, ◌<◌, All, get_or, List, [], ◌∷◌, ◌++◌, length, Some, slice_get, refl, ap, sym, ◌∙◌, append_assoc, subst, arith}
use Rattle.std.specs.List.{AllByRecursion}
use Rattle.exb_csp.specs.Sessions.Runs.{IsFront}

pub each_weaker : {A : Type 0} (P Q : A → Type 0) → ((x : A) → P x → Q x) → (xs : List A) → AllByRecursion P xs → AllByRecursion Q xs
each_weaker P Q f [] h = tt
each_weaker P Q f (x ∷ xs) h = (f x h.0, each_weaker P Q f xs h.1)

pub each_push : {A : Type 0} (P : A → Type 0) (xs : List A) (x : A) → AllByRecursion P xs → P x → AllByRecursion P (xs ++ x ∷ [])
each_push P [] x h p = (p, tt)
each_push P (y ∷ ys) x h p = (h.0, each_push P ys x h.1 p)

pub each_append : {A : Type 0} (P : A → Type 0) (xs ys : List A) → AllByRecursion P xs → AllByRecursion P ys → AllByRecursion P (xs ++ ys)
each_append P [] ys h k = k
each_append P (x ∷ xs) ys h k = (h.0, each_append P xs ys h.1 k)

pub each_at : {A : Type 0} (P : A → Type 0) (xs : List A) (k : ℕ) (x : A) → AllByRecursion P xs → slice_get xs k ≡ Some x → P x
each_at P [] k x h e = absurd cc
each_at P (y ∷ ys) zero x h e = let is : y ≡ x = cc in subst P is h.0
each_at P (y ∷ ys) (suc k) x h e = each_at P ys k x h.1 e

pub get_front : {A : Type 0} (xs ys : List A) (k : ℕ) (x : A) → slice_get xs k ≡ Some x → slice_get (xs ++ ys) k ≡ Some x
get_front [] ys k x e = absurd cc
get_front (z ∷ zs) ys zero x e = e
get_front (z ∷ zs) ys (suc k) x e = get_front zs ys k x e

pub get_last : {A : Type 0} (xs : List A) (x : A) → slice_get (xs ++ x ∷ []) (length xs) ≡ Some x
get_last [] x = refl
get_last (z ∷ zs) x = get_last zs x

-- a front stays one where more comes
pub front_more : {A : Type 0} (front all more : List A) → IsFront front all → IsFront front (all ++ more)
front_more front all more h = (h.0 ++ more, ap (λ xs. xs ++ more) h.1 ∙ append_assoc front h.0 more)

get_behind : {A : Type 0} (front rest : List A) → slice_get (front ++ rest) (length front) ≡ slice_get rest 0
get_behind [] rest = refl
get_behind (x ∷ front) rest = get_behind front rest

front_by : {A : Type 0} (front all rest : List A) (x : A) → all ≡ front ++ rest → slice_get rest 0 ≡ Some x → IsFront (front ++ x ∷ []) all
front_by front all [] x is e = absurd cc
front_by front all (y ∷ rest) x is e =
    let here : y ≡ x = cc in
    (rest, is ∙ ap (λ first. front ++ first ∷ rest) here ∙ sym (append_assoc front (x ∷ []) rest))

-- the member behind a front makes a longer front
pub front_next : {A : Type 0} (front all : List A) (x : A) → IsFront front all → slice_get all (length front) ≡ Some x → IsFront (front ++ x ∷ []) all
front_next front all x h e = front_by front all h.0 x h.1 (sym (get_behind front h.0) ∙ sym (ap (λ xs. slice_get xs (length front)) h.1) ∙ e)

-- each by recursion, and each by its place
pub all_from : {A : Type 0} (P : A → Type 0) (xs : List A) → AllByRecursion P xs → All P xs
all_from P [] h k d low = absurd (omega arith)
all_from P (x ∷ xs) h zero d low = h.0
all_from P (x ∷ xs) h (suc k) d low = all_from P xs h.1 k d (omega arith)

get_low : {A : Type 0} (xs : List A) (k : ℕ) (x : A) → slice_get xs k ≡ Some x → (k < length xs) × (get_or xs k x ≡ x)
get_low [] k x e = absurd (cc)
get_low (y ∷ ys) zero x e = (omega arith, (let is : y ≡ x = cc in is))
get_low (y ∷ ys) (suc k) x e = let l = get_low ys k x e in (omega (arith, l.0), l.1)

pub all_get : {A : Type 0} (P : A → Type 0) (xs : List A) (k : ℕ) (x : A) → All P xs → slice_get xs k ≡ Some x → P x
all_get P xs k x all e = let l = get_low xs k x e in subst P l.1 (all k x l.0)
