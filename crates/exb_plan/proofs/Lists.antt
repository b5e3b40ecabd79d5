-- Lists that are gone through one by one.
use Rattle.std.proofs.Common.{◌≡◌, ℕ, suc, ◌+◌, ◌<◌, cond, Bool, true, false, List, [], ◌∷◌, ◌++◌, length, get_or, map, filter, take, drop, refl, sym, ◌∙◌, ap, add-one, drop-cons}
use Rattle.std.specs.List.{flat_map}
use Rattle.std.proofs.lemmas.List.{append-nil, append_assoc, take_more, map-append}
use Rattle.std.proofs.lemmas.List.Elements.{filter-append}
use Rattle.exb_model.specs.Ports.{below}
use Rattle.exb_model.proofs.PortLemmas.{below-more}
use Rattle.std.proofs.lemmas.Grind.{flat_map-append}

-- one more element's list at the end
pub flat_more : {X Y : Type 0} (f : X → List Y) (xs : List X) (x : X) (before now after : List Y) → now ≡ before ++ flat_map f xs → after ≡ now ++ f x →
    after ≡ before ++ flat_map f (xs ++ x ∷ [])
flat_more f xs x before now after one two =
    two ∙ (ap (λ l. l ++ f x) one ∙ (append_assoc before (flat_map f xs) (f x)
    ∙ ap (λ l. before ++ l) (sym (flat_map-append f xs (x ∷ []) ∙ ap (λ l. flat_map f xs ++ l) (append-nil (f x))))))

-- the images of the elements up to a place, and from it on
pub image_next : {X Y : Type 0} (f : X → Y) (xs : List X) (i : ℕ) (x : X) → i < length xs → x ≡ get_or xs i x → map f (take (i + 1) xs) ≡ map f (take i xs) ++ f x ∷ []
image_next f xs i x within is =
    ap (map f) (take_more xs i x within) ∙ (map-append f (take i xs) (get_or xs i x ∷ []) ∙ ap (λ y. map f (take i xs) ++ f y ∷ []) (sym is))

pub image_rest : {X Y : Type 0} (f : X → Y) (xs : List X) (i : ℕ) (x : X) → i < length xs → x ≡ get_or xs i x → map f (drop i xs) ≡ f x ∷ map f (drop (i + 1) xs)
image_rest f xs i x within is = rw (add-one) (ap (map f) (drop-cons xs i x within) ∙ ap (λ y. f y ∷ map f (drop (suc i) xs)) (sym is))

pub taken_next : {X : Type 0} (xs : List X) (i : ℕ) (x : X) → i < length xs → x ≡ get_or xs i x → take (i + 1) xs ≡ take i xs ++ x ∷ []
taken_next xs i x within is = take_more xs i x within ∙ ap (λ y. take i xs ++ y ∷ []) (sym is)

-- a number more of those below one
pub filter_next : {Y : Type 0} (f : ℕ → List Y) (test : ℕ → Bool) (n : ℕ) → flat_map f (filter test (below (n + 1))) ≡ flat_map f (filter test (below n)) ++ cond (test n) (f n) []
filter_next f test n =
    ap (λ (xs : List ℕ). flat_map f (filter test xs)) (below-more n)
    ∙ (ap (flat_map f) (filter-append test (below n) (n ∷ [])) ∙ (flat_map-append f (filter test (below n)) (filter test (n ∷ []))
    ∙ ap (λ l. flat_map f (filter test (below n)) ++ l) (by_test (test n))))
  where
    by_test : (b : Bool) → flat_map f (cond b (n ∷ []) []) ≡ cond b (f n) []
    by_test true = append-nil (f n)
    by_test false = refl
