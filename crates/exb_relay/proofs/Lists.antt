-- Lists that are flattened, filtered and searched.
use Rattle.std.proofs.Common.{◌≡◌, ◌≢◌, ℕ, zero, suc, ◌+◌, ◌<◌, ◌≤◌, ◌==◌, ◌&&◌, ◌||◌, ◌++◌, Bool, true, false, List, [], ◌∷◌, Option, Some, None, filter, refl, sym, ◌∙◌, ap, subst, arith, inl, inr, ◌⊎◌, eq-eqb}
use Rattle.std.specs.Prelude.{find, fold, bytes_eq}
use Rattle.std.specs.List.{flat_map, list_any, range_with_len, All}
use Rattle.std.proofs.lemmas.List.{append-nil}
use Rattle.std.proofs.lemmas.List.Elements.{All-nil, All-append}
use Rattle.std.proofs.lemmas.Grind.{flat_map-append}
use Rattle.std.proofs.lemmas.Slice.Eq.{bytes_eq-Decides}
use Rattle.std.proofs.lemmas.Bool.{cases_eq, cases_Bool, ne_eqb, or_cases, or_left, or_right, false≢true}
use Rattle.exb_model.specs.Ports.{below}
use Rattle.exb_model.specs.Refusals.{is_empty_set, with_set}

abbrev pub Member : {X : Type 0} → X → List X → Type 0
Member x [] = ⊥
Member x (y ∷ ys) = (x ≡ y) ⊎ Member x ys

pub member_left : {X : Type 0} (x : X) (xs ys : List X) → Member x xs → Member x (xs ++ ys)
member_left x [] ys m = absurd m
member_left x (y ∷ xs) ys m = elim m [ inl e ↦ inl e | inr r ↦ inr (member_left x xs ys r) ]

pub member_right : {X : Type 0} (x : X) (xs ys : List X) → Member x ys → Member x (xs ++ ys)
member_right x [] ys m = m
member_right x (y ∷ xs) ys m = inr (member_right x xs ys m)

pub member_flat : {X Y : Type 0} (f : X → List Y) (x : X) (y : Y) (xs : List X) → Member x xs → Member y (f x) → Member y (flat_map f xs)
member_flat f x y [] m n = absurd m
member_flat f x y (z ∷ zs) m n =
    elim m [
      | inl e ↦ member_left y (f z) (flat_map f zs) (subst (λ w. Member y (f w)) e n)
      | inr r ↦ member_right y (f z) (flat_map f zs) (member_flat f x y zs r n)
    ]

pub member_range : (a len n : ℕ) → a ≤ n → n < a + len → Member n (range_with_len a len)
member_range a zero n l g = absurd (omega (arith, l, g))
member_range a (suc len) n l g =
    elim (cases_eq n a) [
      | inl e ↦ inl e
      | inr e ↦ inr (member_range (a + 1) len n (omega (arith, l, e)) (omega (arith, g)))
    ]

pub find_member : {X : Type 0} (test : X → Bool) (xs : List X) (e : X) → find test xs ≡ Some e → Member e xs × (test e ≡ true)
find_member test [] e h = absurd (let z : ◌≡◌ {A = Option _} None (Some e) = h in cc)
find_member test (x ∷ xs) e h =
    elim (cases_Bool (test x)) [
      | inl t ↦ let z : ◌≡◌ {A = Option _} (Some x) (Some e) = rw t at h in let y : x ≡ e = cc in (inl (sym y), subst (λ w. test w ≡ true) y t)
      | inr t ↦ let r = find_member test xs e (rw t at h) in (inr r.0, r.1)
    ]

-- what is found where only one passes
pub find_only : {X : Type 0} (test : X → Bool) (e : X) → test e ≡ true → ((x : X) → test x ≡ true → x ≡ e) → (xs : List X) → Member e xs → find test xs ≡ Some e
find_only test e is alone [] m = absurd m
find_only test e is alone (x ∷ xs) m =
    elim (cases_Bool (test x)) [
      | inl t ↦ rw t (ap Some (alone x t))
      | inr t ↦ elim m [
        | inl here ↦ absurd (false≢true (sym t ∙ subst (λ w. test w ≡ true) here is))
        | inr rest ↦ rw t (find_only test e is alone xs rest)
      ]
    ]

-- ---- flattened
pub flat_flat : {X Y Z : Type 0} (g : Y → List Z) (f : X → List Y) (xs : List X) → flat_map g (flat_map f xs) ≡ flat_map (λ x. flat_map g (f x)) xs
flat_flat g f [] = refl
flat_flat g f (x ∷ xs) = flat_map-append g (f x) (flat_map f xs) ∙ ap (λ z. flat_map g (f x) ++ z) (flat_flat g f xs)

none_of : {X : Type 0} (g : ℕ → List X) (a n o : ℕ) → ((k : ℕ) → k < a + n → k ≢ o → g k ≡ []) → o < a → flat_map g (range_with_len a n) ≡ []
none_of g a zero o h l = refl
none_of g a (suc n) o h l =
    rw (h a (omega arith) (λ e. omega (arith, e, l)), none_of g (a + 1) n o (λ k m. h k (omega (arith, m))) (omega (arith, l))) refl

only_in : {X : Type 0} (g : ℕ → List X) (a n o : ℕ) → ((k : ℕ) → k < a + n → k ≢ o → g k ≡ []) → a ≤ o → o < a + n → flat_map g (range_with_len a n) ≡ g o
only_in g a zero o h l m = absurd (omega (arith, l, m))
only_in g a (suc n) o h l m =
    elim (cases_eq a o) [
      | inl e ↦ rw (none_of g (a + 1) n o (λ k m. h k (omega (arith, m))) (omega (arith, e)), append-nil) (ap g e)
      | inr e ↦ rw (h a (omega arith) e) (only_in g (a + 1) n o (λ k m. h k (omega (arith, m))) (omega (arith, l, e)) (omega (arith, m)))
    ]

-- where only one number has anything
pub only_one : {X : Type 0} (g : ℕ → List X) (n o : ℕ) → ((k : ℕ) → k < n → k ≢ o → g k ≡ []) → o < n → flat_map g (below n) ≡ g o
unfolding below
only_one g n o h m = only_in g 0 n o (λ k l. h k (omega (arith, l))) (omega arith) (omega (arith, m))

pub no_one : {X : Type 0} (g : ℕ → List X) (n : ℕ) → ((k : ℕ) → k < n → g k ≡ []) → flat_map g (below n) ≡ []
unfolding below
no_one g zero h = refl
no_one g (suc n) h = only_in g 0 (suc n) 0 (λ k l d. h k (omega (arith, l))) (omega arith) (omega arith) ∙ h 0 (omega arith)

-- ---- what holds of each
each_from : {X : Type 0} (P : X → Type 0) (f : ℕ → List X) (a n : ℕ) → ((k : ℕ) → k < a + n → All P (f k)) → All P (flat_map f (range_with_len a n))
each_from P f a zero h = All-nil P
each_from P f a (suc n) h =
    All-append P (f a) (flat_map f (range_with_len (a + 1) n)) (h a (omega arith)) (each_from P f (a + 1) n (λ k l. h k (omega (arith, l))))

pub each_below : {X : Type 0} (P : X → Type 0) (f : ℕ → List X) (n : ℕ) → ((k : ℕ) → k < n → All P (f k)) → All P (flat_map f (below n))
unfolding below
each_below P f n h = each_from P f 0 n (λ k l. h k (omega (arith, l)))

-- ---- filtered
pub filter_flat : {X Y : Type 0} (test : Y → Bool) (f : X → List Y) (xs : List X) → filter test (flat_map f xs) ≡ flat_map (λ x. filter test (f x)) xs
filter_flat test f [] = refl
filter_flat test f (x ∷ xs) = filter_append (f x) (flat_map f xs) ∙ ap (λ z. filter test (f x) ++ z) (filter_flat test f xs)
  where
    filter_append : (ys zs : List _) → filter test (ys ++ zs) ≡ filter test ys ++ filter test zs
    filter_append [] zs = refl
    filter_append (y ∷ ys) zs =
        elim (cases_Bool (test y)) [
          | inl e ↦ rw e (ap (λ w. y ∷ w) (filter_append ys zs))
          | inr e ↦ rw e (filter_append ys zs)
        ]

pub listed_filter : (test : ℕ → Bool) (q : ℕ) (xs : List ℕ) → list_any (λ x. x == q) (filter test xs) ≡ (list_any (λ x. x == q) xs && test q)
listed_filter test q [] = refl
listed_filter test q (x ∷ xs) =
    elim (cases_eq x q) [
      | inl e ↦ elim (cases_Bool (test q)) [
        | inl t ↦ let y : test x ≡ true = ap test e ∙ t in rw (y, eq-eqb x q e, t) refl
        | inr t ↦ let y : test x ≡ false = ap test e ∙ t in rw (y, eq-eqb x q e, t) (listed_filter test q xs ∙ (rw t (and_false (list_any (λ x. x == q) xs))))
      ]
      | inr n ↦ elim (cases_Bool (test x)) [
        | inl t ↦ rw (t, ne_eqb x q n) (listed_filter test q xs)
        | inr t ↦ rw (t, ne_eqb x q n) (listed_filter test q xs)
      ]
    ]
  where
    and_false : (b : Bool) → (b && false) ≡ false
    and_false true = refl
    and_false false = refl

-- a filter of a filter
pub filter_both : {X : Type 0} (p r : X → Bool) (xs : List X) → filter r (filter p xs) ≡ filter (λ x. p x && r x) xs
filter_both p r [] = refl
filter_both p r (x ∷ xs) =
    elim (cases_Bool (p x)) [
      | inl e ↦ elim (cases_Bool (r x)) [
        | inl f ↦ rw (e, f) (ap (λ z. x ∷ z) (filter_both p r xs))
        | inr f ↦ rw (e, f) (filter_both p r xs)
      ]
      | inr e ↦ rw e (filter_both p r xs)
    ]

pub none_listed : (q : ℕ) (xs : List ℕ) → is_empty_set xs ≡ true → list_any (λ x. x == q) xs ≡ false
none_listed q [] h = refl
none_listed q (x ∷ xs) h = absurd (false≢true h)

-- ---- distinct sets
has_more : (sets : List (List ℕ)) (x y : List ℕ) → list_any (bytes_eq x) sets ≡ true → list_any (bytes_eq x) (sets ++ y ∷ []) ≡ true
has_more [] x y h = absurd (false≢true h)
has_more (z ∷ sets) x y h =
    elim (or_cases (bytes_eq x z) (list_any (bytes_eq x) sets) h) [
      | inl e ↦ or_left _ _ e
      | inr e ↦ or_right _ _ (has_more sets x y e)
    ]

has_last : (sets : List (List ℕ)) (x : List ℕ) → list_any (bytes_eq x) (sets ++ x ∷ []) ≡ true
has_last [] x = or_left _ _ ((bytes_eq-Decides x x).1 refl)
has_last (z ∷ sets) x = or_right _ _ (has_last sets x)

kept : (sets : List (List ℕ)) (x y : List ℕ) → list_any (bytes_eq x) sets ≡ true → list_any (bytes_eq x) (with_set sets y) ≡ true
kept sets x y h =
    elim (cases_Bool (is_empty_set y || list_any (bytes_eq y) sets)) [
      | inl e ↦ rw e h
      | inr e ↦ rw e (has_more sets x y h)
    ]

put_in : (sets : List (List ℕ)) (x : List ℕ) → is_empty_set x ≡ false → list_any (bytes_eq x) (with_set sets x) ≡ true
put_in sets x some =
    elim (cases_Bool (list_any (bytes_eq x) sets)) [
      | inl e ↦ rw (some, e) e
      | inr e ↦ rw (some, e) (has_last sets x)
    ]

fold_keeps : (xs sets : List (List ℕ)) (x : List ℕ) → list_any (bytes_eq x) sets ≡ true → list_any (bytes_eq x) (fold with_set sets xs) ≡ true
fold_keeps [] sets x h = h
fold_keeps (y ∷ xs) sets x h = fold_keeps xs (with_set sets y) x (kept sets x y h)

-- a set that isn't empty is among the distinct ones
pub fold_has : (xs sets : List (List ℕ)) (x : List ℕ) → Member x xs → is_empty_set x ≡ false → list_any (bytes_eq x) (fold with_set sets xs) ≡ true
fold_has [] sets x m some = absurd m
fold_has (y ∷ xs) sets x m some =
    elim m [
      | inl e ↦ subst (λ (z : List ℕ). list_any (bytes_eq x) (fold with_set (with_set sets z) xs) ≡ true) e (fold_keeps xs (with_set sets x) x (put_in sets x some))
      | inr r ↦ fold_has xs (with_set sets y) x r some
    ]
