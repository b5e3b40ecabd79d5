-- What a list that is put in order by moment begins with.
use Rattle.std.proofs.Common.{◌≡◌, ℕ, suc, ◌<◌, ◌≤◌, Bool, true, false, cond, List, [], ◌∷◌, ◌++◌, length, refl, ap, ◌∙◌, arith}
use Rattle.std.specs.Prelude.{nat_lt}
use Rattle.std.specs.List.{AllByRecursion}
use Rattle.std.proofs.lemmas.Bool.{lt-ltb, le-ltb}
use Rattle.exb_model.specs.Input.{Coming, moment_of, put_in_order, by_moment}

-- none has a moment below this one
abbrev pub NoneBefore : ℕ → List Coming → Type 0
NoneBefore m = AllByRecursion (λ x. m ≤ moment_of x)

pub none_before-put : (m : ℕ) (x : Coming) (ys : List Coming) → m ≤ moment_of x → NoneBefore m ys → NoneBefore m (put_in_order x ys)
none_before-put m x [] h all = (h, tt)
none_before-put m x (y ∷ ys) h all = by_test (none_before-put m x ys h all.1) (nat_lt (moment_of y) (moment_of x))
  where
    by_test : NoneBefore m (put_in_order x ys) → (b : Bool) → NoneBefore m (cond b (y ∷ put_in_order x ys) (x ∷ y ∷ ys))
    by_test rest true = (all.0, rest)
    by_test rest false = (h, all)

pub none_before-by_moment : (m : ℕ) (xs : List Coming) → NoneBefore m xs → NoneBefore m (by_moment xs)
none_before-by_moment m [] all = tt
none_before-by_moment m (x ∷ xs) all = none_before-put m x (by_moment xs) all.0 (none_before-by_moment m xs all.1)

pub put-first : (x : Coming) (ys : List Coming) → NoneBefore (moment_of x) ys → put_in_order x ys ≡ x ∷ ys
put-first x [] all = refl
put-first x (y ∷ ys) all = rw (le-ltb (moment_of y) (moment_of x) all.0) refl

-- one comes first that none behind it comes before, and all before it come after it
pub by_moment-first : (before : List Coming) (x : Coming) (rest : List Coming) → NoneBefore (suc (moment_of x)) before → NoneBefore (moment_of x) rest →
    by_moment (before ++ x ∷ rest) ≡ x ∷ by_moment (before ++ rest)
by_moment-first [] x rest later all = put-first x (by_moment rest) (none_before-by_moment (moment_of x) rest all)
by_moment-first (b ∷ bs) x rest later all =
    let first : moment_of x < moment_of b = omega (arith, later.0) in
    ap (put_in_order b) (by_moment-first bs x rest later.1 all) ∙ rw (lt-ltb (moment_of x) (moment_of b) first) refl

pub length-put : (x : Coming) (ys : List Coming) → length (put_in_order x ys) ≡ suc (length ys)
length-put x [] = refl
length-put x (y ∷ ys) = by_test (length-put x ys) (nat_lt (moment_of y) (moment_of x))
  where
    by_test : length (put_in_order x ys) ≡ suc (length ys) → (b : Bool) → length (cond b (y ∷ put_in_order x ys) (x ∷ y ∷ ys)) ≡ suc (suc (length ys))
    by_test rest true = ap suc rest
    by_test rest false = refl

pub length-by_moment : (xs : List Coming) → length (by_moment xs) ≡ length xs
length-by_moment [] = refl
length-by_moment (x ∷ xs) = length-put x (by_moment xs) ∙ ap suc (length-by_moment xs)
