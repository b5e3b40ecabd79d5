-- Lists of words, and what holds of each of them.
use Rattle.std.proofs.Common.{◌≡◌, ℕ, zero, suc, ◌+◌, ◌-◌, ◌<◌, ◌≤◌, ◌==◌, Bool, List, [], ◌∷◌, ◌++◌, Some, None, filter, slice_get, refl, sym, subst, arith, inl, inr}
use Rattle.std.specs.List.{flat_map, range_with_len}
use Rattle.std.proofs.lemmas.Bool.{cases_Bool, cases_eq, eq-eqb, ne_eqb}
use mathlib.Core.Path.{fun_ext}
use Rattle.exb_link.specs.declared.link_frame.LinkFrame.{LinkFrame}
use Rattle.exb_link.specs.LinkFrames.{is_control, without_data, without_control}
use Rattle.exb_model.specs.Tables.{at}
use Rattle.exb_world_spec.specs.Runs.Sessions.{Each}

-- ---- each of a list
pub each_append : {A : Type 0} (P : A → Type 0) (xs ys : List A) → Each P xs → Each P ys → Each P (xs ++ ys)
each_append P [] ys a b = b
each_append P (x ∷ xs) ys a b = (a.0, each_append P xs ys a.1 b)

pub each_weaker : {A : Type 0} (P Q : A → Type 0) (xs : List A) → ((x : A) → P x → Q x) → Each P xs → Each Q xs
each_weaker P Q [] f a = tt
each_weaker P Q (x ∷ xs) f a = (f x a.0, each_weaker P Q xs f a.1)

pub each_range : {A : Type 0} (P : A → Type 0) (f : ℕ → List A) (a n : ℕ) → ((q : ℕ) → a ≤ q → q < a + n → Each P (f q)) → Each P (flat_map f (range_with_len a n))
each_range P f a zero all = tt
each_range P f a (suc n) all = each_append P (f a) (flat_map f (range_with_len (a + 1) n)) (all a (omega arith) (omega arith)) (each_range P f (a + 1) n (λ q low high. all q (omega arith) (omega arith)))

module _ (P : LinkFrame → Type 0) where
  pub each_without_data : (ws : List LinkFrame) → Each P ws → Each P (without_data ws)
  each_without_data [] all = tt
  each_without_data (w ∷ ws) all = elim (cases_Bool (is_control w)) [ inl e ↦ rw e (all.0, each_without_data ws all.1) | inr e ↦ rw e all.1 ]

  pub each_without_control : (ws : List LinkFrame) (k : ℕ) → Each P ws → Each P (without_control ws k)
  each_without_control [] k all = tt
  each_without_control (w ∷ ws) k all =
      elim (cases_Bool (is_control w)) [
        | inl e ↦ elim (cases_Bool (k == 0)) [ inl z ↦ rw (e, z) all.1 | inr z ↦ rw (e, z) (all.0, each_without_control ws (k - 1) all.1) ]
        | inr e ↦ rw e (all.0, each_without_control ws k all.1)
      ]

  pub each_filter : (test : LinkFrame → Bool) (ws : List LinkFrame) → Each P ws → Each P (filter test ws)
  each_filter test [] all = tt
  each_filter test (w ∷ ws) all = elim (cases_Bool (test w)) [ inl e ↦ rw e (all.0, each_filter test ws all.1) | inr e ↦ rw e (each_filter test ws all.1) ]

  pub each_get : (ws : List LinkFrame) (k : ℕ) (x : LinkFrame) → Each P ws → slice_get ws k ≡ Some x → P x
  each_get [] k x all e = absurd (none_some e)
    where
      none_some : None ≡ Some x → ⊥
      none_some f = cc
  each_get (w ∷ ws) zero x all e = subst P (some_same e) all.0
    where
      some_same : Some w ≡ Some x → w ≡ x
      some_same f = cc
  each_get (w ∷ ws) (suc k) x all e = each_get ws k x all.1 e

-- ---- functions that change at one number
pub at_same : {A : Type 0} (P : ℕ → A → Type 0) (n : ℕ) (x : A) (f : ℕ → A) → P n x → ((m : ℕ) → P m (f m)) → (m : ℕ) → P m (at n x f m)
at_same P n x f here there m =
    elim (cases_eq m n) [
      | inl e ↦ rw (eq-eqb m n e) (subst (λ (k : ℕ). P k x) (sym e) here)
      | inr e ↦ rw (ne_eqb m n e) (there m)
    ]

pub at_here : {A : Type 0} (n : ℕ) (x : A) (f : ℕ → A) → at n x f n ≡ x
at_here n x f = rw (eq-eqb n n refl) refl

pub at_other : {A : Type 0} (n m : ℕ) (x : A) (f : ℕ → A) → (m ≡ n → ⊥) → at n x f m ≡ f m
at_other n m x f ne = rw (ne_eqb m n ne) refl

pub at_itself : {A : Type 0} (n : ℕ) (f : ℕ → A) → at n (f n) f ≡ f
at_itself n f = fun_ext (λ m. elim (cases_eq m n) [ inl e ↦ rw (e, eq-eqb n n refl) refl | inr e ↦ rw (ne_eqb m n e) refl ])

-- what a function of the value makes of it
pub at_under : {A B : Type 0} (g : A → B) (n : ℕ) (x : A) (f : ℕ → A) → (λ (m : ℕ). g (at n x f m)) ≡ at n (g x) (λ m. g (f m))
at_under g n x f = fun_ext (λ m. elim (cases_Bool (m == n)) [ inl e ↦ rw e refl | inr e ↦ rw e refl ])
