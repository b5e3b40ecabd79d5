-- How many extenders weren't heard.
use Rattle.std.proofs.Common.{◌≡◌, ℕ, suc, ◌+◌, ◌-◌, ◌≤◌, Bool, true, false, cond, List, [], ◌∷◌, length, filter, refl, ap, sym, ◌∙◌, arith, add-one, length-append}
use Rattle.std.specs.Prelude.{count_by}
use Rattle.std.specs.List.{range_with_len}
use Rattle.std.proofs.lemmas.List.Sums.{count_by-le-length, length-filter}
use Rattle.std.proofs.lemmas.List.Elements.{filter-append}
use Rattle.std.proofs.lemmas.List.FromFn.{length-range_with_len}
use Rattle.exb_model.proofs.PortLemmas.{range-more}
use Rattle.exb_model.specs.Tree.{Shape}
use Rattle.exb_control.specs.MachineSteps.{unheard_at, unheard_to}

one : (p : ℕ → Bool) (n : ℕ) → length (filter p (n ∷ [])) ≡ cond (p n) 1 0
one p n = by_test (p n)
  where
    by_test : (b : Bool) → length (cond b (n ∷ []) []) ≡ cond b 1 0
    by_test true = refl
    by_test false = refl

pub counts_more : (p : ℕ → Bool) (a n : ℕ) → count_by p (range_with_len a (n + 1)) ≡ count_by p (range_with_len a n) + cond (p (a + n)) 1 0
counts_more p a n =
    let e : n + 1 ≡ suc n = add-one n in
    sym (length-filter p (range_with_len a (n + 1)))
    ∙ ap (λ (xs : List ℕ). length (filter p xs)) (ap (range_with_len a) e ∙ range-more a n)
    ∙ ap length (filter-append p (range_with_len a n) ((a + n) ∷ []))
    ∙ length-append (filter p (range_with_len a n)) (filter p ((a + n) ∷ []))
    ∙ ap (λ k. k + length (filter p ((a + n) ∷ []))) (length-filter p (range_with_len a n))
    ∙ ap (λ k. count_by p (range_with_len a n) + k) (one p (a + n))

pub unheard_none : (t : Shape) (h : List Bool) → unheard_to t h 0 ≡ 0
unfolding unheard_to
unheard_none t h = refl

pub unheard_more : (t : Shape) (h : List Bool) (n : ℕ) → unheard_to t h (n + 1) ≡ unheard_to t h n + cond (unheard_at t h (1 + n)) 1 0
unfolding unheard_to
unheard_more t h n = counts_more (unheard_at t h) 1 n

pub unheard_few : (t : Shape) (h : List Bool) (n : ℕ) → unheard_to t h n ≤ n
unfolding unheard_to
unheard_few t h n = let le = count_by-le-length (unheard_at t h) (range_with_len 1 n) in let long = length-range_with_len 1 n in omega arith

-- the next extender counts, if it wasn't heard
pub unheard_next : (t : Shape) (h : List Bool) (count number : ℕ) (b : Bool) → 1 ≤ number → count ≡ unheard_to t h (number - 1) → b ≡ unheard_at t h number →
    count + cond b 1 0 ≡ unheard_to t h (number + 1 - 1)
unheard_next t h count number b low before is =
    let at : 1 + (number - 1) ≡ number = omega arith in
    let next : number + 1 - 1 ≡ number - 1 + 1 = omega arith in
    ap (λ k. k + cond b 1 0) before
    ∙ ap (λ (c : Bool). unheard_to t h (number - 1) + cond c 1 0) (is ∙ ap (unheard_at t h) (sym at))
    ∙ sym (unheard_more t h (number - 1))
    ∙ ap (unheard_to t h) (sym next)

pub one_at_most : (b : Bool) (n : ℕ) → n ≡ cond b 1 0 → n ≤ 1
one_at_most true n is = omega arith
one_at_most false n is = omega arith
