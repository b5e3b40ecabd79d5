-- All rules together.
use Rattle.std.proofs.Common.{◌≡◌, ℕ, zero, suc, ◌<◌, ◌≤◌, Bool, true, false, List, [], ◌∷◌, Option, Some, None, refl, sym, ◌∙◌, subst, arith}
use Rattle.std.specs.Bool.{Decides}
use Rattle.std.proofs.lemmas.Bool.{false≢true}
use Rattle.exb_model.specs.Traces.{TraceLine}
use Rattle.exb_trace_spec.specs.CheckerLaws.{AreFiles, JudgesRightly, AllAreJudged}
use Rattle.exb_trace_spec.specs.TraceChecker.{through, step_1, verdict_1, step_2, verdict_2, step_3, verdict_3, step_4, verdict_4, step_5, verdict_5, Checker, begin, check_line, unless, lowest, judged}
use Rattle.exb_trace_spec.specs.Rules.{Files, HoldsRule, IsLegal, IsLowestBroken}
use Rattle.exb_trace_spec.proofs.Rule3Checker.{rule_3_is_decided}
use Rattle.exb_trace_spec.proofs.Rule1And4Checker.{rule_1_is_decided, rule_4_is_decided}
use Rattle.exb_trace_spec.proofs.Rule5Checker.{rule_5_is_decided}
use Rattle.exb_trace_spec.proofs.Rule2Checker.{rule_2_is_decided}

module _ (x : Files) where
  abbrev after : Checker → List TraceLine → Checker
  after s lines = through (check_line x) s lines

  told : (s : Checker) (lines : List TraceLine) → (after s lines).told ≡ through (step_1 x.tree) s.told lines
  told s [] = refl
  told s (l ∷ ls) = told (check_line x s l) ls

  watches : (s : Checker) (lines : List TraceLine) → (after s lines).watches ≡ through step_2 s.watches lines
  watches s [] = refl
  watches s (l ∷ ls) = watches (check_line x s l) ls

  links : (s : Checker) (lines : List TraceLine) → (after s lines).links ≡ through (step_3 x.tree) s.links lines
  links s [] = refl
  links s (l ∷ ls) = links (check_line x s l) ls

  left : (s : Checker) (lines : List TraceLine) → (after s lines).left ≡ through step_4 s.left lines
  left s [] = refl
  left s (l ∷ ls) = left (check_line x s l) ls

  steps : (s : Checker) (lines : List TraceLine) → (after s lines).steps ≡ through (step_5 x.tree x.captures) s.steps lines
  steps s [] = refl
  steps s (l ∷ ls) = steps (check_line x s l) ls

  abbrev first : Bool → Bool → Bool → Bool → Bool → Option ℕ
  first a b c d e = unless a 1 (unless b 2 (unless c 3 (unless d 4 (unless e 5 None))))

  some_same : {n m : ℕ} → Some n ≡ Some m → n ≡ m
  some_same e = cc

  none_some : {n : ℕ} → None ≡ Some n → ⊥
  none_some e = cc

  some_none : {n : ℕ} → Some n ≡ None → ⊥
  some_none e = cc

  abbrev All : Type 0
  All = HoldsRule x 1 × HoldsRule x 2 × HoldsRule x 3 × HoldsRule x 4 × HoldsRule x 5

  all_legal : All → IsLegal x
  all_legal k = record { so_far = record { rule_1 = k.0; rule_2 = k.1; rule_3 = k.2.in_order; rule_4 = k.3; rule_5 = k.4 }; empty = k.2.empty }

  legal_all : IsLegal x → All
  legal_all k = (k.so_far.rule_1, k.so_far.rule_2, record { in_order = k.so_far.rule_3; empty = k.empty }, k.so_far.rule_4, k.so_far.rule_5)

  record Judged (o : Option ℕ) : Type 0 where
    yes : o ≡ None → IsLegal x
    back : IsLegal x → o ≡ None
    broken : (r : ℕ) → o ≡ Some r → IsLowestBroken x r
    few : (r : ℕ) → o ≡ Some r → (1 ≤ r) × (r ≤ 5)

  -- rule n is the lowest that doesn't hold
  broken_at : (n : ℕ) → 1 ≤ n → n ≤ 5 → (HoldsRule x n → ⊥) → (IsLegal x → HoldsRule x n) → ((k : ℕ) → k < n → HoldsRule x k) → Judged (Some n)
  broken_at n low high not_here of lower =
      record {
        yes = λ e. absurd (some_none e);
        back = λ k. absurd (not_here (of k));
        broken = λ r e. subst (IsLowestBroken x) (some_same e) (record { broken = not_here; lower = lower });
        few = λ r e. subst (λ m. (1 ≤ m) × (m ≤ 5)) (some_same e) (low, high);
      }

  below_1 : (k : ℕ) → k < 1 → HoldsRule x k
  below_1 zero l = tt
  below_1 (suc k) l = absurd (omega (arith, l))

  below_2 : HoldsRule x 1 → (k : ℕ) → k < 2 → HoldsRule x k
  below_2 a zero l = tt
  below_2 a (suc zero) l = a
  below_2 a (suc (suc k)) l = absurd (omega (arith, l))

  below_3 : HoldsRule x 1 → HoldsRule x 2 → (k : ℕ) → k < 3 → HoldsRule x k
  below_3 a b zero l = tt
  below_3 a b (suc zero) l = a
  below_3 a b (suc (suc zero)) l = b
  below_3 a b (suc (suc (suc k))) l = absurd (omega (arith, l))

  below_4 : HoldsRule x 1 → HoldsRule x 2 → HoldsRule x 3 → (k : ℕ) → k < 4 → HoldsRule x k
  below_4 a b c zero l = tt
  below_4 a b c (suc zero) l = a
  below_4 a b c (suc (suc zero)) l = b
  below_4 a b c (suc (suc (suc zero))) l = c
  below_4 a b c (suc (suc (suc (suc k)))) l = absurd (omega (arith, l))

  below_5 : HoldsRule x 1 → HoldsRule x 2 → HoldsRule x 3 → HoldsRule x 4 → (k : ℕ) → k < 5 → HoldsRule x k
  below_5 a b c d zero l = tt
  below_5 a b c d (suc zero) l = a
  below_5 a b c d (suc (suc zero)) l = b
  below_5 a b c d (suc (suc (suc zero))) l = c
  below_5 a b c d (suc (suc (suc (suc zero)))) l = d
  below_5 a b c d (suc (suc (suc (suc (suc k))))) l = absurd (omega (arith, l))

  not_so : (b : Bool) (P : Type 0) → Decides b P → b ≡ false → P → ⊥
  not_so b P d e k = false≢true (sym e ∙ d.1 k)

  by_verdicts : (a b c d e : Bool) → Decides a (HoldsRule x 1) → Decides b (HoldsRule x 2) → Decides c (HoldsRule x 3) → Decides d (HoldsRule x 4) → Decides e (HoldsRule x 5) → Judged (first a b c d e)
  by_verdicts false b c d e k1 k2 k3 k4 k5 = broken_at 1 (omega arith) (omega arith) (not_so false (HoldsRule x 1) k1 refl) (λ z. (legal_all z).0) below_1
  by_verdicts true false c d e k1 k2 k3 k4 k5 = broken_at 2 (omega arith) (omega arith) (not_so false (HoldsRule x 2) k2 refl) (λ z. (legal_all z).1) (below_2 (k1.0 refl))
  by_verdicts true true false d e k1 k2 k3 k4 k5 = broken_at 3 (omega arith) (omega arith) (not_so false (HoldsRule x 3) k3 refl) (λ z. (legal_all z).2) (below_3 (k1.0 refl) (k2.0 refl))
  by_verdicts true true true false e k1 k2 k3 k4 k5 =
      broken_at 4 (omega arith) (omega arith) (not_so false (HoldsRule x 4) k4 refl) (λ z. (legal_all z).3) (below_4 (k1.0 refl) (k2.0 refl) (k3.0 refl))
  by_verdicts true true true true false k1 k2 k3 k4 k5 =
      broken_at 5 (omega arith) (omega arith) (not_so false (HoldsRule x 5) k5 refl) (λ z. (legal_all z).4) (below_5 (k1.0 refl) (k2.0 refl) (k3.0 refl) (k4.0 refl))
  by_verdicts true true true true true k1 k2 k3 k4 k5 =
      record {
        yes = λ z. all_legal (k1.0 refl, k2.0 refl, k3.0 refl, k4.0 refl, k5.0 refl);
        back = λ z. refl;
        broken = λ r z. absurd (none_some z);
        few = λ r z. absurd (none_some z);
      }

  rightly : AreFiles x → JudgesRightly x
  unfolding judged
  rightly files =
      let s : Checker = begin x in
      let k : Judged (lowest x (after s x.lines)) =
      by_verdicts (verdict_1 (after s x.lines).told) (verdict_2 x.tree (after s x.lines).watches) (verdict_3 x.tree (after s x.lines).links) (verdict_4 x.tree (after s x.lines).left) (verdict_5 x.tree x.captures (after s x.lines).steps)
      (subst (λ z. Decides (verdict_1 z) (HoldsRule x 1)) (sym (told s x.lines)) (rule_1_is_decided x.tree x.journal x.lines))
      (subst (λ z. Decides (verdict_2 x.tree z) (HoldsRule x 2)) (sym (watches s x.lines)) (rule_2_is_decided x.tree x.lines files.sized))
      (subst (λ z. Decides (verdict_3 x.tree z) (HoldsRule x 3)) (sym (links s x.lines)) (rule_3_is_decided x.tree x.lines files.sized))
      (subst (λ z. Decides (verdict_4 x.tree z) (HoldsRule x 4)) (sym (left s x.lines)) (rule_4_is_decided x.tree x.captures x.outputs x.lines files.sized))
      (subst (λ z. Decides (verdict_5 x.tree x.captures z) (HoldsRule x 5)) (sym (steps s x.lines)) (rule_5_is_decided x.tree x.captures x.lines files.captures)) in
      record { legal = (k.yes, k.back); broken = k.broken; few = k.few }

pub all_are_judged : AllAreJudged
all_are_judged x files = rightly x files
