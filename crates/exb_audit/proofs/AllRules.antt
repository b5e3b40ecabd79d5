-- All rules together.
use Rattle.std.proofs.Common.{◌≡◌, ℕ, zero, suc, ◌<◌, ◌≤◌, ◌↔◌, Bool, true, false, List, refl, subst, arith}
use Rattle.std.specs.Bool.{Decides}
use Rattle.std.proofs.lemmas.Bool.{false≢true}
use Rattle.exb_trace_spec.specs.Rule4Captures.{IsCaptured}
use Rattle.exb_trace_spec.specs.Rule1Places.{HasPlaces}
use Rattle.exb_trace_spec.specs.Rules.{Files, HoldsRule, IsLegal, IsLowestBroken}
use Rattle.exb_audit.specs.Rule4Captures.{AreAll}
use Rattle.exb_model.specs.Traces.{TraceLine}
use Rattle.exb_model.specs.Tree.{Shape}
use Rattle.exb_audit.specs.declared.frames.PortFrames.{PortFrames}
use Rattle.exb_audit.specs.Frames.{frames_by}
use Rattle.exb_audit.specs.declared.judgement.Judged.{Judged}
use Rattle.exb_audit.specs.declared.judgement.Judged.TheVariants as judged
use Rattle.exb_audit.specs.AllRules.{IsBroken, FindsRest}

module _ (x : Files) where
  abbrev All : Type 0
  All = HoldsRule x 1 × HoldsRule x 2 × HoldsRule x 3 × HoldsRule x 4 × HoldsRule x 5

  all_legal : All → IsLegal x
  all_legal k = record { so_far = record { rule_1 = k.0; rule_2 = k.1; rule_3 = k.2.in_order; rule_4 = k.3; rule_5 = k.4 }; empty = k.2.empty }

  legal_all : IsLegal x → All
  legal_all k = (k.so_far.rule_1, k.so_far.rule_2, record { in_order = k.so_far.rule_3; empty = k.empty }, k.so_far.rule_4, k.so_far.rule_5)

  -- what a judge finds
  pub record Finds (j : Judged) : Type 0 where
    pub legal : (j ≡ judged.Legal) ↔ IsLegal x
    pub broken : (r : ℕ) → j ≡ judged.Broken r → IsLowestBroken x r
    pub few : (r : ℕ) → j ≡ judged.Broken r → (1 ≤ r) × (r ≤ 5)

  broken_legal : {r : ℕ} → judged.Broken r ≡ judged.Legal → ⊥
  broken_legal e = cc

  legal_broken : {r : ℕ} → judged.Legal ≡ judged.Broken r → ⊥
  legal_broken e = cc

  same_rule : {m n : ℕ} → judged.Broken m ≡ judged.Broken n → m ≡ n
  same_rule e = cc

  finds_at : (n : ℕ) → 1 ≤ n → n ≤ 5 → (HoldsRule x n → ⊥) → (IsLegal x → HoldsRule x n) → ((k : ℕ) → k < n → HoldsRule x k) → Finds (judged.Broken n)
  finds_at n low high not_here of lower = record {
    legal = (λ e. absurd (broken_legal e), λ k. absurd (not_here (of k)));
    broken = λ r e. subst (IsLowestBroken x) (same_rule e) (record { broken = not_here; lower = lower });
    few = λ r e. subst (λ m. (1 ≤ m) × (m ≤ 5)) (same_rule e) (low, high);
  }

  below_1 : (k : ℕ) → k < 1 → HoldsRule x k
  below_1 zero l = tt
  below_1 (suc k) l = absurd (omega (arith, l))

  pub finds_first : (HasPlaces x.tree x.journal x.lines → ⊥) → Finds (judged.Broken 1)
  finds_first none = finds_at 1 (omega arith) (omega arith) none (λ z. (legal_all z).0) below_1

  module _ (a : HasPlaces x.tree x.journal x.lines) where
    below_2 : (k : ℕ) → k < 2 → HoldsRule x k
    below_2 zero l = tt
    below_2 (suc zero) l = a
    below_2 (suc (suc k)) l = absurd (omega (arith, l))

    below_3 : HoldsRule x 2 → (k : ℕ) → k < 3 → HoldsRule x k
    below_3 b zero l = tt
    below_3 b (suc zero) l = a
    below_3 b (suc (suc zero)) l = b
    below_3 b (suc (suc (suc k))) l = absurd (omega (arith, l))

    below_4 : HoldsRule x 2 → HoldsRule x 3 → (k : ℕ) → k < 4 → HoldsRule x k
    below_4 b c zero l = tt
    below_4 b c (suc zero) l = a
    below_4 b c (suc (suc zero)) l = b
    below_4 b c (suc (suc (suc zero))) l = c
    below_4 b c (suc (suc (suc (suc k)))) l = absurd (omega (arith, l))

    below_5 : HoldsRule x 2 → HoldsRule x 3 → HoldsRule x 4 → (k : ℕ) → k < 5 → HoldsRule x k
    below_5 b c d zero l = tt
    below_5 b c d (suc zero) l = a
    below_5 b c d (suc (suc zero)) l = b
    below_5 b c d (suc (suc (suc zero))) l = c
    below_5 b c d (suc (suc (suc (suc zero)))) l = d
    below_5 b c d (suc (suc (suc (suc (suc k))))) l = absurd (omega (arith, l))

    finds_broken : (r : ℕ) → IsBroken x.tree x.captures x.outputs x.lines r → Finds (judged.Broken r)
    finds_broken zero k = absurd k
    finds_broken (suc zero) k = absurd k
    finds_broken (suc (suc zero)) k = finds_at 2 (omega arith) (omega arith) k (λ z. (legal_all z).1) below_2
    finds_broken (suc (suc (suc zero))) k = finds_at 3 (omega arith) (omega arith) k.1 (λ z. (legal_all z).2) (below_3 k.0)
    finds_broken (suc (suc (suc (suc zero)))) k = finds_at 4 (omega arith) (omega arith) k.2 (λ z. (legal_all z).3) (below_4 k.0 k.1)
    finds_broken (suc (suc (suc (suc (suc zero))))) k = finds_at 5 (omega arith) (omega arith) k.3 (λ z. (legal_all z).4) (below_5 k.0 k.1 k.2)
    finds_broken (suc (suc (suc (suc (suc (suc r)))))) k = absurd k

    pub finds_rest : (j : Judged) → FindsRest x.tree x.captures x.outputs x.lines j → Finds j
    finds_rest judged.Legal k = record {
      legal = (λ e. all_legal (a, k.0, k.1, k.2, k.3), λ z. refl);
      broken = λ r e. absurd (legal_broken e);
      few = λ r e. absurd (legal_broken e);
    }
    finds_rest (judged.Broken r) k = finds_broken r k

-- ---- rule 4
pub both_captured : (t : Shape) (captures outputs : List PortFrames) (lines : List TraceLine) (r : Bool) → AreAll true t captures lines → Decides r (AreAll false t outputs lines) →
    Decides r (IsCaptured t (frames_by captures) (frames_by outputs) lines)
both_captured t captures outputs lines r are d = (λ e. record { arrived = are; left = d.0 e }, λ k. d.1 k.left)

pub none_captured : (t : Shape) (captures outputs : List PortFrames) (lines : List TraceLine) → (AreAll true t captures lines → ⊥) →
    Decides false (IsCaptured t (frames_by captures) (frames_by outputs) lines)
none_captured t captures outputs lines none = (λ e. absurd (false≢true e), λ k. absurd (none k.arrived))
