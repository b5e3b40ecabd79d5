-- Sums over ports.
use Rattle.std.proofs.Common.{◌≡◌, ◌≢◌, ℕ, zero, suc, eq-eqb, ◌+◌, ◌<◌, ◌≤◌, ◌==◌, Bool, true, false, cond, List, [], ◌∷◌, ◌++◌, length, sum_by, fold, add-zero, filter, refl, ap, sym, ◌∙◌, arith, inl, inr, length-append}
use Rattle.std.specs.List.{range_with_len, AllByRecursion}
use Rattle.std.proofs.lemmas.Bool.{cases_eq, ne_eqb}
use Rattle.exb_model.specs.Ports.{below}
use Rattle.exb_model.specs.declared.event.Event.{Event}
use Rattle.exb_model.specs.declared.event.Event.TheVariants as event
use Rattle.exb_model.specs.History.{Basis, History, bridge_after}
use Rattle.exb_model.specs.Learning.{learned}
use Rattle.exb_model.specs.FlatBridge.{sent_by, flat}
use Rattle.exb_model.specs.Tree.{Shape, external_ports}
use Rattle.exb_model.specs.Texts.{Counts, counted, left_by, with_left, counts}

-- what left all of some ports over a history
abbrev pub left_over : Basis → History → List ℕ → ℕ
left_over b h ports = sum_by (λ q. length (flat b h q)) ports

module _ (f g k : ℕ → ℕ) (each : (q : ℕ) → k q ≡ f q + g q) where
  from : (a b c : ℕ) → c ≡ a + b → (ports : List ℕ) → fold (λ x q. x + k q) c ports ≡ fold (λ x q. x + f q) a ports + fold (λ x q. x + g q) b ports
  from a b c e [] = e
  from a b c e (q ∷ qs) = from (a + f q) (b + g q) (c + k q) (omega (arith, each q)) qs

  pub sum_by-plus : (ports : List ℕ) → sum_by k ports ≡ sum_by f ports + sum_by g ports
  sum_by-plus ports = from 0 0 0 refl ports

pub sum_by-zero : (ports : List ℕ) → sum_by (λ q. 0) ports ≡ 0
sum_by-zero ports = from_zero 0 ports
  where
    from_zero : (a : ℕ) (qs : List ℕ) → fold (λ x q. x + 0) a qs ≡ a
    from_zero a [] = refl
    from_zero a (q ∷ qs) = from_zero (a + 0) qs ∙ add-zero a

-- sums of what is equal at each
pub same-sum : (f g : ℕ → ℕ) (ports : List ℕ) → AllByRecursion (λ q. f q ≡ g q) ports → sum_by f ports ≡ sum_by g ports
same-sum f g ports each = from-start 0 0 refl ports each
  where
    from-start : (a b : ℕ) → a ≡ b → (qs : List ℕ) → AllByRecursion (λ q. f q ≡ g q) qs → fold (λ x q. x + f q) a qs ≡ fold (λ x q. x + g q) b qs
    from-start a b e [] all = e
    from-start a b e (q ∷ qs) all = from-start (a + f q) (b + g q) (omega (arith, e, all.0)) qs all.1

-- what is counted as left is what has left all external ports
pub counts-left : (t : Shape) (b : Basis) (h : History) → (counts t b h).left ≡ left_over b h (external_ports t)
unfolding counts flat
counts-left t b [] = sym (sum_by-zero (external_ports t))
counts-left t b (e ∷ h) =
    same_left e (counts t b h) (left_by t b h e) ∙ ap (λ n. n + left_by t b h e) (counts-left t b h)
    ∙ sym (sum_by-plus (λ q. length (flat b h q)) (λ q. length (sent_by (bridge_after b h) (learned b h) e q)) (λ q. length (flat b h q ++ sent_by (bridge_after b h) (learned b h) e q))
    (λ q. length-append (flat b h q) (sent_by (bridge_after b h) (learned b h) e q)) (external_ports t))
  where
    same_left : (e' : Event) (c : Counts) (n : ℕ) → (with_left n (counted e' c)).left ≡ c.left + n
    same_left (event.Relay p k m f) c n = refl
    same_left (event.Ignored p k) c n = refl
    same_left (event.Tick s) c n = refl
    same_left (event.Commit k) c n = refl
    same_left (event.Refuse k x) c n = refl
    same_left (event.Up p) c n = refl
    same_left (event.NoUp p x) c n = refl
    same_left event.Settled c n = refl

-- ---- a port that passes is met once
module _ (test : ℕ → Bool) (p : ℕ) where
  abbrev hits : ℕ → List ℕ → ℕ
  hits start qs = fold (λ n q. n + cond (p == q) 1 0) start qs

  passed_by : (start a : ℕ) → p ≢ a → start + cond (p == a) 1 0 ≡ start
  passed_by start a other = rw (ne_eqb p a other) (add-zero start)

  met : (start a : ℕ) → p ≡ a → start + cond (p == a) 1 0 ≡ start + 1
  met start a is = rw (eq-eqb p a is) refl

  skip : (start a n : ℕ) (b : Bool) → test a ≡ b → p ≢ a → hits start (filter test (range_with_len a (suc n))) ≡ hits start (filter test (range_with_len (a + 1) n))
  skip start a n true e other = rw e (ap (λ k. hits k (filter test (range_with_len (a + 1) n))) (passed_by start a other))
  skip start a n false e other = rw e refl

  past : (start a n : ℕ) → p < a → hits start (filter test (range_with_len a n)) ≡ start
  past start a zero low = refl
  past start a (suc n) low = skip start a n (test a) refl (λ e. omega arith) ∙ past start (a + 1) n (omega arith)

  here : (start a n : ℕ) → test a ≡ true → p ≡ a → hits start (filter test (range_with_len a (suc n))) ≡ start + 1
  here start a n e is = rw e (ap (λ k. hits k (filter test (range_with_len (a + 1) n))) (met start a is) ∙ past (start + 1) (a + 1) n (omega arith))

  once : (start a n : ℕ) → a ≤ p → p < a + n → test p ≡ true → hits start (filter test (range_with_len a n)) ≡ start + 1
  once start a zero low high passes = absurd (omega arith)
  once start a (suc n) low high passes =
      elim (cases_eq p a) [
        | inl is ↦ here start a n (ap test (sym is) ∙ passes) is
        | inr other ↦ skip start a n (test a) refl other ∙ once start (a + 1) n (omega arith) (omega arith) passes
      ]

-- a port that passes is hit once
pub hit_once : (test : ℕ → Bool) (n p : ℕ) → p < n → test p ≡ true → sum_by (λ q. cond (p == q) 1 0) (filter test (below n)) ≡ 1
unfolding below
hit_once test n p low passes = once test p 0 0 n (omega arith) (omega arith) passes
