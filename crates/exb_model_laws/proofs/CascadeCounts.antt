-- How many cascade ports stand below a bridge port.
use Rattle.std.proofs.Common.{◌≡◌, ◌⊎◌, inl, inr, ℕ, zero, suc, ◌+◌, ◌-◌, ◌/◌, ◌%◌, ◌<◌, ◌≤◌, ◌==◌, ◌&&◌, Bool, true, false, min, count_by, sym, ap, ◌∙◌, arith}
use Rattle.std.specs.Prelude.{nat_le, All}
use Rattle.std.proofs.lemmas.Bool.{cases_Bool, cases_eq, cases_lt, and_parts, and_from, eqb-true, eq-eqb, leb-true, le-leb, false_from_ne_true}
use Rattle.exb_model.specs.Ports.{below}
use Rattle.exb_model.specs.declared.setup.Place.{Place}
use Rattle.exb_model.specs.declared.setup.Place.TheVariants as place
use Rattle.exb_model.specs.declared.setup.ExtenderSetup.{ExtenderSetup}
use Rattle.exb_model.specs.declared.setup.Setup.{Setup}
use Rattle.exb_model.specs.Tree.{Shape, HangsOn, device, is_port, is_cascade, is_cascade_under, trunk, cascades_under, on}
use Rattle.exb_model.specs.Setup.{port_at, shape_of, InRange, IsPlace}
use Rattle.exb_model.proofs.TreeTrunks.{cascade_hangs}
use Rattle.exb_model.proofs.Validity.{count_more_yes, count_more_no, count_none}
use Rattle.exb_model_laws.specs.SetupValidity.{IsOnBridge}
use Rattle.exb_model_laws.proofs.SetupTables.{IsAmong, of_all, AreApart, Has, extender_there}
use Rattle.exb_model_laws.proofs.SetupValidity.{its_place}

-- ---- counting
module _ (p : ℕ → Bool) where
  counted : (n : ℕ) → (p n ≡ true) ⊎ (p n ≡ false) → (count_by p (below (suc n)) ≡ count_by p (below n) + 1) × (p n ≡ true) ⊎ (count_by p (below (suc n)) ≡ count_by p (below n)) × (p n ≡ false)
  counted n (inl is) = inl (ap (λ (m : ℕ). count_by p (below m)) (next n) ∙ count_more_yes p n is, is)
    where
      next : (n : ℕ) → suc n ≡ n + 1
      next n = omega arith
  counted n (inr isnt) = inr (ap (λ (m : ℕ). count_by p (below m)) (next n) ∙ count_more_no p n isnt, isnt)
    where
      next : (n : ℕ) → suc n ≡ n + 1
      next n = omega arith

  pub count_nothing : ((q : ℕ) → p q ≡ false) → (n : ℕ) → count_by p (below n) ≡ 0
  count_nothing none zero = sym (count_none p)
  count_nothing none (suc n) = by_case (counted n (inr (none n))) (count_nothing none n)
    where
      by_case : (count_by p (below (suc n)) ≡ count_by p (below n) + 1) × (p n ≡ true) ⊎ (count_by p (below (suc n)) ≡ count_by p (below n)) × (p n ≡ false) → count_by p (below n) ≡ 0 → count_by p (below (suc n)) ≡ 0
      by_case (inl c) rest = absurd (let z = sym c.1 ∙ none n in cc)
      by_case (inr c) rest = c.0 ∙ rest

  pub count_one : (c : ℕ) → ((q : ℕ) → p q ≡ true → q ≡ c) → (x : ℕ) → count_by p (below x) ≤ min 1 (x - c)
  count_one c only zero = let z = count_none p in omega (arith, z)
  count_one c only (suc x) = by_case (counted x (cases_Bool (p x))) (count_one c only x)
    where
      by_case : (count_by p (below (suc x)) ≡ count_by p (below x) + 1) × (p x ≡ true) ⊎ (count_by p (below (suc x)) ≡ count_by p (below x)) × (p x ≡ false) → count_by p (below x) ≤ min 1 (x - c) →
          count_by p (below (suc x)) ≤ min 1 (suc x - c)
      by_case (inl k) rest = let z = only x k.1 in omega (arith, k.0, rest, z)
      by_case (inr k) rest = omega (arith, k.0, rest)

  -- first ports of the extenders 1 to n - 1
  pub count_at_most : (n : ℕ) → ((q : ℕ) → p q ≡ true → (q % 64 ≡ 0) × (1 ≤ q / 64) × (q / 64 < n)) → (x : ℕ) → count_by p (below x) ≤ min (n - 1) ((x - 1) / 64)
  count_at_most n only zero = let z = count_none p in omega (arith, z)
  count_at_most n only (suc x) = by_case (counted x (cases_Bool (p x))) (count_at_most n only x)
    where
      by_case : (count_by p (below (suc x)) ≡ count_by p (below x) + 1) × (p x ≡ true) ⊎ (count_by p (below (suc x)) ≡ count_by p (below x)) × (p x ≡ false) → count_by p (below x) ≤ min (n - 1) ((x - 1) / 64) →
          count_by p (below (suc x)) ≤ min (n - 1) ((suc x - 1) / 64)
      by_case (inl c) rest = let k = only x c.1 in omega (arith, c.0, rest, k.0, k.1, k.2)
      by_case (inr c) rest = omega (arith, c.0, rest)

  pub count_at_least : (n : ℕ) → ((q : ℕ) → q % 64 ≡ 0 → 1 ≤ q / 64 → q / 64 < n → p q ≡ true) → (x : ℕ) → min (n - 1) ((x - 1) / 64) ≤ count_by p (below x)
  count_at_least n all zero = omega arith
  count_at_least n all (suc x) = by_case (counted x (cases_Bool (p x))) (count_at_least n all x) (cases_eq (x % 64) 0) (cases_lt 0 (x / 64)) (cases_lt (x / 64) n)
    where
      by_case : (count_by p (below (suc x)) ≡ count_by p (below x) + 1) × (p x ≡ true) ⊎ (count_by p (below (suc x)) ≡ count_by p (below x)) × (p x ≡ false) → min (n - 1) ((x - 1) / 64) ≤ count_by p (below x) →
          (x % 64 ≡ 0) ⊎ (x % 64 ≡ 0 → ⊥) → (0 < x / 64) ⊎ (x / 64 ≤ 0) → (x / 64 < n) ⊎ (n ≤ x / 64) → min (n - 1) ((suc x - 1) / 64) ≤ count_by p (below (suc x))
      by_case (inl c) rest a b d = omega (arith, c.0, rest)
      by_case (inr c) rest (inl a) (inl b) (inl d) = absurd (let z = sym (all x a (omega (arith, b)) d) ∙ c.1 in cc)
      by_case (inr c) rest (inr a) b d = omega (arith, c.0, rest, a)
      by_case (inr c) rest (inl a) (inr b) d = omega (arith, c.0, rest, a, b)
      by_case (inr c) rest (inl a) (inl b) (inr d) = omega (arith, c.0, rest, a, b, d)

-- ---- what a cascade port of an extender is
pub record IsBelow (t : Shape) (k q : ℕ) : Type 0 where
  pub high : 64 ≤ q
  pub port : is_port t q ≡ true
  pub number : ℕ
  pub hangs : HangsOn t number q
  pub under : trunk t (device q) ≡ k

pub below_from : (t : Shape) (k q : ℕ) → is_cascade_under t k q ≡ true → IsBelow t k q
below_from t k q is =
    let last = and_parts (nat_le 64 q && is_port t q && is_cascade t q) (trunk t (device q) == k) is in
    let third = and_parts (nat_le 64 q && is_port t q) (is_cascade t q) last.0 in
    let first = and_parts (nat_le 64 q) (is_port t q) third.0 in
    let h = cascade_hangs t q third.1 in
    record { high = leb-true 64 q first.0; port = first.1; number = h.0; hangs = h.1; under = eqb-true (trunk t (device q)) k last.1 }

pub is_below : (t : Shape) (k q : ℕ) → 64 ≤ q → is_port t q ≡ true → is_cascade t q ≡ true → trunk t (device q) ≡ k → is_cascade_under t k q ≡ true
is_below t k q high port cascade under =
    and_from (nat_le 64 q && is_port t q && is_cascade t q) (trunk t (device q) == k)
    (and_from (nat_le 64 q && is_port t q) (is_cascade t q) (and_from (nat_le 64 q) (is_port t q) (le-leb 64 q high) port) cascade)
    (eq-eqb (trunk t (device q)) k under)

-- where all extenders hang on the bridge there is none
pub none_below : (s : Setup) → All InRange s.extenders → AreApart s → ((e : ExtenderSetup) → IsAmong e s.extenders → IsOnBridge e.on) → (k : ℕ) → cascades_under (shape_of s) k ≡ 0
unfolding cascades_under
none_below s ranges apart bridge k = count_nothing (is_cascade_under (shape_of s) k) (λ q. false_from_ne_true (is_cascade_under (shape_of s) k q) (λ is. never q (below_from (shape_of s) k q is))) 4160
  where
    low : (x : Place) → IsPlace x → IsOnBridge x → port_at x < 64
    low (place.Bridge j) r h = omega (arith, r.0, r.1)
    low (place.Extender n j) r h = absurd h

    never : (q : ℕ) → IsBelow (shape_of s) k q → ⊥
    never q b =
        let e : Has b.number s.extenders = extender_there s b.number b.hangs.extender b.hangs.there in
        let at : port_at e.0.on ≡ q = sym (its_place s ranges apart e.0 e.1) ∙ ap (on (shape_of s)) e.2 ∙ b.hangs.at in
        let small : port_at e.0.on < 64 = low e.0.on (of_all InRange s.extenders e.0 ranges e.1).place (bridge e.0 e.1) in
        let high : 64 ≤ q = b.high in
        omega (arith, at, small, high)

-- where all that don't hang on the bridge hang on one port there is at most one
pub one_below : (s : Setup) → All InRange s.extenders → AreApart s → (x : Place) → ((e : ExtenderSetup) → IsAmong e s.extenders → IsOnBridge e.on ⊎ (e.on ≡ x)) → (k : ℕ) → cascades_under (shape_of s) k ≤ 1
unfolding cascades_under
one_below s ranges apart x hang k = let z = count_one (is_cascade_under (shape_of s) k) (port_at x) (λ q is. only q (below_from (shape_of s) k q is)) 4160 in omega (arith, z)
  where
    low : (y : Place) → IsPlace y → IsOnBridge y → port_at y < 64
    low (place.Bridge j) r h = omega (arith, r.0, r.1)
    low (place.Extender n j) r h = absurd h

    only : (q : ℕ) → IsBelow (shape_of s) k q → q ≡ port_at x
    only q b =
        let e : Has b.number s.extenders = extender_there s b.number b.hangs.extender b.hangs.there in
        let at : port_at e.0.on ≡ q = sym (its_place s ranges apart e.0 e.1) ∙ ap (on (shape_of s)) e.2 ∙ b.hangs.at in
        let high : 64 ≤ q = b.high in
        by_place e.0 (of_all InRange s.extenders e.0 ranges e.1).place at high (hang e.0 e.1)
      where
        by_place : (e : ExtenderSetup) → IsPlace e.on → port_at e.on ≡ q → 64 ≤ q → IsOnBridge e.on ⊎ (e.on ≡ x) → q ≡ port_at x
        by_place e r at high (inl bridge) = absurd (let small = low e.on r bridge in omega (arith, at, small, high))
        by_place e r at high (inr same) = sym at ∙ ap port_at same
