-- What hangs on a port, and the bridge port above an extender.
use Rattle.std.proofs.Common.{List, ap, arith, false, inl, inr, length, nat_lt, not, slice_index, slice_set, subst, sym, true, ℕ, ◌&&◌, ◌+◌, ◌<◌, ◌≤◌, ◌==◌, ◌∙◌, ◌≡◌, refl}
use Rattle.std.proofs.lemmas.Bool.{and_from, and_parts, cases_eq, cases_lt, eq-eqb, eqb-true, ne_eqb, false_from_ne_true, false≢true, lt-ltb, ltb-true, not_from_false}
use Rattle.std.proofs.lemmas.List.{get_or-set_other, get_or-set_same, get_or_past, length-set}
use Rattle.exb_model.specs.Tree.{Shape, on, HangsOn, IsTree, is_port, is_extender, is_cascade, is_external, top, trunk}
use Rattle.exb_model.specs.TreeTables.{IsHung, IsTopped}
use Rattle.exb_model.proofs.TreeWays.{any_below-from, any_below-true}
use Rattle.exb_model.proofs.TreeLoops.{trunk_is}

pub cascade_hangs : (t : Shape) (p : ℕ) → is_cascade t p ≡ true → (n : ℕ) × HangsOn t n p
unfolding is_cascade
cascade_hangs t p h =
    let found : (n : ℕ) × (n < 65) × ((is_extender t n && on t n == p) ≡ true) = any_below-true (λ n. is_extender t n && on t n == p) 65 h in
    let both = and_parts (is_extender t found.0) (on t found.0 == p) found.2 in
    let parts = and_parts _ _ both.0 in
    (found.0, record { extender = ltb-true _ _ parts.0; there = ltb-true _ _ parts.1; at = eqb-true _ _ both.1 })

-- a port of the tree on which nothing hangs is external
pub external_from : (t : Shape) (p : ℕ) → is_port t p ≡ true → ((n : ℕ) → HangsOn t n p → ⊥) → is_external t p ≡ true
external_from t p known none =
    and_from _ _ known (not_from_false (is_cascade t p) (false_from_ne_true _ (λ e. let found = cascade_hangs t p e in none found.0 found.1)))

-- ---- trunks
pub trunk-low : (t : Shape) → IsTree t → (n : ℕ) → is_extender t n ≡ true → trunk t n < 64
trunk-low t valid n h =
    let parts = and_parts _ _ h in
    let low : top t.on 63 (on t n) < 64 = valid.rooted n (ltb-true _ _ parts.0) (ltb-true _ _ parts.1) in
    rw (trunk_is t n) low

pub extender-low : (t : Shape) → IsTree t → (n : ℕ) → is_extender t n ≡ true → n < 65
extender-low t valid n h =
    elim (cases_lt n 65) [
      | inl l ↦ l
      | inr g ↦
          let parts = and_parts (nat_lt 0 n) (nat_lt 0 (slice_index t.ports n)) h in
          let some : 0 < slice_index t.ports n = ltb-true 0 (slice_index t.ports n) parts.1 in
          let none : slice_index t.ports n ≡ 0 = get_or_past t.ports n 0 (omega (arith, valid.sized)) in
          absurd (omega (arith, some))
    ]

pub topped-low : (t : Shape) (tops : List ℕ) → IsTree t → IsTopped t tops → (n : ℕ) → is_extender t n ≡ true → (slice_index tops n < 64) × (slice_index tops n ≡ trunk t n)
topped-low t tops valid topped n h =
    let e : slice_index tops n ≡ trunk t n = topped.each n (extender-low t valid n h) in
    (rw e (trunk-low t valid n h), e)

-- one trunk more
pub topped-more : (t : Shape) (tops : List ℕ) (k x : ℕ) → length tops ≡ 65 → k < 65 → ((n : ℕ) → n < k → slice_index tops n ≡ trunk t n) →
    x ≡ top t.on 63 (slice_index t.on k) → (n : ℕ) → n < k + 1 → slice_index (slice_set tops k x) n ≡ trunk t n
topped-more t tops k x sized l before is n h =
    elim (cases_eq n k) [
      | inl e ↦ rw (e, get_or-set_same tops k x 0 (omega arith), trunk_is t k) is
      | inr e ↦ rw (get_or-set_other tops k n x 0 e) (before n (omega arith))
    ]

-- ---- the extenders below number k are noted where they hang
abbrev pub Noted : Shape → List ℕ → ℕ → Type 0
Noted t below k =
    (length below ≡ 4160)
    × ((n p : ℕ) → n < k → HangsOn t n p → slice_index below p ≡ n)
    × ((p : ℕ) → 0 < slice_index below p → HangsOn t (slice_index below p) p)

pub noted-in : (t : Shape) (below : List ℕ) (k q : ℕ) → IsTree t → is_extender t k ≡ true → q ≡ on t k → q < 4160 → Noted t below k → Noted t (slice_set below q k) (k + 1)
noted-in t below k q valid there at low noted =
    let parts = and_parts (nat_lt 0 k) (nat_lt 0 (slice_index t.ports k)) there in
    let hung : HangsOn t k q = record { extender = ltb-true 0 k parts.0; there = ltb-true 0 (slice_index t.ports k) parts.1; at = sym at } in (
      length-set below q k ∙ noted.0,
      λ n p l h.
          elim (cases_eq p q) [
            | inl e ↦ rw (e, get_or-set_same below q k 0 (omega (arith, noted.0))) (valid.alone k n q hung (subst (λ (x : ℕ). HangsOn t n x) e h))
            | inr e ↦ rw (get_or-set_other below q p k 0 e) (noted.1 n p (before n p e l h) h)
          ],
      λ p l.
          elim (cases_eq p q) [
            | inl e ↦ rw (e, get_or-set_same below q k 0 (omega (arith, noted.0))) hung
            | inr e ↦ rw (get_or-set_other below q p k 0 e) (noted.2 p (rw (get_or-set_other below q p k 0 e) at l))
          ],
    )
  where
    before : (n p : ℕ) → (p ≡ q → ⊥) → n < k + 1 → HangsOn t n p → n < k
    before n p e l h =
        elim (cases_eq n k) [
          | inl f ↦ absurd (e (sym h.at ∙ (ap (on t) f ∙ sym at)))
          | inr f ↦ omega arith
        ]

pub noted-out : (t : Shape) (below : List ℕ) (k : ℕ) → is_extender t k ≡ false → Noted t below k → Noted t below (k + 1)
noted-out t below k none noted = (
  noted.0,
  λ n p l h.
      elim (cases_eq n k) [
        | inl e ↦ absurd (false≢true (sym none ∙ (rw (sym e) (there n p h))))
        | inr e ↦ noted.1 n p (omega arith) h
      ],
  noted.2,
)
  where
    there : (n p : ℕ) → HangsOn t n p → is_extender t n ≡ true
    there n p h = and_from (nat_lt 0 n) (nat_lt 0 (slice_index t.ports n)) (lt-ltb 0 n h.extender) (lt-ltb 0 (slice_index t.ports n) h.there)

-- ---- what hangs on a port, as a test
pub hung_cascade : (t : Shape) → IsTree t → (n p : ℕ) → HangsOn t n p → is_cascade t p ≡ true
unfolding is_cascade
hung_cascade t valid n p h =
    let there : is_extender t n ≡ true = and_from (nat_lt 0 n) (nat_lt 0 (slice_index t.ports n)) (lt-ltb 0 n h.extender) (lt-ltb 0 (slice_index t.ports n) h.there) in
    any_below-from (λ m. is_extender t m && on t m == p) 65 n (extender-low t valid n there) (and_from (is_extender t n) (on t n == p) there (eq-eqb (on t n) p h.at))

pub noted_cascade : (t : Shape) (below : List ℕ) (p : ℕ) → IsTree t → IsHung t below → not (slice_index below p == 0) ≡ is_cascade t p
noted_cascade t below p valid hung =
    elim (cases_eq (slice_index below p) 0) [
      | inl e ↦
          let none : is_cascade t p ≡ false =
          false_from_ne_true (is_cascade t p) (λ c. let found = cascade_hangs t p c in let is : slice_index below p ≡ found.0 = hung.found found.0 p found.1 in let some : 0 < found.0 = found.1.extender in omega (arith, is, some, e)) in
          rw (eq-eqb (slice_index below p) 0 e, none) refl
      | inr some ↦ rw (ne_eqb (slice_index below p) 0 some, hung_cascade t valid (slice_index below p) p (hung.there p (omega (arith, some)))) refl
    ]

pub past_devices : (t : Shape) → IsTree t → (n : ℕ) → 65 ≤ n → is_extender t n ≡ false
past_devices t valid n past = false_from_ne_true (is_extender t n) (λ h. let low : n < 65 = extender-low t valid n h in omega (arith, low, past))
