-- Rows: their ports, lowest first.
use Rattle.std.proofs.Common.{◌≡◌, ◌≢◌, ◌⊎◌, ℕ, zero, suc, ◌+◌, ◌-◌, ◌*◌, ◌/◌, ◌%◌, ◌^◌, ◌<◌, ◌≤◌, ◌==◌, ◌&&◌, not, true, false, cond, bit_or, count_ones, List, [], ◌∷◌, ◌++◌, length, nat_lt, nat_le, refl, ap, sym, ◌∙◌, arith, inl, inr, append_assoc, append-nil, length-append}
use Rattle.std.specs.List.{flat_map, range_with_len}
use Rattle.std.specs.Int.{w64, bit_at, trailing_zeros}
use Rattle.std.proofs.lemmas.Bool.{cases_eq, and_from, and_right, ne_eqb, eq-eqb, lt-ltb, le-leb}
use Rattle.std.proofs.lemmas.Nat.{ones-le, ones_le_self}
use Rattle.std.proofs.lemmas.Nat.Bits.{bit_at-lt, bit_at-suc, bit_at_lowest, bit_at_set_same, bit_at_set_other}
use native.Mathlib.Nat.{pow-suc}
use lib.Count.{ones_step}
use Rattle.exb_csp.specs.AllTables.{port_of}
use Rattle.exb_csp.specs.Execution.{in_mask}
use Rattle.exb_csp.proofs.ExecutionLaws.{mask_empty, and_true}
use Rattle.exb_csp.proofs.ExecutionLoops.{without}
use Rattle.exb_extender.proofs.ForwardingLemmas.{IsLowest, lowest, cleared_lower, flat_map-agree, flat_map-first, flat_map-none}
use Rattle.exb_extender.proofs.TableLemmas.{in_mask-without}
use Rattle.exb_outbox.specs.PortMaps.{Row, ports_in, HasNoneFrom, HasSome}
use Rattle.exb_model.proofs.DeviceSets.{none_from}

abbrev row : ℕ → ℕ → Row
row device ports = record { device = device; ports = ports }

-- what a port of a row gives
abbrev gives : ℕ → ℕ → ℕ → List ℕ
gives device ports k = cond (in_mask ports k) (port_of device k ∷ []) []

-- ---- none
pub row_empty : (r : Row) → r.ports ≡ 0 → ports_in r ≡ []
unfolding ports_in
row_empty r none = flat_map-none (gives r.device r.ports) 1 64 (λ k from. ap (λ b. cond b (port_of r.device k ∷ []) []) (ap (λ m. in_mask m k) none ∙ mask_empty k))

pub none_in : (r : Row) (k : ℕ) → r.ports ≡ 0 → HasNoneFrom r k
none_in r k none j from = ap (λ m. in_mask m j) none ∙ mask_empty j

-- ---- the lowest
module _ (device ports : ℕ) (some : ports ≢ 0) (fits : ports < 2 ^ 64) where
  abbrev at : ℕ
  at = trailing_zeros w64 ports

  row_lowest : IsLowest ports at
  row_lowest = lowest ports some fits

  pub place_low : at < 64
  place_low = row_lowest.few

  pub fewer : without ports at < ports
  fewer = cleared_lower ports at row_lowest.few row_lowest.bit

  first_given : ports_in (row device ports) ≡ gives device ports (at + 1) ++ ports_in (row device (without ports at))
  unfolding ports_in
  first_given =
      flat_map-first (gives device ports) (gives device (without ports at)) 1 64 (at + 1) (omega arith) (let few = place_low in omega (arith, few))
      (λ q under. ap (λ b. cond b (port_of device q ∷ []) []) (row_lowest.below q under))
      (λ q under. ap (λ b. cond b (port_of device q ∷ []) []) (gone q (cases_eq q (at + 1)) under))
      (λ q above. ap (λ b. cond b (port_of device q ∷ []) []) (stays q above))
    where
      gone : (q : ℕ) → (q ≡ at + 1) ⊎ (q ≢ at + 1) → q ≤ at + 1 → in_mask (without ports at) q ≡ false
      gone q (inl same) under = in_mask-without ports at q place_low ∙ ap (λ b. in_mask ports q && not b) (eq-eqb q (at + 1) same) ∙ and_right (in_mask ports q) false refl
      gone q (inr other) under = in_mask-without ports at q place_low ∙ ap (λ b. b && not (q == at + 1)) (row_lowest.below q (omega arith))

      stays : (q : ℕ) → at + 1 < q → in_mask ports q ≡ in_mask (without ports at) q
      stays q above = sym (in_mask-without ports at q place_low ∙ ap (λ b. in_mask ports q && not b) (ne_eqb q (at + 1) (λ z. omega arith)) ∙ and_true (in_mask ports q))

  pub row_first : ports_in (row device ports) ≡ (64 * device + at) ∷ ports_in (row device (without ports at))
  row_first =
      let back : port_of device (at + 1) ≡ 64 * device + at = omega arith in
      first_given
      ∙ ap (λ b. cond b (port_of device (at + 1) ∷ []) [] ++ ports_in (row device (without ports at))) row_lowest.set
      ∙ ap (λ q. q ∷ ports_in (row device (without ports at))) back

  pub row_some : HasSome (ports_in (row device ports))
  row_some = record { first = 64 * device + at; rest = ports_in (row device (without ports at)); is = row_first }

-- ---- one more, behind the others
module _ {X : Type 0} (f g : ℕ → List X) where
  -- where the last number that gives something gave nothing
  flat_map-last : (a n k : ℕ) → a ≤ k → k < a + n
      → ((q : ℕ) → q < k → g q ≡ f q) → ((q : ℕ) → k ≤ q → f q ≡ []) → ((q : ℕ) → k < q → g q ≡ [])
      → flat_map g (range_with_len a n) ≡ flat_map f (range_with_len a n) ++ g k
  flat_map-last a zero k low high before none after = absurd (omega arith)
  flat_map-last a (suc n) k low high before none after =
      elim (cases_eq a k) [
        | inl here ↦
            ap (λ xs. g a ++ xs) (flat_map-none g (a + 1) n (λ q from. after q (omega arith)))
            ∙ append-nil (g a)
            ∙ ap g here
            ∙ sym (ap (λ xs. xs ++ g k) (flat_map-none f a (suc n) (λ q from. none q (omega arith))))
        | inr later ↦
            ap (λ xs. xs ++ flat_map g (range_with_len (a + 1) n)) (before a (omega arith))
            ∙ ap (λ xs. f a ++ xs) (flat_map-last (a + 1) n k (omega arith) (omega arith) before none after)
            ∙ sym (append_assoc (f a) (flat_map f (range_with_len (a + 1) n)) (g k))
      ]

module _ (r : Row) (k : ℕ) (some : 0 < k) (low : k ≤ 64) where
  abbrev more : ℕ
  more = bit_or r.ports (1 * 2 ^ (k - 1) % 2 ^ 64)

  there : in_mask more k ≡ true
  unfolding in_mask
  there = and_from _ _ (and_from _ _ (lt-ltb 0 k some) (le-leb k 64 low)) (eq-eqb _ _ (bit_at_set_same w64 r.ports (k - 1) (omega arith)))

  elsewhere : (j : ℕ) → j ≢ k → in_mask more j ≡ in_mask r.ports j
  unfolding in_mask
  elsewhere j other =
      elim (cases_eq j 0) [
        | inl none ↦ rw none refl
        | inr port ↦ ap (λ n. nat_lt 0 j && nat_le j 64 && (n == 1)) (bit_at_set_other w64 r.ports (k - 1) (omega arith) (j - 1) (λ z. other (omega arith)))
      ]

  pub row_more : HasNoneFrom r k → ports_in (record r { ports = more }) ≡ ports_in r ++ port_of r.device k ∷ []
  unfolding ports_in
  row_more none =
      flat_map-last (gives r.device r.ports) (gives r.device more) 1 64 k (omega arith) (omega arith)
      (λ q under. ap (λ b. cond b (port_of r.device q ∷ []) []) (elsewhere q (λ z. omega arith)))
      (λ q from. ap (λ b. cond b (port_of r.device q ∷ []) []) (none q from))
      (λ q above. ap (λ b. cond b (port_of r.device q ∷ []) []) (elsewhere q (λ z. omega arith) ∙ none q (omega arith)))
      ∙ ap (λ b. ports_in r ++ cond b (port_of r.device k ∷ []) []) there

-- where no bit is left from one on
pub ends_there : (r : Row) (k : ℕ) → 0 < k → r.ports / 2 ^ (k - 1) ≡ 0 → HasNoneFrom r k
unfolding in_mask
ends_there r k some none j from =
    let no_bit : bit_at r.ports (j - 1) ≡ 0 = none_from r.ports (k - 1) none (j - 1) (omega arith) in
    and_right (nat_lt 0 j && nat_le j 64) (bit_at r.ports (j - 1) == 1) (ap (λ b. b == 1) no_bit)

-- ---- how many
bit_half : (m a q : ℕ) → a + 1 ≤ q → bit_at m (q - a) ≡ bit_at (m / 2) (q - (a + 1))
bit_half m a q from = let e : q - a ≡ suc (q - (a + 1)) = omega arith in ap (bit_at m) e ∙ bit_at-suc m (q - (a + 1))

one_or_none : (g : ℕ) (b : ℕ) → b < 2 → length (cond (b == 1) (g ∷ []) []) ≡ b
one_or_none g zero low = refl
one_or_none g (suc zero) low = refl
one_or_none g (suc (suc b)) low = absurd (omega arith)

module _ (g : ℕ → ℕ) where
  abbrev bit_gives : ℕ → ℕ → ℕ → List ℕ
  bit_gives m a q = cond (bit_at m (q - a) == 1) (g q ∷ []) []

  bits_counted : (n a m : ℕ) → m < 2 ^ n → length (flat_map (bit_gives m a) (range_with_len a n)) ≡ count_ones m
  bits_counted zero a m fits = let less = ones_le_self m in omega (arith, less, fits)
  bits_counted (suc n) a m fits =
      let rest : length (flat_map (bit_gives (m / 2) (a + 1)) (range_with_len (a + 1) n)) ≡ count_ones (m / 2) = bits_counted n (a + 1) (m / 2) (half n m fits) in
      let same : flat_map (bit_gives m a) (range_with_len (a + 1) n) ≡ flat_map (bit_gives (m / 2) (a + 1)) (range_with_len (a + 1) n) =
      flat_map-agree (bit_gives m a) (bit_gives (m / 2) (a + 1)) (a + 1) n (λ q from under. ap (λ b. cond (b == 1) (g q ∷ []) []) (bit_half m a q from)) in
      let here : a - a ≡ 0 = omega arith in
      let first : length (bit_gives m a a) ≡ m % 2 = one_or_none (g a) (bit_at m (a - a)) (bit_at-lt m (a - a)) ∙ ap (bit_at m) here ∙ bit_at_lowest m in
      let both = length-append (bit_gives m a a) (flat_map (bit_gives m a) (range_with_len (a + 1) n)) in
      let step = ones_step m in
      let sames : length (flat_map (bit_gives m a) (range_with_len (a + 1) n)) ≡ count_ones (m / 2) = ap length same ∙ rest in
      both ∙ omega (arith, first, sames, step)
    where
      half : (n m : ℕ) → m < 2 ^ suc n → m / 2 < 2 ^ n
      half n m fits = let twice = pow-suc 2 n in omega (arith, fits, twice)

pub row_count : (r : Row) → r.ports < 2 ^ 64 → count_ones r.ports ≡ length (ports_in r)
unfolding ports_in in_mask
row_count r fits =
    sym (ap length (flat_map-agree (gives r.device r.ports) (bit_gives (port_of r.device) r.ports 1) 1 64
    (λ q from under. ap (λ b. cond (b && (bit_at r.ports (q - 1) == 1)) (port_of r.device q ∷ []) []) (and_from _ _ (lt-ltb 0 q (omega arith)) (le-leb q 64 (omega arith)))))
    ∙ bits_counted (port_of r.device) 64 1 r.ports fits)

pub row_few : (r : Row) → r.ports < 2 ^ 64 → count_ones r.ports ≤ 64
row_few r fits = ones-le 64 r.ports fits
