-- Sets of ports and the lists of their ports.
use Rattle.std.proofs.Common.{◌≡◌, ℕ, ◌/◌, ◌%◌, ◌^◌, ◌<◌, ◌≤◌, ◌==◌, ◌&&◌, Bool, true, false, cond, List, [], ◌∷◌, length, slice_index, filter, refl, sym, ◌∙◌, ap, inl, inr, arith}
use Rattle.std.specs.Prelude.{bytes_eq}
use Rattle.std.specs.Bool.{Decides}
use Rattle.std.specs.Int.{bit_at}
use Rattle.std.proofs.lemmas.Bool.{cases_lt, false≢true}
use Rattle.std.proofs.lemmas.Bool.Decides.{same_from_decides, Decides-like}
use Rattle.std.proofs.lemmas.List.{get_or_past}
use Rattle.std.proofs.lemmas.Nat.Bits.{bit_at-zero}
use Rattle.std.proofs.lemmas.Slice.Eq.{bytes_eq-Decides}
use Rattle.exb_model.specs.declared.port_set.PortSet.{PortSet}
use Rattle.exb_model.specs.PortBits.{has_port}
use Rattle.exb_model.specs.Ports.{port_in, ports_of, all_ports}
use Rattle.exb_model.specs.Refusals.{is_empty_set}
use Rattle.exb_model.proofs.PortLemmas.{filter_below-agree, filter_below-none, same_filter_below}

-- no set has a port from 4,160 on
pub past_ports : (a : PortSet) (q : ℕ) → 4160 ≤ q → port_in a q ≡ false
unfolding has_port
past_ports a q h = rw (get_or_past a.words (q / 64) 0 (omega (arith, a.sized)), bit_at-zero (q % 64)) refl

pub ports_are : (a : PortSet) → ports_of a ≡ filter (port_in a) all_ports
unfolding ports_of
ports_are a = refl

-- the list of a set's ports by another test
pub ports_by : (a : PortSet) (test : ℕ → Bool) → ((q : ℕ) → q < 4160 → port_in a q ≡ test q) → ports_of a ≡ filter test all_ports
ports_by a test same = ports_are a ∙ filter_below-agree (port_in a) test 4160 same

pub same_ports : (a b : PortSet) → ((q : ℕ) → port_in a q ≡ port_in b q) → ports_of a ≡ ports_of b
same_ports a b same = ports_by a (port_in b) (λ q l. same q) ∙ sym (ports_are b)

same_lists : (a b : PortSet) → ports_of a ≡ ports_of b → (q : ℕ) → port_in a q ≡ port_in b q
same_lists a b h q =
    elim (cases_lt q 4160) [
      | inl l ↦ same_filter_below (port_in a) (port_in b) 4160 q l (sym (ports_are a) ∙ (h ∙ ports_are b))
      | inr g ↦ past_ports a q g ∙ sym (past_ports b q g)
    ]

pub same_sets : (a b : PortSet) (r : Bool) → Decides r ((q : ℕ) → port_in a q ≡ port_in b q) → r ≡ bytes_eq (ports_of a) (ports_of b)
same_sets a b r h =
    same_from_decides r (bytes_eq (ports_of a) (ports_of b)) h
    (Decides-like (bytes_eq (ports_of a) (ports_of b)) (same_lists a b) (λ same. ports_by a (port_in b) (λ q l. same q) ∙ sym (ports_are b))
    (bytes_eq-Decides (ports_of a) (ports_of b)))

is_empty-Decides : (xs : List ℕ) → Decides (is_empty_set xs) (xs ≡ [])
is_empty-Decides [] = (λ h. refl, λ h. refl)
is_empty-Decides (x ∷ xs) = (λ h. absurd (false≢true h), λ h. absurd (not_cons x xs h))
  where
    not_cons : (x : ℕ) (xs : List ℕ) → x ∷ xs ≡ [] → ⊥
    not_cons x xs h = false≢true (ap is_empty_set h)

pub empty_sets : (a : PortSet) (r : Bool) → Decides r ((q : ℕ) → port_in a q ≡ false) → r ≡ is_empty_set (ports_of a)
empty_sets a r h =
    same_from_decides r (is_empty_set (ports_of a)) h
    (Decides-like (is_empty_set (ports_of a)) none some (is_empty-Decides (ports_of a)))
  where
    some : ((q : ℕ) → port_in a q ≡ false) → ports_of a ≡ []
    some e = ports_are a ∙ filter_below-none (port_in a) 4160 e

    none : ports_of a ≡ [] → (q : ℕ) → port_in a q ≡ false
    none e q =
        elim (cases_lt q 4160) [
          | inl l ↦ same_filter_below (port_in a) (λ x. false) 4160 q l (sym (ports_are a) ∙ (e ∙ sym (filter_below-none (λ x. false) 4160 (λ k. refl))))
          | inr g ↦ past_ports a q g
        ]

-- ---- words of some devices
pub has_port-chosen : (chosen words made : List ℕ) (b : ℕ) → length words ≡ 65 → length made ≡ 65 →
    ((n : ℕ) → n < 65 → slice_index made n ≡ cond (slice_index chosen n == b) (slice_index words n) 0) →
    (q : ℕ) → has_port made q ≡ (slice_index chosen (q / 64) == b && has_port words q)
unfolding has_port
has_port-chosen chosen words made b as_long sized is q =
    elim (cases_lt (q / 64) 65) [
      | inl l ↦ rw (is (q / 64) l) (by_test (slice_index chosen (q / 64) == b))
      | inr h ↦ rw (get_or_past made (q / 64) 0 (omega arith), get_or_past words (q / 64) 0 (omega arith), bit_at-zero (q % 64)) (none (slice_index chosen (q / 64) == b))
    ]
  where
    by_test : (c : Bool) → (bit_at (cond c (slice_index words (q / 64)) 0) (q % 64) == 1) ≡ (c && (bit_at (slice_index words (q / 64)) (q % 64) == 1))
    by_test true = refl
    by_test false = rw (bit_at-zero (q % 64)) refl

    none : (c : Bool) → (0 == 1) ≡ (c && (0 == 1))
    none true = refl
    none false = refl

pub fits-chosen : (chosen words made : List ℕ) (b : ℕ) → length made ≡ 65 → ((n : ℕ) → slice_index words n < 2 ^ 64) →
    ((n : ℕ) → n < 65 → slice_index made n ≡ cond (slice_index chosen n == b) (slice_index words n) 0) → (n : ℕ) → slice_index made n < 2 ^ 64
fits-chosen chosen words made b sized fits is n =
    elim (cases_lt n 65) [
      | inl l ↦ rw (is n l) (by_test (slice_index chosen n == b))
      | inr h ↦ let e : slice_index made n ≡ 0 = get_or_past made n 0 (omega arith) in omega arith
    ]
  where
    by_test : (c : Bool) → cond c (slice_index words n) 0 < 2 ^ 64
    by_test true = fits n
    by_test false = omega arith
