-- What is carried, seen from the top.
use Rattle.std.proofs.Common.{◌≡◌, ◌≢◌, ℕ, zero, suc, ◌<◌, ◌≤◌, ◌==◌, true, List, [], ◌∷◌, Option, Some, None, refl, sym, ◌∙◌, ap, subst, arith, inl, inr, eq-eqb}
use Rattle.std.specs.List.{flat_map, find}
use Rattle.std.proofs.lemmas.Bool.{cases_eq, cases_lt, ne_eqb}
use Rattle.std.proofs.lemmas.List.Concat.{flat_map-append}
use Rattle.exb_model.specs.Tree.{Shape, device, on, is_port, HangsOn, up, top, path, IsTree}
use Rattle.exb_model.specs.ExtenderForwarding.{Tables, emits}
use Rattle.exb_model.specs.Carriage.{carried_in, carried}
use Rattle.exb_control_spec.specs.Plans.CarriedFrames.{CarriedFromTheTop}
use Rattle.exb_model.proofs.TreeWays.{up_high, up_low, up_none, top_high, top_none, extender_of, port_above, top_below}
use Rattle.exb_control_spec.proofs.Plans.PortOutput.{carried_here, carried_past}

flat_map_same : {X A : Type 0} (F G : X → List A) → ((x : X) → F x ≡ G x) → (xs : List X) → flat_map F xs ≡ flat_map G xs
flat_map_same F G same [] = refl
flat_map_same F G same (x ∷ xs) = rw (same x, flat_map_same F G same xs) refl

flat_map-flat_map : {X Y A : Type 0} (F : Y → List A) (G : X → List Y) (xs : List X) → flat_map F (flat_map G xs) ≡ flat_map (λ x. flat_map F (G x)) xs
flat_map-flat_map F G [] = refl
flat_map-flat_map F G (x ∷ xs) = rw (flat_map-append F (G x) (flat_map G xs), flat_map-flat_map F G xs) refl

-- the first port of an extender in a list
pub first_of_device : ℕ → List ℕ → Option ℕ
first_of_device n xs = find (λ x. device x == n) xs

pub first_here : (n x : ℕ) (xs : List ℕ) → device x ≡ n → first_of_device n (x ∷ xs) ≡ Some x
unfolding first_of_device
first_here n x xs e = rw (eq-eqb (device x) n e) refl

pub first_later : (n x : ℕ) (xs : List ℕ) → device x ≢ n → first_of_device n (x ∷ xs) ≡ first_of_device n xs
unfolding first_of_device
first_later n x xs e = rw (ne_eqb (device x) n e) refl

none_first : (n : ℕ) → first_of_device n [] ≡ None
unfolding first_of_device
none_first n = refl

same_some : (x y : ℕ) → Some x ≡ Some y → x ≡ y
same_some x y h = cc

pub first_is : (n c : ℕ) (xs : List ℕ) → first_of_device n xs ≡ Some c → device c ≡ n
first_is n c [] h = absurd (not_some c (sym (none_first n) ∙ h))
  where
    not_some : (x : ℕ) → ◌≡◌ {A = Option ℕ} None (Some x) → ⊥
    not_some x e = cc
first_is n c (x ∷ xs) h =
    elim (cases_eq (device x) n) [
      | inl e ↦ let y : x ≡ c = same_some x c (sym (first_here n x xs e) ∙ h) in subst (λ (z : ℕ). device z ≡ n) y e
      | inr e ↦ first_is n c xs (sym (first_later n x xs e) ∙ h)
    ]

pub first_path : (s : Shape) (n q : ℕ) → find (λ x. device x == n) (path s.on q) ≡ first_of_device n (up s.on 64 q)
unfolding first_of_device path
first_path s n q = refl

pub up_begins : (s : Shape) (n d x : ℕ) → device x ≡ n → first_of_device n (up s.on d x) ≡ Some x
up_begins s n zero x e = rw (up_none s x) (first_here n x [] e)
up_begins s n (suc d) x e =
    elim (cases_lt x 64) [
      | inl l ↦ rw (up_low s (suc d) x l) (first_here n x [] e)
      | inr g ↦ rw (up_high s d x g) (first_here n x _ e)
    ]

module _ (s : Shape) (t : Tables) (valid : IsTree s) (n m c : ℕ) (f : List ℕ) (hung : HangsOn s m c) where
  from_top : (d q : ℕ) → 64 ≤ q → is_port s q ≡ true → device q ≢ n → top s.on d q < 64 → first_of_device n (up s.on d q) ≡ Some c →
      carried_in s t d n f q ≡ flat_map (λ g. carried_in s t d m g q) (emits t c f)
  from_top zero q h known e low first = let z : top s.on zero q ≡ q = top_none s q in absurd (omega arith)
  from_top (suc d) q h known e low first =
      let next = on s (device q) in
      let there = extender_of s q h known in
      let rest : first_of_device n (up s.on d next) ≡ Some c =
      sym (rw (up_high s d q h) (first_later n q (up s.on d next) e)) ∙ first in
      carried_past s t d n f q e h ∙ (
      elim (cases_eq (device next) n) [
        | inl same ↦
            let is_c : next ≡ c = first_next d next (same, rest) in
            let is_m : device q ≡ m = valid.alone (device q) m c (subst (λ (x : ℕ). HangsOn s (device q) x) is_c there) hung in
            rw (carried_here s t d n f next same, is_c) (
            flat_map_same (emits t q) (λ g. carried_in s t (suc d) m g q) (λ g. sym (carried_here s t (suc d) m g q is_m)) (emits t c f))
        | inr other ↦ elim (cases_lt next 64) [
          | inl l ↦ absurd (no_first next l other rest)
          | inr g ↦
              let not_m : device q ≢ m =
              λ is_m. other (subst (λ (x : ℕ). device x ≡ n) (sym (ap (on s) is_m ∙ hung.at)) (first_is n c (up s.on d next) rest)) in
              rw (from_top d next g (port_above s valid q h known) other (rw (top_high s d q h) at low) rest) (
              flat_map-flat_map (emits t q) (λ x. carried_in s t d m x next) (emits t c f) ∙
              flat_map_same (λ x. flat_map (emits t q) (carried_in s t d m x next)) (λ x. carried_in s t (suc d) m x q)
              (λ x. sym (carried_past s t d m x q not_m h)) (emits t c f))
        ]
      ])
    where
      first_next : (d x : ℕ) → (device x ≡ n) × (first_of_device n (up s.on d x) ≡ Some c) → x ≡ c
      first_next d x h = same_some x c (sym (begins d x h.0) ∙ h.1)
        where
          begins : (d x : ℕ) → device x ≡ n → first_of_device n (up s.on d x) ≡ Some x
          begins zero x e = rw (up_none s x) (first_here n x [] e)
          begins (suc d) x e =
              elim (cases_lt x 64) [
                | inl l ↦ rw (up_low s (suc d) x l) (first_here n x [] e)
                | inr g ↦ rw (up_high s d x g) (first_here n x _ e)
              ]

      no_first : (x : ℕ) → x < 64 → device x ≢ n → first_of_device n (up s.on d x) ≡ Some c → ⊥
      no_first x l e h =
          let gone : first_of_device n (up s.on d x) ≡ None = rw (up_low s d x l) (first_later n x [] e ∙ none_first n) in
          not_both (sym gone ∙ h)
        where
          not_both : ◌≡◌ {A = Option ℕ} None (Some c) → ⊥
          not_both e = cc

pub carried_from_top : CarriedFromTheTop
unfolding carried
carried_from_top s t n m c f q valid deep known other first hung =
    from_top s t valid n m c f hung 64 q deep known other (top_below s valid q deep known) (sym (first_path s n q) ∙ first)
