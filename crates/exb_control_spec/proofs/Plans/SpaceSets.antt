-- Of all sets, those of one bridge port.
use Rattle.std.proofs.Common.{◌≡◌, ◌≢◌, ℕ, zero, suc, ◌+◌, ◌<◌, ◌≤◌, ◌==◌, ◌||◌, Bool, true, false, cond, List, [], ◌∷◌, ◌++◌, filter, map, fold, refl, sym, ◌∙◌, ap, inl, inr, arith, eq-eqb}
use Rattle.std.specs.List.{list_any, flat_map, range_with_len}
use Rattle.std.specs.Prelude.{bytes_eq}
use Rattle.std.proofs.lemmas.Bool.{cases_eq, ne_eqb}
use Rattle.std.proofs.lemmas.List.{append-nil, map-append}
use Rattle.std.proofs.lemmas.List.Elements.{filter-append}
use Rattle.exb_model.specs.Ports.{below}
use Rattle.exb_model.specs.Tree.{Shape}
use Rattle.exb_model.specs.Configuration.{Bridge}
use Rattle.exb_model.specs.Refusals.{Source, sources, part, without_isolated, parts, with_set, is_empty_set, sets_at}
use Rattle.exb_control_spec.specs.Plans.Sets.{PortsAt, parts_of, parts_below, is_same_set, with_set_at, sets_of, SetsOfEach}

-- the ports of those at a bridge port
of_port : ℕ → List PortsAt → List (List ℕ)
of_port p xs = map (λ s. s.ports) (filter (λ s. s.bridge_port == p) xs)

of_port-in : (p : ℕ) (x : PortsAt) (xs : List PortsAt) → x.bridge_port ≡ p → of_port p (x ∷ xs) ≡ x.ports ∷ of_port p xs
unfolding of_port
of_port-in p x xs h = rw (eq-eqb x.bridge_port p h) refl

of_port-out : (p : ℕ) (x : PortsAt) (xs : List PortsAt) → x.bridge_port ≢ p → of_port p (x ∷ xs) ≡ of_port p xs
unfolding of_port
of_port-out p x xs h = rw (ne_eqb x.bridge_port p h) refl

of_port-append : (p : ℕ) (xs ys : List PortsAt) → of_port p (xs ++ ys) ≡ of_port p xs ++ of_port p ys
unfolding of_port
of_port-append p xs ys =
    ap (map (λ s. s.ports)) (filter-append (λ (s : PortsAt). s.bridge_port == p) xs ys)
    ∙ map-append (λ (s : PortsAt). s.ports) (filter (λ s. s.bridge_port == p) xs) (filter (λ s. s.bridge_port == p) ys)

of_port-nil : (p : ℕ) → of_port p [] ≡ []
unfolding of_port
of_port-nil p = refl

-- the same set stands among all where it stands among those of its bridge port
same_there : (p : ℕ) (s : PortsAt) (xs : List PortsAt) → s.bridge_port ≡ p → list_any (is_same_set s) xs ≡ list_any (bytes_eq s.ports) (of_port p xs)
same_there p s [] h = rw (of_port-nil p) refl
same_there p s (x ∷ xs) h =
    elim (cases_eq x.bridge_port p) [
      | inl e ↦ rw (of_port-in p x xs e, eq-eqb s.bridge_port x.bridge_port (h ∙ sym e)) (ap (λ b. bytes_eq s.ports x.ports || b) (same_there p s xs h))
      | inr e ↦ rw (of_port-out p x xs e, ne_eqb s.bridge_port x.bridge_port (λ f. e (sym f ∙ h))) (same_there p s xs h)
    ]

one_more : (p : ℕ) (sets : List PortsAt) (s : PortsAt) → s.bridge_port ≡ p → of_port p (with_set_at sets s) ≡ with_set (of_port p sets) s.ports
one_more p sets s h =
    rw (same_there p s sets h) (by_test (is_empty_set s.ports || list_any (bytes_eq s.ports) (of_port p sets)))
  where
    by_test : (c : Bool) → of_port p (cond c sets (sets ++ s ∷ [])) ≡ cond c (of_port p sets) (of_port p sets ++ s.ports ∷ [])
    by_test true = refl
    by_test false = of_port-append p sets (s ∷ []) ∙ ap (λ l. of_port p sets ++ l) (of_port-in p s [] h ∙ ap (λ l. s.ports ∷ l) (of_port-nil p))

other_more : (p : ℕ) (sets : List PortsAt) (s : PortsAt) → s.bridge_port ≢ p → of_port p (with_set_at sets s) ≡ of_port p sets
other_more p sets s h = by_test (is_empty_set s.ports || list_any (is_same_set s) sets)
  where
    by_test : (c : Bool) → of_port p (cond c sets (sets ++ s ∷ [])) ≡ of_port p sets
    by_test true = refl
    by_test false = of_port-append p sets (s ∷ []) ∙ (ap (λ l. of_port p sets ++ l) (of_port-out p s [] h ∙ of_port-nil p) ∙ append-nil (of_port p sets))

all_more : (p : ℕ) (sets xs : List PortsAt) → of_port p (fold with_set_at sets xs) ≡ fold with_set (of_port p sets) (of_port p xs)
all_more p sets [] = rw (of_port-nil p) refl
all_more p sets (x ∷ xs) =
    elim (cases_eq x.bridge_port p) [
      | inl e ↦ rw (of_port-in p x xs e) (all_more p (with_set_at sets x) xs ∙ ap (λ (l : List (List ℕ)). fold with_set l (of_port p xs)) (one_more p sets x e))
      | inr e ↦ rw (of_port-out p x xs e) (all_more p (with_set_at sets x) xs ∙ ap (λ (l : List (List ℕ)). fold with_set l (of_port p xs)) (other_more p sets x e))
    ]

-- ---- the parts at one bridge port
module _ (t : Shape) (b : Bridge) (k : ℕ) where
  both : Source → List (List ℕ)
  both x = part t k b x ∷ without_isolated b (part t k b x) ∷ []

  none_at : (x : Source) (a n : ℕ) → k < a → of_port (k + 1) (flat_map (parts_of t b x) (range_with_len a n)) ≡ []
  none_at x a zero l = of_port-nil (k + 1)
  none_at x a (suc n) l =
      of_port-out (k + 1) (record { bridge_port = a + 1; ports = part t a b x }) _ (λ e. absurd (omega arith))
      ∙ (of_port-out (k + 1) (record { bridge_port = a + 1; ports = without_isolated b (part t a b x) }) _ (λ e. absurd (omega arith))
      ∙ none_at x (a + 1) n (omega arith))

  both_at : (x : Source) (a n : ℕ) → a ≤ k → k < a + n → of_port (k + 1) (flat_map (parts_of t b x) (range_with_len a n)) ≡ both x
  unfolding both
  both_at x a zero low high = absurd (omega arith)
  both_at x a (suc n) low high =
      elim (cases_eq a k) [
        | inl e ↦
            rw e (
            of_port-in (k + 1) (record { bridge_port = k + 1; ports = part t k b x }) _ refl
            ∙ ap (λ (l : List (List ℕ)). part t k b x ∷ l) (
            of_port-in (k + 1) (record { bridge_port = k + 1; ports = without_isolated b (part t k b x) }) _ refl
            ∙ ap (λ (l : List (List ℕ)). without_isolated b (part t k b x) ∷ l) (none_at x (k + 1) n (omega arith))))
        | inr e ↦
            of_port-out (k + 1) (record { bridge_port = a + 1; ports = part t a b x }) _ (λ f. absurd (e (omega arith)))
            ∙ (of_port-out (k + 1) (record { bridge_port = a + 1; ports = without_isolated b (part t a b x) }) _ (λ f. absurd (e (omega arith)))
            ∙ both_at x (a + 1) n (omega arith) (omega arith))
      ]

  below_at : (x : Source) → k < 64 → of_port (k + 1) (parts_below t b x) ≡ both x
  unfolding parts_below below
  below_at x l = both_at x 0 64 (omega arith) (omega arith)

  sources_at : (xs : List Source) → k < 64 → of_port (k + 1) (flat_map (parts_below t b) xs) ≡ flat_map both xs
  sources_at [] l = of_port-nil (k + 1)
  sources_at (x ∷ xs) l =
      of_port-append (k + 1) (parts_below t b x) (flat_map (parts_below t b) xs)
      ∙ (ap (λ (y : List (List ℕ)). y ++ of_port (k + 1) (flat_map (parts_below t b) xs)) (below_at x l) ∙ ap (λ (y : List (List ℕ)). both x ++ y) (sources_at xs l))

pub sets_of_each : SetsOfEach
unfolding sets_of sets_at parts of_port both
sets_of_each t b k l =
    all_more (k + 1) [] (flat_map (parts_below t b) (sources b)) ∙ ap (fold with_set []) (sources_at t b k (sources b) l)
