-- The sets below one bridge port, counted.
use Rattle.std.proofs.Common.{◌≡◌, ℕ, suc, ◌+◌, ◌<◌, ◌==◌, Bool, true, false, cond, List, [], ◌∷◌, map, filter, length, refl, sym, ap, ◌∙◌}
use Rattle.std.specs.Prelude.{count_by}
use Rattle.std.proofs.lemmas.List.{length-map}
use Rattle.std.proofs.lemmas.List.Sums.{length-filter}
use Rattle.exb_model.specs.Tree.{Shape}
use Rattle.exb_model.specs.Configuration.{Bridge}
use Rattle.exb_control_spec.specs.declared.plan.set_at.SetAt.{SetAt}
use Rattle.exb_control_spec.specs.Plans.Sets.{PortsAt, SetsOfEach, sets_of, seen}
use Rattle.exb_capacity.specs.NeededNumbers.{sets_below}

filter-seen : (k : ℕ) (xs : List SetAt) → length (filter (λ s. s.bridge_port == k) (map seen xs)) ≡ length (filter (λ (s : SetAt). s.bridge_port == k) xs)
filter-seen k [] = refl
filter-seen k (x ∷ xs) = by_test (x.bridge_port == k) (filter-seen k xs)
  where
    by_test : (b : Bool) → length (filter (λ s. s.bridge_port == k) (map seen xs)) ≡ length (filter (λ (s : SetAt). s.bridge_port == k) xs) →
        length (cond b (seen x ∷ filter (λ s. s.bridge_port == k) (map seen xs)) (filter (λ s. s.bridge_port == k) (map seen xs)))
        ≡ length (cond b (x ∷ filter (λ (s : SetAt). s.bridge_port == k) xs) (filter (λ (s : SetAt). s.bridge_port == k) xs))
    by_test true rest = ap (λ (n : ℕ). suc n) rest
    by_test false rest = rest

pub counted_below : SetsOfEach → (t : Shape) (b : Bridge) (xs : List SetAt) (k n : ℕ) → k < 64 → map seen xs ≡ sets_of t b →
    n ≡ count_by (λ (s : SetAt). s.bridge_port == k + 1) xs → n ≡ sets_below t b k
unfolding sets_below
counted_below each t b xs k n low are is =
    is
    ∙ (sym (length-filter (λ (s : SetAt). s.bridge_port == k + 1) xs)
    ∙ (sym (filter-seen (k + 1) xs)
    ∙ (ap (λ (ys : List PortsAt). length (filter (λ s. s.bridge_port == k + 1) ys)) are
    ∙ (sym (length-map (filter (λ s. s.bridge_port == k + 1) (sets_of t b)) (λ s. s.ports))
    ∙ ap length (each t b k low)))))
