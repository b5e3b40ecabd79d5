-- The greatest of what the cascade ports of the bridge need, port by port.
use Rattle.std.proofs.Common.{◌≡◌, ℕ, ◌+◌, Bool, true, false, cond, max, List, [], ◌∷◌, map, fold, filter, refl, ap, ◌∙◌}
use Rattle.std.specs.Prelude.{count_by}
use Rattle.std.proofs.lemmas.List.{map-append}
use Rattle.std.proofs.lemmas.List.Elements.{filter-append}
use Rattle.std.proofs.lemmas.List.Sums.{fold-append}
use Rattle.exb_model.specs.Ports.{below, all_ports}
use Rattle.exb_model.specs.Tree.{Shape, is_cascade}
use Rattle.exb_model.proofs.PortLemmas.{below-more}
use Rattle.exb_capacity.specs.NeededNumbers.{greatest, greatest_below}

-- of the bridge ports before place n
abbrev pub most_before : Shape → (ℕ → ℕ) → ℕ → ℕ
most_before t f n = greatest (map f (filter (is_cascade t) (below n)))

pub most-none : (t : Shape) (f : ℕ → ℕ) → 0 ≡ most_before t f 0
unfolding below
most-none t f = refl

most-more : (t : Shape) (f : ℕ → ℕ) (n : ℕ) → most_before t f (n + 1) ≡ fold max (most_before t f n) (map f (filter (is_cascade t) (n ∷ [])))
most-more t f n =
    ap (λ (xs : List ℕ). greatest (map f (filter (is_cascade t) xs))) (below-more n)
    ∙ (ap (λ (xs : List ℕ). greatest (map f xs)) (filter-append (is_cascade t) (below n) (n ∷ []))
    ∙ (ap greatest (map-append f (filter (is_cascade t) (below n)) (filter (is_cascade t) (n ∷ [])))
    ∙ fold-append max 0 (map f (filter (is_cascade t) (below n))) (map f (filter (is_cascade t) (n ∷ [])))))

pub most-more_yes : (t : Shape) (f : ℕ → ℕ) (n : ℕ) → is_cascade t n ≡ true → most_before t f (n + 1) ≡ max (most_before t f n) (f n)
most-more_yes t f n is = most-more t f n ∙ ap (λ (b : Bool). fold max (most_before t f n) (map f (cond b (n ∷ []) []))) is

pub most-more_no : (t : Shape) (f : ℕ → ℕ) (n : ℕ) → is_cascade t n ≡ false → most_before t f (n + 1) ≡ most_before t f n
most-more_no t f n isnt = most-more t f n ∙ ap (λ (b : Bool). fold max (most_before t f n) (map f (cond b (n ∷ []) []))) isnt

pub most-all : (t : Shape) (f : ℕ → ℕ) (n : ℕ) → n ≡ 64 → most_before t f n ≡ greatest_below t f
unfolding greatest_below
most-all t f n end = ap (most_before t f) end

-- what is counted of all ports
pub counted_all : (p : ℕ → Bool) (count n : ℕ) → n ≡ 4160 → count ≡ count_by p (below n) → count ≡ count_by p all_ports
counted_all p count n end is = is ∙ ap (λ (m : ℕ). count_by p (below m)) end
