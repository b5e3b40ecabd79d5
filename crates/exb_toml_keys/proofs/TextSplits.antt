-- The parts round a byte.
use Rattle.std.proofs.Common.{◌≡◌, ◌≢◌, ℕ, ◌+◌, ◌-◌, ◌<◌, ◌≤◌, List, [], ◌∷◌, ◌++◌, Option, Some, None, option_map, length, get_or, take, drop, refl, sym, ap, ◌∙◌, arith, append_assoc}
use Rattle.std.proofs.lemmas.Bool.{eq-eqb, ne_eqb}
use Rattle.std.proofs.lemmas.List.{drop_more, take_more, take_all, drop_all, append-nil, length-drop}
use Rattle.exb_toml_keys.specs.TextValues.{cut}

abbrev pub Parts : Type 0
Parts = Option (List ℕ × List ℕ)

-- what stands before, and the parts of the rest
abbrev pub after_front : List ℕ → Parts → Parts
after_front front parts = option_map (λ p. (front ++ p.0, p.1)) parts

regroup : (front : List ℕ) (x : ℕ) (parts : Parts) → after_front front (option_map (λ p. (x ∷ p.0, p.1)) parts) ≡ after_front (front ++ x ∷ []) parts
regroup front x None = refl
regroup front x (Some p) = ap (λ (t : List ℕ). Some (t, p.1)) (sym (append_assoc front (x ∷ []) p.0))

pub none_before : (parts : Parts) → after_front [] parts ≡ parts
none_before None = refl
none_before (Some p) = refl

rest_is : (xs : List ℕ) (n : ℕ) → n ≤ length xs → take (length xs - n) (drop n xs) ≡ drop n xs
rest_is xs n h = take_all (length xs - n) (drop n xs) (omega (arith, length-drop n xs))

pub cut_here : (c : ℕ) (xs : List ℕ) (i : ℕ) → i < length xs → get_or xs i 0 ≡ c → after_front (take i xs) (cut c (drop i xs)) ≡ cut c xs
    → Some (take i xs, take (length xs - (i + 1)) (drop (i + 1) xs)) ≡ cut c xs
unfolding cut
cut_here c xs i l e so_far =
    let one : after_front (take i xs) (cut c (drop i xs)) ≡ Some (take i xs, drop (i + 1) xs) = rw (drop_more xs i 0 l, eq-eqb (get_or xs i 0) c e) (ap (λ (t : List ℕ). Some (t, drop (i + 1) xs)) (append-nil (take i xs))) in
    rw (rest_is xs (i + 1) (omega arith)) (sym one ∙ so_far)

pub cut_more : (c : ℕ) (xs : List ℕ) (i : ℕ) → i < length xs → get_or xs i 0 ≢ c → after_front (take i xs) (cut c (drop i xs)) ≡ cut c xs
    → after_front (take (i + 1) xs) (cut c (drop (i + 1) xs)) ≡ cut c xs
unfolding cut
cut_more c xs i l n so_far =
    let one : after_front (take i xs) (cut c (drop i xs)) ≡ after_front (take (i + 1) xs) (cut c (drop (i + 1) xs)) = rw (drop_more xs i 0 l, ne_eqb (get_or xs i 0) c n, take_more xs i 0 l) (regroup (take i xs) (get_or xs i 0) (cut c (drop (i + 1) xs))) in
    sym one ∙ so_far

pub cut_end : (c : ℕ) (xs : List ℕ) (i : ℕ) → length xs ≤ i → after_front (take i xs) (cut c (drop i xs)) ≡ cut c xs → None ≡ cut c xs
unfolding cut
cut_end c xs i l so_far = sym (rw (drop_all i xs l) refl) ∙ so_far
