-- What is carried, one extender after another.
use Rattle.std.proofs.Common.{◌≡◌, ◌≢◌, ℕ, zero, suc, ◌-◌, ◌/◌, ◌≤◌, List, [], ◌∷◌, refl, sym, ap, ◌∙◌, eq-eqb, ne_eqb, le-ltb, flat_map, append-nil, arith}
use Rattle.exb_model.specs.Tree.{Shape, on}
use Rattle.exb_model.specs.ExtenderForwarding.{Tables, emits}
use Rattle.exb_model.specs.Carriage.{carried_in}

-- at a port of the extender that the frame enters
pub here : (s : Shape) (t : Tables) (d n : ℕ) (f : List ℕ) (q : ℕ) → q / 64 ≡ n → carried_in s t d n f q ≡ emits t q f
unfolding carried_in
here s t zero n f q e = rw (eq-eqb (q / 64) n e) refl
here s t (suc d) n f q e = rw (eq-eqb (q / 64) n e) refl

-- at a port of another one: what comes to it leaves it
pub beyond : (s : Shape) (t : Tables) (d n : ℕ) (f : List ℕ) (q : ℕ) → d ≢ 0 → q / 64 ≢ n → 64 ≤ q →
    carried_in s t d n f q ≡ flat_map (emits t q) (carried_in s t (d - 1) n f (on s (q / 64)))
unfolding carried_in
beyond s t zero n f q some other extended = absurd (some refl)
beyond s t (suc d) n f q some other extended =
    let e : suc d - 1 ≡ d = omega arith in
    rw (e, ne_eqb (q / 64) n other, le-ltb q 64 extended) refl

-- one frame came to it
pub one : (s : Shape) (t : Tables) (d n : ℕ) (f g : List ℕ) (q p : ℕ) → d ≢ 0 → q / 64 ≢ n → 64 ≤ q → on s (q / 64) ≡ p →
    g ∷ [] ≡ carried_in s t (d - 1) n f p → emits t q g ≡ carried_in s t d n f q
one s t d n f g q p some other extended at came =
    sym (append-nil (emits t q g)) ∙ ap (λ x. flat_map (emits t q) x) came
    ∙ ap (λ x. flat_map (emits t q) (carried_in s t (d - 1) n f x)) (sym at) ∙ sym (beyond s t d n f q some other extended)
