-- What is held at the cascade ports of the bridge decides what is needed, claimed and freed.
use Rattle.std.proofs.Common.{◌≡◌, ℕ, ◌<◌, ◌&&◌, cond, Bool, true, false, [], None, refl, sym, ◌∙◌, ap}
use Rattle.std.specs.Prelude.{nat_lt}
use Rattle.std.proofs.lemmas.Bool.{and_parts, lt-ltb, ltb-true}
use Rattle.exb_model.specs.Tree.{Shape, is_cascade}
use Rattle.exb_model.specs.Configuration.{Bridge}
use Rattle.exb_control_spec.specs.Plans.HeldNumbers.{Held, HoldsNeeded, is_place, in_spaces}
use Rattle.exb_control_spec.proofs.ReleasedNumbers.{same_held, needed_alike}
use Rattle.exb_control_spec.proofs.Plans.Bools.{and_false}

pub place_true : (t : Shape) (k : ℕ) → k < 64 → is_cascade t k ≡ true → is_place t k ≡ true
place_true t k low c = rw (lt-ltb k 64 low, c) refl

pub place_false : (t : Shape) (k : ℕ) → is_cascade t k ≡ false → is_place t k ≡ false
place_false t k off = ap (λ b. nat_lt k 64 && b) off ∙ and_false (nat_lt k 64)

pub place_parts : (t : Shape) (k : ℕ) → is_place t k ≡ true → (k < 64) × (is_cascade t k ≡ true)
place_parts t k e = (let p = and_parts (nat_lt k 64) (is_cascade t k) e in (ltb-true k 64 p.0, p.1))

-- the same is held at the cascade ports of the bridge
pub record AreAlike (t : Shape) (h g : Held) : Type 0 where
  pub port : (k c : ℕ) → k < 64 → is_cascade t k ≡ true → g.port k c ≡ h.port k c
  pub set : (k n : ℕ) → k < 64 → is_cascade t k ≡ true → g.set k n ≡ h.set k n

pub alike_back : (t : Shape) (h g : Held) → AreAlike t h g → AreAlike t g h
alike_back t h g a = record { port = λ k c low e. sym (a.port k c low e); set = λ k n low e. sym (a.set k n low e) }

pub placed_alike : (t : Shape) (h : Held) → AreAlike t h (in_spaces t h)
placed_alike t h = record {
  port = λ k c low e. ap (λ b. cond b (h.port k c) None) (place_true t k low e);
  set = λ k n low e. ap (λ b. cond b (h.set k n) []) (place_true t k low e);
}

-- what is held elsewhere is no matter
pub placed_same : (t : Shape) (h g : Held) → AreAlike t h g → in_spaces t g ≡ in_spaces t h
placed_same t h g a =
    same_held (in_spaces t g) (in_spaces t h)
    (λ k c. by_place k _ _ None (is_place t k) refl (λ e. let p = place_parts t k e in a.port k c p.0 p.1))
    (λ k n. by_place k _ _ [] (is_place t k) refl (λ e. let p = place_parts t k e in a.set k n p.0 p.1))
  where
    by_place : {X : Type 0} (k : ℕ) (x y z : X) (b : Bool) → is_place t k ≡ b → (is_place t k ≡ true → x ≡ y) → cond b x z ≡ cond b y z
    by_place k x y z true e f = f e
    by_place k x y z false e f = refl

-- so what is needed may be said of either
pub needed_placed : (t : Shape) (b : Bridge) (h : Held) → HoldsNeeded t b h → HoldsNeeded t b (in_spaces t h)
needed_placed t b h needed = (let a = placed_alike t h in needed_alike t b (in_spaces t h) h a.port a.set needed)

pub placed_needed : (t : Shape) (b : Bridge) (h : Held) → HoldsNeeded t b (in_spaces t h) → HoldsNeeded t b h
placed_needed t b h needed = (let a = alike_back t h (in_spaces t h) (placed_alike t h) in needed_alike t b h (in_spaces t h) a.port a.set needed)
